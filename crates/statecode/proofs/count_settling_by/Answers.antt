use Rattle.std.proofs.Common.{◌≡◌, ◌/◌, ◌∙◌, length, ap, rules}
use Rattle.std.specs.List.{count_by}
use Rattle.std.specs.Simd.{first_chunks}
use Rattle.terms.specs.Task.{work_settles}
use Rattle.machine.specs.State.{settling}
use Rattle.statecode.specs.Code.{task_by, state_by}
use Rattle.statecode.proofs.Own.{rows_settling, eight-settling}
use Rattle.statecode.proofs.count_settling_by.Goals as goal

pub returns : goal.returns
returns c =
    let e : length c.args.w.now / 15 ≡ 8 = ap (λ n. n / 15) c.told-w in
    let a : c.count.result ≡ count_by (λ r. work_settles (task_by r).work) c.as_chunks.result.0.now = search rules in
    let b : c.count.result ≡ settling (state_by c.args.w.now).tasks 8 =
    a ∙ ap (count_by (λ r. work_settles (task_by r).work)) (c.as_chunks.ensures.front ∙ ap (λ n. first_chunks 15 n c.args.w.now) e) ∙ rows_settling c.args.w.now in
    (b, rw b (eight-settling (state_by c.args.w.now).tasks 8))
