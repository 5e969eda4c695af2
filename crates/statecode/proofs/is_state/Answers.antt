use Rattle.std.proofs.Common.{◌≡◌, ◌/◌, length, ap, ◌∙◌}
use Rattle.std.specs.List.{list_all}
use Rattle.std.specs.Simd.{first_chunks}
use Rattle.statecode.specs.Own.{own_row}
use Rattle.statecode.proofs.Own.{other_none, all_own}
use Rattle.statecode.proofs.is_state.Goals as goal

pub returns-then-w-ne122 : goal.returns-then-w-ne122
returns-then-w-ne122 c = other_none c.args.w.now c.if-w-ne122.true

pub returns : goal.returns
returns c =
    let e : length c.args.w.now / 15 ≡ 8 = ap (λ n. n / 15) c.if-w-ne122.false in
    c.own_rows.ensures ∙ ap (list_all own_row) (c.as_chunks.ensures.front ∙ ap (λ n. first_chunks 15 n c.args.w.now) e) ∙ all_own c.args.w.now c.if-w-ne122.false
