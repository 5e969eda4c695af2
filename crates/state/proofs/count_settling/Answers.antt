use Rattle.std.proofs.Common.{rules, ◌≡◌, ◌∙◌, arith, count_by, length}
use Rattle.std.proofs.lemmas.List.Sums.{count_by-le-length}
use Rattle.terms.specs.Task.{work_settles}
use Rattle.machine.proofs.Count.{settling_counted}
use Rattle.state.proofs.count_settling.Goals as goal

pub returns : goal.returns
returns c =
    let counted : c.count.result ≡ count_by (λ k. work_settles k.work) c.args.st.tasks = search rules in
    let eight : length c.args.st.tasks ≡ 8 = search rules in
    (counted ∙ settling_counted _ eight, omega (arith, counted, eight, count_by-le-length (λ k. work_settles k.work) c.args.st.tasks))
