use Rattle.std.proofs.Common.{rules, ◌≡◌, ◌∙◌, arith, count_by, length}
use Rattle.std.proofs.lemmas.List.Sums.{count_by-le-length}
use Rattle.terms.specs.Task.{is_busy}
use Rattle.machine.proofs.Count.{busy_counted}
use Rattle.state.proofs.count_busy.Goals as goal

pub returns : goal.returns
returns c =
    let counted : c.count.result ≡ count_by (λ k. is_busy k.work) c.args.st.tasks = search rules in
    let eight : length c.args.st.tasks ≡ 8 = search rules in
    (counted ∙ busy_counted _ eight, omega (arith, counted, eight, count_by-le-length (λ k. is_busy k.work) c.args.st.tasks))
