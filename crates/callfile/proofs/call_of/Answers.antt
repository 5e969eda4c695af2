use Rattle.std.proofs.Common.{◌∙◌}
use Rattle.callfile.proofs.Rows.{decoded}
use Rattle.callfile.proofs.call_of.Goals as goal

pub returns : goal.returns
returns c =
    let front = c.in-Some.ensures.cases in
    c.by_operation.ensures ∙ decoded _ _ front.enough front.same _ c.from.ensures
