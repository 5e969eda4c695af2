use Rattle.std.proofs.Common.{◌∙◌, arith}
use Rattle.statecode.proofs.Rule.{row-rule}
use Rattle.statecode.proofs.own_row.Goals as goal

pub returns : goal.returns
returns c = c.own_by.ensures ∙ row-rule c.args.w.now (omega (arith, c.told-w))
