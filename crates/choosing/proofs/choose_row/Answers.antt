-- A step that chooses has z and x in the table.
use Rattle.std.proofs.Common.{rules, arith}
use Rattle.std.proofs.lemmas.Grind.{common_steps}
use Rattle.machine.specs.Settling.{choose_formed}
use Rattle.machine.proofs.Tests.{formed-in, linked-in}
use Rattle.choosing.proofs.choose_row.Goals as goal

pub returns-then-choose_formed : goal.returns-then-choose_formed
unfolding choose_formed
returns-then-choose_formed c =
    (search rules, search rules, grind (arith, common_steps, formed-in), grind (arith, common_steps, linked-in))
