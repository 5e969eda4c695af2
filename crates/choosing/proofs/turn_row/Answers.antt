-- A rotation has y in the table, with a small rank.
use Rattle.std.proofs.Common.{rules, arith}
use Rattle.std.proofs.lemmas.Grind.{common_steps}
use Rattle.machine.specs.Settling.{turn_formed}
use Rattle.machine.proofs.Tests.{linked-in}
use Rattle.choosing.proofs.Ranks.{linked-rank}
use Rattle.choosing.proofs.turn_row.Goals as goal

pub returns-then-turn_formed : goal.returns-then-turn_formed
unfolding turn_formed
returns-then-turn_formed c =
    (search rules, search rules, grind (arith, common_steps, linked-in), grind (arith, common_steps, linked-rank))
