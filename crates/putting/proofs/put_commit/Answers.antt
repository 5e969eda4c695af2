-- A put-in that passes its grounds stands in the table.
use Rattle.std.proofs.Common.{rules, arith}
use Rattle.std.proofs.lemmas.Grind.{common_steps}
use Rattle.machine.specs.PutIn.{put_grounds}
use Rattle.machine.proofs.Tests.{formed-in, linked-in}
use Rattle.putting.proofs.put_commit.Goals as goal

pub put_writes-requires : goal.put_writes-requires
unfolding put_grounds
put_writes-requires c = (
  search rules,
  grind (arith, common_steps, linked-in),
  grind (arith, common_steps, formed-in),
)
