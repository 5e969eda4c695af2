-- The first marks lent are all clear.
use Rattle.std.proofs.Common.{arith}
use Rattle.std.proofs.lemmas.List.{take-replicate}
use Rattle.whole.proofs.sweep.Goals as goal

pub reach_all-requires : goal.reach_all-requires
reach_all-requires c = rw c.read.ensures.1 (take-replicate _ 4096 0 (omega arith))
