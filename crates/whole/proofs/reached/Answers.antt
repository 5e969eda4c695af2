-- The first marks lent are all clear.
use Rattle.std.proofs.Common.{arith}
use Rattle.std.proofs.lemmas.List.{take-replicate}
use Rattle.whole.proofs.Rows.{found_by}
use Rattle.whole.proofs.reached.Goals as goal

pub reach_all-requires : goal.reach_all-requires
reach_all-requires c = take-replicate _ 4096 0 (omega arith)

pub returns : goal.returns
returns c = found_by _ _ _ _ c.reach_all.ensures _ c.ok_or.ensures.value
