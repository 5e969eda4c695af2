use Rattle.std.proofs.Common.{refl}
use Rattle.statecode.proofs.Own.{stored-by, stored-own}
use Rattle.statecode.proofs.store_task.Goals as goal

pub invariant_of-w : goal.invariant_of-w
invariant_of-w c = record { coded = stored-own c.args.w.now.numbers.now _ _ c.args.i c.args.k c.args.m c.args.u _ c.args.w.now.coded c.requires c.row_of.ensures refl c.put_task.ensures }

pub returns : goal.returns
returns c = (stored-by c.args.w.now.numbers.now _ _ c.args.i c.args.k c.args.m c.args.u _ c.args.w.now.coded c.requires c.row_of.ensures refl c.put_task.ensures, refl)
