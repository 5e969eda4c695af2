-- From the entry on: its exits, and the first marks.
use Rattle.std.proofs.Common.{arith}
use Rattle.reach.proofs.Entry.{entry-way, entry-hurt, entry_in, entry_length, entry-marked, entry-slot}
use Rattle.reach.proofs.reach_all.Goals as goal

pub returns-then-not-good : goal.returns-then-not-good
returns-then-not-good c =
    entry-hurt _ _ _ c.requires _ c.at-e.ensures _ c.well_formed-2.ensures _ c.in_tree.ensures c.if-not-good.true

pub bounds-marks-0 : goal.bounds-marks-0
bounds-marks-0 c =
    entry-slot _ _ _ c.requires _ c.at-e.ensures _ c.well_formed-2.ensures _ c.in_tree.ensures c.if-not-good.false

pub overflow_sub-t : goal.overflow_sub-t
overflow_sub-t c =
    entry_in _ _ _ c.requires _ c.at-e.ensures _ c.well_formed-2.ensures _ c.in_tree.ensures c.if-not-good.false

pub down-requires : goal.down-requires
down-requires c = (
  entry_length _ _ _ c.requires _ c.at-e.ensures _ c.well_formed-2.ensures _ c.in_tree.ensures c.if-not-good.false,
  entry-marked _ _ _ c.requires _ c.at-e.ensures _ c.well_formed-2.ensures _ c.in_tree.ensures c.if-not-good.false,
  omega arith,
)

pub returns : goal.returns
returns c =
    entry-way _ _ _ c.requires _ c.at-e.ensures _ c.well_formed-2.ensures _ c.in_tree.ensures c.if-not-good.false _ _ c.down.ensures
