-- The lines of a leaf, or those of both sides; what is left of the slots and of the room at each call.
use Rattle.std.proofs.Common.{arith}
use Rattle.reach.proofs.Lines.{inner-wrote, leaf_wrote, left-fits, left-room, line_fits, right_fits, right_room, some-slot}
use Rattle.reach.proofs.+write_fares.Goals as goal

pub write_line-at-requires : goal.write_line-at-requires
write_line-at-requires t c =
    line_fits _ _ _ _ c.at-r.ensures c.requires.0 _ c.is_leaf.ensures c.if-is_leaf.true _ c.args.room.now c.requires.1

pub returns-then-is_leaf : goal.returns-then-is_leaf
returns-then-is_leaf t c =
    leaf_wrote _ _ _ _ c.at-r.ensures c.requires.0 _ c.is_leaf.ensures c.if-is_leaf.true _ _ _ _ c.write_line-at.ensures

pub overflow_sub-left : goal.overflow_sub-left
overflow_sub-left t c = some-slot _ _ _ c.requires.0

pub write_fares-a-requires : goal.write_fares-a-requires
write_fares-a-requires t c =
    let h = some-slot _ _ _ c.requires.0 in (
      omega (arith, h),
      (
        left-fits _ _ _ _ c.at-r.ensures c.requires.0 _ c.is_leaf.ensures c.if-is_leaf.false,
        left-room _ _ _ _ c.at-r.ensures c.requires.0 _ c.is_leaf.ensures c.if-is_leaf.false _ c.args.room.now c.requires.1,
      ),
    )

pub write_fares-requires : goal.write_fares-requires
write_fares-requires t c =
    let h = some-slot _ _ _ c.requires.0 in
    let leaf = c.is_leaf.ensures in (
      omega (arith, h, c.write_fares-a.ensures.used),
      (
        right_fits _ _ _ _ c.at-r.ensures c.requires.0 _ leaf c.if-is_leaf.false _ _ c.requires.1 _ _ c.write_fares-a.ensures,
        right_room _ _ _ _ c.at-r.ensures c.requires.0 _ leaf c.if-is_leaf.false _ _ c.requires.1 _ _ c.write_fares-a.ensures
            c.write_fares-a.auto.room,
      ),
    )

pub returns : goal.returns
returns t c =
    inner-wrote _ _ _ _ c.at-r.ensures c.requires.0 _ c.is_leaf.ensures c.if-is_leaf.false _ _ c.requires.1
    _ _ c.write_fares-a.ensures _ _ c.write_fares.ensures
