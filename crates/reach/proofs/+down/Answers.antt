-- One law for each exit of the way down, and what is left of the slots at each call.
use Rattle.std.proofs.Common.{arith}
use lib.ListN.{length-set}
use Rattle.reach.proofs.Rows.{at_leaf_lem, both-told, inside, left-lost, less, no_way, right_lost, some_left}
use Rattle.reach.proofs.+down.Goals as goal

pub returns-then-not-may_reach : goal.returns-then-not-may_reach
returns-then-not-may_reach t c =
    no_way _ _ c.args.p _ _ _ c.requires.0 c.requires.1 _ c.at-r.ensures _ c.may_reach.ensures c.if-not-may_reach.true

pub bounds-marks-s : goal.bounds-marks-s
bounds-marks-s t c =
    inside _ _ c.args.p _ _ _ c.requires.0 c.requires.1 _ c.at-r.ensures _ c.may_reach.ensures c.if-not-may_reach.false

pub overflow_sub-left : goal.overflow_sub-left
overflow_sub-left t c =
    some_left _ _ c.args.p _ _ _ c.requires.0 c.requires.1 _ c.at-r.ensures _ c.may_reach.ensures c.if-not-may_reach.false

pub returns-then-is_leaf : goal.returns-then-is_leaf
returns-then-is_leaf t c =
    at_leaf_lem _ _ _ _ _ _ c.requires.0 c.requires.1 _ c.at-r.ensures _ c.may_reach.ensures c.if-not-may_reach.false
    _ c.is_leaf.ensures c.if-is_leaf.true _ c.leaf_below.ensures

pub overflow_sub-left-2 : goal.overflow_sub-left-2
overflow_sub-left-2 t c =
    some_left _ _ c.args.p _ _ _ c.requires.0 c.requires.1 _ c.at-r.ensures _ c.may_reach.ensures c.if-not-may_reach.false

pub down-requires : goal.down-requires
down-requires t c =
    let h = some_left _ _ c.args.p _ _ _ c.requires.0 c.requires.1 _ c.at-r.ensures _ c.may_reach.ensures c.if-not-may_reach.false in (
      omega (arith, h),
      (
        simp length-set c.requires.0,
        less _ _ c.args.p _ _ _ c.requires.0 c.requires.1 _ c.at-r.ensures _ c.may_reach.ensures c.if-not-may_reach.false,
        omega arith,
      ),
    )

pub returns-in_err-a : goal.returns-in_err-a
returns-in_err-a t c =
    rw c.from_residual.ensures
    (left-lost _ _ c.args.p _ _ _ c.requires.0 c.requires.1 _ c.at-r.ensures _ c.may_reach.ensures c.if-not-may_reach.false
    _ c.is_leaf.ensures c.if-is_leaf.false c.in_err-a.ensures)

pub returns-in_err-b : goal.returns-in_err-b
returns-in_err-b t c =
    rw c.from_residual-in_err-b.ensures
    (right_lost _ _ c.args.p _ _ _ c.requires.0 c.requires.1 _ c.at-r.ensures _ c.may_reach.ensures c.if-not-may_reach.false
    _ c.is_leaf.ensures c.if-is_leaf.false _ _ c.in_ok-a.ensures c.in_err-b.ensures)

pub returns : goal.returns
returns t c =
    both-told _ _ _ _ _ _ c.requires.0 c.requires.1 _ c.at-r.ensures _ c.may_reach.ensures c.if-not-may_reach.false
    _ c.is_leaf.ensures c.if-is_leaf.false _ _ c.in_ok-a.ensures _ _ c.in_ok-b.ensures _ c.inner_below.ensures
