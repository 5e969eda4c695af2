-- The slot found is the next one; where there is none, there are not so many.
use Rattle.std.proofs.Common.{◌+◌, refl, ap, add-one, arith, ◌∙◌, length-set}
use Rattle.std.proofs.Math.Seq.{take-suc-set}
use Rattle.fields.specs.Writes.{seen}
use Rattle.machine.specs.Table.{free}
use Rattle.room.proofs.Slots.{too_few, below_more}
use Rattle.room.proofs.free_slots.Goals as goal

pub returns-in_err-s : goal.returns-in_err-s
returns-in_err-s g c = rw c.from_residual.ensures (too_few _ _ _ _ _ c.loop-i-test.true c.loop-i.invariant.goes c.in_err-s.ensures)

pub loop-i-preserved : goal.loop-i-preserved
loop-i-preserved g c =
    let found = c.in_ok-s.ensures in
    let next = found.0 ∙ ap (free (seen c.args.t.now) c.args.t.now.n) c.loop-i.invariant.goes in
    let long = c.loop-i.invariant.long in
    rw (add-one c.loop-i.i) record {
      goes = ap (λ x. x + 1) next;
      long = length-set c.loop-i.slots c.loop-i.i _ ∙ long;
      near = omega (arith, found.2);
      kept = rw (take-suc-set c.loop-i.slots c.loop-i.i c.in_ok-s.s (rw long c.loop-i-test.true), c.loop-i.invariant.kept, next) refl;
      below = rw (← next) (below_more _ _ _ c.loop-i.invariant.below found.2);
    }
