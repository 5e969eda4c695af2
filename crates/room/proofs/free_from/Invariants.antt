use Rattle.std.proofs.Common.{◌-◌, ◌≡◌, ◌+◌, ◌≤◌}
use Rattle.fields.specs.Writes.{seen}
use Rattle.machine.specs.Table.{free}
use Rattle.room.proofs.free_from.Given as goal

abbrev pub invariant-loop-i : goal.invariant-loop-i
invariant-loop-i l = record {
  later : l.from ≤ l.i;
  near : l.i ≤ l.from + l.t.n;
  same : free (seen l.t) l.t.n l.from ≡ free (seen l.t) l.t.n l.i;
}

abbrev pub decreases-loop-i : goal.decreases-loop-i
decreases-loop-i l = l.t.n - l.i
