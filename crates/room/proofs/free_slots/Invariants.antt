use Rattle.std.proofs.Common.{◌≡◌, ◌≤◌, take, length}
use Rattle.fields.specs.Writes.{seen}
use Rattle.room.specs.Found.{behind, lowest, AllBelow}
use Rattle.room.proofs.free_slots.Given as goal

abbrev pub invariant-loop-i : goal.invariant-loop-i
invariant-loop-i g l = record {
  goes : l.from ≡ behind (seen l.t) l.t.n l.i;
  long : length l.slots ≡ g.row.N;
  near : l.from ≤ 4096;
  kept : take l.i l.slots ≡ lowest (seen l.t) l.t.n l.i;
  below : AllBelow l.t.n (lowest (seen l.t) l.t.n l.i);
}
