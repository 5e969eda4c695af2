use Rattle.std.proofs.Common.{◌≡◌, ◌≤◌}
use Rattle.fields.specs.Writes.{seen}
use Rattle.machine.specs.Table.{count_free}
use Rattle.room.proofs.count_free.Given as goal

abbrev pub invariant-loop-s : goal.invariant-loop-s
invariant-loop-s l = (l.count ≤ l.s) × (l.count ≡ count_free (seen l.t) l.s)
