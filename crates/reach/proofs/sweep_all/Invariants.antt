use Rattle.std.proofs.Common.{◌-◌, ◌≡◌}
use Rattle.fields.specs.Writes.{SameTable}
use Rattle.machine.specs.Table.{puts}
use Rattle.machine.specs.Calls.{sweep}
use Rattle.reach.proofs.sweep_all.Given as goal

abbrev pub invariant-loop-s : goal.invariant-loop-s
invariant-loop-s l =
    SameTable l.fn.t l.t
    × (puts l.fn.t.numbers.now (sweep l.marks l.t.n 0) ≡ puts l.t.numbers.now (sweep l.marks (l.t.n - l.s) l.s))
