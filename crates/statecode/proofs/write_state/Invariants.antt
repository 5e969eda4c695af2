use Rattle.std.proofs.Common.{◌≡◌}
use Rattle.statecode.proofs.Writing.{written}
use Rattle.statecode.proofs.write_state.Given as goal

abbrev pub invariant-loop-i : goal.invariant-loop-i
invariant-loop-i l = l.w ≡ written l.k-items l.i l.fn.w
