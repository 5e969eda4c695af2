-- The rank of a record that is there and well formed is small.
use mathlib.Core.Path.{◌≡◌}
use mathlib.Core.Bool.{true}
use Prim.Native.Nat.{ℕ, ◌≤◌}
use native.Mathlib.Omega.{arith}
use Rattle.std.proofs.lemmas.Grind.{common_steps}
use Rattle.terms.specs.declared.Rec.{Rec}
use Rattle.machine.specs.Record.{sentinel, fare_marks, inner_marks, plain_form, entry_form, well_formed, linked}

pub formed-rank : (n s : ℕ) (r : Rec) → well_formed n s r ≡ true → r.rank ≤ 255
unfolding well_formed entry_form plain_form sentinel fare_marks inner_marks
formed-rank n s r e = grind (arith, common_steps)

pub linked-rank : (n s : ℕ) (r : Rec) → linked n s r ≡ true → r.rank ≤ 255
unfolding linked
linked-rank n s r e = formed-rank n s r (grind (arith, common_steps))
