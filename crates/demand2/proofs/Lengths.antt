-- A table of 6 times n numbers.
use Prim.Native.Nat.{◌%◌, ◌*◌, ◌/◌, ◌≤◌, ℕ}
use borrow.Author.Tests.{le-leb}
use lib.ListN.{get_or, replicate}
use mathlib.Core.Bool.{true}
use mathlib.Core.Logic.{inl, inr}
use mathlib.Core.Path.{◌∙◌, ◌≡◌, refl}
use native.Mathlib.Omega.{arith}
use Rattle.demand2.proofs.Counts.{all_alike}
use Rattle.machine.specs.Record.{free_rec}
use Rattle.machine.specs.Table.{length_fits, place, view}
use Rattle.views.proofs.Law.{in_or_out, inside, outside}

pub fits-of : (l n : ℕ) → l ≡ n * 6 → 8 ≤ n → n ≤ 4096 → length_fits l ≡ true
unfolding length_fits
fits-of l n e lo hi =
    let r : l % 6 ≡ 0 = omega arith in
    rw (r, le-leb 48 l (omega arith), le-leb l 24576 (omega arith)) refl

pub slots-of : (l n : ℕ) → l ≡ n * 6 → l / 6 ≡ n
slots-of l n e = omega arith

-- a table of zeros reads as free everywhere
zero_at : (l i : ℕ) → get_or {A = ℕ} (replicate l 0) i 0 ≡ 0
zero_at l i = all_alike l i 0

pub zeros-free : (n l x : ℕ) → view n (replicate l 0) x ≡ free_rec
zeros-free n l x =
    elim (in_or_out x n) [
      | inl h ↦ inside n (replicate l 0) x h ∙ rw (zero_at l (place x 0), zero_at l (place x 1), zero_at l (place x 2), zero_at l (place x 3), zero_at l (place x 4), zero_at l (place x 5)) refl
      | inr h ↦ outside n (replicate l 0) x h
    ]
