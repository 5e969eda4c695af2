-- What compound tests tell when they hold.
use mathlib.Core.Path.{◌≡◌, refl}
use mathlib.Core.Bool.{Bool, true, false, ◌&&◌, ◌||◌, not}
use mathlib.Core.List.{List}
use Prim.Native.Nat.{ℕ, ◌*◌, ◌/◌, ◌%◌, ◌≤◌, ◌<◌}
use native.Mathlib.Omega.{arith}
use lib.Dec.{leb, eqb}
use borrow.Author.Tests.{ltb-true, leb-true, eqb-true}
use Rattle.machine.specs.Record.{well_formed, linked}
use Rattle.machine.specs.Table.{view, length_fits}
use Rattle.machine.proofs.Choice.{if_elim}

pub both_first : (a b : Bool) → (a && b) ≡ true → a ≡ true
both_first true b e = refl
both_first false b e = e

pub both-second : (a b : Bool) → (a && b) ≡ true → b ≡ true
both-second true b e = e
both-second false b e = absurd (let z : ◌≡◌ {A = ℕ} 0 1 = cc in omega arith)

pub either_way : (a b : Bool) (P : Type 0) → (a ≡ true → P) → (b ≡ true → P) → (a || b) ≡ true → P
either_way true b P f g e = f refl
either_way false b P f g e = g e

-- what is well formed in the view is in the table
pub formed-in : (n : ℕ) (t : List ℕ) (s : ℕ) → well_formed n s (view n t s) ≡ true → s < n
unfolding view well_formed
formed-in n t s =
    if_elim (λ r. well_formed n s r ≡ true → s < n) _
    (λ q h. ltb-true s n q)
    (λ q h. absurd (let z : ◌≡◌ {A = ℕ} 0 1 = cc in omega arith))

pub linked-in : (n : ℕ) (t : List ℕ) (s : ℕ) → linked n s (view n t s) ≡ true → s < n
unfolding linked
linked-in n t s e = formed-in n t s (both-second (not (eqb s 0)) _ e)

-- a table whose length fits
module _ (l : ℕ) (b : Bool) (eb : b ≡ length_fits l) (e : b ≡ true) where
  fits : length_fits l ≡ true
  fits = rw eb at e

  pub fits-most : l ≤ 24576
  unfolding length_fits
  fits-most = leb-true _ _ (both-second (leb 48 l) _ (both-second (eqb (l % 6) 0) _ fits))

  fits-6 : l % 6 ≡ 0
  unfolding length_fits
  fits-6 = eqb-true _ _ (both_first (eqb (l % 6) 0) _ fits)

  pub fits-least : 48 ≤ l
  unfolding length_fits
  fits-least = leb-true _ _ (both_first (leb 48 l) _ (both-second (eqb (l % 6) 0) _ fits))

  pub sixes : l ≡ l / 6 * 6
  sixes = omega (arith, fits-6)

  pub slots-most : l / 6 ≤ 4096
  slots-most = omega (arith, fits-most)

  pub slots-least : 8 ≤ l / 6
  slots-least = omega (arith, fits-least)

  -- such a table of n slots
  pub sized : (n : ℕ) → n ≡ l / 6 → (l ≡ n * 6) × (n ≤ 4096)
  sized n en = rw en (sixes, slots-most)
