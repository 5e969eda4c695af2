-- Rows of numbers compared: the test finds equal ones, number by number.
use mathlib.Core.Path.{◌≡◌, refl, ap}
use mathlib.Core.Bool.{true}
use mathlib.Core.List.{List, [], ◌∷◌}
use Prim.Native.Nat.{ℕ}
use native.Mathlib.Omega.{arith}
use lib.Dec.{eqb}
use borrow.Author.Tests.{eq-eqb, eqb-true}
use Rattle.machine.proofs.Tests.{both_first, both-second}
use Rattle.statecode.specs.Code.{same_numbers}

pub same_self : (w : List ℕ) → same_numbers w w ≡ true
unfolding same_numbers
same_self [] = refl
same_self (x ∷ xs) = rw (eq-eqb x x refl) (same_self xs)

pub same-equal : (a b : List ℕ) → same_numbers a b ≡ true → a ≡ b
unfolding same_numbers
same-equal [] [] e = refl
same-equal [] (y ∷ ys) e = absurd (let z : ◌≡◌ {A = ℕ} 0 1 = cc in omega arith)
same-equal (x ∷ xs) [] e = absurd (let z : ◌≡◌ {A = ℕ} 0 1 = cc in omega arith)
same-equal (x ∷ xs) (y ∷ ys) e =
    let h : x ≡ y = eqb-true x y (both_first (eqb x y) (same_numbers xs ys) e) in
    rw h (ap (λ (r : List ℕ). y ∷ r) (same-equal xs ys (both-second (eqb x y) (same_numbers xs ys) e)))
