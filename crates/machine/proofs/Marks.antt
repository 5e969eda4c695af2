-- How many slots are not marked yet: a mark more is a slot less to visit.
use Prim.Native.Nat.{ℕ, zero, suc, ◌+◌, ◌<◌}
use mathlib.Core.Path.{◌≡◌, refl}
use mathlib.Core.List.{List, [], ◌∷◌}
use native.Mathlib.Nat.{not-suc-le-zero, le_of_suc-le-suc}
use native.Mathlib.Omega.{arith}
use borrow.Author.Tests.{eq-eqb}
use lib.Dec.{eqb}
use lib.ListN.{length, get_or, set, replicate}
use Rattle.machine.specs.State.{one}

unfoldable pub unmarked : List ℕ → ℕ
unmarked [] = 0
unmarked (x ∷ xs) = one (eqb x 0) + unmarked xs

pub unmarked-set : (m : List ℕ) (s : ℕ) → s < length m → get_or m s 0 ≡ 0 → unmarked m ≡ suc (unmarked (set m s 1))
unfolding unmarked
unmarked-set [] s h e = absurd (not-suc-le-zero h)
unmarked-set (x ∷ xs) zero h e = rw (eq-eqb x 0 e) (omega arith)
unmarked-set (x ∷ xs) (suc s) h e = let q = unmarked-set xs s (le_of_suc-le-suc h) e in omega arith

pub unmarked-all : (n : ℕ) → unmarked (replicate n 0) ≡ n
unfolding unmarked
unmarked-all zero = refl
unmarked-all (suc n) = let q = unmarked-all n in omega arith
