-- The table of the first 32 Fibonacci numbers: its adding rule, one test over the whole table, and what follows for each place.
use mathlib.Core.Path.{◌≡◌, refl, ◌∙◌, ap}
use mathlib.Core.Bool.{Bool, true, false, ◌&&◌}
use mathlib.Core.List.{List, [], ◌∷◌}
use Prim.Native.Nat.{ℕ, zero, suc, ◌+◌, ◌<◌}
use native.Mathlib.Nat.{le_of_suc-le-suc, not-suc-le-zero}
use native.Mathlib.Omega.{arith}
use lib.Dec.{T, eqb, eqb→eq}
use lib.ListN.{length, get_or, drop}
use Rattle.machine.specs.Allowed.{fibonacci, fib}

and_left : (a b : Bool) → T (a && b) → T a
and_left true b t = tt
and_left false b t = t

and_right : (a b : Bool) → T (a && b) → T b
and_right true b t = t
and_right false b t = absurd t

-- each number is the sum of the two before it
abbrev adds : ℕ → ℕ → List ℕ → Bool
adds a b [] = true
adds a b (x ∷ xs) = eqb x (b + a) && adds b x xs

next : (n a b x : ℕ) → a ≡ fib n → b ≡ fib (suc n) → T (eqb x (b + a)) → x ≡ fib (suc (suc n))
unfolding fib
next n a b x ea eb t = eqb→eq x (b + a) t ∙ rw (ea, eb)

-- a list that goes on so from fib n and fib (n + 1) is fib from n + 2 on
goes_on :
    (n a b : ℕ) (xs : List ℕ) → a ≡ fib n → b ≡ fib (suc n) → T (adds a b xs)
    → (k : ℕ) → k < length xs → get_or xs k 0 ≡ fib (suc (suc n) + k)
goes_on n a b [] ea eb t k h = absurd (not-suc-le-zero h)
goes_on n a b (x ∷ xs) ea eb t zero h = next n a b x ea eb (and_left (eqb x (b + a)) (adds b x xs) t) ∙ ap fib (omega arith)
goes_on n a b (x ∷ xs) ea eb t (suc k) h =
    goes_on (suc n) b x xs eb (next n a b x ea eb (and_left (eqb x (b + a)) (adds b x xs) t)) (and_right (eqb x (b + a)) (adds b x xs) t) k (le_of_suc-le-suc h)
    ∙ ap fib (omega arith)

fib-1 : 1 ≡ fib 1
unfolding fib
fib-1 = refl

fib-2 : 1 ≡ fib 2
unfolding fib
fib-2 = refl

-- the k-th of the table, from 0, is the Fibonacci number at place k + 1
pub table_is_fib : (k : ℕ) → k < 32 → get_or fibonacci k 0 ≡ fib (k + 1)
unfolding fibonacci
table_is_fib zero h = fib-1
table_is_fib (suc zero) h = fib-2
table_is_fib (suc (suc k)) h = goes_on 1 1 1 (drop 2 fibonacci) fib-1 fib-2 tt k (omega arith) ∙ ap fib (omega arith)
