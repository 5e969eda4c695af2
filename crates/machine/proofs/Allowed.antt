-- The allowed rank: the largest R whose Fibonacci number R + 3 is at most 2m; and the count that finds it, a number at a time.
use mathlib.Core.Path.{◌≡◌, refl, ◌∙◌, ap}
use mathlib.Core.Bool.{Bool, true, false}
use mathlib.Core.List.{List, [], ◌∷◌}
use mathlib.Core.Logic.{⊎_elim, ◌⊎◌, inl, inr}
use Prim.Native.Nat.{ℕ, zero, suc, ◌+◌, ◌-◌, ◌*◌, ◌<◌, ◌≤◌}
use native.Mathlib.Nat.{le_refl, le_trans, add-zero, add-suc, not-suc-le-zero}
use native.Mathlib.Omega.{arith}
use borrow.Author.Tests.{le-leb, lt-leb, leb-true, leb-false}
use lib.Dec.{leb}
use lib.ListN.{length, get_or, drop}
use lib.Seq.{get_or-drop}
use Rattle.machine.specs.Allowed.{fibonacci, fib, at_most, allowed_rank}
use Rattle.machine.proofs.Fibonacci.{table_is_fib}

-- the count over a list, one number more
at-most_end : (xs : List ℕ) (b : ℕ) → length xs ≡ 0 → at_most xs b ≡ 0
unfolding at_most
at-most_end [] b e = refl
at-most_end (x ∷ xs) b e = absurd (let z : suc (length xs) ≡ 0 = e in omega arith)

at-most_stops : (x b : ℕ) (xs : List ℕ) → b < x → at_most (x ∷ xs) b ≡ 0
unfolding at_most
at-most_stops x b xs h = simp (at_most, lt-leb x b h)

at-most_goes : (x b : ℕ) (xs : List ℕ) → x ≤ b → at_most (x ∷ xs) b ≡ suc (at_most xs b)
unfolding at_most
at-most_goes x b xs h = simp (at_most, le-leb x b h)

-- a number of the list that is counted is at most b, the first one that is not counted is above it
split : (b : Bool) → (b ≡ true) ⊎ (b ≡ false)
split true = inl refl
split false = inr refl

counted : (xs : List ℕ) (b k : ℕ) → k < at_most xs b → get_or xs k 0 ≤ b
unfolding at_most
counted [] b k h = absurd (not-suc-le-zero h)
counted (x ∷ xs) b zero h =
    ⊎_elim (leb-true x b) (λ f. absurd (let z : at_most (x ∷ xs) b ≡ 0 = at-most_stops x b xs (leb-false x b f) in omega arith)) (split (leb x b))
counted (x ∷ xs) b (suc k) h =
    ⊎_elim
    (λ f. counted xs b k (let z : at_most (x ∷ xs) b ≡ suc (at_most xs b) = at-most_goes x b xs (leb-true x b f) in omega arith))
    (λ f. absurd (let z : at_most (x ∷ xs) b ≡ 0 = at-most_stops x b xs (leb-false x b f) in omega arith))
    (split (leb x b))

not_counted : (xs : List ℕ) (b : ℕ) → at_most xs b < length xs → b < get_or xs (at_most xs b) 0
not_counted [] b h = absurd (not-suc-le-zero h)
not_counted (x ∷ xs) b h =
    ⊎_elim
    (λ f.
    let z : at_most (x ∷ xs) b ≡ suc (at_most xs b) = at-most_goes x b xs (leb-true x b f) in
    rw z (not_counted xs b (omega arith)))
    (λ f. rw (at-most_stops x b xs (leb-false x b f)) (leb-false x b f))
    (split (leb x b))

-- fib does not fall
grows : (n : ℕ) → fib n ≤ fib (suc n)
unfolding fib
grows zero = omega arith
grows (suc n) = omega arith

rises : (j k : ℕ) → fib j ≤ fib (j + k)
rises j zero = rw (add-zero j) (le_refl (fib j))
rises j (suc k) = rw (add-suc j k) (le_trans (rises j k) (grows (j + k)))

-- the numbers from the third on
third_on : (k : ℕ) → k < 30 → get_or (drop 2 fibonacci) k 0 ≡ fib (k + 3)
third_on k h = get_or-drop 2 fibonacci k 0 ∙ (table_is_fib (2 + k) (omega arith) ∙ ap fib (omega arith))

length_from : length (drop 2 fibonacci) ≡ 30
unfolding fibonacci
length_from = refl

first_of : 2 ≡ fib 3
unfolding fibonacci
first_of = third_on 0 (omega arith)

last_of : 2178309 ≡ fib 32
unfolding fibonacci
last_of = third_on 29 (omega arith)

module _ (b : ℕ) where
  counted-fits : (k : ℕ) → k < 30 → k < at_most (drop 2 fibonacci) b → fib (k + 3) ≤ b
  counted-fits k l h = rw (third_on k l) at (counted (drop 2 fibonacci) b k h)

  next-above : at_most (drop 2 fibonacci) b < 30 → b < fib (at_most (drop 2 fibonacci) b + 3)
  next-above h = rw (third_on (at_most (drop 2 fibonacci) b) h) at (not_counted (drop 2 fibonacci) b (rw length_from h))

  some_counted : 2 ≤ b → 0 < at_most (drop 2 fibonacci) b
  some_counted h =
      ⊎_elim
      (leb-true 1 (at_most (drop 2 fibonacci) b))
      (λ f.
      let z : at_most (drop 2 fibonacci) b ≡ 0 = omega (arith, leb-false 1 (at_most (drop 2 fibonacci) b) f) in
      absurd (let l : b < fib 3 = rw z at (next-above (omega arith)) in omega (arith, first_of)))
      (split (leb 1 (at_most (drop 2 fibonacci) b)))

  not_all_counted : b ≤ 2000000 → at_most (drop 2 fibonacci) b < 30
  not_all_counted h =
      ⊎_elim
      (λ f. absurd (let l : fib 32 ≤ b = counted-fits 29 (omega arith) (leb-true 30 (at_most (drop 2 fibonacci) b) f) in omega (arith, last_of)))
      (leb-false 30 (at_most (drop 2 fibonacci) b))
      (split (leb 30 (at_most (drop 2 fibonacci) b)))

-- "has Fibonacci number R + 3 at most 2m"
pub allowed_fits : (m : ℕ) → 1 ≤ m → m ≤ 1000000 → fib (allowed_rank m + 3) ≤ 2 * m
unfolding allowed_rank
allowed_fits m l h =
    let s : 0 < at_most (drop 2 fibonacci) (2 * m) = some_counted (2 * m) (omega arith) in
    let a : at_most (drop 2 fibonacci) (2 * m) < 30 = not_all_counted (2 * m) (omega arith) in
    counted-fits (2 * m) (at_most (drop 2 fibonacci) (2 * m) - 1) (omega arith) (omega arith)

-- "The largest such R"
pub allowed_largest : (m k : ℕ) → m ≤ 1000000 → fib (k + 3) ≤ 2 * m → k ≤ allowed_rank m
unfolding allowed_rank
allowed_largest m k h f =
    let r = at_most (drop 2 fibonacci) (2 * m) in
    let a : r < 30 = not_all_counted (2 * m) (omega arith) in
    let n : 2 * m < fib (r + 3) = next-above (2 * m) a in
    ⊎_elim
    (λ t. let l : k + 1 ≤ r = leb-true (k + 1) r t in omega arith)
    (λ t.
    let l : r < k + 1 = leb-false (k + 1) r t in
    let e : r + 3 + (k - r) ≡ k + 3 = omega arith in
    let u : fib (r + 3) ≤ fib (k + 3) = rw e at (rises (r + 3) (k - r)) in
    absurd (omega arith))
    (split (leb (k + 1) r))

pub allowed_most : (m : ℕ) → m ≤ 1000000 → allowed_rank m ≤ 28
unfolding allowed_rank
allowed_most m h = let a : at_most (drop 2 fibonacci) (2 * m) < 30 = not_all_counted (2 * m) (omega arith) in omega arith

-- "With m = 0 print 0."
pub allowed_none : allowed_rank 0 ≡ 0
unfolding allowed_rank at_most fibonacci
allowed_none = refl
