-- THE ALLOWED RANK.
use Rattle.std.specs.Prelude.{ℕ, zero, suc, ◌+◌, ◌-◌, ◌*◌, true, false, List, [], ◌∷◌, leb, drop}

-- "a table of the first 32 Fibonacci numbers (from 1, 1)"
unfoldable pub fibonacci : List ℕ
fibonacci =
    1 ∷ 1 ∷ 2 ∷ 3 ∷ 5 ∷ 8 ∷ 13 ∷ 21 ∷ 34 ∷ 55 ∷ 89 ∷ 144 ∷ 233 ∷ 377 ∷ 610 ∷ 987 ∷ 1597 ∷ 2584 ∷ 4181 ∷ 6765 ∷ 10946 ∷ 17711
    ∷ 28657 ∷ 46368 ∷ 75025 ∷ 121393 ∷ 196418 ∷ 317811 ∷ 514229 ∷ 832040 ∷ 1346269 ∷ 2178309 ∷ []

-- the Fibonacci numbers by their own rule: those at places 1 and 2 are 1
unfoldable pub fib : ℕ → ℕ
fib zero = 0
fib (suc zero) = 1
fib (suc (suc n)) = fib (suc n) + fib n

-- how many numbers of a rising list are at most b
unfoldable pub at_most : List ℕ → ℕ → ℕ
at_most [] b = 0
at_most (x ∷ xs) b = elim (leb x b) [ true ↦ suc (at_most xs b) | false ↦ 0 ]

-- "has Fibonacci number R + 3 at most 2m. The largest such R is printed": R + 3 = 3 stands third. "With m = 0 print 0."
unfoldable pub allowed_rank : ℕ → ℕ
allowed_rank m = at_most (drop 2 fibonacci) (2 * m) - 1
