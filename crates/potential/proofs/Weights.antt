-- The arithmetic of the potential: what a record owes when a child comes nearer or goes farther, and each row of the settling table by differences.
use Prim.Native.Nat.{◌+◌, ◌≤◌, suc, zero, ℕ}
use mathlib.Core.Path.{◌≡◌, ap, refl}
use native.Mathlib.Numerals.{unary_clauses}
use native.Mathlib.Omega.{arith}
use Rattle.machine.specs.Allowed.{fib}
use Rattle.potential.specs.Potential.{weight}

pub fib-step : (n : ℕ) → fib (suc (suc n)) ≡ fib (suc n) + fib n
unfolding fib
fib-step n = refl

pub fib-up : (n : ℕ) → fib n ≤ fib (suc n)
unfolding fib
fib-up zero = omega arith
fib-up (suc n) = omega arith

pub fib-far : (a m : ℕ) → fib a ≤ fib (m + a)
fib-far a zero = let z : 0 + a ≡ a = omega arith in rw z (omega arith)
fib-far a (suc m) = let z : suc m + a ≡ suc (m + a) = omega arith in rw z (omega (arith, fib-far a m, fib-up (m + a)))

pub weight-sym : (k d e : ℕ) → weight k d e ≡ weight k e d
weight-sym k zero zero = refl
weight-sym k zero (suc zero) = refl
weight-sym k zero (suc (suc e)) = refl
weight-sym k (suc zero) zero = refl
weight-sym k (suc zero) (suc zero) = refl
weight-sym k (suc zero) (suc (suc e)) = refl
weight-sym k (suc (suc d)) zero = refl
weight-sym k (suc (suc d)) (suc zero) = refl
weight-sym k (suc (suc d)) (suc (suc e)) = refl

-- a child that comes one nearer, from rank q to q + 1, under a record of rank q + 1 + d
pub nearer : (q d e : ℕ) → weight (suc q + d) d e ≤ weight (suc q + d) (suc d) e + fib (suc (suc q))
nearer q zero zero = simp unary_clauses (omega (arith, fib-step q, fib-step (suc q), fib-step (suc (suc q))))
nearer q zero (suc zero) = simp unary_clauses (omega (arith, fib-step q, fib-step (suc q), fib-step (suc (suc q))))
nearer q zero (suc (suc e)) = simp unary_clauses (omega (arith, fib-step q, fib-step (suc q), fib-step (suc (suc q))))
nearer q (suc zero) zero = simp unary_clauses (omega (arith, fib-step q, fib-step (suc q), fib-step (suc (suc q))))
nearer q (suc zero) (suc zero) = simp unary_clauses (omega (arith, fib-step q, fib-step (suc q), fib-step (suc (suc q))))
nearer q (suc zero) (suc (suc e)) = omega arith
nearer q (suc (suc d)) zero = omega arith
nearer q (suc (suc d)) (suc zero) = omega arith
nearer q (suc (suc d)) (suc (suc e)) = omega arith

-- a child that goes one farther
farther : (k d e : ℕ) → weight k (suc d) e ≤ weight k d e
farther k zero zero = omega (arith, fib-step k, fib-step (suc k))
farther k zero (suc zero) = omega (arith, fib-step k, fib-step (suc k))
farther k zero (suc (suc e)) = omega arith
farther k (suc zero) zero = omega (arith, fib-step k)
farther k (suc zero) (suc zero) = omega arith
farther k (suc zero) (suc (suc e)) = omega arith
farther k (suc (suc d)) zero = omega arith
farther k (suc (suc d)) (suc zero) = omega arith
farther k (suc (suc d)) (suc (suc e)) = omega arith

pub farther-by : (k d e m : ℕ) → weight k (m + d) e ≤ weight k d e
farther-by k d e zero = let z : 0 + d ≡ d = omega arith in rw z (omega arith)
farther-by k d e (suc m) = let z : suc m + d ≡ suc (m + d) = omega arith in rw z (omega (arith, farther k (m + d) e, farther-by k d e m))

-- ---- the rows, by differences

pub rot1 : (j d e f : ℕ) → weight (suc j) d 1 + weight j (suc e) (suc f) ≤ weight (suc j) 0 (suc (suc f)) + weight (suc j) d (suc (suc e))
rot1 j d e f = omega (arith, farther-by' j e f, own j d e)
  where
    farther-by' : (j e f : ℕ) → weight j (suc e) (suc f) ≤ fib j
    farther-by' j zero zero = omega arith
    farther-by' j zero (suc f) = omega arith
    farther-by' j (suc e) zero = omega arith
    farther-by' j (suc e) (suc f) = omega arith

    own : (j d e : ℕ) → weight (suc j) d 1 + fib j ≤ fib (suc (suc j)) + weight (suc j) d (suc (suc e))
    own j zero e = omega (arith, fib-step j, fib-step (suc j))
    own j (suc zero) e = omega (arith, fib-step j)
    own j (suc (suc d)) e = omega (arith, fib-step j)

pub dbl : (j e f d g : ℕ) → weight (suc j) 1 1 + weight j (suc e) d + weight j g (suc f) ≤ weight (suc j) 0 (suc (suc f)) + weight (suc j) (suc (suc e)) 1 + weight j d g
dbl j e f d g = omega (arith, less₁ j e d, less₂ j f g, own j d g)
  where
    less₁ : (j e d : ℕ) → weight j (suc e) d ≤ weight j 1 d
    less₁ j zero d = omega arith
    less₁ j (suc e) d = omega (arith, farther-by j 1 d (suc e), ap (λ y. weight j y d) (two e))
      where
        two : (e : ℕ) → suc e + 1 ≡ suc (suc e)
        two e = omega arith

    less₂ : (j f g : ℕ) → weight j g (suc f) ≤ weight j g 1
    less₂ j f g = omega (arith, weight-sym j g (suc f), weight-sym j g 1, less₁ j f g)

    own : (j d g : ℕ) → weight (suc j) 1 1 + weight j 1 d + weight j g 1 ≤ fib (suc (suc j)) + weight j d g
    own j zero zero = omega (arith, fib-step j, fib-step (suc j))
    own j zero (suc zero) = omega (arith, fib-step j, fib-step (suc j))
    own j zero (suc (suc g)) = omega (arith, fib-step j, fib-step (suc j))
    own j (suc zero) zero = omega (arith, fib-step j, fib-step (suc j))
    own j (suc zero) (suc zero) = omega (arith, fib-step j, fib-step (suc j), fib-up j)
    own j (suc zero) (suc (suc g)) = omega (arith, fib-step j)
    own j (suc (suc d)) zero = omega (arith, fib-step j, fib-step (suc j))
    own j (suc (suc d)) (suc zero) = omega (arith, fib-step j)
    own j (suc (suc d)) (suc (suc g)) = omega (arith, fib-step j)

-- a promotion's own share: s is level or one below
pub promoted : (r d : ℕ) → d ≤ 1 → weight (suc r) 1 (suc d) + fib (suc (suc r)) ≤ weight r 0 d
promoted r zero h = omega (arith, fib-step (suc r))
promoted r (suc zero) h = omega arith
promoted r (suc (suc d)) h = absurd (omega arith)
