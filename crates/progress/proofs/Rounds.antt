-- Rounds of equal length.
use Prim.Native.Nat.{◌*◌, ◌+◌, ◌≤◌, suc, zero, ℕ}
use mathlib.Core.Path.{◌≡◌}
use native.Mathlib.Omega.{arith}

pub one-round : (w b : ℕ) → b + w * b ≡ suc w * b
one-round w b = omega arith

pub more-rounds : (w w' b : ℕ) → w ≤ w' → w * b ≤ w' * b
more-rounds zero w' b h = omega arith
more-rounds (suc w) zero b h = absurd (omega arith)
more-rounds (suc w) (suc w') b h = omega (arith, more-rounds w w' b (omega arith), one-round w b, one-round w' b)
