-- The order in which a double rotation takes its slots.
use Prim.Native.Nat.{◌<◌, ℕ}
use mathlib.Core.Bool.{Bool, false, true}

-- the slots rise: top, left, right
abbrev pub Rising : Bool → ℕ → ℕ → ℕ → Type 0
Rising true y x z = (y < x) × (x < z)
Rising false y x z = (y < z) × (z < x)
