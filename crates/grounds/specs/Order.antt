-- The printed order: a refusal is given exactly when its ground holds and no ground before it does.
use Rattle.std.specs.Prelude.{ℕ, ◌≡◌, List, [], ◌∷◌, ◌++◌, ◌⊎◌, ◌↔◌}

-- a refusal: its number, and its ground in document 01's words. The answer 6 is listed like one, after them
pub record Refusal : Type 1 where
  pub number : ℕ
  pub reason : Type 0

-- no ground of the list holds
abbrev pub None : List Refusal → Type 0
None [] = Unit {0}
None (r ∷ rs) = (¬ r.reason) × None rs

-- the number answered is that of the refusal exactly when its ground holds and none before it does
abbrev pub Given : ℕ → List Refusal → Refusal → Type 0
Given a before r = (a ≡ r.number) ↔ (r.reason × None before)

-- so it is for each refusal of a list, those already passed being `before`
abbrev pub Each : ℕ → List Refusal → List Refusal → Type 0
Each a before [] = Unit {0}
Each a before (r ∷ rs) = Given a before r × Each a (before ++ (r ∷ [])) rs

-- one of these numbers
abbrev pub Among : List ℕ → ℕ → Type 0
Among [] a = ⊥
Among (k ∷ ks) a = (a ≡ k) ⊎ Among ks a

-- "one and the same": a number that stands twice in a list
abbrev pub Twice : List ℕ → Type 0
Twice [] = ⊥
Twice (x ∷ xs) = Among xs x ⊎ Twice xs

-- the numbers of a list of refusals
abbrev pub numbers : List Refusal → List ℕ
numbers [] = []
numbers (r ∷ rs) = r.number ∷ numbers rs

-- a call answers a; `rs` are its refusals in the printed order, `served` its other answers
pub record Ruled (a : ℕ) (served : List ℕ) (rs : List Refusal) : Type 0 where
  -- each refusal is given exactly when its ground holds and no earlier one does
  pub each : Each a [] rs
  -- no other number is ever answered
  pub total : Among (numbers rs ++ served) a
  -- the call is served exactly when no ground holds
  pub otherwise : Among served a ↔ None rs
