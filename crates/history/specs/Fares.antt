-- Lists of fares: in order, and which numbers they hold; commits that could be made.
use Rattle.std.specs.Prelude.{◌<◌, ℕ, List, [], ◌∷◌, ◌⊎◌, ◌≡◌}
use Rattle.history.specs.Ledger.{Commit, Fare, given, put, take}

-- sorted by number, no number twice
abbrev pub AllAbove : ℕ → List Fare → Type 0
AllAbove k [] = Unit {0}
AllAbove k (f ∷ fs) = (k < f.number) × AllAbove k fs

abbrev pub Sorted : List Fare → Type 0
Sorted [] = Unit {0}
Sorted (f ∷ fs) = AllAbove f.number fs × Sorted fs

-- a number is held
abbrev pub Held : ℕ → List Fare → Type 0
Held k [] = ⊥
Held k (f ∷ fs) = (k ≡ f.number) ⊎ Held k fs

-- every put-in committed a number that was not held, every take-out one that was
abbrev pub Lawful : List Commit → Type 0
Lawful [] = Unit {0}
Lawful (put j ∷ cs) = (Held j.number (given cs) → ⊥) × Lawful cs
Lawful (take j ∷ cs) = Held j.number (given cs) × Lawful cs
