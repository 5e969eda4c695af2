-- What the scan finds: the lowest free slots in their order.
use Rattle.std.specs.Prelude.{◌≡◌, ℕ, zero, suc, ◌≤◌, ◌<◌, ◌+◌, List, [], ◌∷◌, ◌++◌, Some, None}
use Rattle.std.specs.declared.option.Option.{Option}
use Rattle.machine.specs.Table.{View, free}

-- the lowest free slot from a slot on, if there is one below n
abbrev pub Found : View → ℕ → ℕ → Option ℕ → Type 0
Found v n from None = n ≤ free v n from
Found v n from (Some s) = (s ≡ free v n from) × (from ≤ s) × (s < n)

-- where the scan goes on behind the k lowest free slots
abbrev pub behind : View → ℕ → ℕ → ℕ
behind v n zero = 1
behind v n (suc k) = free v n (behind v n k) + 1

-- "New records take the lowest-numbered free slots": the first k of them
abbrev pub lowest : View → ℕ → ℕ → List ℕ
lowest v n zero = []
lowest v n (suc k) = lowest v n k ++ free v n (behind v n k) ∷ []

-- they are slots of a table of n slots
abbrev pub AllBelow : ℕ → List ℕ → Type 0
AllBelow n [] = Unit {0}
AllBelow n (s ∷ ss) = (s < n) × AllBelow n ss

-- the k lowest free slots, or there are not so many
abbrev pub FreeSlots : View → ℕ → ℕ → Option (List ℕ) → Type 0
FreeSlots v n k None = n < behind v n k
FreeSlots v n k (Some xs) = (xs ≡ lowest v n k) × AllBelow n xs
