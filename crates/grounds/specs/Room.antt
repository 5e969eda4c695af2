-- Room for new records.
use Rattle.std.specs.Prelude.{ℕ, zero, suc, ◌+◌, ◌≤◌, ◌<◌, ◌≡◌}
use Rattle.machine.specs.Table.{View}

-- from slot s on there are k different free slots: "Free slots are counted as those in state 0."
abbrev pub RoomFrom : View → ℕ → ℕ → ℕ → Type 0
RoomFrom v n s zero = Unit {0}
RoomFrom v n s (suc k) = (x : ℕ) × (s ≤ x) × (x < n) × ((v x).state ≡ 0) × RoomFrom v n (x + 1) k

-- k free slots for new records; "slot 0 is the entry and is nobody's child"
abbrev pub Room : View → ℕ → ℕ → Type 0
Room v n k = RoomFrom v n 1 k
