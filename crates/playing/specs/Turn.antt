-- What one turn does where the input's bytes are known.
use Rattle.std.specs.Prelude.{ℕ, ◌≡◌, ◌<◌, List, length, take, drop, Some, None}
use Rattle.std.specs.declared.option.Option.{Option}
use Rattle.std.specs.Io.KnownBytes.{Keeps, Appends}
use Rattle.terms.specs.declared.State.{State}
use Rattle.machine.specs.CallFile.{Turned, record_of}
use Rattle.playing.specs.Text.{line_bytes}

-- r, the outcome of a record, was left as t and st, and its line was written
abbrev pub IsTurned : Turned → List ℕ → State → Option (List ℕ) → Option (List ℕ) → Type 0
IsTurned r t st from to = (t ≡ r.table) × (st ≡ r.state) × Appends from to (line_bytes r.line)

-- the input bs had no record left, and nothing was done; or its first 12 bytes were served as the record at place p
abbrev pub Turns : List ℕ → ℕ → List ℕ → State → Option State → List ℕ → Option (List ℕ) → Option (List ℕ) → Option (List ℕ) → Type 0
Turns bs p t st None t' left from to = (length bs ≡ 0) × (t' ≡ t) × Keeps from to
Turns bs p t st (Some st') t' left from to = (0 < length bs) × (left ≡ Some (drop 12 bs)) × IsTurned (record_of t st p (take 12 bs)) t' st' from to
