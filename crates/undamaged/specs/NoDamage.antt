-- FROM A RESET NOTHING IS EVER DAMAGED: no call after the opening reset is answered 17. The reset itself never is, on any table
-- and state: `reset-never` in crates/grounds.
use Rattle.std.specs.Prelude.{◌*◌, ◌≤◌, ℕ, length, List, ◌≡◌}
use Rattle.history.specs.History.{Ask, left}
use Rattle.history.specs.Ledger.{history}
use Rattle.history.specs.Machine.{Machine}
use Rattle.terms.specs.Answers.{number_of}
use Rattle.terms.specs.declared.State.{State}

-- the histories of demand 2: the reset call on any table of 6 times 8 to 4,096 numbers and any state, any calls with any arguments; c is one call more
abbrev pub No17 : Machine → Type 0
No17 M =
    (t : List ℕ) (st : State) (cs : List Ask) (c : Ask) (n : ℕ) → length t ≡ 6 * n → 8 ≤ n → n ≤ 4096
    → number_of (left M (history M t st cs).table (history M t st cs).state c).answer ≡ 17 → ⊥
