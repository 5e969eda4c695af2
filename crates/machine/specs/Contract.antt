-- How the contracts of the code speak of a call: the table that it leaves beside what it hands back.
use Rattle.std.specs.Prelude.{ℕ, ◌*◌, ◌≤◌, ◌≡◌, Bool, List, length}
use Rattle.terms.specs.declared.State.{State}
use Rattle.terms.specs.declared.Turn.{Turn}
use Rattle.terms.specs.declared.Out.{Out}
use Rattle.terms.specs.declared.Outcome.{Outcome}
use Rattle.machine.specs.Table.{width, puts}
use Rattle.machine.specs.Commit.{Did}
use Rattle.machine.specs.Step.{Left, turned, answered}

-- a table of n slots, as the functions below the public calls find it
abbrev pub Sized : List ℕ → ℕ → Type 0
Sized t n = (length t ≡ n * width) × (n ≤ 4096)

-- a call left table t and handed back o
unfoldable pub after : List ℕ → Out → Left
after t o = record { table = t; state = o.state; answer = o.answer }

-- a turn of task i carried out on the state, with its answer
unfoldable pub turned_out : State → ℕ → Turn → Bool → Out
turned_out st i a c = record { state = turned st i a c; answer = answered a }

-- the same below the public calls: what a phase did, as a table and a turn
pub record Played : Type 0 where
  pub table : List ℕ
  pub turn : Turn
  pub committed : Bool

-- what the code leaves and hands back
unfoldable pub acted : List ℕ → Outcome → Played
acted t o = record { table = t; turn = o.turn; committed = o.committed }

-- what the definition does
unfoldable pub played : List ℕ → Did → Played
played t d = record { table = puts t d.writes; turn = d.turn; committed = d.committed }
