-- How the functions below the calls speak of a state that stays in its numbers.
use Rattle.std.specs.Prelude.{ℕ, ◌<◌, ◌≡◌, List, eqb, Some, None, Ok, Err}
use Rattle.std.specs.declared.option.Option.{Option}
use Rattle.std.specs.declared.result.Result.{Result}
use Rattle.terms.specs.declared.Path.{Path}
use Rattle.terms.specs.declared.Answer.{Answer}
use Rattle.terms.specs.declared.Out.{Out}
use Rattle.terms.specs.declared.Refusal.{Refusal}
use Rattle.terms.specs.declared.Refusal.TheVariants.{Damaged}
use Rattle.terms.specs.Answers.{answer_of}
use Rattle.terms.specs.Task.{no_grand}
use Rattle.machine.specs.Choice.{if_b}
use Rattle.machine.specs.State.{task_at}
use Rattle.statecode.specs.declared.Walker.{Walker}
use Rattle.machine.specs.Contract.{after}
use Rattle.machine.specs.Step.{Left}
use Rattle.statecode.specs.declared.lent.StateMut.{StateMut}
use Rattle.statecode.specs.Lent.{SameState}
use Rattle.statecode.specs.Code.{state_by}
use Rattle.statecode.specs.Walking.{walker_of}

-- the answer of a call that may be refused
abbrev pub answered : Result Answer Refusal → Answer
answered (Ok a) = a
answered (Err e) = answer_of e

-- what a call hands back: the state that the numbers are, and its answer
abbrev pub out_by : List ℕ → Answer → Out
out_by w a = record { state = state_by w; answer = a }

-- so much is handed back, and the state is lent still
abbrev pub Hands : StateMut → StateMut → Answer → Out → Type 0
Hands old new a o = (out_by new.numbers.now a ≡ o) × SameState old new

-- the same with the table that is left
abbrev pub Leaves : List ℕ → StateMut → StateMut → Answer → Left → Type 0
Leaves t old new a l = (after t (out_by new.numbers.now a) ≡ l) × SameState old new

-- the slot that a walker's next step leaves, behind its parent: "first the entry's left"; below it the entry is damage
abbrev pub left_on : Option Path → Result (ℕ × ℕ) Refusal
left_on None = Ok (no_grand, 0)
left_on (Some q) = if_b (eqb q.here 0) (Err Damaged) (Ok (q.parent, q.here))

-- the same of a walker
abbrev pub left_by : Walker → Result (ℕ × ℕ) Refusal
left_by k = left_on k.path

-- task i of the state walks as k
abbrev pub Walks : List ℕ → ℕ → Walker → Type 0
Walks w i k = (i < 8) × (walker_of (task_at (state_by w) i).work ≡ Some k)
