-- THE CALLS FOR C AND RUST: table and state as numbers, an answer as its number (docs/INTERFACE.md).
use Rattle.std.specs.Prelude.{ℕ, ◌&&◌, not, List, leb, eqb, Some, None, Ok, Err}
use Rattle.std.specs.declared.option.Option.{Option}
use Rattle.std.specs.declared.result.Result.{Result}
use Rattle.terms.specs.declared.Operation.{Operation}
use Rattle.terms.specs.declared.NoOperation.{NoOperation}
use Rattle.terms.specs.declared.Answer.{Answer}
use Rattle.terms.specs.Operations.{operation_at}
use Rattle.tiebeamer.specs.declared.Unasked.{Unasked}
use Rattle.tiebeamer.specs.declared.Unasked.TheVariants.{NoState, NoCall}
use Rattle.terms.specs.declared.State.{State}
use Rattle.terms.specs.declared.Report.{Report}
use Rattle.machine.specs.Choice.{if_b}
use Rattle.terms.specs.Answers.{number_of, price_of}
use Rattle.machine.specs.Step.{Left, step_of}
use Rattle.machine.specs.Calls.{Listed, reset_of, begin_of, abandon_of, tidy_of, figures_of, list_of}
use Rattle.machine.specs.CallFile.{end_line, run_of}
use Rattle.statecode.specs.Code.{encode, decode}

-- the interface's own refusals: numbers that are no state
abbrev pub no_state : ℕ
no_state = 50

-- an operation or a count that no call has
abbrev pub no_call : ℕ
no_call = 51

-- a refusal of the interface's own, as its number
abbrev pub number_refused : Unasked → ℕ
number_refused NoState = no_state
number_refused NoCall = no_call

-- one thing of numbers that are no state, another of the state that they are
abbrev pub by_state : {A : Type 0} → Option State → A → (State → A) → A
by_state None x f = x
by_state (Some st) x f = f st

-- the same of a number that names no operation, or the one that it names
abbrev pub by_operation : {A : Type 0} → Result Operation NoOperation → A → (Operation → A) → A
by_operation (Ok o) x f = f o
by_operation (Err e) x f = x

-- what a call comes to, as its number
abbrev pub number_asked : Result Answer Unasked → ℕ
number_asked (Ok a) = number_of a
number_asked (Err e) = number_refused e

-- and its price: the place lent stays as it is where the call is not made
abbrev pub price_asked : ℕ → Result Answer Unasked → ℕ
price_asked p (Ok a) = price_of a
price_asked p (Err e) = p

-- what a call leaves: the number answered, the price in its lent place, table and state
pub record Told : Type 0 where
  pub answer : ℕ
  pub price : ℕ
  pub table : List ℕ
  pub state : List ℕ

-- the four together
unfoldable pub told : ℕ → ℕ → List ℕ → List ℕ → Told
told a p t w = record { answer = a; price = p; table = t; state = w }

-- what a call of document 01 leaves, as numbers
unfoldable pub as_numbers : Left → Told
as_numbers l = told (number_of l.answer) (price_of l.answer) l.table (encode l.state)

-- "reset, begin, step, run, abandon, tidy": numbers that are no state are refused first, and nothing is changed
unfoldable pub reset_told : List ℕ → List ℕ → Told
reset_told t w = by_state (decode w) (told no_state 0 t w) (λ st. as_numbers (reset_of t st))

-- operation o: 1 look up, 2 put in, 3 take out
unfoldable pub begin_told : List ℕ → List ℕ → ℕ → ℕ → ℕ → ℕ → Told
begin_told t w i o n p =
    by_state (decode w) (told no_state 0 t w)
    (λ st. by_operation (operation_at o) (told no_call 0 t w) (λ y. as_numbers (begin_of t st i y (record { number = n; price = p }))))

-- p: what the place lent for the price holds before
unfoldable pub step_told : List ℕ → List ℕ → ℕ → ℕ → Told
step_told t w i p = by_state (decode w) (told no_state p t w) (λ st. as_numbers (step_of t st i))

-- "Count is 1 to 65,535 for operation 4"
unfoldable pub run_told : List ℕ → List ℕ → ℕ → ℕ → ℕ → Told
run_told t w i c p =
    by_state (decode w) (told no_state p t w)
    (λ st. if_b (not (leb 1 c && leb c 65535)) (told no_call p t w) (as_numbers (run_of c t st i)))

-- the task given up
unfoldable pub abandon_told : List ℕ → List ℕ → ℕ → Told
abandon_told t w i = by_state (decode w) (told no_state 0 t w) (λ st. as_numbers (abandon_of t st i))

-- the slots that the entry does not reach
unfoldable pub tidy_told : List ℕ → List ℕ → Told
tidy_told t w = by_state (decode w) (told no_state 0 t w) (λ st. as_numbers (tidy_of t st))

-- what figures and list leave: the number answered, and the places lent
pub record Shown : Type 0 where
  pub answer : ℕ
  pub places : List ℕ

-- both together
unfoldable pub shown : ℕ → List ℕ → Shown
shown a l = record { answer = a; places = l }

-- "Refused figures or lists write nothing."
unfoldable pub report_shown : Report → List ℕ → Shown
report_shown r l = if_b (not (eqb (number_of r.answer) 0)) (shown (number_of r.answer) l) (shown 0 (end_line r.figures))

-- the seven figures
unfoldable pub figures_shown : List ℕ → List ℕ → List ℕ → Shown
figures_shown t w l = by_state (decode w) (shown no_state l) (λ st. report_shown (figures_of t st) l)

-- a list by its number
unfoldable pub listed_shown : Listed → Shown
listed_shown r = shown (number_of r.answer) r.room

-- the list of fares
unfoldable pub list_shown : List ℕ → List ℕ → List ℕ → Shown
list_shown t w l = by_state (decode w) (shown no_state l) (λ st. listed_shown (list_of t st l))
