-- The refusal of numbers that are no state is never given on a state that the calls made.
use mathlib.Core.Path.{◌≡◌, refl}
use mathlib.Core.List.{List, [], ◌∷◌}
use Prim.Native.Nat.{ℕ, ◌≤◌}
use native.Mathlib.Omega.{arith}
use lib.ListN.{replicate}
use Rattle.std.specs.Prelude.{Some, Ok, Err}
use Rattle.std.specs.declared.result.Result.{Result}
use Rattle.terms.specs.declared.Operation.{Operation}
use Rattle.terms.specs.declared.NoOperation.{NoOperation}
use Rattle.terms.specs.declared.State.{State}
use Rattle.terms.specs.Operations.{operation_at}
use Rattle.machine.specs.Calls.{begin_of}
use Rattle.terms.specs.declared.Answer.{Answer}
use Rattle.terms.specs.declared.Answer.TheVariants.{Accepted, Found, NotHeld, PutSettled, HeldAlready, TakenOut, PutUnsettled, TaskNumber, OutOfRange, TaskBusy, TaskIdle, SomeBusy, NoRoom, Limit, Damaged, Length, BadRecord}
use Rattle.terms.specs.declared.Report.{Report}
use Rattle.terms.specs.Answers.{number_of}
use Rattle.machine.specs.State.{fresh_state}
use Rattle.machine.specs.Step.{Left}
use Rattle.machine.specs.Calls.{Listed}
use Rattle.machine.proofs.Choice.{if_elim}
use Rattle.statecode.specs.Code.{encode, decode, rows}
use Rattle.statecode.proofs.Inverse.{decode-encode, eight-read}
use Rattle.tiebeamer.specs.Interface.{by_operation, Told, Shown, told, as_numbers, reset_told, begin_told, step_told, run_told, abandon_told, tidy_told, shown, report_shown, figures_shown, listed_shown, list_shown}
use Rattle.tiebeamer.specs.Asked.{Asked, reset, begin, step, run, abandon, tidy, figures, list, answer_to, state_left, state_made}
use Rattle.tiebeamer.proofs.Kept.{Eight, reset-eight, begin-eight, step-eight, run-eight, abandon-eight, tidy-eight}

-- numbers that are a state
abbrev pub Fine : List ℕ → Type 0
Fine w = (st : State) × (decode w ≡ Some st)

-- document 01 numbers its answers up to 19
pub number-most : (a : Answer) → number_of a ≤ 19
number-most Accepted = omega arith
number-most (Found p) = omega arith
number-most NotHeld = omega arith
number-most PutSettled = omega arith
number-most HeldAlready = omega arith
number-most TakenOut = omega arith
number-most PutUnsettled = omega arith
number-most TaskNumber = omega arith
number-most OutOfRange = omega arith
number-most TaskBusy = omega arith
number-most TaskIdle = omega arith
number-most SomeBusy = omega arith
number-most NoRoom = omega arith
number-most Limit = omega arith
number-most Damaged = omega arith
number-most Length = omega arith
number-most BadRecord = omega arith

-- what a call of document 01 leaves is a state, and its number is no refusal of a state
abbrev Good : Told → Type 0
Good o = Fine o.state × (o.answer ≡ 50 → ⊥)

numbers-good : (l : Left) → Eight l → Good (as_numbers l)
unfolding as_numbers told
numbers-good l h = ((l.state, decode-encode l.state h), λ e. absurd (omega (arith, e, number-most l.answer)))

-- nor does the second change the state
other-good : (t w : List ℕ) (p : ℕ) → Fine w → Good (told 51 p t w)
unfolding told
other-good t w p f = (f, λ x. absurd (omega (arith, x)))

-- the same of figures and list, which leave the state
abbrev Answers : Shown → Type 0
Answers o = o.answer ≡ 50 → ⊥

report_answers : (r : Report) (l : List ℕ) → Answers (report_shown r l)
unfolding report_shown shown
report_answers r l = if_elim Answers _ (λ e x. absurd (omega (arith, x, number-most r.answer))) (λ e x. absurd (omega (arith, x)))

listed-answers : (r : Listed) → Answers (listed_shown r)
unfolding listed_shown shown
listed-answers r x = absurd (omega (arith, x, number-most r.answer))

module _ (t w : List ℕ) (f : Fine w) where
  pub reset-good : Good (reset_told t w)
  unfolding reset_told
  reset-good = rw f.1 (numbers-good _ (reset-eight t f.0 (eight-read w f.0 f.1)))

  pub begin-good : (i o n p : ℕ) → Good (begin_told t w i o n p)
  unfolding begin_told
  begin-good i o n p = rw f.1 (of_operation (operation_at o))
    where
      of_operation : (r : Result Operation NoOperation) → Good (by_operation r (told 51 0 t w) (λ y. as_numbers (begin_of t f.0 i y (record { number = n; price = p }))))
      of_operation (Ok y) = numbers-good _ (begin-eight t f.0 (eight-read w f.0 f.1) i y _)
      of_operation (Err x) = other-good t w 0 f

  pub step-good : (i p : ℕ) → Good (step_told t w i p)
  unfolding step_told
  step-good i p = rw f.1 (numbers-good _ (step-eight t f.0 (eight-read w f.0 f.1) i))

  pub run-good : (i c p : ℕ) → Good (run_told t w i c p)
  unfolding run_told
  run-good i c p = rw f.1 (if_elim Good _ (λ e. other-good t w p f) (λ e. numbers-good _ (run-eight c t f.0 i (eight-read w f.0 f.1))))

  pub abandon-good : (i : ℕ) → Good (abandon_told t w i)
  unfolding abandon_told
  abandon-good i = rw f.1 (numbers-good _ (abandon-eight t f.0 (eight-read w f.0 f.1) i))

  pub tidy-good : Good (tidy_told t w)
  unfolding tidy_told
  tidy-good = rw f.1 (numbers-good _ (tidy-eight t f.0 (eight-read w f.0 f.1)))

  pub figures-answers : (l : List ℕ) → Answers (figures_shown t w l)
  unfolding figures_shown
  figures-answers l = rw f.1 (report_answers _ l)

  pub list-answers : (l : List ℕ) → Answers (list_shown t w l)
  unfolding list_shown
  list-answers l = rw f.1 (listed-answers _)

-- a call leaves a state where it found one
pub left-fine : (a : Asked) (w : List ℕ) → Fine w → Fine (state_left a w)
unfolding state_left
left-fine (reset t) w f = (reset-good t w f).0
left-fine (begin t i o n p) w f = (begin-good t w f i o n p).0
left-fine (step t i p) w f = (step-good t w f i p).0
left-fine (run t i c p) w f = (run-good t w f i c p).0
left-fine (abandon t i) w f = (abandon-good t w f i).0
left-fine (tidy t) w f = (tidy-good t w f).0
left-fine (figures t l) w f = f
left-fine (list t l) w f = f

zeros-fine : Fine (replicate 122 0)
unfolding encode rows
zeros-fine = (fresh_state, decode-encode fresh_state refl)

-- what calls made from zeros on is a state
pub made-fine : (past : List Asked) → Fine (state_made past)
unfolding state_made
made-fine [] = zeros-fine
made-fine (a ∷ past) = left-fine a (state_made past) (made-fine past)

pub answers_fine : (a : Asked) (w : List ℕ) → Fine w → answer_to a w ≡ 50 → ⊥
unfolding answer_to
answers_fine (reset t) w f = (reset-good t w f).1
answers_fine (begin t i o n p) w f = (begin-good t w f i o n p).1
answers_fine (step t i p) w f = (step-good t w f i p).1
answers_fine (run t i c p) w f = (run-good t w f i c p).1
answers_fine (abandon t i) w f = (abandon-good t w f i).1
answers_fine (tidy t) w f = (tidy-good t w f).1
answers_fine (figures t l) w f = figures-answers t w f l
answers_fine (list t l) w f = list-answers t w f l

-- whatever calls were made before, on whatever tables, and whatever is asked next
pub never-refused : (past : List Asked) (a : Asked) → answer_to a (state_made past) ≡ 50 → ⊥
never-refused past a = answers_fine a (state_made past) (made-fine past)
