-- The rows of the interface's definitions, as the code goes through them: numbers that are no state, no such call, the call.
use mathlib.Core.Path.{◌≡◌, refl, sym, ◌∙◌}
use mathlib.Core.Bool.{true, false, ◌&&◌}
use mathlib.Core.List.{List}
use Prim.Native.Nat.{ℕ}
use lib.Dec.{leb, eqb}
use borrow.Author.Tests.{eq-eqb, ne_eqb}
use Rattle.std.specs.Prelude.{Some, None, Ok, Err}
use Rattle.std.specs.Result.{IsErrAnd}
use Rattle.std.specs.declared.result.Result.{Result}
use Rattle.terms.specs.declared.Job.{Job}
use Rattle.terms.specs.declared.Operation.{Operation}
use Rattle.terms.specs.declared.NoOperation.{NoOperation}
use Rattle.terms.specs.declared.Answer.{Answer}
use Rattle.terms.specs.declared.Out.{Out}
use Rattle.terms.specs.declared.Report.{Report}
use Rattle.terms.specs.declared.State.{State}
use Rattle.terms.specs.Operations.{operation_at}
use Rattle.machine.specs.Choice.{if_b}
use Rattle.terms.specs.Answers.{number_of, price_of}
use Rattle.machine.specs.Contract.{after}
use Rattle.machine.specs.Step.{Left, step_of}
use Rattle.machine.specs.Calls.{reset_of, begin_of, abandon_of, tidy_of, figures_of, list_of}
use Rattle.machine.specs.CallFile.{end_line, run_of}
use Rattle.whole.specs.Whole.{listed}
use Rattle.statecode.specs.Code.{encode, state_by, is_state, decode}
use Rattle.statecode.proofs.Own.{own-encode}
use Rattle.statecode.proofs.Inverse.{state_some}
use Rattle.tiebeamer.specs.Numbers.{out_by}
use Rattle.tiebeamer.specs.Interface.{told, as_numbers, reset_told, begin_told, step_told, run_told, abandon_told, tidy_told, shown, report_shown, figures_shown, listed_shown, list_shown}
use Rattle.tiebeamer.proofs.Priceless.{Free, reset-free, begin-free, abandon-free, tidy-free}

-- what a call left and handed back, as numbers
as_numbers_lem :
    (l : Left) (t : List ℕ) (o : Out) → after t o ≡ l → (p : ℕ) (w : List ℕ) → p ≡ price_of o.answer → w ≡ encode o.state
    → told (number_of o.answer) p t w ≡ as_numbers l
unfolding as_numbers after
as_numbers_lem l t o e p w ep ew = rw (← e, ep, ew) refl

no-price : (l : Left) (t : List ℕ) (o : Out) → after t o ≡ l → Free l → 0 ≡ price_of o.answer
unfolding after
no-price l t o e f = sym (rw (← e) at f)

-- an error that `?` hands on
pub err_is : {T E : Type 0} (r : Result T E) (e : E) → IsErrAnd r (λ x. x ≡ e) → r ≡ Err e
err_is (Ok x) e h = absurd h
err_is (Err y) e h = rw h refl

-- numbers that are no state
module _ (t w : List ℕ) (e : decode w ≡ None) where
  pub reset-none : told 50 0 t w ≡ reset_told t w
  unfolding reset_told
  reset-none = rw e refl

  pub begin-none : (i o n p : ℕ) → told 50 0 t w ≡ begin_told t w i o n p
  unfolding begin_told
  begin-none i o n p = rw e refl

  pub step-none : (i p : ℕ) → told 50 p t w ≡ step_told t w i p
  unfolding step_told
  step-none i p = rw e refl

  pub run_none : (i c p : ℕ) → told 50 p t w ≡ run_told t w i c p
  unfolding run_told
  run_none i c p = rw e refl

  pub abandon-none : (i : ℕ) → told 50 0 t w ≡ abandon_told t w i
  unfolding abandon_told
  abandon-none i = rw e refl

  pub tidy-none : told 50 0 t w ≡ tidy_told t w
  unfolding tidy_told
  tidy-none = rw e refl

  pub figures-none : (l : List ℕ) → shown 50 l ≡ figures_shown t w l
  unfolding figures_shown
  figures-none l = rw e refl

  pub list-none : (l : List ℕ) → shown 50 l ≡ list_shown t w l
  unfolding list_shown
  list-none l = rw e refl

module _ (t w : List ℕ) (st : State) (e : decode w ≡ Some st) where
  pub begin-other : (i o n p : ℕ) (x : NoOperation) → operation_at o ≡ Err x → told 51 0 t w ≡ begin_told t w i o n p
  unfolding begin_told
  begin-other i o n p x h = rw (e, h) refl

  pub run-other : (i c p : ℕ) → (leb 1 c && leb c 65535) ≡ false → told 51 p t w ≡ run_told t w i c p
  unfolding run_told if_b
  run-other i c p h = rw (e, h) refl

  -- the call is made: it left t' and w', and handed back r
  module _ (t' : List ℕ) (r : Out) (w' : List ℕ) (ew : w' ≡ encode r.state) where
    pub reset-made : after t' r ≡ reset_of t st → told (number_of r.answer) 0 t' w' ≡ reset_told t w
    unfolding reset_told
    reset-made h = rw e (as_numbers_lem _ t' r h 0 w' (no-price _ t' r h (reset-free t st)) ew)

    pub begin-made :
        (i o x p : ℕ) (y : Operation) → operation_at o ≡ Ok y
        → after t' r ≡ begin_of t st i y (record { number = x; price = p }) → told (number_of r.answer) 0 t' w' ≡ begin_told t w i o x p
    unfolding begin_told
    begin-made i o x p y ey h =
        rw (e, ey) (as_numbers_lem _ t' r h 0 w' (no-price _ t' r h (begin-free t st i y (record { number = x; price = p }))) ew)

    pub step-made : (i p : ℕ) → after t' r ≡ step_of t st i → told (number_of r.answer) (price_of r.answer) t' w' ≡ step_told t w i p
    unfolding step_told
    step-made i p h = rw e (as_numbers_lem _ t' r h _ w' refl ew)

    pub run-made :
        (i c p : ℕ) → (leb 1 c && leb c 65535) ≡ true → after t' r ≡ run_of c t st i → told (number_of r.answer) (price_of r.answer) t' w' ≡ run_told t w i c p
    unfolding run_told if_b
    run-made i c p g h = rw (e, g) (as_numbers_lem _ t' r h _ w' refl ew)

    pub abandon-made : (i : ℕ) → after t' r ≡ abandon_of t st i → told (number_of r.answer) 0 t' w' ≡ abandon_told t w i
    unfolding abandon_told
    abandon-made i h = rw e (as_numbers_lem _ t' r h 0 w' (no-price _ t' r h (abandon-free t st i)) ew)

    pub tidy-made : after t' r ≡ tidy_of t st → told (number_of r.answer) 0 t' w' ≡ tidy_told t w
    unfolding tidy_told
    tidy-made h = rw e (as_numbers_lem _ t' r h 0 w' (no-price _ t' r h (tidy-free t st)) ew)

  module _ (l : List ℕ) (r : Report) (er : r ≡ figures_of t st) where
    pub figures-refused : (number_of r.answer ≡ 0 → ⊥) → shown (number_of r.answer) l ≡ figures_shown t w l
    unfolding figures_shown report_shown if_b
    figures-refused h = let z : eqb (number_of r.answer) 0 ≡ false = ne_eqb (number_of r.answer) 0 h in rw (e, ← er, z) refl

    pub figures-made : number_of r.answer ≡ 0 → (l' : List ℕ) → l' ≡ end_line r.figures → shown (number_of r.answer) l' ≡ figures_shown t w l
    unfolding figures_shown report_shown if_b
    figures-made h l' el = let z : eqb (number_of r.answer) 0 ≡ true = eq-eqb (number_of r.answer) 0 h in rw (e, ← er, z, h, el) refl

  pub list-made : (l l' : List ℕ) (a : Answer) → listed a l' ≡ list_of t st l → shown (number_of a) l' ≡ list_shown t w l
  unfolding list_shown listed_shown listed
  list-made l l' a h = rw (e, ← h) refl

-- the same where the state stays in its numbers
module _ (t w : List ℕ) (own : is_state w ≡ true) (t' w' last : List ℕ) (same : last ≡ w') (a : Answer) (kept : is_state w' ≡ true) where
  abbrev Stored : Type 0
  Stored = last ≡ encode (state_by w')

  stored : Stored
  stored = same ∙ sym (own-encode w' kept)

  pub begin-stored :
      (i o : ℕ) (j : Job) (y : Operation) → operation_at o ≡ Ok y → after t' (out_by w' a) ≡ begin_of t (state_by w) i y j
      → told (number_of a) 0 t' last ≡ begin_told t w i o j.number j.price
  begin-stored i o j y ey h = begin-made t w (state_by w) (state_some w own) t' (out_by w' a) last stored i o j.number j.price y ey h

  pub abandon-stored : (i : ℕ) → after t' (out_by w' a) ≡ abandon_of t (state_by w) i → told (number_of a) 0 t' last ≡ abandon_told t w i
  abandon-stored i h = abandon-made t w (state_by w) (state_some w own) t' (out_by w' a) last stored i h

  pub step-stored : (i p : ℕ) → after t' (out_by w' a) ≡ step_of t (state_by w) i → told (number_of a) (price_of a) t' last ≡ step_told t w i p
  step-stored i p h = step-made t w (state_by w) (state_some w own) t' (out_by w' a) last stored i p h

  pub run-stored :
      (i c p : ℕ) → (leb 1 c && leb c 65535) ≡ true → after t' (out_by w' a) ≡ run_of c t (state_by w) i
      → told (number_of a) (price_of a) t' last ≡ run_told t w i c p
  run-stored i c p g h = run-made t w (state_by w) (state_some w own) t' (out_by w' a) last stored i c p g h
