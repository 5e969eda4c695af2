-- The interface's own refusals: 50 is given exactly where the numbers are no state, and 50 and 51 change nothing.
use mathlib.Core.Path.{◌≡◌, refl, ap}
use mathlib.Core.List.{List}
use Prim.Native.Nat.{ℕ, ◌≤◌}
use native.Mathlib.Omega.{arith}
use Rattle.std.specs.Prelude.{Some, None, Ok, Err}
use Rattle.std.specs.declared.option.Option.{Option}
use Rattle.std.specs.declared.result.Result.{Result}
use Rattle.terms.specs.declared.Operation.{Operation}
use Rattle.terms.specs.declared.NoOperation.{NoOperation}
use Rattle.terms.specs.declared.State.{State}
use Rattle.terms.specs.Operations.{operation_at}
use Rattle.machine.specs.Calls.{begin_of}
use Rattle.terms.specs.declared.Report.{Report}
use Rattle.machine.specs.Step.{Left}
use Rattle.machine.specs.Calls.{Listed}
use Rattle.machine.proofs.Choice.{if_elim}
use Rattle.statecode.specs.Code.{decode}
use Rattle.tiebeamer.specs.Interface.{by_state, by_operation, Told, Shown, told, as_numbers, reset_told, begin_told, step_told, run_told, abandon_told, tidy_told, shown, report_shown, figures_shown, listed_shown, list_shown}
use Rattle.tiebeamer.specs.Asked.{Asked, reset, begin, step, run, abandon, tidy, figures, list, answer_to}
use Rattle.tiebeamer.proofs.Never.{number-most}

refused : {A : Type 0} (d : Option State) (x : A) (y : State → A) → d ≡ None → by_state d x y ≡ x
refused d x y e = rw e refl

-- every call refuses numbers that are no state; that no other numbers are refused so is `answers_fine` in Never.antt
pub none-refused : (a : Asked) (w : List ℕ) → decode w ≡ None → answer_to a w ≡ 50
unfolding answer_to reset_told begin_told step_told run_told abandon_told tidy_told figures_shown list_shown told shown
none-refused (reset t) w e = ap (λ (o : Told). o.answer) (refused (decode w) _ _ e)
none-refused (begin t i o n p) w e = ap (λ (o : Told). o.answer) (refused (decode w) _ _ e)
none-refused (step t i p) w e = ap (λ (o : Told). o.answer) (refused (decode w) _ _ e)
none-refused (run t i c p) w e = ap (λ (o : Told). o.answer) (refused (decode w) _ _ e)
none-refused (abandon t i) w e = ap (λ (o : Told). o.answer) (refused (decode w) _ _ e)
none-refused (tidy t) w e = ap (λ (o : Told). o.answer) (refused (decode w) _ _ e)
none-refused (figures t l) w e = ap (λ (o : Shown). o.answer) (refused (decode w) _ _ e)
none-refused (list t l) w e = ap (λ (o : Shown). o.answer) (refused (decode w) _ _ e)

-- whether the numbers are a state or not
by_known : {A : Type 0} (P : A → Type 0) (d : Option State) (x : A) (y : State → A) → P x → ((st : State) → P (y st)) → P (by_state d x y)
by_known P None x y f g = f
by_known P (Some st) x y f g = g st

-- an answer that is not document 01's: price place, table and state are as they were
abbrev pub Stays : ℕ → List ℕ → List ℕ → Told → Type 0
Stays p t w o = 20 ≤ o.answer → (o.price ≡ p) × (o.table ≡ t) × (o.state ≡ w)

-- the same of the places lent to figures and list
abbrev pub Unwritten : List ℕ → Shown → Type 0
Unwritten l o = 20 ≤ o.answer → o.places ≡ l

module _ (p : ℕ) (t w : List ℕ) where
  own-stays : (a : ℕ) → Stays p t w (told a p t w)
  unfolding told
  own-stays a h = (refl, refl, refl)

  numbers_stay : (l : Left) → Stays p t w (as_numbers l)
  unfolding as_numbers told
  numbers_stay l h = absurd (omega (arith, h, number-most l.answer))

module _ (t w : List ℕ) where
  pub reset-stays : Stays 0 t w (reset_told t w)
  unfolding reset_told
  reset-stays = by_known (Stays 0 t w) (decode w) _ _ (own-stays 0 t w 50) (λ st. numbers_stay 0 t w _)

  pub begin-stays : (i o n p : ℕ) → Stays 0 t w (begin_told t w i o n p)
  unfolding begin_told
  begin-stays i o n p = by_known (Stays 0 t w) (decode w) _ _ (own-stays 0 t w 50) (λ st. of_operation st (operation_at o))
    where
      of_operation :
          (st : State) (r : Result Operation NoOperation)
          → Stays 0 t w (by_operation r (told 51 0 t w) (λ y. as_numbers (begin_of t st i y (record { number = n; price = p }))))
      of_operation st (Ok y) = numbers_stay 0 t w _
      of_operation st (Err x) = own-stays 0 t w 51

  pub step_stays : (i p : ℕ) → Stays p t w (step_told t w i p)
  unfolding step_told
  step_stays i p = by_known (Stays p t w) (decode w) _ _ (own-stays p t w 50) (λ st. numbers_stay p t w _)

  pub run-stays : (i c p : ℕ) → Stays p t w (run_told t w i c p)
  unfolding run_told
  run-stays i c p =
      by_known (Stays p t w) (decode w) _ _ (own-stays p t w 50) (λ st. if_elim (Stays p t w) _ (λ e. own-stays p t w 51) (λ e. numbers_stay p t w _))

  pub abandon-stays : (i : ℕ) → Stays 0 t w (abandon_told t w i)
  unfolding abandon_told
  abandon-stays i = by_known (Stays 0 t w) (decode w) _ _ (own-stays 0 t w 50) (λ st. numbers_stay 0 t w _)

  pub tidy-stays : Stays 0 t w (tidy_told t w)
  unfolding tidy_told
  tidy-stays = by_known (Stays 0 t w) (decode w) _ _ (own-stays 0 t w 50) (λ st. numbers_stay 0 t w _)

  report_unwritten : (r : Report) (l : List ℕ) → Unwritten l (report_shown r l)
  unfolding report_shown shown
  report_unwritten r l = if_elim (Unwritten l) _ (λ e h. refl) (λ e h. absurd (omega (arith, h)))

  listed-unwritten : (r : Listed) (l : List ℕ) → Unwritten l (listed_shown r)
  unfolding listed_shown shown
  listed-unwritten r l h = absurd (omega (arith, h, number-most r.answer))

  none-unwritten : (l : List ℕ) → Unwritten l (shown 50 l)
  unfolding shown
  none-unwritten l h = refl

  pub figures-unwritten : (l : List ℕ) → Unwritten l (figures_shown t w l)
  unfolding figures_shown
  figures-unwritten l = by_known (Unwritten l) (decode w) _ _ (none-unwritten l) (λ st. report_unwritten _ l)

  pub list-unwritten : (l : List ℕ) → Unwritten l (list_shown t w l)
  unfolding list_shown
  list-unwritten l = by_known (Unwritten l) (decode w) _ _ (none-unwritten l) (λ st. listed-unwritten _ l)
