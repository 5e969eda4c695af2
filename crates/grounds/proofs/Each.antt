-- EACH CALL AND EACH REFUSAL: given exactly when its ground holds and none of the earlier ones does. Then all answers of the call, and the
-- refusals that it never gives.
use Prim.Native.Nat.{ℕ}
use mathlib.Core.Path.{◌≡◌, refl}
use mathlib.Core.Bool.{Bool, true, ◌&&◌}
use mathlib.Core.List.{List, [], ◌∷◌, ◌++◌}
use mathlib.Core.Logic.{inl, inr}
use Rattle.terms.specs.declared.Job.{Job}
use Rattle.terms.specs.declared.Operation.{Operation}
use Rattle.terms.specs.declared.State.{State}
use Rattle.terms.specs.Answers.{number_of}
use Rattle.machine.specs.Step.{step_of}
use Rattle.machine.specs.Calls.{reset_of, begin_of, abandon_of, tidy_of, figures_of, list_of}
use Rattle.machine.proofs.Tests.{both_first, both-second}
use Rattle.grounds.specs.Order.{Refusal, Given, Among, numbers, Ruled}
use Rattle.grounds.specs.Calls.{length18, task10, range11, busy12, idle13, counts17, settling6}
use Rattle.grounds.specs.Step.{step17, limit16, room15, unsettled6}
use Rattle.grounds.specs.Whole.{some14, whole17, lent15}
use Rattle.grounds.proofs.Lists.{among_as}
use Rattle.grounds.proofs.Falls.{without, not_among}
use Rattle.grounds.proofs.Calls.{reset-ruled, begin-ruled, abandon-ruled}
use Rattle.grounds.proofs.Steps.{step-ruled}
use Rattle.grounds.proofs.Whole.{tidy-ruled, figures-ruled, list-ruled}

-- none of these numbers is one that the call can answer
abbrev strange : List ℕ → List ℕ → Bool
strange [] is = true
strange (k ∷ ks) is = without k is && strange ks is

apart_from : (a : ℕ) (is ks : List ℕ) → Among is a → strange ks is ≡ true → ¬ (Among ks a)
apart_from a is [] h e x = x
apart_from a is (k ∷ ks) h e (inl q) = not_among k is (both_first (without k is) _ e) (among_as is a k q h)
apart_from a is (k ∷ ks) h e (inr x) = apart_from a is ks h (both-second (without k is) _ e) x

never : (ks : List ℕ) {a : ℕ} {served : List ℕ} {rs : List Refusal} → Ruled a served rs → strange ks (numbers rs ++ served) ≡ true → ¬ (Among ks a)
never ks {a} {served} {rs} r e = apart_from a (numbers rs ++ served) ks r.total e

module _ (t : List ℕ) (st : State) where
  -- RESET
  abbrev reset : ℕ
  reset = number_of (reset_of t st).answer

  pub reset-18 : Given reset [] (length18 t)
  reset-18 = (reset-ruled t st).each.0

  pub reset-answers : Among (18 ∷ 0 ∷ []) reset
  reset-answers = (reset-ruled t st).total

  pub reset-never : ¬ (Among (10 ∷ 11 ∷ 12 ∷ 13 ∷ 14 ∷ 15 ∷ 16 ∷ 17 ∷ 19 ∷ []) reset)
  reset-never = never (10 ∷ 11 ∷ 12 ∷ 13 ∷ 14 ∷ 15 ∷ 16 ∷ 17 ∷ 19 ∷ []) (reset-ruled t st) refl

  -- BEGIN
  module _ (i : ℕ) (o : Operation) (j : Job) where
    abbrev begin : ℕ
    begin = number_of (begin_of t st i o j).answer

    pub begin-18 : Given begin [] (length18 t)
    begin-18 = (begin-ruled t st i o j).each.0

    pub begin-10 : Given begin (length18 t ∷ []) (task10 i)
    begin-10 = (begin-ruled t st i o j).each.1.0

    pub begin-11 : Given begin (length18 t ∷ task10 i ∷ []) (range11 o j)
    begin-11 = (begin-ruled t st i o j).each.1.1.0

    pub begin-12 : Given begin (length18 t ∷ task10 i ∷ range11 o j ∷ []) (busy12 st i)
    begin-12 = (begin-ruled t st i o j).each.1.1.1.0

    pub begin-17 : Given begin (length18 t ∷ task10 i ∷ range11 o j ∷ busy12 st i ∷ []) (counts17 st)
    begin-17 = (begin-ruled t st i o j).each.1.1.1.1.0

    pub begin-answers : Among (18 ∷ 10 ∷ 11 ∷ 12 ∷ 17 ∷ 0 ∷ []) begin
    begin-answers = (begin-ruled t st i o j).total

    pub begin-never : ¬ (Among (13 ∷ 14 ∷ 15 ∷ 16 ∷ 19 ∷ []) begin)
    begin-never = never (13 ∷ 14 ∷ 15 ∷ 16 ∷ 19 ∷ []) (begin-ruled t st i o j) refl

  module _ (i : ℕ) where
    -- STEP
    abbrev step : ℕ
    step = number_of (step_of t st i).answer

    pub step-18 : Given step [] (length18 t)
    step-18 = (step-ruled t st i).each.0

    pub step-10 : Given step (length18 t ∷ []) (task10 i)
    step-10 = (step-ruled t st i).each.1.0

    pub step-13 : Given step (length18 t ∷ task10 i ∷ []) (idle13 st i)
    step-13 = (step-ruled t st i).each.1.1.0

    pub step-17 : Given step (length18 t ∷ task10 i ∷ idle13 st i ∷ []) (step17 t st i)
    step-17 = (step-ruled t st i).each.1.1.1.0

    pub step-16 : Given step (length18 t ∷ task10 i ∷ idle13 st i ∷ step17 t st i ∷ []) (limit16 t st i)
    step-16 = (step-ruled t st i).each.1.1.1.1.0

    pub step-15 : Given step (length18 t ∷ task10 i ∷ idle13 st i ∷ step17 t st i ∷ limit16 t st i ∷ []) (room15 t st i)
    step-15 = (step-ruled t st i).each.1.1.1.1.1.0

    -- 6 is no refusal; it comes where none is given
    pub step-6 : Given step (length18 t ∷ task10 i ∷ idle13 st i ∷ step17 t st i ∷ limit16 t st i ∷ room15 t st i ∷ []) (unsettled6 t st i)
    step-6 = (step-ruled t st i).each.1.1.1.1.1.1.0

    pub step-answers : Among (18 ∷ 10 ∷ 13 ∷ 17 ∷ 16 ∷ 15 ∷ 6 ∷ 0 ∷ 1 ∷ 2 ∷ 3 ∷ 4 ∷ 5 ∷ []) step
    step-answers = (step-ruled t st i).total

    pub step-never : ¬ (Among (11 ∷ 12 ∷ 14 ∷ 19 ∷ []) step)
    step-never = never (11 ∷ 12 ∷ 14 ∷ 19 ∷ []) (step-ruled t st i) refl

    -- ABANDON
    abbrev abandon : ℕ
    abandon = number_of (abandon_of t st i).answer

    pub abandon-18 : Given abandon [] (length18 t)
    abandon-18 = (abandon-ruled t st i).each.0

    pub abandon-10 : Given abandon (length18 t ∷ []) (task10 i)
    abandon-10 = (abandon-ruled t st i).each.1.0

    pub abandon-13 : Given abandon (length18 t ∷ task10 i ∷ []) (idle13 st i)
    abandon-13 = (abandon-ruled t st i).each.1.1.0

    pub abandon-17 : Given abandon (length18 t ∷ task10 i ∷ idle13 st i ∷ []) (counts17 st)
    abandon-17 = (abandon-ruled t st i).each.1.1.1.0

    pub abandon-6 : Given abandon (length18 t ∷ task10 i ∷ idle13 st i ∷ counts17 st ∷ []) (settling6 st i)
    abandon-6 = (abandon-ruled t st i).each.1.1.1.1.0

    pub abandon-answers : Among (18 ∷ 10 ∷ 13 ∷ 17 ∷ 6 ∷ 0 ∷ []) abandon
    abandon-answers = (abandon-ruled t st i).total

    pub abandon-never : ¬ (Among (11 ∷ 12 ∷ 14 ∷ 15 ∷ 16 ∷ 19 ∷ []) abandon)
    abandon-never = never (11 ∷ 12 ∷ 14 ∷ 15 ∷ 16 ∷ 19 ∷ []) (abandon-ruled t st i) refl

  -- TIDY
  abbrev tidy : ℕ
  tidy = number_of (tidy_of t st).answer

  pub tidy-18 : Given tidy [] (length18 t)
  tidy-18 = (tidy-ruled t st).each.0

  pub tidy-14 : Given tidy (length18 t ∷ []) (some14 st)
  tidy-14 = (tidy-ruled t st).each.1.0

  pub tidy-17 : Given tidy (length18 t ∷ some14 st ∷ []) (whole17 t st)
  tidy-17 = (tidy-ruled t st).each.1.1.0

  pub tidy-answers : Among (18 ∷ 14 ∷ 17 ∷ 0 ∷ []) tidy
  tidy-answers = (tidy-ruled t st).total

  pub tidy-never : ¬ (Among (10 ∷ 11 ∷ 12 ∷ 13 ∷ 15 ∷ 16 ∷ 19 ∷ []) tidy)
  tidy-never = never (10 ∷ 11 ∷ 12 ∷ 13 ∷ 15 ∷ 16 ∷ 19 ∷ []) (tidy-ruled t st) refl

  -- FIGURES
  abbrev figures : ℕ
  figures = number_of (figures_of t st).answer

  pub figures-18 : Given figures [] (length18 t)
  figures-18 = (figures-ruled t st).each.0

  pub figures-17 : Given figures (length18 t ∷ []) (whole17 t st)
  figures-17 = (figures-ruled t st).each.1.0

  pub figures-answers : Among (18 ∷ 17 ∷ 0 ∷ []) figures
  figures-answers = (figures-ruled t st).total

  pub figures-never : ¬ (Among (10 ∷ 11 ∷ 12 ∷ 13 ∷ 14 ∷ 15 ∷ 16 ∷ 19 ∷ []) figures)
  figures-never = never (10 ∷ 11 ∷ 12 ∷ 13 ∷ 14 ∷ 15 ∷ 16 ∷ 19 ∷ []) (figures-ruled t st) refl

  -- LIST
  module _ (room : List ℕ) where
    abbrev list : ℕ
    list = number_of (list_of t st room).answer

    pub list-18 : Given list [] (length18 t)
    list-18 = (list-ruled t st room).each.0

    pub list-17 : Given list (length18 t ∷ []) (whole17 t st)
    list-17 = (list-ruled t st room).each.1.0

    pub list-15 : Given list (length18 t ∷ whole17 t st ∷ []) (lent15 t room)
    list-15 = (list-ruled t st room).each.1.1.0

    pub list-answers : Among (18 ∷ 17 ∷ 15 ∷ 0 ∷ []) list
    list-answers = (list-ruled t st room).total

    pub list-never : ¬ (Among (10 ∷ 11 ∷ 12 ∷ 13 ∷ 14 ∷ 16 ∷ 19 ∷ []) list)
    list-never = never (10 ∷ 11 ∷ 12 ∷ 13 ∷ 14 ∷ 16 ∷ 19 ∷ []) (list-ruled t st room) refl
