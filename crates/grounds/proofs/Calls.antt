-- Reset, begin and abandon: each refusal is given exactly when its ground holds and no earlier one does.
use Prim.Native.Nat.{ℕ}
use mathlib.Core.Path.{refl}
use mathlib.Core.Bool.{not}
use mathlib.Core.List.{List, [], ◌∷◌}
use mathlib.Core.Logic.{inl}
use lib.ListN.{length}
use Rattle.terms.specs.declared.Job.{Job}
use Rattle.terms.specs.declared.Operation.{Operation}
use Rattle.terms.specs.declared.Out.{Out}
use Rattle.terms.specs.declared.State.{State}
use Rattle.terms.specs.Answers.{number_of}
use Rattle.machine.specs.Contract.{after}
use Rattle.machine.specs.Table.{length_fits}
use Rattle.machine.specs.State.{task_at}
use Rattle.machine.specs.Step.{Left}
use Rattle.machine.specs.Calls.{reset_of, begin_of, abandoned_out, abandon_of}
use Rattle.grounds.specs.Order.{Ruled}
use Rattle.grounds.specs.State.{TableLength, TaskSettles}
use Rattle.grounds.specs.Calls.{refuse, reset_refusals, begin_refusals, abandon_refusals}
use Rattle.grounds.proofs.Says.{Says, says_not, says_lt, says_struck}
use Rattle.grounds.proofs.Falls.{Falls, serves, ruled, look}
use Rattle.grounds.proofs.States.{says_fits, denies-range, says_busy, denies-idle, denies-counts, says_settles}

-- the number that a call answers
abbrev pub number_left : Left → ℕ
number_left l = number_of l.answer

-- 18
pub says_length : (t : List ℕ) → Says (not (length_fits (length t))) (TableLength t)
says_length t = says_not _ (says_fits t)

module _ (t : List ℕ) (st : State) where
  -- RESET: 18
  pub reset-ruled : Ruled (number_of (reset_of t st).answer) (0 ∷ []) (reset_refusals t)
  unfolding reset_of
  reset-ruled = ruled _ _ (reset_refusals t) refl (look number_left _ _ (says_length t) refl (λ h. serves (inl refl)))

  -- BEGIN: 18, 10, 11, 12, 17
  pub begin-ruled :
      (i : ℕ) (o : Operation) (j : Job) → Ruled (number_of (begin_of t st i o j).answer) (0 ∷ []) (begin_refusals t st i o j)
  unfolding begin_of
  begin-ruled i o j =
      ruled _ _ (begin_refusals t st i o j) refl
      (look number_left _ _ (says_length t) refl
      (λ h. look number_left _ _ (says_lt 7 i) refl
      (λ h. look number_left _ _ (says_struck _ (denies-range o j)) refl
      (λ h. look number_left _ _ (says_busy (task_at st i).work) refl
      (λ h. look number_left _ _ (says_struck _ (denies-counts st)) refl (λ h. serves (inl refl)))))))

  module _ (i : ℕ) where
    -- what is left once no ground of a refusal holds
    abandoned-falls : Falls (0 ∷ []) (number_left (after t (abandoned_out st i (task_at st i)))) (refuse 6 (TaskSettles st i) ∷ [])
    unfolding after abandoned_out
    abandoned-falls = look (λ (o : Out). number_of o.answer) _ _ (says_settles (task_at st i).work) refl (λ h. serves (inl refl))

    -- ABANDON: 18, 10, 13, 17; then 6 if the task was settling, otherwise 0
    pub abandon-ruled : Ruled (number_of (abandon_of t st i).answer) (0 ∷ []) (abandon_refusals t st i)
    unfolding abandon_of
    abandon-ruled =
        ruled _ _ (abandon_refusals t st i) refl
        (look number_left _ _ (says_length t) refl
        (λ h. look number_left _ _ (says_lt 7 i) refl
        (λ h. look number_left _ _ (says_struck _ (denies-idle (task_at st i).work)) refl
        (λ h. look number_left _ _ (says_struck _ (denies-counts st)) refl (λ h. abandoned-falls)))))
