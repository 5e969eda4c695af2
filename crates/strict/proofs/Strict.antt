-- For every public call: two outcomes that meet its promise are equal. The promises are the contracts' own words.
use mathlib.Core.Path.{◌≡◌, refl, sym, ap, ◌∙◌}
use Prim.Native.Nat.{ℕ}
use mathlib.Core.List.{List}
use Rattle.terms.specs.declared.Job.{Job}
use Rattle.terms.specs.declared.Operation.{Operation}
use Rattle.terms.specs.declared.State.{State}
use Rattle.terms.specs.declared.Answer.{Answer}
use Rattle.terms.specs.declared.Out.{Out}
use Rattle.terms.specs.declared.Report.{Report}
use Rattle.machine.specs.Contract.{after}
use Rattle.machine.specs.Step.{Left, step_of}
use Rattle.machine.specs.Calls.{Listed, reset_of, begin_of, abandon_of, tidy_of, figures_of, list_of}
use Rattle.whole.specs.Whole.{listed}

-- a table and what is handed back are read off what is left of the call
same-table : (t₁ t₂ : List ℕ) (o₁ o₂ : Out) (l : Left) → after t₁ o₁ ≡ l → after t₂ o₂ ≡ l → t₁ ≡ t₂
unfolding after
same-table t₁ t₂ o₁ o₂ l e₁ e₂ = ap (λ (x : Left). x.table) (e₁ ∙ sym e₂)

out_of : Left → Out
out_of l = record { state = l.state; answer = l.answer }

same_out : (t₁ t₂ : List ℕ) (o₁ o₂ : Out) (l : Left) → after t₁ o₁ ≡ l → after t₂ o₂ ≡ l → o₁ ≡ o₂
unfolding after out_of
same_out t₁ t₂ o₁ o₂ l e₁ e₂ = ap out_of (e₁ ∙ sym e₂)

module _ (t : List ℕ) (st : State) (t₁ t₂ : List ℕ) (o₁ o₂ : Out) where
  pub reset-strict : after t₁ o₁ ≡ reset_of t st → after t₂ o₂ ≡ reset_of t st → (t₁ ≡ t₂) × (o₁ ≡ o₂)
  reset-strict e f = (same-table t₁ t₂ o₁ o₂ _ e f, same_out t₁ t₂ o₁ o₂ _ e f)

  pub step-strict : (i : ℕ) → after t₁ o₁ ≡ step_of t st i → after t₂ o₂ ≡ step_of t st i → (t₁ ≡ t₂) × (o₁ ≡ o₂)
  step-strict i e f = (same-table t₁ t₂ o₁ o₂ _ e f, same_out t₁ t₂ o₁ o₂ _ e f)

  pub tidy-strict : after t₁ o₁ ≡ tidy_of t st → after t₂ o₂ ≡ tidy_of t st → (t₁ ≡ t₂) × (o₁ ≡ o₂)
  tidy-strict e f = (same-table t₁ t₂ o₁ o₂ _ e f, same_out t₁ t₂ o₁ o₂ _ e f)

-- begin, abandon, figures and list are lent a table that they cannot change
module _ (t : List ℕ) (st : State) where
  pub begin-strict : (i : ℕ) (o : Operation) (j : Job) (o₁ o₂ : Out) → after t o₁ ≡ begin_of t st i o j → after t o₂ ≡ begin_of t st i o j → o₁ ≡ o₂
  begin-strict i o j o₁ o₂ e f = same_out t t o₁ o₂ _ e f

  pub abandon-strict : (i : ℕ) (o₁ o₂ : Out) → after t o₁ ≡ abandon_of t st i → after t o₂ ≡ abandon_of t st i → o₁ ≡ o₂
  abandon-strict i o₁ o₂ e f = same_out t t o₁ o₂ _ e f

  pub figures-strict : (r₁ r₂ : Report) → r₁ ≡ figures_of t st → r₂ ≡ figures_of t st → r₁ ≡ r₂
  figures-strict r₁ r₂ e f = e ∙ sym f

  pub list-strict :
      (room room₁ room₂ : List ℕ) (a₁ a₂ : Answer) → listed a₁ room₁ ≡ list_of t st room → listed a₂ room₂ ≡ list_of t st room
      → (a₁ ≡ a₂) × (room₁ ≡ room₂)
  unfolding listed
  list-strict room room₁ room₂ a₁ a₂ e f =
      (ap (λ (x : Listed). x.answer) (e ∙ sym f), ap (λ (x : Listed). x.room) (e ∙ sym f))
