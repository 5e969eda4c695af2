-- "A refusal changes nothing": reset, begin, abandon, tidy and list, for every table, state and number handed in.
use mathlib.Core.Path.{◌≡◌, refl}
use mathlib.Core.List.{List}
use Prim.Native.Nat.{ℕ, ◌≤◌}
use native.Mathlib.Omega.{arith}
use Rattle.terms.specs.declared.Job.{Job}
use Rattle.terms.specs.declared.Operation.{Operation}
use Rattle.terms.specs.declared.Task.{Task}
use Rattle.terms.specs.declared.State.{State}
use Rattle.terms.specs.declared.Out.{Out}
use Rattle.terms.specs.declared.Report.{Report}
use Rattle.terms.specs.Answers.{number_of}
use Rattle.machine.specs.Contract.{after}
use Rattle.machine.specs.Step.{Left}
use Rattle.machine.specs.Reach.{Reached, hurt, reached}
use Rattle.machine.specs.Calls.{Listed, no_figures, reset_of, begin_of, abandoned_out, abandon_of, tidy_reached, tidy_of, figures_reached, figures_of, list_reached, list_of}
use Rattle.machine.proofs.Choice.{if_elim}

-- an answer of 10 or more is a refusal; then table and state are as they were
abbrev pub Kept : List ℕ → State → Left → Type 0
Kept t st l = 10 ≤ number_of l.answer → (l.table ≡ t) × (l.state ≡ st)

module _ (t : List ℕ) (st : State) where
  pub reset-refused : Kept t st (reset_of t st)
  unfolding reset_of
  reset-refused = if_elim (Kept t st) _ (λ e h. (refl, refl)) (λ e h. absurd (omega arith))

  pub begin-refused : (i : ℕ) (o : Operation) (j : Job) → Kept t st (begin_of t st i o j)
  unfolding begin_of
  begin-refused i o j =
      if_elim (Kept t st) _ (λ e h. (refl, refl))
      (λ e. if_elim (Kept t st) _ (λ e h. (refl, refl))
      (λ e. if_elim (Kept t st) _ (λ e h. (refl, refl))
      (λ e. if_elim (Kept t st) _ (λ e h. (refl, refl))
      (λ e. if_elim (Kept t st) _ (λ e h. (refl, refl)) (λ e h. absurd (omega arith))))))

  abandoned-fine : (i : ℕ) (k : Task) → Kept t st (after t (abandoned_out st i k))
  unfolding after abandoned_out
  abandoned-fine i k = if_elim (λ (o : Out). Kept t st (record { table = t; state = o.state; answer = o.answer })) _ (λ e h. absurd (omega arith)) (λ e h. absurd (omega arith))

  pub abandon-refused : (i : ℕ) → Kept t st (abandon_of t st i)
  unfolding abandon_of
  abandon-refused i =
      if_elim (Kept t st) _ (λ e h. (refl, refl))
      (λ e. if_elim (Kept t st) _ (λ e h. (refl, refl))
      (λ e. if_elim (Kept t st) _ (λ e h. (refl, refl))
      (λ e. if_elim (Kept t st) _ (λ e h. (refl, refl)) (λ e. abandoned-fine i _))))

  tidied : (r : Reached) → Kept t st (tidy_reached t st r)
  unfolding tidy_reached
  tidied hurt h = (refl, refl)
  tidied (reached r marks) h = absurd (omega arith)

  pub tidy-refused : Kept t st (tidy_of t st)
  unfolding tidy_of
  tidy-refused =
      if_elim (Kept t st) _ (λ e h. (refl, refl))
      (λ e. if_elim (Kept t st) _ (λ e h. (refl, refl))
      (λ e. if_elim (Kept t st) _ (λ e h. (refl, refl)) (λ e. tidied _)))

  -- refused figures are zeros
  abbrev Zeros : Report → Type 0
  Zeros r = 10 ≤ number_of r.answer → r.figures ≡ no_figures

  figured : (r : Reached) → Zeros (figures_reached t st r)
  unfolding figures_reached
  figured hurt h = refl
  figured (reached r marks) h = absurd (omega arith)

  pub figures-refused : Zeros (figures_of t st)
  unfolding figures_of
  figures-refused = if_elim Zeros _ (λ e h. refl) (λ e. if_elim Zeros _ (λ e h. refl) (λ e. figured _))

  -- a refused list leaves the room lent, 15 included
  module _ (room : List ℕ) where
    abbrev Stays : Listed → Type 0
    Stays l = 10 ≤ number_of l.answer → l.room ≡ room

    listing : (r : Reached) → Stays (list_reached room r)
    unfolding list_reached
    listing hurt = λ h. refl
    listing (reached r marks) = if_elim Stays _ (λ e h. refl) (λ e h. absurd (omega arith))

    pub list-refused : Stays (list_of t st room)
    unfolding list_of
    list-refused = if_elim Stays _ (λ e h. refl) (λ e. if_elim Stays _ (λ e h. refl) (λ e. listing _))
