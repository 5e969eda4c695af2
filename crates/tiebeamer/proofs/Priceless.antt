-- "Price is 0 in every answer but 1": reset, begin, abandon and tidy have none to hand back.
use mathlib.Core.Path.{◌≡◌, refl}
use mathlib.Core.List.{List}
use Prim.Native.Nat.{ℕ}
use Rattle.terms.specs.declared.Job.{Job}
use Rattle.terms.specs.declared.Operation.{Operation}
use Rattle.terms.specs.declared.Task.{Task}
use Rattle.terms.specs.declared.State.{State}
use Rattle.terms.specs.declared.Out.{Out}
use Rattle.terms.specs.Answers.{price_of}
use Rattle.machine.specs.Contract.{after}
use Rattle.machine.specs.Step.{Left}
use Rattle.machine.specs.Reach.{Reached, hurt, reached}
use Rattle.machine.specs.Calls.{reset_of, begin_of, abandoned_out, abandon_of, tidy_reached, tidy_of}
use Rattle.machine.proofs.Choice.{if_elim}

abbrev pub Free : Left → Type 0
Free l = price_of l.answer ≡ 0

module _ (t : List ℕ) (st : State) where
  pub reset-free : Free (reset_of t st)
  unfolding reset_of
  reset-free = if_elim Free _ (λ e. refl) (λ e. refl)

  pub begin-free : (i : ℕ) (o : Operation) (j : Job) → Free (begin_of t st i o j)
  unfolding begin_of
  begin-free i o j =
      if_elim Free _ (λ e. refl)
      (λ e. if_elim Free _ (λ e. refl)
      (λ e. if_elim Free _ (λ e. refl)
      (λ e. if_elim Free _ (λ e. refl)
      (λ e. if_elim Free _ (λ e. refl) (λ e. refl)))))

  abandoned-free : (i : ℕ) (k : Task) → Free (after t (abandoned_out st i k))
  unfolding after abandoned_out
  abandoned-free i k = if_elim (λ (o : Out). price_of o.answer ≡ 0) _ (λ e. refl) (λ e. refl)

  pub abandon-free : (i : ℕ) → Free (abandon_of t st i)
  unfolding abandon_of
  abandon-free i =
      if_elim Free _ (λ e. refl)
      (λ e. if_elim Free _ (λ e. refl)
      (λ e. if_elim Free _ (λ e. refl)
      (λ e. if_elim Free _ (λ e. refl) (λ e. abandoned-free i _))))

  tidied-free : (r : Reached) → Free (tidy_reached t st r)
  unfolding tidy_reached
  tidied-free hurt = refl
  tidied-free (reached r marks) = refl

  pub tidy-free : Free (tidy_of t st)
  unfolding tidy_of
  tidy-free = if_elim Free _ (λ e. refl) (λ e. if_elim Free _ (λ e. refl) (λ e. if_elim Free _ (λ e. refl) (λ e. tidied-free _)))
