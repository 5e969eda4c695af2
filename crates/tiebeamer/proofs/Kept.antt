-- Every call keeps the eight tasks.
use mathlib.Core.Path.{◌≡◌, refl, ◌∙◌}
use mathlib.Core.Bool.{Bool, true, false, not, ◌&&◌}
use mathlib.Core.List.{List}
use Prim.Native.Nat.{ℕ, zero, suc}
use lib.Dec.{eqb}
use lib.ListN.{length, length-set}
use Rattle.terms.specs.declared.Job.{Job}
use Rattle.terms.specs.declared.Operation.{Operation}
use Rattle.terms.specs.declared.Task.{Task}
use Rattle.terms.specs.declared.State.{State}
use Rattle.terms.specs.declared.Out.{Out}
use Rattle.terms.specs.declared.Work.{Work}
use Rattle.terms.specs.declared.Work.TheVariants.{Idle, Busy}
use Rattle.terms.specs.declared.Turn.{Turn}
use Rattle.terms.specs.declared.Turn.TheVariants.{Hurt, Next, Done}
use Rattle.terms.specs.Answers.{number_of}
use Rattle.machine.specs.Contract.{after}
use Rattle.machine.specs.Commit.{Did}
use Rattle.machine.specs.Step.{Left, turned, carried, step_work, step_of}
use Rattle.machine.specs.Reach.{Reached, hurt, reached}
use Rattle.machine.specs.Calls.{reset_of, begin_of, abandoned_out, abandon_of, tidy_reached, tidy_of}
use Rattle.machine.specs.CallFile.{run_of}
use Rattle.machine.proofs.Choice.{if_elim}

abbrev pub Eight : Left → Type 0
Eight l = length l.state.tasks ≡ 8

module _ (t : List ℕ) (st : State) (h : length st.tasks ≡ 8) where
  turned-eight : (i : ℕ) (a : Turn) (c : Bool) → length (turned st i a c).tasks ≡ 8
  turned-eight i Hurt c = h
  turned-eight i (Next k) c = length-set st.tasks i k ∙ h
  turned-eight i (Done a) c = length-set st.tasks i _ ∙ h

  carried-eight : (i : ℕ) (d : Did) → Eight (carried t st i d)
  unfolding carried
  carried-eight i d = turned-eight i d.turn d.committed

  work-eight : (i : ℕ) (w : Work) → Eight (step_work t st i w)
  unfolding step_work
  work-eight i Idle = h
  work-eight i (Busy j f) = if_elim Eight _ (λ e. h) (λ e. carried-eight i _)

  pub step-eight : (i : ℕ) → Eight (step_of t st i)
  unfolding step_of
  step-eight i = if_elim Eight _ (λ e. h) (λ e. if_elim Eight _ (λ e. h) (λ e. work-eight i _))

  pub reset-eight : Eight (reset_of t st)
  unfolding reset_of
  reset-eight = if_elim Eight _ (λ e. h) (λ e. refl)

  pub begin-eight : (i : ℕ) (o : Operation) (j : Job) → Eight (begin_of t st i o j)
  unfolding begin_of
  begin-eight i o j =
      if_elim Eight _ (λ e. h)
      (λ e. if_elim Eight _ (λ e. h)
      (λ e. if_elim Eight _ (λ e. h)
      (λ e. if_elim Eight _ (λ e. h)
      (λ e. if_elim Eight _ (λ e. h) (λ e. length-set st.tasks i _ ∙ h)))))

  abandoned-eight : (i : ℕ) (k : Task) → Eight (after t (abandoned_out st i k))
  unfolding after abandoned_out
  abandoned-eight i k = if_elim (λ (o : Out). length o.state.tasks ≡ 8) _ (λ e. length-set st.tasks i _ ∙ h) (λ e. length-set st.tasks i _ ∙ h)

  pub abandon-eight : (i : ℕ) → Eight (abandon_of t st i)
  unfolding abandon_of
  abandon-eight i =
      if_elim Eight _ (λ e. h)
      (λ e. if_elim Eight _ (λ e. h)
      (λ e. if_elim Eight _ (λ e. h)
      (λ e. if_elim Eight _ (λ e. h) (λ e. abandoned-eight i _))))

  tidied-eight : (r : Reached) → Eight (tidy_reached t st r)
  unfolding tidy_reached
  tidied-eight hurt = h
  tidied-eight (reached r marks) = h

  pub tidy-eight : Eight (tidy_of t st)
  unfolding tidy_of
  tidy-eight = if_elim Eight _ (λ e. h) (λ e. if_elim Eight _ (λ e. h) (λ e. if_elim Eight _ (λ e. h) (λ e. tidied-eight _)))

on-or_end : (b : Bool) (x y : Left) → Eight x → Eight y → Eight (elim b [ true ↦ x | false ↦ y ])
on-or_end true x y hx hy = hx
on-or_end false x y hx hy = hy

pub run-eight : (c : ℕ) (t : List ℕ) (st : State) (i : ℕ) → length st.tasks ≡ 8 → Eight (run_of c t st i)
unfolding run_of
run-eight zero t st i h = h
run-eight (suc c) t st i h =
    on-or_end (eqb (number_of (step_of t st i).answer) 0 && not (eqb c 0)) _ _
    (run-eight c (step_of t st i).table (step_of t st i).state i (step-eight t st h i)) (step-eight t st h i)
