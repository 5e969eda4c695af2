-- A step of a busy task that is not damaged: its phase is played, and carried out on the state.
use mathlib.Core.Path.{◌≡◌}
use mathlib.Core.Bool.{Bool, true, ◌&&◌}
use mathlib.Core.List.{List}
use Prim.Native.Nat.{ℕ}
use native.Mathlib.Omega.{arith}
use Rattle.std.proofs.lemmas.Grind.{common_steps}
use Rattle.terms.specs.declared.Job.{Job}
use Rattle.terms.specs.declared.Phase.{Phase}
use Rattle.terms.specs.declared.Work.{Work}
use Rattle.terms.specs.declared.Work.TheVariants.{Busy}
use Rattle.terms.specs.declared.State.{State}
use Rattle.terms.specs.declared.Out.{Out}
use Rattle.terms.specs.declared.Outcome.{Outcome}
use Rattle.machine.specs.Choice.{if_b}
use Rattle.machine.specs.Table.{view, slots}
use Rattle.machine.specs.State.{sound, job_fits}
use Rattle.machine.specs.Contract.{after, acted, played, turned_out}
use Rattle.machine.specs.Step.{phase_step, carried, step_work}

module _
    (t : List ℕ) (st : State) (i : ℕ) (w : Work) (j : Job) (f : Phase) (ew : w ≡ Busy j f)
    (b : Bool) (eb : b ≡ sound st) (c : Bool) (ec : c ≡ job_fits j) where
  pub goes_row :
      (b && c) ≡ true → (n : ℕ) → n ≡ slots t → (t' : List ℕ) (o : Outcome) → acted t' o ≡ played t (phase_step (view n t) n st.m j f)
      → (r : Out) → r ≡ turned_out st i o.turn o.committed → after t' r ≡ step_work t st i w
  unfolding after acted played turned_out carried step_work if_b
  goes_row e n en t' o eo r er = simp (ew, ← eb, ← ec, e, ← en) (grind (arith, common_steps))
