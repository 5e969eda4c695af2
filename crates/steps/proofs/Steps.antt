-- EVERY STEP of a task whose records are where they should be: only the task moves on, or it is one of the commits.
use Prim.Native.Nat.{ℕ}
use Rattle.commits.proofs.Shape.{Shape}
use Rattle.machine.specs.Step.{phase_step}
use Rattle.machine.specs.Table.{View}
use Rattle.steps.proofs.Choosing.{settle-does}
use Rattle.steps.proofs.Putting.{put-does}
use Rattle.steps.proofs.Taking.{take_does}
use Rattle.steps.proofs.Walking.{start-quiet, walk_quiet}
use Rattle.steps.specs.Does.{Does, rests}
use Rattle.steps.specs.Trail.{WorkOk}
use Rattle.terms.specs.declared.Job.{Job}
use Rattle.terms.specs.declared.Phase.{Phase}
use Rattle.terms.specs.declared.Phase.TheVariants.{PuttingIn, Settling, Start, TakingOut, Walk}
use Rattle.terms.specs.declared.Work.TheVariants.{Busy}
use Rattle.trees.proofs.Held.{Carries}
use Rattle.trees.specs.Tree.{Tree}

pub step-does : (v : View) (t : Tree) → Carries v t → Shape t → (n m : ℕ) (j : Job) (f : Phase) → WorkOk v t (Busy j f) → Does v t m j f (phase_step v n m j f)
unfolding phase_step
step-does v t i sh n m j (Start g) ok = rests _ (start-quiet v t i n j ok.0 g)
step-does v t i sh n m j (Walk g q) ok = rests _ (walk_quiet v t i n j ok.0 g q ok.2)
step-does v t i sh n m j (PuttingIn q s) ok = put-does v t i sh n m j ok.0 ok.1 q ok.2 s
step-does v t i sh n m j (TakingOut q s) ok = take_does v t i n m j ok.0 q ok.2 s
step-does v t i sh n m j (Settling q s) ok = settle-does v t i sh n m j q ok.2.0 ok.2.1 s
