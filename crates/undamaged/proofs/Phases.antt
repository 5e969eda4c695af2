-- EVERY STEP of a task that remembers what it should, on a ground without damage, is safe.
use Prim.Native.Nat.{◌≤◌, ℕ}
use Rattle.machine.specs.Step.{phase_step}
use Rattle.machine.specs.Table.{View}
use Rattle.potential.specs.Potential.{phi}
use Rattle.steps.specs.Trail.{WorkOk}
use Rattle.terms.specs.declared.Job.{Job}
use Rattle.terms.specs.declared.Phase.{Phase}
use Rattle.terms.specs.declared.Phase.TheVariants.{PuttingIn, Settling, Start, TakingOut, Walk}
use Rattle.terms.specs.declared.Work.TheVariants.{Busy}
use Rattle.trees.specs.Tree.{Tree}
use Rattle.undamaged.proofs.Puts.{put-safe, take_safe}
use Rattle.undamaged.proofs.Settles.{settle-safe}
use Rattle.undamaged.proofs.Walks.{start-safe, walk_safe}
use Rattle.undamaged.specs.Memory.{Remembers}
use Rattle.undamaged.specs.Safe.{Ground, Safe}

pub phase_safe : (n : ℕ) (v : View) (t : Tree) → Ground n v t → phi t ≤ 2000000 → (m : ℕ) (j : Job) (a : Phase) → WorkOk v t (Busy j a) → Remembers v t j.number a → Safe v t (phase_step v n m j a).turn
unfolding phase_step
phase_safe n v t g paid m j (Start goal) ok h = start-safe n v t g j ok.0 goal
phase_safe n v t g paid m j (Walk goal q) ok h = walk_safe n v t g j ok.0 goal q h
phase_safe n v t g paid m j (PuttingIn q s) ok h = put-safe n v t g m j q s h
phase_safe n v t g paid m j (TakingOut q s) ok h = take_safe n v t g j ok.0 q ok.2 s h
phase_safe n v t g paid m j (Settling q s) ok h = settle-safe n v t g paid m j q ok.2.1 h.0 h.1 h.2 s h.3
