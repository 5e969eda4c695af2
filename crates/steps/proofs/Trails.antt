-- What a task remembers is kept: by its own walk, and by every commit of any task.
use Prim.Native.Nat.{◌<◌, ℕ}
use lib.Dec.{ltb}
use mathlib.Core.Bool.{Bool, false, true}
use mathlib.Core.Logic.{inl, inr}
use mathlib.Core.Path.{◌≡◌, refl}
use native.Mathlib.Omega.{arith}
use Rattle.commits.proofs.Grounds.{steady_kept}
use Rattle.machine.specs.Choice.{if_b}
use Rattle.machine.specs.Table.{View}
use Rattle.machine.specs.Walk.{sought}
use Rattle.routes.proofs.Kept.{Follows, good-next, good-used, walk_full}
use Rattle.routes.proofs.Surgery.{Surgery, surgery_good}
use Rattle.routes.specs.Route.{full, here, next}
use Rattle.steps.specs.Trail.{Any, Fine, PhaseOk, TaskOk, Trail, Upper, WorkOk}
use Rattle.terms.specs.declared.Goal.TheVariants.{Serve, Settle}
use Rattle.terms.specs.declared.Path.{Path}
use Rattle.terms.specs.declared.Phase.{Phase}
use Rattle.terms.specs.declared.Phase.TheVariants.{PuttingIn, Settling, Start, TakingOut, Walk}
use Rattle.terms.specs.declared.Task.{Task}
use Rattle.terms.specs.declared.Work.{Work}
use Rattle.terms.specs.declared.Work.TheVariants.{Busy, Idle}
use Rattle.trees.proofs.Held.{Carries}
use Rattle.trees.specs.Tree.{Tree}
use Rattle.views.specs.Update.{link}

-- the link on the sought side
pub next-sought : (v : View) (k s : ℕ) → sought k (v s) ≡ next v k s
unfolding sought next if_b
next-sought v k s = go (ltb k (v s).number)
  where
    go : (b : Bool) → if_b b (v s).left (v s).right ≡ link b (v s)
    go true = refl
    go false = refl

pub follows : (v : View) (t : Tree) (k : ℕ) → k < 1000000 → Carries v t → Follows v k (full k t)
follows v t k lt i = walk_full v k t (omega arith) i

-- the walk's first record
pub entry-fine : (v : View) (t : Tree) (k : ℕ) → Fine v t k 0
entry-fine v t k = here (inl refl)

-- one link further
pub step-fine : (v : View) (t : Tree) (k s : ℕ) → k < 1000000 → Carries v t → (next v k s ≡ 0 → ⊥) → Fine v t k s → Fine v t k (next v k s)
step-fine v t k s lt i nz g = good-next v k (full k t) (follows v t k lt i) s nz g

pub fine-used : (v : View) (t : Tree) (k s : ℕ) → k < 1000000 → Carries v t → Fine v t k s → (v s).state ≡ 0 → ⊥
fine-used v t k s lt i g = good-used v k (full k t) (follows v t k lt i) s g

-- ---- every commit

module _ {v w : View} {t t' : Tree} {x y : ℕ} (g : Surgery v w t t' x y) where
  pub fine-kept : (k s : ℕ) → k < 1000000 → Fine v t k s → Fine w t' k s
  fine-kept k s lt m = surgery_good g k (omega arith) Any Any (λ a p q. q) (λ a h z. tt) s m

  trail_kept : (k : ℕ) (q : Path) → k < 1000000 → Trail v t k q → Trail w t' k q
  trail_kept k q lt r = record {
    grand-fine = elim r.grand-fine [ inl e ↦ inl e | inr m ↦ inr (fine-kept k q.grand lt m) ];
    parent-fine = fine-kept k q.parent lt r.parent-fine;
    here-fine = fine-kept k q.here lt r.here-fine;
  }

  upper_kept : (q : Path) → Upper v q → Upper w q
  upper_kept q (inl e) = inl e
  upper_kept q (inr s) = inr (steady_kept v w g.fate q.grand q.parent s)

  phase_kept : (k : ℕ) (f : Phase) → k < 1000000 → PhaseOk v t k f → PhaseOk w t' k f
  phase_kept k (Start g) lt o = tt
  phase_kept k (Walk (Serve a) q) lt o = trail_kept k q lt o
  phase_kept k (Walk Settle q) lt o = (trail_kept k q lt o.0, upper_kept q o.1, steady_kept v w g.fate q.parent q.here o.2)
  phase_kept k (PuttingIn q s) lt o = trail_kept k q lt o
  phase_kept k (TakingOut q s) lt o = trail_kept k q lt o
  phase_kept k (Settling q s) lt o = (trail_kept k q lt o.0, upper_kept q o.1)

  -- the commit of one task keeps what all others remember
  pub task_kept : (k : Task) → TaskOk v t k → TaskOk w t' k
  task_kept k o = work-kept k.work o
    where
      work-kept : (w' : Work) → WorkOk v t w' → WorkOk w t' w'
      work-kept Idle o = tt
      work-kept (Busy j f) o = (o.0, o.1, phase_kept j.number f o.0 o.2)
