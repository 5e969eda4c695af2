-- A TASK ABOUT TO WALK FROM THE ENTRY, stepped alone, ends within its budget.
use Prim.Native.Nat.{◌+◌, ◌<◌, ◌≤◌, suc, ℕ}
use mathlib.Core.Path.{◌≡◌, refl}
use native.Mathlib.Omega.{arith}
use Rattle.demand3.proofs.Rich.{Rich}
use Rattle.history.specs.Ledger.{Point}
use Rattle.history.specs.Machine.{real}
use Rattle.machine.specs.State.{count_open, task_at}
use Rattle.progress.proofs.Budget.{Unhurt, beyond_commit, serve-run, settle-alone}
use Rattle.progress.proofs.Ends.{ends-wider}
use Rattle.progress.proofs.Restarts.{busy-below}
use Rattle.progress.proofs.Sees.{after_walk}
use Rattle.progress.specs.Alone.{Ends}
use Rattle.progress.specs.Budget.{GoalAnswer, budget, goal_budget}
use Rattle.terms.specs.declared.Goal.{Goal}
use Rattle.terms.specs.declared.Goal.TheVariants.{Serve, Settle}
use Rattle.terms.specs.declared.Job.{Job}
use Rattle.terms.specs.declared.Operation.{Operation}
use Rattle.terms.specs.declared.Operation.TheVariants.{LookUp, PutIn, TakeOut}
use Rattle.terms.specs.declared.Phase.TheVariants.{Start}
use Rattle.terms.specs.declared.Work.TheVariants.{Busy}
use Rattle.trees.specs.Rank.{height}

budget-is : (o : Operation) (i : ℕ) (lt : i < 8) (j : Job) (h c : ℕ) → ((h + 2) + after_walk (Serve o)) + beyond_commit i lt j o c ≡ budget o h c
unfolding budget
budget-is LookUp i lt j h c = omega arith
budget-is PutIn i lt j h c = omega arith
budget-is TakeOut i lt j h c = omega arith

pub restart_ends : (i : ℕ) (j : Job) (c h : ℕ) (p : Point) (r : Rich p) → Unhurt i p → count_open p.state ≤ c → height r.stands.tree ≤ h + 1
    → (g : Goal) → (task_at p.state i).work ≡ Busy j (Start g) → Ends real p i (goal_budget g h c) (GoalAnswer g)
restart_ends i j c h p r u le low (Serve o) is =
    let lt = busy-below r.stands i j (Start (Serve o)) is in
    ends-wider (serve-run i lt j o c ((h + 2) + after_walk (Serve o)) p r u le (Start (Serve o)) is refl (suc (height r.stands.tree) + after_walk (Serve o)) refl (omega arith))
    (omega (arith, budget-is o i lt j h c))
restart_ends i j c h p r u le low Settle is = settle-alone i (busy-below r.stands i j (Start Settle) is) j c p r u le is
