-- THE BUDGET of an operation: how many steps of its task alone end it, by the height and the c that figures prints at its begin.
use Rattle.std.specs.Prelude.{◌*◌, ◌+◌, ◌≤◌, ℕ, length, List, ◌⊎◌, ◌≡◌}
use Rattle.demand3.specs.Demand3.{figures_at}
use Rattle.history.specs.History.{Ask, begin}
use Rattle.history.specs.Ledger.{advance, history}
use Rattle.history.specs.Machine.{Machine}
use Rattle.machine.specs.State.{task_at}
use Rattle.progress.specs.Alone.{Ends}
use Rattle.terms.specs.declared.Answer.TheVariants.{Accepted}
use Rattle.terms.specs.declared.Goal.{Goal}
use Rattle.terms.specs.declared.Goal.TheVariants.{Serve, Settle}
use Rattle.terms.specs.declared.Job.{Job}
use Rattle.terms.specs.declared.Operation.{Operation}
use Rattle.terms.specs.declared.Operation.TheVariants.{LookUp, PutIn, TakeOut}
use Rattle.terms.specs.declared.Phase.TheVariants.{Start}
use Rattle.terms.specs.declared.State.{State}
use Rattle.terms.specs.declared.Work.TheVariants.{Busy}

-- the answers that end it
abbrev pub EndAnswer : Operation → ℕ → Type 0
EndAnswer LookUp x = (x ≡ 1) ⊎ (x ≡ 2)
EndAnswer PutIn x = ((x ≡ 4) ⊎ ((x ≡ 15) ⊎ (x ≡ 16))) ⊎ ((x ≡ 3) ⊎ (x ≡ 6))
EndAnswer TakeOut x = ((x ≡ 2) ⊎ (x ≡ 15)) ⊎ (x ≡ 5)

-- a settling task: at most 28 commits for each of the c put-ins not ended as settled, and a last walk; each is a walk, four readings and a commit at most, where the height
-- is at most 28 + c
unfoldable pub settle_budget : ℕ → ℕ
settle_budget c = (28 * c + 1) * (c + 35)

-- a walk of height + 2 steps; for a put-in two readings, the commit and settling with one put-in more not ended as settled; for a take-out four readings and the commit
unfoldable pub budget : Operation → ℕ → ℕ → ℕ
budget LookUp h c = h + 2
budget PutIn h c = (h + 5) + settle_budget (c + 1)
budget TakeOut h c = h + 7

-- a task about to walk from the entry
abbrev pub goal_budget : Goal → ℕ → ℕ → ℕ
goal_budget (Serve o) h c = budget o h c
goal_budget Settle h c = settle_budget c

abbrev pub GoalAnswer : Goal → ℕ → Type 0
GoalAnswer (Serve o) x = EndAnswer o x
GoalAnswer Settle x = (x ≡ 3) ⊎ (x ≡ 6)

-- EVERY OPERATION STEPPED ALONE from its begin, at any point of any history, ends within its budget; and so does one whose task is about to walk from the entry, which is
-- where every restart leaves it
pub record TasksEnd (M : Machine) : Type 0 where
  pub from-begin : (t : List ℕ) (st : State) (cs : List Ask) (n : ℕ) → length t ≡ 6 * n → 8 ≤ n → n ≤ 4096
      → (i : ℕ) (o : Operation) (j : Job) → (M.begin (history M t st cs).table (history M t st cs).state i o j).answer ≡ Accepted
      → Ends M (advance M (history M t st cs) (begin i o j)) i (budget o (figures_at M (history M t st cs)).height (figures_at M (history M t st cs)).c) (EndAnswer o)
  pub from-entry : (t : List ℕ) (st : State) (cs : List Ask) (n : ℕ) → length t ≡ 6 * n → 8 ≤ n → n ≤ 4096
      → (i : ℕ) (j : Job) (g : Goal) → (task_at (history M t st cs).state i).work ≡ Busy j (Start g)
      → Ends M (history M t st cs) i (goal_budget g (figures_at M (history M t st cs)).height (figures_at M (history M t st cs)).c) (GoalAnswer g)
