-- ANY BUSY TASK STEPPED ALONE, however long ago it left the entry and whatever was committed since: it ends, within the links left of its walk, four readings and a commit,
-- and, if it then starts its walk again, the budget from the entry.
use Rattle.std.specs.Prelude.{◌*◌, ◌+◌, ◌≤◌, suc, zero, ℕ, length, List, ◌≡◌}
use Rattle.demand3.specs.Demand3.{figures_at}
use Rattle.history.specs.History.{Ask}
use Rattle.history.specs.Ledger.{Point, history}
use Rattle.history.specs.Machine.{Machine}
use Rattle.machine.specs.State.{task_at}
use Rattle.machine.specs.Table.{View, slots, view}
use Rattle.progress.specs.Alone.{Ends}
use Rattle.progress.specs.Budget.{GoalAnswer, goal_budget}
use Rattle.routes.specs.Route.{next}
use Rattle.terms.specs.Task.{goal_of}
use Rattle.terms.specs.declared.Job.{Job}
use Rattle.terms.specs.declared.Phase.{Phase}
use Rattle.terms.specs.declared.Phase.TheVariants.{PuttingIn, Settling, Start, TakingOut, Walk}
use Rattle.terms.specs.declared.State.{State}
use Rattle.terms.specs.declared.Work.TheVariants.{Busy}

-- from slot a the search of k goes over L links
abbrev pub Walked : View → ℕ → ℕ → ℕ → Type 0
Walked v k a zero = next v k a ≡ 0
Walked v k a (suc L) = (next v k a ≡ 0 → ⊥) × Walked v k (next v k a) L

-- the links that a walk has left, from where the task stands; none where it is at the entry or reads
abbrev pub WalkLeft : View → ℕ → Phase → ℕ → Type 0
WalkLeft v k (Start g) L = L ≡ 0
WalkLeft v k (Walk g q) L = Walked v k q.here L
WalkLeft v k (PuttingIn q s) L = L ≡ 0
WalkLeft v k (TakingOut q s) L = L ≡ 0
WalkLeft v k (Settling q s) L = L ≡ 0

-- there is such a number of links, no more than the table has slots, and with it
pub record AnyTaskEnds (M : Machine) (p : Point) (i : ℕ) (j : Job) (f : Phase) : Type 0 where
  pub L : ℕ
  pub walk_left : WalkLeft (view (slots p.table) p.table) j.number f L
  pub fits : L ≤ slots p.table
  pub ends : Ends M p i ((L + 5) + goal_budget (goal_of f) (figures_at M p).height (figures_at M p).c) (GoalAnswer (goal_of f))

abbrev pub AllTasksEnd : Machine → Type 0
AllTasksEnd M =
    (t : List ℕ) (st : State) (cs : List Ask) (n : ℕ) → length t ≡ 6 * n → 8 ≤ n → n ≤ 4096
    → (i : ℕ) (j : Job) (f : Phase) → (task_at (history M t st cs).state i).work ≡ Busy j f → AnyTaskEnds M (history M t st cs) i j f
