-- EVERY BUSY TASK of every history, stepped alone, ends.
use Prim.Native.Nat.{◌*◌, ◌+◌, ◌<◌, ◌≤◌, ℕ}
use lib.ListN.{length}
use mathlib.Core.Bool.{true}
use mathlib.Core.List.{List}
use mathlib.Core.Logic.{◌⊎◌, inl, inr}
use mathlib.Core.Path.{◌≡◌, refl, subst, sym}
use native.Mathlib.Omega.{arith}
use Rattle.demand2.proofs.Passes.{view_at}
use Rattle.demand2.proofs.Stands.{slots-is}
use Rattle.demand3.proofs.Demand3.{rich}
use Rattle.demand3.proofs.Rich.{Rich}
use Rattle.demand3.specs.Demand3.{figures_at}
use Rattle.history.specs.History.{Ask}
use Rattle.history.specs.Ledger.{Point, history}
use Rattle.history.specs.Machine.{real}
use Rattle.machine.specs.State.{count_open, task_at}
use Rattle.machine.specs.Table.{View, view}
use Rattle.progress.proofs.Alone.{c_is_figure, unhurt}
use Rattle.progress.proofs.Drift.{Stale}
use Rattle.progress.proofs.Ends.{ends-wider}
use Rattle.progress.proofs.Entry.{restart_ends}
use Rattle.progress.proofs.Look.{height-of}
use Rattle.progress.proofs.Onward.{task_ok}
use Rattle.progress.proofs.Restarts.{busy-below}
use Rattle.progress.proofs.Sees.{put_left, settle_left, take_left}
use Rattle.progress.proofs.Slots.{walk_fits}
use Rattle.progress.proofs.Stale.{drift_run}
use Rattle.progress.proofs.Walked.{fine-walked}
use Rattle.progress.specs.Alone.{Ends}
use Rattle.progress.specs.Budget.{GoalAnswer, goal_budget}
use Rattle.progress.specs.Restarts.{is_start}
use Rattle.progress.specs.Stale.{AllTasksEnd, AnyTaskEnds, WalkLeft}
use Rattle.steps.specs.Trail.{Fine, PhaseOk}
use Rattle.terms.specs.Task.{goal_of}
use Rattle.terms.specs.declared.Goal.{Goal}
use Rattle.terms.specs.declared.Goal.TheVariants.{Serve, Settle}
use Rattle.terms.specs.declared.Job.{Job}
use Rattle.terms.specs.declared.Path.{Path}
use Rattle.terms.specs.declared.Phase.{Phase}
use Rattle.terms.specs.declared.Phase.TheVariants.{PuttingIn, Settling, Start, TakingOut, Walk}
use Rattle.terms.specs.declared.PutStage.{PutStage}
use Rattle.terms.specs.declared.PutStage.TheVariants.{PutCommit, PutLeaf, PutParent}
use Rattle.terms.specs.declared.SettleStage.{SettleStage}
use Rattle.terms.specs.declared.SettleStage.TheVariants.{SettleChoose, SettleDouble, SettleGrand, SettleParent, SettleRotate}
use Rattle.terms.specs.declared.State.{State}
use Rattle.terms.specs.declared.TakeStage.{TakeStage}
use Rattle.terms.specs.declared.TakeStage.TheVariants.{TakeCommit, TakeGrand, TakeLeft, TakeParent, TakeRight}
use Rattle.terms.specs.declared.Work.TheVariants.{Busy}
use Rattle.trees.proofs.Held.{Carries}
use Rattle.trees.specs.Tree.{Tree}

-- the links left, by the trail of the task
module _ (v : View) (t : Tree) (i : Carries v t) (j : Job) (lt : j.number < 1000000) where
  here-fine_of : (g : Goal) (q : Path) → PhaseOk v t j.number (Walk g q) → Fine v t j.number q.here
  here-fine_of (Serve o) q ok = ok.here-fine
  here-fine_of Settle q ok = ok.0.here-fine

  -- at the entry, or with so many steps left
  pub left-of : (f : Phase) → PhaseOk v t j.number f → (L : ℕ) × WalkLeft v j.number f L × ((is_start f ≡ true) ⊎ ((d : ℕ) × Stale v j.number f d × (d ≤ L + 5)))
  left-of (Start g) ok = (0, refl, inl refl)
  left-of (Walk g q) ok = let r = fine-walked v j.number t i lt q.here (here-fine_of g q ok) in (r.0, r.1, inr (r.0 + 5, (r.0, r.1, refl), omega arith))
  left-of (PuttingIn q s) ok = (0, refl, inr (put_left s, refl, put_five s))
    where
      put_five : (s : PutStage) → put_left s ≤ 0 + 5
      put_five PutParent = omega arith
      put_five (PutLeaf a) = omega arith
      put_five (PutCommit a b) = omega arith
  left-of (TakingOut q s) ok = (0, refl, inr (take_left s, refl, take-five s))
    where
      take-five : (s : TakeStage) → take_left s ≤ 0 + 5
      take-five TakeGrand = omega arith
      take-five (TakeParent a) = omega arith
      take-five (TakeLeft a b) = omega arith
      take-five (TakeRight a b c) = omega arith
      take-five (TakeCommit a b c d) = omega arith
  left-of (Settling q s) ok = (0, refl, inr (settle_left s, refl, settle-five s))
    where
      settle-five : (s : SettleStage) → settle_left s ≤ 0 + 5
      settle-five SettleGrand = omega arith
      settle-five (SettleParent a) = omega arith
      settle-five (SettleChoose a b) = omega arith
      settle-five (SettleRotate a b c) = omega arith
      settle-five (SettleDouble a b c d) = omega arith

module _ (t : List ℕ) (st : State) (cs : List Ask) (n : ℕ) (e : length t ≡ 6 * n) (least : 8 ≤ n) (most : n ≤ 4096)
    (i : ℕ) (j : Job) (f : Phase) (is : (task_at (history real t st cs).state i).work ≡ Busy j f) where
  abbrev p : Point
  p = history real t st cs

  r : Rich p
  r = rich t st cs n e least most

  lt : i < 8
  lt = busy-below r.stands i j f is

  abbrev c : ℕ
  c = (figures_at real p).c

  few : count_open p.state ≤ c
  few = omega (arith, c_is_figure t st cs n e least most)

  ends_by : (f : Phase) → (task_at p.state i).work ≡ Busy j f → (L : ℕ) → (is_start f ≡ true) ⊎ ((d : ℕ) × Stale (view_at r.stands) j.number f d × (d ≤ L + 5))
      → Ends real p i ((L + 5) + goal_budget (goal_of f) (figures_at real p).height c) (GoalAnswer (goal_of f))
  ends_by f is L (inr (d, s, le)) =
      ends-wider (drift_run i lt j c (figures_at real p).height (L + 5) p r (unhurt t st cs n e least most i) few (height-of r) f (goal_of f) refl is d s le) (omega arith)
  ends_by (Start g) is L (inl s) =
      ends-wider (restart_ends i j c (figures_at real p).height p r (unhurt t st cs n e least most i) few (height-of r) g is) (omega arith)
  ends_by (Walk g q) is L (inl s) = absurd (let z : ◌≡◌ {A = ℕ} 0 1 = cc in omega arith)
  ends_by (PuttingIn q x) is L (inl s) = absurd (let z : ◌≡◌ {A = ℕ} 0 1 = cc in omega arith)
  ends_by (TakingOut q x) is L (inl s) = absurd (let z : ◌≡◌ {A = ℕ} 0 1 = cc in omega arith)
  ends_by (Settling q x) is L (inl s) = absurd (let z : ◌≡◌ {A = ℕ} 0 1 = cc in omega arith)

  -- no walk has more links left than the table has slots
  left-fits : (f : Phase) (L : ℕ) → WalkLeft (view_at r.stands) j.number f L → L ≤ r.stands.n
  left-fits (Start g) L w = omega arith
  left-fits (Walk g q) L w = walk_fits r.stands.n p.table j.number q.here L w
  left-fits (PuttingIn q s) L w = omega arith
  left-fits (TakingOut q s) L w = omega arith
  left-fits (Settling q s) L w = omega arith

  any_ends : AnyTaskEnds real p i j f
  any_ends =
      let s = r.stands in
      let ok = task_ok s i lt j f is in
      let l = left-of (view_at s) s.tree s.carries j ok.0 f ok.2 in
      record { L = l.0; walk_left = subst (λ m. WalkLeft (view m p.table) j.number f l.0) (sym (slots-is s)) l.1; fits = omega (arith, left-fits f l.0 l.1, slots-is s); ends = ends_by f is l.0 l.2 }

-- THE THEOREM
pub all_tasks_end : AllTasksEnd real
all_tasks_end = any_ends
