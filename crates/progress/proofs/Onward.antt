-- ONE STEP of a task that left the entry in the table as it is.
use Prim.Native.Nat.{◌+◌, ◌<◌, ℕ}
use borrow.Author.Tests.{le-ltb}
use lib.ListN.{length}
use mathlib.Core.Bool.{Bool}
use mathlib.Core.List.{List, []}
use mathlib.Core.Path.{◌∙◌, ◌≡◌, ap, refl, subst}
use native.Mathlib.Omega.{arith}
use Rattle.commits.proofs.Shape.{Shape}
use Rattle.demand2.proofs.After.{task_after}
use Rattle.demand2.proofs.Counts.{settling-stored, stored_here}
use Rattle.demand2.proofs.Passes.{view_at}
use Rattle.demand2.proofs.Stands.{Stands, fits-is, slots-is, sound-is}
use Rattle.fares.proofs.Whole.{Bounded}
use Rattle.history.specs.History.{step}
use Rattle.history.specs.Ledger.{Point, advance}
use Rattle.history.specs.Machine.{real}
use Rattle.terms.specs.Answers.{number_of}
use Rattle.machine.specs.Choice.{if_b}
use Rattle.machine.specs.Commit.{Did}
use Rattle.machine.specs.State.{count_open, one, settling, task_at}
use Rattle.machine.specs.Step.{Left, answered, carried, phase_step, step_of, step_work, turned}
use Rattle.machine.specs.Table.{View, puts}
use Rattle.progress.proofs.Readings.{put_on, settle-on, take_on}
use Rattle.progress.proofs.Sees.{GoesOn, Sees}
use Rattle.progress.proofs.Walks.{start-on, walk_on_lem}
use Rattle.progress.specs.Alone.{answer_of}
use Rattle.steps.specs.Trail.{WorkOk}
use Rattle.terms.specs.Task.{busy, goal_of, goal_settles, idle_task, work_settles}
use Rattle.terms.specs.declared.Job.{Job}
use Rattle.terms.specs.declared.Phase.{Phase}
use Rattle.terms.specs.declared.Phase.TheVariants.{PuttingIn, Settling, Start, TakingOut, Walk}
use Rattle.terms.specs.declared.State.{State}
use Rattle.terms.specs.declared.Task.{Task}
use Rattle.terms.specs.declared.Turn.{Turn}
use Rattle.terms.specs.declared.Turn.TheVariants.{Done, Hurt, Next}
use Rattle.terms.specs.declared.Work.TheVariants.{Busy}
use Rattle.trees.proofs.Held.{Carries}
use Rattle.trees.proofs.OneTree.{one-tree}
use Rattle.trees.specs.Rank.{rank}
use Rattle.trees.specs.Tree.{Tree}
use Rattle.undamaged.proofs.NoDamage.{fits-job}

pub phase_on : (n : ℕ) (v : View) (t : Tree) → Carries v t → Shape t → Bounded n v → rank t ≡ 255 → (m : ℕ) (j : Job) → j.number < 1000000 → (f : Phase) (d : ℕ) → Sees v t f d
    → GoesOn v t j f d (phase_step v n m j f)
unfolding phase_step
phase_on n v t i sh b top m j lt (Start g) d s = λ z. rw s (start-on n v t i sh b top j lt g)
phase_on n v t i sh b top m j lt (Walk g q) d s = λ z. walk_on_lem n v t i sh b top j lt g q d s
phase_on n v t i sh b top m j lt (PuttingIn q x) d s = put_on n v t i sh b j m q x d s
phase_on n v t i sh b top m j lt (TakingOut q x) d s = take_on n v t i sh b j q x d s
phase_on n v t i sh b top m j lt (Settling q x) d s = settle-on n v t i sh b j q x d s

-- where a history stands, of a busy task i
module _ {p : Point} (s : Stands p) (i : ℕ) (lt : i < 8) (j : Job) (f : Phase) (is : (task_at p.state i).work ≡ Busy j f) where
  abbrev d : Did
  d = phase_step (view_at s) s.n p.state.m j f

  pub task_ok : WorkOk (view_at s) s.tree (Busy j f)
  task_ok = subst (WorkOk (view_at s) s.tree) is (s.ok i)

  -- the step is what its phase asks for
  pub step_is : step_of p.table p.state i ≡ carried p.table p.state i d
  unfolding step_of step_work if_b
  step_is =
      rw (fits-is s, le-ltb 7 i (omega arith), is, sound-is s, fits-job j task_ok.0 task_ok.1, slots-is s) refl

  abbrev next : Point
  next = advance real p (step i)

  pub next-table : next.table ≡ puts p.table d.writes
  unfolding advance carried
  next-table = ap (λ (l : Left). l.table) step_is

  -- without a write the table stays
  pub table_same : d.writes ≡ [] → next.table ≡ p.table
  unfolding puts
  table_same e = next-table ∙ ap (puts p.table) e

  next-answer : answer_of real p i ≡ number_of (answered d.turn)
  unfolding carried
  next-answer = ap (λ (l : Left). number_of l.answer) step_is

  pub answer_is : (a : Turn) → d.turn ≡ a → answer_of real p i ≡ number_of (answered a)
  answer_is a e = next-answer ∙ ap (λ y. number_of (answered y)) e

  -- c after it: one less if the task settled, one more if it settles
  pub next-open : (k : Task) → d.turn ≡ Next k → count_open next.state + one (goal_settles (goal_of f)) ≡ count_open p.state + one (work_settles k.work)
  unfolding advance carried count_open
  next-open k e =
      let st : (step_of p.table p.state i).state ≡ turned p.state i (Next k) d.committed = ap (λ (l : Left). l.state) step_is ∙ ap (λ a. turned p.state i a d.committed) e in
      let old : one (work_settles (task_at p.state i).work) ≡ one (goal_settles (goal_of f)) = ap (λ w. one (work_settles w)) is in
      omega (arith, ap (λ (x : State). x.u + settling x.tasks 8) st, old, settling-stored p.state.tasks i k 8 (omega (arith, s.eight)) lt)

  next-task : (task_at next.state i).work ≡ (task_after d.turn (busy j f)).work
  unfolding advance carried
  next-task = ap (λ (l : Left). (task_at l.state i).work) step_is ∙ stored d.turn d.committed
    where
      stored : (a : Turn) (c : Bool) → (task_at (turned p.state i a c) i).work ≡ (task_after a (busy j f)).work
      stored Hurt c = is
      stored (Next k) c = ap (λ (k : Task). k.work) (stored_here p.state.tasks i k idle_task (omega (arith, s.eight)))
      stored (Done a) c = ap (λ (k : Task). k.work) (stored_here p.state.tasks i idle_task idle_task (omega (arith, s.eight)))

  pub task_is : (a : Turn) → d.turn ≡ a → (task_at next.state i).work ≡ (task_after a (busy j f)).work
  task_is a e = next-task ∙ ap (λ y. (task_after y (busy j f)).work) e

-- two points with the same table stand on the same tree
pub same-sight : {p p' : Point} (s : Stands p) (s' : Stands p') → p'.table ≡ p.table → (s'.tree ≡ s.tree) × (view_at s' ≡ view_at s)
same-sight {p} {p'} s s' e =
    let n-is : s'.n ≡ s.n = omega (arith, s.size, s'.size, ap (λ (x : List ℕ). length x) e) in
    let v-is : view_at s' ≡ view_at s = rw (n-is, e) refl in
    (one-tree (view_at s) s'.tree s.tree (subst (λ v. Carries v s'.tree) v-is s'.carries) s.carries, v-is)
