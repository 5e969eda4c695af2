-- EVERY OPERATION STEPPED ALONE ends within its budget, on every history.
use Prim.Native.Nat.{◌*◌, ◌≤◌, ℕ}
use lib.ListN.{length}
use mathlib.Core.List.{List, ◌++◌}
use mathlib.Core.Path.{◌∙◌, ◌≡◌, ap, sym}
use native.Mathlib.Omega.{arith}
use Rattle.demand2.proofs.Carried.{goes-both}
use Rattle.demand2.proofs.Counts.{settling-stored}
use Rattle.demand2.proofs.Passes.{Passes, begins, looks, passing, refused}
use Rattle.demand2.proofs.Stands.{Stands}
use Rattle.demand3.proofs.Demand3.{low, rich, rich-on}
use Rattle.demand3.proofs.Rich.{Rich}
use Rattle.demand3.specs.Demand3.{figures_at}
use Rattle.history.specs.History.{Ask, begin, step}
use Rattle.history.specs.Ledger.{Account, Point, advance, history, started}
use Rattle.history.specs.Machine.{real}
use Rattle.terms.specs.Answers.{number_of}
use Rattle.machine.specs.Calls.{begin_of}
use Rattle.machine.specs.State.{count_open, task_at}
use Rattle.machine.specs.Step.{Left}
use Rattle.progress.proofs.Bounds.{open_is}
use Rattle.progress.proofs.Budget.{Unhurt, unhurt-on}
use Rattle.progress.proofs.Entry.{restart_ends}
use Rattle.progress.proofs.Look.{begun-facts, height-of}
use Rattle.progress.proofs.Onward.{same-sight}
use Rattle.progress.specs.Alone.{Ends, answer_of}
use Rattle.progress.specs.Budget.{EndAnswer, GoalAnswer, TasksEnd, budget, goal_budget}
use Rattle.terms.specs.Task.{busy}
use Rattle.terms.specs.declared.Answer.TheVariants.{Accepted}
use Rattle.terms.specs.declared.Goal.{Goal}
use Rattle.terms.specs.declared.Goal.TheVariants.{Serve}
use Rattle.terms.specs.declared.Job.{Job}
use Rattle.terms.specs.declared.Operation.{Operation}
use Rattle.terms.specs.declared.Phase.TheVariants.{Start}
use Rattle.terms.specs.declared.State.{State}
use Rattle.terms.specs.declared.Work.TheVariants.{Busy}
use Rattle.trees.specs.Rank.{height}
use Rattle.trees.specs.Tree.{Tree}
use Rattle.undamaged.proofs.NoDamage.{no-17}

-- an accepted begin does not raise c
begun-open : {p : Point} (s : Stands p) (i : ℕ) (o : Operation) (j : Job) {l : Left} {a : Account} {t' : Tree} → Passes s (begin i o j) l a t' → number_of l.answer ≡ 0
    → count_open l.state ≤ count_open p.state
unfolding count_open
begun-open s i o j (refused x h) e = absurd (omega arith)
begun-open s i o j (looks x h) e = absurd h
begun-open {p} s i o j (begins _ _ _ lt idle f) e = omega (arith, settling-stored p.state.tasks i (busy j (Start (Serve o))) 8 (omega (arith, s.eight)) lt)

module _ (t : List ℕ) (st : State) (cs : List Ask) (n : ℕ) (e : length t ≡ 6 * n) (least : 8 ≤ n) (most : n ≤ 4096) where
  abbrev p : Point
  p = history real t st cs

  r : Rich p
  r = rich t st cs n e least most

  pub unhurt : (i : ℕ) → Unhurt i p
  unfolding history
  unhurt i ds h = no-17 t st (cs ++ ds) (step i) n e least most (ap (λ y. answer_of real y i) (goes-both (started real t st) cs ds) ∙ h)

  pub c_is_figure : count_open p.state ≡ (figures_at real p).c
  c_is_figure = open_is r.stands ∙ sym (low r).c_figure

  entry-ends : (i : ℕ) (j : Job) (g : Goal) → (task_at p.state i).work ≡ Busy j (Start g) → Ends real p i (goal_budget g (figures_at real p).height (figures_at real p).c) (GoalAnswer g)
  entry-ends i j g is = restart_ends i j (figures_at real p).c (figures_at real p).height p r (unhurt i) (omega (arith, c_is_figure)) (height-of r) g is

  begin-ends : (i : ℕ) (o : Operation) (j : Job) → (begin_of p.table p.state i o j).answer ≡ Accepted
      → Ends real (advance real p (begin i o j)) i (budget o (figures_at real p).height (figures_at real p).c) (EndAnswer o)
  unfolding advance
  begin-ends i o j accepted =
      let s = r.stands in
      let c = (figures_at real p).c in
      let f = begun-facts s i o j (passing s (begin i o j)).passes (ap number_of accepted) in
      let r' = rich-on r (begin i o j) in
      let h : height r'.stands.tree ≡ height s.tree = ap height (same-sight s r'.stands f.1).0 in
      restart_ends i j c (figures_at real p).height _ r' (unhurt-on i p (unhurt i) (begin i o j))
      (omega (arith, begun-open s i o j (passing s (begin i o j)).passes (ap number_of accepted), c_is_figure)) (omega (arith, h, height-of r)) (Serve o) f.2

-- THE THEOREM
pub tasks_end : TasksEnd real
tasks_end = record { from-begin = begin-ends; from-entry = entry-ends }
