-- WHAT THE NEXT STEP of a task can be that left the entry in the table as it is: it goes on with fewer steps left, ends, or commits; only a stage of readings may find damage.
use Prim.Native.Nat.{◌*◌, ◌+◌, ◌<◌, ◌≤◌, suc, ℕ}
use lib.ListN.{length}
use mathlib.Core.Bool.{Bool, false, true}
use mathlib.Core.List.{List}
use mathlib.Core.Path.{◌∙◌, ◌≡◌, ap, refl, subst, sym}
use native.Mathlib.Omega.{arith}
use Rattle.commits.proofs.Acts.{Act, Kind, level_put, proper}
use Rattle.demand2.proofs.After.{task_after}
use Rattle.demand2.proofs.Demand2.{keeps}
use Rattle.demand2.proofs.Passes.{view_at}
use Rattle.demand2.proofs.Stands.{Stands}
use Rattle.fares.proofs.Whole.{view-bounded}
use Rattle.history.specs.History.{step}
use Rattle.history.specs.Ledger.{Point, advance}
use Rattle.history.specs.Machine.{real}
use Rattle.terms.specs.Answers.{number_of}
use Rattle.machine.specs.Choice.{if_b}
use Rattle.machine.specs.Commit.{Did, calm}
use Rattle.machine.specs.State.{count_open, one, task_at}
use Rattle.machine.specs.Step.{answered, phase_step}
use Rattle.machine.specs.Table.{View, Write, puts}
use Rattle.progress.proofs.Onward.{answer_is, next-open, next-table, phase_on, same-sight, table_same, task_is, task_ok}
use Rattle.progress.proofs.Sees.{GoesOn, Onward, Sees}
use Rattle.progress.proofs.Work.{settle-work}
use Rattle.progress.specs.Alone.{answer_of}
use Rattle.progress.specs.Restarts.{is_start}
use Rattle.progress.specs.Work.{work}
use Rattle.routes.proofs.Level.{lev_at-le}
use Rattle.routes.proofs.Surgery.{in_tree_lem}
use Rattle.steps.proofs.Steps.{step-does}
use Rattle.steps.specs.Does.{Does, Quiet, moves-on, put-commits, rests, settle-commits, take-commits, turn_of_put, walks}
use Rattle.terms.specs.Task.{busy, goal_of, goal_settles, work_settles}
use Rattle.terms.specs.declared.Answer.{Answer}
use Rattle.terms.specs.declared.Answer.TheVariants.{TakenOut}
use Rattle.terms.specs.declared.Goal.TheVariants.{Serve, Settle}
use Rattle.terms.specs.declared.Job.{Job}
use Rattle.terms.specs.declared.Operation.TheVariants.{PutIn, TakeOut}
use Rattle.terms.specs.declared.Phase.{Phase}
use Rattle.terms.specs.declared.Phase.TheVariants.{Start}
use Rattle.terms.specs.declared.Task.{Task}
use Rattle.terms.specs.declared.Turn.{Turn}
use Rattle.terms.specs.declared.Turn.TheVariants.{Done, Hurt, Next}
use Rattle.terms.specs.declared.Work.TheVariants.{Busy, Idle}
use Rattle.trees.proofs.Held.{Carries}
use Rattle.trees.proofs.OneTree.{one-tree}
use Rattle.trees.specs.Rank.{rank}
use Rattle.trees.specs.Tree.{Tree, occ}
use Rattle.views.proofs.Inside.{step-inside}
use Rattle.views.proofs.Law.{length_law, view-law}
use Rattle.views.specs.Update.{Within, upds}

pub data Case {p : Point} (s : Stands p) (i : ℕ) (j : Job) (f : Phase) (d : ℕ) : Type 0 where
  hurt : walks f ≡ false → answer_of real p i ≡ 17 → (task_at (advance real p (step i)).state i).work ≡ Busy j f → Case s i j f d
  ended : (a : Answer) → Quiet (view_at s) s.tree j f (Done a) → answer_of real p i ≡ number_of a → (task_at (advance real p (step i)).state i).work ≡ Idle → Case s i j f d
  onward : (f' : Phase) (d' : ℕ) → answer_of real p i ≡ 0 → (advance real p (step i)).table ≡ p.table → (task_at (advance real p (step i)).state i).work ≡ Busy j f' → goal_of f' ≡ goal_of f
      → is_start f' ≡ false → Sees (view_at s) s.tree f' d' → suc d' ≤ d → count_open (advance real p (step i)).state ≡ count_open p.state → Case s i j f d
  puts-now : (b : Bool) → goal_of f ≡ Serve PutIn → answer_of real p i ≡ number_of (answered (turn_of_put j b))
      → (task_at (advance real p (step i)).state i).work ≡ (task_after (turn_of_put j b) (busy j f)).work → (b ≡ true → (advance real p (step i)).table ≡ p.table → ⊥)
      → (b ≡ true → count_open (advance real p (step i)).state ≡ count_open p.state + 1)
      → Case s i j f d
  takes-now : goal_of f ≡ Serve TakeOut → answer_of real p i ≡ 5 → (task_at (advance real p (step i)).state i).work ≡ Idle → Case s i j f d
  settles_now : goal_of f ≡ Settle → answer_of real p i ≡ 0 → (task_at (advance real p (step i)).state i).work ≡ Busy j (Start Settle)
      → ((s' : Stands (advance real p (step i))) → suc (work 255 s'.tree) ≤ work 255 s.tree) → count_open (advance real p (step i)).state ≡ count_open p.state → Case s i j f d

same-phase : (j : Job) (f f' : Phase) → busy j f ≡ busy j f' → f ≡ f'
same-phase j f f' e = let z : Busy j f ≡ Busy j f' = ap (λ (k : Task). k.work) e in cc

-- a step that goes on keeps the goal
pub goal_kept : {v : View} {t : Tree} {j : Job} {f : Phase} {k : Task} (f' : Phase) → Quiet v t j f (Next k) → k ≡ busy j f' → goal_of f' ≡ goal_of f
goal_kept {j = j} f' (moves-on f'' g ok mv) ek = ap goal_of (sym (same-phase j f'' f' ek)) ∙ g

module _ {p : Point} (s : Stands p) (top : rank s.tree ≡ 255) (i : ℕ) (lt : i < 8) (j : Job) (f : Phase) (is : (task_at p.state i).work ≡ Busy j f) (d : ℕ) (sees : Sees (view_at s) s.tree f d) where
  abbrev v : View
  v = view_at s

  abbrev did : Did
  did = phase_step v s.n p.state.m j f

  abbrev after-step : Point
  after-step = advance real p (step i)

  -- the tree after a commit
  tree_after_lem : {kind : Kind} {t' : Tree} (ws : List Write) → did.writes ≡ ws → Act v kind s.tree (upds v ws) t' → (s' : Stands after-step) → s'.tree ≡ t'
  tree_after_lem {kind} {t'} ws e act s' =
      let inside : Within s.n ws = subst (λ x. Within s.n x) e (step-inside s.n p.table p.state.m j f) in
      let table : after-step.table ≡ puts p.table ws = next-table s i lt j f is ∙ ap (puts p.table) e in
      let long : length after-step.table ≡ s.n * 6 = ap (λ (x : List ℕ). length x) table ∙ length_law s.n p.table ws s.size in
      let n-is : s'.n ≡ s.n = omega (arith, s'.size) in
      let view-is : view_at s' ≡ upds v ws = rw (n-is, table) (view-law s.n p.table ws s.size inside) in
      one-tree (upds v ws) s'.tree t' (subst (λ w. Carries w s'.tree) view-is s'.carries) (proper act s.carries s.shape).surgery.after

  -- a put-in with a level record is seen in the table
  put-changes : {kind : Kind} {t' : Tree} (ws : List Write) → did.writes ≡ ws → (act : Act v kind s.tree (upds v ws) t') → level_put act ≡ true → after-step.table ≡ p.table → ⊥
  put-changes {kind} {t'} ws e act lp same =
      let s' = keeps s (step i) in
      let r = proper act s.carries s.shape in
      let same-tree : t' ≡ s.tree = sym (tree_after_lem ws e act s') ∙ (same-sight s s' same).0 in
      let o : 1 ≤ occ r.x s.tree = subst (λ y. 1 ≤ occ r.x y) same-tree (omega (arith, (r.level lp).0, lev_at-le 255 r.x t')) in
      omega (arith, in_tree_lem v s.tree r.x s.carries o, r.free)

  by_turn : (a : Turn) → did ≡ calm a → Quiet v s.tree j f a → Onward v s.tree j f d a → Case s i j f d
  by_turn Hurt e q h = let turn = ap (λ (x : Did). x.turn) e in hurt h (answer_is s i lt j f is Hurt turn) (task_is s i lt j f is Hurt turn)
  by_turn (Done a) e q h = let turn = ap (λ (x : Did). x.turn) e in ended a q (answer_is s i lt j f is (Done a) turn) (task_is s i lt j f is (Done a) turn)
  by_turn (Next k) e q (f', d', ek, st, se, le) =
      let turn = ap (λ (x : Did). x.turn) e in
      onward f' d' (answer_is s i lt j f is (Next k) turn) (table_same s i lt j f is (ap (λ (x : Did). x.writes) e)) (task_is s i lt j f is (Next k) turn ∙ ap (λ (x : Task). x.work) ek) (goal_kept f' q ek) st se le (open_on turn ek (goal_kept f' q ek))
    where
      open_on : {k : Task} → did.turn ≡ Next k → k ≡ busy j f' → goal_of f' ≡ goal_of f → count_open after-step.state ≡ count_open p.state
      open_on {k} turn ek g =
          let o = next-open s i lt j f is k turn in
          let a : one (work_settles k.work) ≡ one (goal_settles (goal_of f)) = ap (λ (x : Task). one (work_settles x.work)) ek ∙ ap (λ y. one (goal_settles y)) g in
          omega arith

  -- a put-in that goes on to settle: c is one more
  put-open : (b : Bool) → did.turn ≡ turn_of_put j b → goal_of f ≡ Serve PutIn → b ≡ true → count_open after-step.state ≡ count_open p.state + 1
  unfolding if_b
  put-open true turn g e =
      let o = next-open s i lt j f is (busy j (Start Settle)) turn in
      let a : one (goal_settles (goal_of f)) ≡ 0 = ap (λ y. one (goal_settles y)) g in
      omega arith
  put-open false turn g e = absurd (let z : ◌≡◌ {A = ℕ} 0 1 = cc in omega arith)

  by_does : (x : Did) → did ≡ x → Does v s.tree p.state.m j f x → GoesOn v s.tree j f d x → Case s i j f d
  by_does _ e (rests a q) h = by_turn a e q (h refl)
  by_does _ e (put-commits b ws lim g ch) h =
      let turn = ap (λ (x : Did). x.turn) e in
      puts-now b g (answer_is s i lt j f is (turn_of_put j b) turn) (task_is s i lt j f is (turn_of_put j b) turn) (λ eb same. put-changes ws (ap (λ (x : Did). x.writes) e) ch.act (ch.level ∙ eb) same) (put-open b turn g)
  by_does _ e (take-commits ws g ch) h = let turn = ap (λ (x : Did). x.turn) e in takes-now g (answer_is s i lt j f is (Done TakenOut) turn) (task_is s i lt j f is (Done TakenOut) turn)
  by_does _ e (settle-commits ws g ch) h =
      let turn = ap (λ (x : Did). x.turn) e in
      settles_now g (answer_is s i lt j f is (Next (busy j (Start Settle))) turn) (task_is s i lt j f is (Next (busy j (Start Settle))) turn)
      (λ s'. rw (tree_after_lem ws (ap (λ (x : Did). x.writes) e) ch.act s') (settle-work ch.act s.shape))
      (let o = next-open s i lt j f is (busy j (Start Settle)) turn in let a : one (goal_settles (goal_of f)) ≡ 1 = ap (λ y. one (goal_settles y)) g in omega arith)

  pub next-case : Case s i j f d
  next-case =
      let ok = task_ok s i lt j f is in
      by_does did refl (step-does v s.tree s.carries s.shape s.n p.state.m j f ok)
      (phase_on s.n v s.tree s.carries s.shape (view-bounded s.n p.table) top p.state.m j ok.0 f d sees)
