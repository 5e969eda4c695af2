-- What a step leaves of the tree, the fares and what the tasks remember.
use Prim.Native.Nat.{◌<◌, ℕ}
use mathlib.Core.Bool.{Bool, false, true}
use mathlib.Core.List.{List, ◌∷◌}
use mathlib.Core.Path.{◌∙◌, ◌≡◌, ap, refl, subst, sym}
use Rattle.commits.proofs.Acts.{Act, Kind, proper}
use Rattle.commits.proofs.Shape.{Shape}
use Rattle.fares.proofs.Changes.{act_fares}
use Rattle.fares.proofs.Lists.{insert_added, insert_removed, tree_sorted}
use Rattle.fares.specs.Fares.{fares}
use Rattle.history.specs.Fares.{Held, Lawful, Sorted}
use Rattle.history.specs.Ledger.{Commit, added, given, put, removed, take}
use Rattle.machine.specs.Choice.{if_b}
use Rattle.machine.specs.Commit.{Did}
use Rattle.machine.specs.Table.{View}
use Rattle.steps.proofs.Trails.{task_kept}
use Rattle.steps.specs.Does.{Does, Quiet, hurts, leaves, moves-on, put-commits, rests, settle-commits, settled, stops, take-commits, turn_of_put}
use Rattle.steps.specs.Trail.{TaskOk, WorkOk}
use Rattle.terms.specs.Task.{busy, idle_task}
use Rattle.terms.specs.declared.Goal.TheVariants.{Settle}
use Rattle.terms.specs.declared.Job.{Job}
use Rattle.terms.specs.declared.Phase.{Phase}
use Rattle.terms.specs.declared.Phase.TheVariants.{Start}
use Rattle.terms.specs.declared.Task.{Task}
use Rattle.terms.specs.declared.Turn.{Turn}
use Rattle.terms.specs.declared.Turn.TheVariants.{Done, Hurt, Next}
use Rattle.terms.specs.declared.Work.TheVariants.{Busy}
use Rattle.trees.proofs.Held.{Carries}
use Rattle.trees.specs.Order.{ALL}
use Rattle.trees.specs.Tree.{Tree}
use Rattle.views.specs.Update.{upds}

-- the task after its turn
abbrev pub task_after : Turn → Task → Task
task_after Hurt k = k
task_after (Next k') k = k'
task_after (Done a) k = idle_task

-- what a step adds to the commits
abbrev pub newly : {v : View} {t : Tree} {m : ℕ} {j : Job} {f : Phase} {d : Did} → Does v t m j f d → List Commit → List Commit
newly {j = j} (rests a q) cs = cs
newly {j = j} (put-commits b ws lim g ch) cs = put j ∷ cs
newly {j = j} (take-commits ws g ch) cs = take j ∷ cs
newly {j = j} (settle-commits ws g ch) cs = cs

-- ranks, order and labels are right, the fares are those that the commits give, each commit could be made, and every task remembers what it should
pub record After (v w : View) (t : Tree) (own : Task) (old new : List Commit) : Type 0 where
  pub tree : Tree
  pub carries : Carries w tree
  pub shape : Shape tree
  pub held : fares tree ≡ given new
  pub lawful : Lawful new
  pub others : (k : Task) → TaskOk v t k → TaskOk w tree k
  pub own-ok : TaskOk w tree own

-- a commit, by its kind
module _ {v w : View} {t t' : Tree} {kind : Kind} (act : Act v kind t w t') (i : Carries v t) (sh : Shape t) (cs : List Commit) (is : fares t ≡ given cs) (law : Lawful cs) where
  sorted_old : Sorted (fares t)
  sorted_old = tree_sorted 0 ALL t sh.order

  by_act : (own : Task) → ((k : Task) → TaskOk v t k → TaskOk w t' k) → TaskOk w t' own → (new : List Commit) → fares t' ≡ given new → Lawful new → After v w t own cs new
  by_act own others ok new e l =
      let p = proper act i sh in
      record { tree = t'; carries = p.surgery.after; shape = p.shape; held = e; lawful = l; others = others; own-ok = ok }

  keeps : (k : Task) → TaskOk v t k → TaskOk w t' k
  keeps k o = task_kept (proper act i sh).surgery k o

  sorted_new : Sorted (fares t')
  sorted_new = tree_sorted 0 ALL t' (proper act i sh).shape.order

put-ok : (w : View) (t : Tree) (j : Job) (b : Bool) → j.number < 1000000 → j.price < 100000 → TaskOk w t (task_after (turn_of_put j b) idle_task)
unfolding if_b
put-ok w t j true x y = (x, y, tt)
put-ok w t j false x y = tt

quiet_ok : (v : View) (t : Tree) (j : Job) (f : Phase) (a : Turn) → WorkOk v t (Busy j f) → Quiet v t j f a → TaskOk v t (task_after a (busy j f))
quiet_ok v t j f _ ok hurts = ok
quiet_ok v t j f _ ok (moves-on f' g p mv) = (ok.0, ok.1, p)
quiet_ok v t j f _ ok (stops o a g e) = tt
quiet_ok v t j f _ ok (settled g w l e) = tt
quiet_ok v t j f _ ok (leaves g) = tt

-- a put-in's turn does not look at the task before it
put-task : (j : Job) (b : Bool) (k : Task) → task_after (turn_of_put j b) k ≡ task_after (turn_of_put j b) idle_task
unfolding if_b
put-task j true k = refl
put-task j false k = refl

pub step_after : (v : View) (t : Tree) → Carries v t → Shape t → (m : ℕ) (j : Job) (f : Phase) → WorkOk v t (Busy j f) → (cs : List Commit) → fares t ≡ given cs → Lawful cs
    → (d : Did) (does : Does v t m j f d) → After v (upds v d.writes) t (task_after d.turn (busy j f)) cs (newly does cs)
step_after v t i sh m j f ok cs is law _ (rests a q) =
    record { tree = t; carries = i; shape = sh; held = is; lawful = law; others = λ k o. o; own-ok = quiet_ok v t j f a ok q }
step_after v t i sh m j f ok cs is law _ (put-commits b ws lim g ch) =
    let c = insert_added j.number j.price (fares t) (fares ch.tree) (act_fares ch.act sh) (sorted_new ch.act i sh cs is law) in
    by_act ch.act i sh cs is law (task_after (turn_of_put j b) (busy j f)) (keeps ch.act i sh cs is law) (rw (put-task j b (busy j f)) (put-ok _ _ j b ok.0 ok.1)) (put j ∷ cs)
    (c.0 ∙ ap (added j.number j.price) is) ((λ h. c.1 (subst (Held j.number) (sym is) h)), law)
step_after v t i sh m j f ok cs is law _ (take-commits ws g ch) =
    let ins = act_fares ch.act sh in
    let c = insert_removed j.number ins.0 (fares ch.tree) (fares t) ins.1 (sorted_old ch.act i sh cs is law) in
    by_act ch.act i sh cs is law idle_task (keeps ch.act i sh cs is law) tt (take j ∷ cs)
    (c.0 ∙ ap (removed j.number) is) (subst (Held j.number) is c.1, law)
step_after v t i sh m j f ok cs is law _ (settle-commits ws g ch) =
    by_act ch.act i sh cs is law (busy j (Start Settle)) (keeps ch.act i sh cs is law) (ok.0, ok.1, tt) cs
    (act_fares ch.act sh ∙ is) law
