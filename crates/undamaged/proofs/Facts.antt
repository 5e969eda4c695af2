-- What is needed against 17 holds of where every history stands.
use Prim.Native.Nat.{◌*◌, ◌+◌, ◌<◌, ◌≤◌, ℕ}
use borrow.Fn.PlainCycle.{is}
use lib.ListN.{get_or, length, set}
use mathlib.Core.Bool.{Bool, false, true}
use mathlib.Core.List.{List}
use mathlib.Core.Logic.{◌⊎◌, inl, inr}
use mathlib.Core.Path.{◌∙◌, ◌≡◌, ap, subst, sym}
use native.Mathlib.Omega.{arith}
use Rattle.commits.proofs.Acts.{Act, Kind, above_act, proper, settles}
use Rattle.demand2.proofs.After.{task_after}
use Rattle.demand2.proofs.Counts.{all_alike, all_stored}
use Rattle.demand2.proofs.Fresh.{at_entry, at_leaf_lem, elsewhere}
use Rattle.demand2.proofs.Passes.{Passes, abandons, begins, first_tree, looks, refused, resets, steps, tidies, tree_after, view_at}
use Rattle.demand2.proofs.Seen.{all_idle, the_seen, tidied}
use Rattle.demand2.proofs.Stands.{Stands}
use Rattle.demand3.proofs.Crown.{top_rank}
use Rattle.demand3.proofs.Demand3.{low}
use Rattle.demand3.proofs.Rich.{Extra, Rich}
use Rattle.fares.proofs.Tidied.{Swept, swept}
use Rattle.fares.proofs.Whole.{view-bounded}
use Rattle.history.specs.History.{Ask}
use Rattle.history.specs.Ledger.{Account, Point, opening}
use Rattle.machine.specs.Calls.{empty_table}
use Rattle.machine.specs.Choice.{if_b}
use Rattle.machine.specs.Commit.{Did}
use Rattle.machine.specs.State.{busy_tasks, fresh_state, task_at}
use Rattle.machine.specs.Step.{Left, phase_step}
use Rattle.machine.specs.Table.{View, Write, puts, view}
use Rattle.potential.specs.Potential.{phi}
use Rattle.routes.proofs.Level.{lev_at-le}
use Rattle.routes.proofs.Surgery.{in_tree_lem}
use Rattle.routes.specs.Route.{lev_at}
use Rattle.steps.specs.Does.{Does, above_of, put-commits, rests, settle-commits, take-commits, turn_of_put}
use Rattle.steps.specs.Trail.{WorkOk}
use Rattle.terms.specs.Task.{busy, goal_of, idle_task}
use Rattle.terms.specs.declared.Goal.TheVariants.{Settle}
use Rattle.terms.specs.declared.Job.{Job}
use Rattle.terms.specs.declared.Phase.{Phase}
use Rattle.terms.specs.declared.Phase.TheVariants.{PuttingIn, Settling, Start, TakingOut, Walk}
use Rattle.terms.specs.declared.State.{State}
use Rattle.terms.specs.declared.Task.{Task}
use Rattle.terms.specs.declared.Turn.{Turn}
use Rattle.terms.specs.declared.Turn.TheVariants.{Done, Hurt, Next}
use Rattle.terms.specs.declared.Work.TheVariants.{Busy}
use Rattle.trees.proofs.Held.{zero_out}
use Rattle.trees.proofs.Plug.{pos-cases}
use Rattle.trees.specs.Tree.{Tree}
use Rattle.undamaged.proofs.Calm.{act_calm}
use Rattle.undamaged.proofs.Memory.{task_remembers}
use Rattle.undamaged.proofs.Phases.{phase_safe}
use Rattle.undamaged.proofs.Records.{old_kept}
use Rattle.undamaged.specs.Calm.{Calm}
use Rattle.undamaged.specs.Memory.{Remembers, TaskRemembers}
use Rattle.undamaged.specs.Records.{NotLevel, Old}
use Rattle.undamaged.specs.Safe.{Ground, Safe}
use Rattle.views.proofs.Law.{same_or, view-law}
use Rattle.views.specs.Update.{Within, upds}
use Rattle.terms.specs.Task.{begun as taskBegun}

pub record Facts (n : ℕ) (t : Tree) (p : Point) : Type 0 where
  pub old : Old n (view n p.table) t
  pub calm : Calm 255 t
  pub memory : (x : ℕ) → TaskRemembers (view n p.table) t (task_at p.state x).work

pub record Hale (p : Point) : Type 0 where
  pub rich : Rich p
  pub facts : Facts rich.stands.n rich.stands.tree p

-- ---- after a reset

pub fresh-facts : (l n : ℕ) → l ≡ n * 6 → 8 ≤ n → n ≤ 4096 → Facts n first_tree (record { table = empty_table l; state = fresh_state; account = opening })
fresh-facts l n e least most = record {
  old = record {
    states = λ a. state a (same_or a 0) (same_or a 1);
    inside = λ a two. none a two;
    formed = λ a two. none a two;
    down = λ a two. none a two;
  };
  calm = tt;
  memory = λ x. rw (all_alike 8 x idle_task) tt;
}
  where
    v : View
    v = view n (empty_table l)

    state : (a : ℕ) → (a ≡ 0) ⊎ (a ≡ 0 → ⊥) → (a ≡ 1) ⊎ (a ≡ 1 → ⊥) → ((view n (empty_table l) a).state ≡ 0) ⊎ (((view n (empty_table l) a).state ≡ 1) ⊎ ((view n (empty_table l) a).state ≡ 2))
    state a (inl z) o = inr (inl (ap (λ y. (view n (empty_table l) y).state) z ∙ ap (λ r. r.state) (at_entry l n e least most)))
    state a (inr z) (inl o) = inr (inl (ap (λ y. (view n (empty_table l) y).state) o ∙ ap (λ r. r.state) (at_leaf_lem l n e least most)))
    state a (inr z) (inr o) = inl (ap (λ r. r.state) (elsewhere l n e least most a z o))

    none : {A : Type 0} (a : ℕ) → (view n (empty_table l) a).state ≡ 2 → A
    none a two =
        absurd (elim (same_or a 0) [
          | inl z ↦ omega (arith, two, ap (λ y. (view n (empty_table l) y).state) z ∙ ap (λ r. r.state) (at_entry l n e least most))
          | inr z ↦ (elim (same_or a 1) [
            | inl o ↦ omega (arith, two, ap (λ y. (view n (empty_table l) y).state) o ∙ ap (λ r. r.state) (at_leaf_lem l n e least most))
            | inr o ↦ omega (arith, two, ap (λ r. r.state) (elsewhere l n e least most a z o))
          ])
        ])

module _ {p : Point} (s : Stands p) (x : Extra s.n s.tree p) (f : Facts s.n s.tree p) where
  abbrev v : View
  v = view_at s

  abbrev st : State
  st = p.state

  pub ground : Ground s.n v s.tree
  ground = record {
    carries = s.carries;
    shape = s.shape;
    bounded = view-bounded s.n p.table;
    old = f.old;
    calm = f.calm;
    top = omega (arith, top_rank s.tree s.shape.ranked x.sentinel-leaf, s.shape.limit);
    few = s.most;
  }

  pub paid_most : phi s.tree ≤ 2000000
  paid_most = omega (arith, x.paid, s.limit)

  -- EVERY step of a busy task is safe
  pub step-safe : (i : ℕ) (j : Job) (a : Phase) → (task_at st i).work ≡ Busy j a → Safe v s.tree (phase_step v s.n st.m j a).turn
  step-safe i j a is = go a (subst (WorkOk v s.tree) is (s.ok i)) (subst (TaskRemembers v s.tree) is (f.memory i))
    where
      go : (a : Phase) → WorkOk v s.tree (Busy j a) → Remembers v s.tree j.number a → Safe v s.tree (phase_step v s.n st.m j a).turn
      go a ok m = phase_safe s.n v s.tree ground paid_most st.m j a ok m

  -- one task stored
  stored : (i : ℕ) → i < 8 → (k : Task) (m u : ℕ) (a : Account) → TaskRemembers v s.tree k.work → Facts s.n s.tree (record { table = p.table; state = record { tasks = set st.tasks i k; m = m; u = u }; account = a })
  stored i lt k m u a h = record {
    old = f.old;
    calm = f.calm;
    memory = all_stored (λ y b. TaskRemembers v s.tree b.work) st.tasks i k idle_task (omega (arith, s.eight)) h (λ y d. f.memory y);
  }

  -- a commit: what the record above is not level for
  low-at : (q : ℕ) → NotLevel v s.tree q → lev_at 255 q s.tree ≡ 0
  low-at q h =
      elim (pos-cases (lev_at 255 q s.tree)) [
        | inl pos ↦ absurd (let z = h (in_tree_lem v s.tree q s.carries (omega (arith, lev_at-le 255 q s.tree))) in omega arith)
        | inr z ↦ z
      ]

  zero_low : lev_at 255 0 s.tree ≡ 0
  zero_low = omega (arith, lev_at-le 255 0 s.tree, zero_out v s.tree s.carries)

  above_low : (j : Job) (a : Phase) → Remembers v s.tree j.number a → goal_of a ≡ Settle → lev_at 255 (above_of a) s.tree ≡ 0
  above_low j (Start g) m e = zero_low
  above_low j (Walk g q) m e = zero_low
  above_low j (PuttingIn q c) m e = absurd (let z : ◌≡◌ {A = ℕ} 0 1 = cc in omega arith)
  above_low j (TakingOut q c) m e = absurd (let z : ◌≡◌ {A = ℕ} 0 1 = cc in omega arith)
  above_low j (Settling q c) m e =
      elim m.1.grand-low [
        | inr h ↦ low-at q.grand h
        | inl z ↦ low-at q.grand (λ one. absurd (let lt = view-bounded s.n p.table q.grand one in omega (arith, s.most)))
      ]

  -- the commit of task i
  module _ (i : ℕ) (lt : i < 8) (k : Task) (trivial : (w : View) (t' : Tree) → TaskRemembers w t' k.work) (m u : ℕ) (a : Account) where
    committed-facts : {kind : Kind} {t' : Tree} (ws : List Write) → Within s.n ws → (act : Act v kind s.tree (upds v ws) t') → (kind ≡ settles → lev_at 255 (above_act act) s.tree ≡ 0)
        → Facts s.n t' (record { table = puts p.table ws; state = record { tasks = set st.tasks i k; m = m; u = u }; account = a })
    committed-facts {kind} {t'} ws inside act low =
        let r = proper act s.carries s.shape in
        let law = view-law s.n p.table ws s.size inside in
        record {
          old = subst (λ w. Old s.n w t') (sym law) (old_kept r.surgery r.free s.n (view-bounded s.n p.table) s.shape f.old);
          calm = act_calm act s.shape low f.calm;
          memory = subst (λ w. (y : ℕ) → TaskRemembers w t' (get_or (set st.tasks i k) y idle_task).work) (sym law)
              (all_stored (λ y b. TaskRemembers (upds v ws) t' b.work) st.tasks i k idle_task (omega (arith, s.eight)) (trivial (upds v ws) t')
              (λ y d. task_remembers r.surgery r.free (task_at st y).work (f.memory y)));
        }

  trivial_put : (j : Job) (b : Bool) (w : View) (t' : Tree) (k : Task) → TaskRemembers w t' (task_after (turn_of_put j b) k).work
  unfolding if_b
  trivial_put j true w t' k = tt
  trivial_put j false w t' k = tt

  -- a quiet step: the table is as it was
  quiet-facts : (i : ℕ) → i < 8 → (j : Job) (c : Phase) → (task_at st i).work ≡ Busy j c → (b : Turn) (m u : ℕ) (a : Account) → Safe v s.tree b
      → Facts s.n s.tree (record { table = p.table; state = record { tasks = set st.tasks i (task_after b (busy j c)); m = m; u = u }; account = a })
  quiet-facts i lt j c is Hurt m u a h = absurd h
  quiet-facts i lt j c is (Next k) m u a h = stored i lt k m u a h
  quiet-facts i lt j c is (Done y) m u a h = stored i lt idle_task m u a tt

  step-facts : (i : ℕ) → i < 8 → (j : Job) (c : Phase) → (task_at st i).work ≡ Busy j c → (d : Did) → Safe v s.tree d.turn → Within s.n d.writes → (does : Does v s.tree st.m j c d) (m u : ℕ) (a : Account)
      → Facts s.n (tree_after does) (record { table = puts p.table d.writes; state = record { tasks = set st.tasks i (task_after d.turn (busy j c)); m = m; u = u }; account = a })
  unfolding puts
  step-facts i lt j c is _ safe inside (rests b q) m u a = quiet-facts i lt j c is b m u a safe
  step-facts i lt j c is _ safe inside (put-commits b ws lim g ch) m u a =
      committed-facts i lt (task_after (turn_of_put j b) (busy j c)) (λ w t'. trivial_put j b w t' (busy j c)) m u a ws inside ch.act (λ e. absurd (let z : ◌≡◌ {A = ℕ} 0 1 = cc in omega arith))
  step-facts i lt j c is _ safe inside (take-commits ws g ch) m u a =
      committed-facts i lt idle_task (λ w t'. tt) m u a ws inside ch.act (λ e. absurd (let z : ◌≡◌ {A = ℕ} 0 1 = cc in omega arith))
  step-facts i lt j c is _ safe inside (settle-commits ws g ch) m u a =
      committed-facts i lt (busy j (Start Settle)) (λ w t'. tt) m u a ws inside ch.act
      (λ e. rw ch.under (above_low j c (subst (TaskRemembers v s.tree) is (f.memory i)) g))

  tidy-facts : busy_tasks st.tasks 8 ≡ 0 → Facts s.n s.tree (record { table = tidied s; state = st; account = p.account })
  tidy-facts e =
      let w = swept s.n p.table s.tree (the_seen s) s.size in
      record {
        old = record {
          states = λ a. elim (same_or (v a).state 1) [
            | inl o ↦ inr (inl (ap (λ r. r.state) (w.stays a o) ∙ o))
            | inr d ↦ inl (ap (λ r. r.state) (w.freed a d))
          ];
          inside = λ a two. none a two w;
          formed = λ a two. none a two w;
          down = λ a two. none a two w;
        };
        calm = f.calm;
        memory = λ y. subst (TaskRemembers (view s.n (tidied s)) s.tree) (sym (all_idle s e y)) tt;
      }
    where
      none : {A : Type 0} (a : ℕ) → (view s.n (tidied s) a).state ≡ 2 → Swept s.n v (view s.n (tidied s)) → A
      none a two w =
          absurd (elim (same_or (v a).state 1) [
            | inl o ↦ omega (arith, two, ap (λ r. r.state) (w.stays a o) ∙ o)
            | inr d ↦ omega (arith, two, ap (λ r. r.state) (w.freed a d))
          ])

  pub facts-on : {c : Ask} {l : Left} {a' : Account} {t' : Tree} → Passes s c l a' t' → Facts s.n t' (record { table = l.table; state = l.state; account = a' })
  facts-on (refused y h) = f
  facts-on (looks y h) = f
  facts-on resets = fresh-facts (length p.table) s.n s.size s.least s.most
  facts-on (begins i o j lt idle fit) = stored i lt (taskBegun o j) st.m st.u _ tt
  facts-on (steps i j c d lt is e inside does b) = step-facts i lt j c is d (rw e (step-safe i j c is)) inside does _ _ _
  facts-on (abandons i du y lt b e h) = stored i lt idle_task st.m (st.u + du) _ tt
  facts-on (tidies e) = tidy-facts e
