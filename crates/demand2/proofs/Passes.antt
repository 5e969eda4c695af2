-- WHAT A CALL DOES where a history stands, once for all theorems: it is refused, it only looks, or it does what it is for. With what it leaves, the account and the tree
-- after it.
use Prim.Native.Nat.{◌+◌, ◌<◌, ◌≤◌, ℕ}
use borrow.Author.Tests.{eqb-true, ltb-false, not-false}
use lib.Dec.{eqb, ltb}
use lib.ListN.{length, set}
use mathlib.Core.Bool.{false, true}
use mathlib.Core.List.{List}
use mathlib.Core.Path.{◌∙◌, ◌≡◌, ap, refl, subst, sym}
use native.Mathlib.Nat.{add-zero}
use native.Mathlib.Omega.{arith}
use Rattle.demand2.proofs.Accounts.{Agree, Booked, booked, still_open_lem}
use Rattle.demand2.proofs.After.{newly, task_after}
use Rattle.demand2.proofs.Counts.{idle_work, stored_here}
use Rattle.demand2.proofs.Fresh.{reset-is}
use Rattle.demand2.proofs.Seen.{reach-is, the_seen}
use Rattle.demand2.proofs.Stands.{Stands, fits-is, slots-is}
use Rattle.history.specs.History.{Ask, abandon, begin, figures, left, list, reset, step, tidy}
use Rattle.history.specs.Ledger.{Account, Open, Point, abandoned_by, begun, ends, entered, one_unsettled, open_at, opening, shut, unsettled, with_open}
use Rattle.history.specs.Machine.{real}
use Rattle.machine.proofs.Choice.{if_elim}
use Rattle.terms.specs.Answers.{number_of}
use Rattle.machine.specs.Calls.{abandon_of, abandoned_out, begin_of, empty_table, figures_of, list_of, reset_of, sweep, tidy_of, tidy_reached}
use Rattle.machine.specs.Choice.{if_b}
use Rattle.machine.specs.Commit.{Did}
use Rattle.machine.specs.Contract.{after}
use Rattle.machine.specs.Reach.{reach}
use Rattle.machine.specs.Record.{top_number}
use Rattle.machine.specs.State.{ask_fits, busy_tasks, fresh_state, task_at, with_task}
use Rattle.machine.specs.Step.{Left, answered, carried, phase_step, same, step_of, step_work, turned}
use Rattle.machine.specs.Table.{View, puts, slots, view}
use Rattle.steps.proofs.Steps.{step-does}
use Rattle.steps.specs.Does.{Does, put-commits, rests, settle-commits, take-commits}
use Rattle.steps.specs.Trail.{WorkOk}
use Rattle.terms.specs.Task.{busy, idle_task, is_busy}
use Rattle.terms.specs.declared.Answer.{Answer}
use Rattle.terms.specs.declared.Answer.TheVariants.{Accepted, Damaged, Length, OutOfRange, PutUnsettled, SomeBusy, TaskBusy, TaskIdle, TaskNumber}
use Rattle.terms.specs.declared.Job.{Job}
use Rattle.terms.specs.declared.Operation.{Operation}
use Rattle.terms.specs.declared.Phase.{Phase}
use Rattle.terms.specs.declared.State.{State}
use Rattle.terms.specs.declared.Work.{Work}
use Rattle.terms.specs.declared.Work.TheVariants.{Busy, Idle}
use Rattle.trees.specs.Tree.{Tree, leaf}
use Rattle.views.proofs.Inside.{step-inside}
use Rattle.views.specs.Update.{Within}
use Rattle.terms.specs.Task.{begun as taskBegun}

-- the tree of a reset
abbrev pub first_tree : Tree
first_tree = leaf 1 top_number 0 255

-- the view where a history stands
abbrev pub view_at : {p : Point} → Stands p → View
view_at {p} s = view s.n p.table

-- the tree after a step
abbrev pub tree_after : {v : View} {t : Tree} {m : ℕ} {j : Job} {f : Phase} {d : Did} → Does v t m j f d → Tree
tree_after {t = t} (rests x q) = t
tree_after (put-commits b ws lim g ch) = ch.tree
tree_after (take-commits ws g ch) = ch.tree
tree_after (settle-commits ws g ch) = ch.tree

-- figures and list
abbrev pub Looks : Ask → Type 0
Looks reset = ⊥
Looks (begin i o j) = ⊥
Looks (step i) = ⊥
Looks (abandon i) = ⊥
Looks tidy = ⊥
Looks figures = Unit {0}
Looks (list room) = Unit {0}

pub data Passes {p : Point} (s : Stands p) : Ask → Left → Account → Tree → Type 0 where
  refused : {c : Ask} (x : Answer) → 10 ≤ number_of x → Passes s c (same p.table p.state x) p.account s.tree
  looks : {c : Ask} (x : Answer) → Looks c → Passes s c (same p.table p.state x) p.account s.tree
  resets : Passes s reset (same (empty_table (length p.table)) fresh_state Accepted) opening first_tree
  begins : (i : ℕ) (o : Operation) (j : Job) → i < 8 → (task_at p.state i).work ≡ Idle → ask_fits o j ≡ true
      → Passes s (begin i o j) (same p.table (with_task p.state i (taskBegun o j)) Accepted) (with_open p.account i (begun o j)) s.tree
  steps : (i : ℕ) (j : Job) (f : Phase) (d : Did) → i < 8 → (task_at p.state i).work ≡ Busy j f → d ≡ phase_step (view_at s) s.n p.state.m j f → Within s.n d.writes
      → (does : Does (view_at s) s.tree p.state.m j f d) (b : Booked p.state p.account i (open_at p.account i) d (busy j f) (newly does p.account.commits))
      → Passes s (step i)
      (record {
        table = puts p.table d.writes;
        state = record { tasks = set p.state.tasks i (task_after d.turn (busy j f)); m = p.state.m + b.dm; u = p.state.u + b.du };
        answer = answered d.turn;
      })
      (record { tasks = set p.account.tasks i b.then; commits = newly does p.account.commits; lost = p.account.lost + b.du }) (tree_after does)
  abandons : (i du : ℕ) (x : Answer) → i < 8 → is_busy (task_at p.state i).work ≡ true → du ≡ one_unsettled (open_at p.account i) → number_of x < 10
      → Passes s (abandon i)
      (record { table = p.table; state = record { tasks = set p.state.tasks i idle_task; m = p.state.m; u = p.state.u + du }; answer = x })
      (record { tasks = set p.account.tasks i shut; commits = p.account.commits; lost = p.account.lost + du }) s.tree
  tidies : busy_tasks p.state.tasks 8 ≡ 0 → Passes s tidy (same (puts p.table (sweep (the_seen s).marks s.n 0)) p.state Accepted) p.account s.tree

-- a call that left l
pub record Passing {p : Point} (s : Stands p) (c : Ask) (l : Left) : Type 0 where
  pub tree : Tree
  pub passes : Passes s c l (entered p.account c l) tree

module _ {p : Point} (s : Stands p) where
  abbrev t : List ℕ
  t = p.table

  abbrev st : State
  st = p.state

  abbrev a : Account
  a = p.account

  abbrev v : View
  v = view_at s

  -- ---- reset

  reset-passes : Passing s reset (reset_of t st)
  unfolding entered if_b
  reset-passes = rw (reset-is t st (fits-is s)) (record { tree = first_tree; passes = resets })

  -- ---- begin

  begin-no : (i : ℕ) (o : Operation) (j : Job) (x : Answer) → eqb (number_of x) 0 ≡ false → 10 ≤ number_of x → Passing s (begin i o j) (same t st x)
  unfolding entered if_b
  begin-no i o j x e h = record { tree = s.tree; passes = rw e (refused x h) }

  begin-yes : (i : ℕ) (o : Operation) (j : Job) → i < 8 → ask_fits o j ≡ true → is_busy (task_at st i).work ≡ false → Passing s (begin i o j) (same t (with_task st i (taskBegun o j)) Accepted)
  unfolding entered if_b
  begin-yes i o j lt f idle = record { tree = s.tree; passes = begins i o j lt (idle_work (task_at st i).work idle) f }

  begin-passes : (i : ℕ) (o : Operation) (j : Job) → Passing s (begin i o j) (begin_of t st i o j)
  unfolding begin_of
  begin-passes i o j =
      let stays = begin-no i o j in
      let P = Passing s (begin i o j) in
      if_elim P _ (λ e. stays Length refl (omega arith))
      (λ e. if_elim P _ (λ b. stays TaskNumber refl (omega arith))
      (λ b. if_elim P _ (λ c. stays OutOfRange refl (omega arith))
      (λ c. if_elim P _ (λ d. stays TaskBusy refl (omega arith))
      (λ d. if_elim P _ (λ f. stays Damaged refl (omega arith))
      (λ f. let h = ltb-false 7 i b in begin-yes i o j (omega arith) (not-false (ask_fits o j) c) d)))))

  -- ---- abandon

  abandon-no : (i : ℕ) (x : Answer) → ltb (number_of x) 10 ≡ false → 10 ≤ number_of x → Passing s (abandon i) (same t st x)
  unfolding entered if_b
  abandon-no i x e h = record { tree = s.tree; passes = rw e (refused x h) }

  abandon-plain : (i : ℕ)
      → Passes s (abandon i) (record { table = t; state = record { tasks = set st.tasks i idle_task; m = st.m; u = st.u + 0 }; answer = Accepted })
      (record { tasks = set a.tasks i shut; commits = a.commits; lost = a.lost + 0 }) s.tree
      → Passes s (abandon i) (same t (with_task st i idle_task) Accepted) (with_open a i shut) s.tree
  abandon-plain i h =
      subst (λ x. Passes s (abandon i) (record { table = t; state = record { tasks = set st.tasks i idle_task; m = st.m; u = x }; answer = Accepted }) (with_open a i shut) s.tree) (add-zero st.u)
      (subst (λ x. Passes s (abandon i) (record { table = t; state = record { tasks = set st.tasks i idle_task; m = st.m; u = st.u + 0 }; answer = Accepted })
      (record { tasks = set a.tasks i shut; commits = a.commits; lost = x }) s.tree) (add-zero a.lost) h)

  abandon-yes : (i : ℕ) → i < 8 → (o : Open) (w : Work) → Agree o w → open_at a i ≡ o → (task_at st i).work ≡ w → is_busy w ≡ true → Passing s (abandon i) (after t (abandoned_out st i (record { work = w })))
  unfolding entered abandoned_by abandoned_out after if_b
  abandon-yes i lt shut Idle g at_a at-st e = absurd (let z : ◌≡◌ {A = ℕ} 0 1 = cc in omega arith)
  abandon-yes i lt shut (Busy j f) g at_a at-st e = absurd g
  abandon-yes i lt (begun o j) Idle g at_a at-st e = absurd g
  abandon-yes i lt (begun o j) (Busy j' f) g at_a at-st e =
      record { tree = s.tree; passes = rw (g.1, at_a) (abandon-plain i (abandons i 0 Accepted lt (rw at-st e) (rw at_a refl) (omega arith))) }
  abandon-yes i lt unsettled Idle g at_a at-st e = absurd g
  abandon-yes i lt unsettled (Busy j f) g at_a at-st e =
      record { tree = s.tree; passes = rw (g, at_a, add-zero st.m) (abandons i 1 PutUnsettled lt (rw at-st e) (rw at_a refl) (omega arith)) }

  abandon-passes : (i : ℕ) → Passing s (abandon i) (abandon_of t st i)
  unfolding abandon_of
  abandon-passes i =
      let stays = abandon-no i in
      let P = Passing s (abandon i) in
      if_elim P _ (λ e. stays Length refl (omega arith))
      (λ e. if_elim P _ (λ b. stays TaskNumber refl (omega arith))
      (λ b. if_elim P _ (λ c. stays TaskIdle refl (omega arith))
      (λ c. if_elim P _ (λ d. stays Damaged refl (omega arith))
      (λ d. let h = ltb-false 7 i b in
      abandon-yes i (omega arith) (open_at a i) (task_at st i).work (s.agree i) refl refl (not-false (is_busy (task_at st i).work) c)))))

  -- ---- figures and list

  figures-passes : Passing s figures (same t st (figures_of t st).answer)
  unfolding entered
  figures-passes = record { tree = s.tree; passes = looks (figures_of t st).answer tt }

  list-passes : (room : List ℕ) → Passing s (list room) (same t st (list_of t st room).answer)
  unfolding entered
  list-passes room = record { tree = s.tree; passes = looks (list_of t st room).answer tt }

  -- ---- tidy

  tidy-no : (x : Answer) → 10 ≤ number_of x → Passing s tidy (same t st x)
  unfolding entered
  tidy-no x h = record { tree = s.tree; passes = refused x h }

  tidy-yes : busy_tasks st.tasks 8 ≡ 0 → Passing s tidy (tidy_reached t st (reach (slots t) (view (slots t) t)))
  unfolding tidy_reached entered
  tidy-yes e = rw (reach-is s, slots-is s) (record { tree = s.tree; passes = tidies e })

  tidy-passes : Passing s tidy (tidy_of t st)
  unfolding tidy_of
  tidy-passes =
      let P = Passing s tidy in
      if_elim P _ (λ e. tidy-no Length (omega arith))
      (λ e. if_elim P _ (λ b. tidy-no SomeBusy (omega arith))
      (λ b. if_elim P _ (λ c. tidy-no Damaged (omega arith)) (λ c. tidy-yes (eqb-true _ _ (not-false (eqb (busy_tasks st.tasks 8) 0) b)))))

  -- ---- step

  step-no : (i : ℕ) (x : Answer) → eqb (number_of x) 3 ≡ false → eqb (number_of x) 5 ≡ false → eqb (number_of x) 6 ≡ false → ends (number_of x) ≡ false → 10 ≤ number_of x → Passing s (step i) (same t st x)
  unfolding entered
  step-no i x e3 e5 e6 en h = record { tree = s.tree; passes = rw (still_open_lem st a i (number_of x) e3 e5 e6 en (open_at a i) (task_at st i).work (s.agree i)) (refused x h) }

  module _ (i : ℕ) (lt : i < 8) (j : Job) (f : Phase) (is : (task_at st i).work ≡ Busy j f) where
    d : Did
    d = phase_step v s.n st.m j f

    does : Does v s.tree st.m j f d
    unfolding d
    does = step-does v s.tree s.carries s.shape s.n st.m j f (subst (WorkOk v s.tree) is (s.ok i))

    book : Booked st a i (open_at a i) d (busy j f) (newly does a.commits)
    book = booked st a i (open_at a i) j f refl (ap (λ w. record { work = w }) is) (subst (Agree (open_at a i)) is (s.agree i)) does

    inside : Within s.n d.writes
    unfolding d
    inside = step-inside s.n t st.m j f

    is_step : d ≡ phase_step v s.n st.m j f
    unfolding d
    is_step = refl

    task_after_lem : (b : Booked st a i (open_at a i) d (busy j f) (newly does a.commits)) → task_at (turned st i d.turn d.committed) i ≡ task_after d.turn (busy j f)
    task_after_lem b = ap (λ (x : State). task_at x i) b.state-is ∙ stored_here st.tasks i (task_after d.turn (busy j f)) idle_task (omega (arith, s.eight))

    step-carried : Passing s (step i) (carried t st i d)
    unfolding carried entered
    step-carried =
        let b = book in
        record { tree = tree_after does; passes = rw (task_after_lem b, b.account-is, b.state-is) (steps i j f d lt is is_step inside does b) }

  step-work : (i : ℕ) → i < 8 → (w : Work) → (task_at st i).work ≡ w → Passing s (step i) (step_work t st i w)
  unfolding step_work ends d
  step-work i lt Idle is = step-no i TaskIdle refl refl refl refl (omega arith)
  step-work i lt (Busy j f) is =
      if_elim (Passing s (step i)) _ (λ e. step-no i Damaged refl refl refl refl (omega arith))
      (λ e. subst (λ n. Passing s (step i) (carried t st i (phase_step (view n t) n st.m j f))) (sym (slots-is s)) (step-carried i lt j f is))

  step-passes : (i : ℕ) → Passing s (step i) (step_of t st i)
  unfolding step_of ends
  step-passes i =
      if_elim (Passing s (step i)) _ (λ e. step-no i Length refl refl refl refl (omega arith))
      (λ e. if_elim (Passing s (step i)) _ (λ b. step-no i TaskNumber refl refl refl refl (omega arith))
      (λ b. let h = ltb-false 7 i b in step-work i (omega arith) (task_at st i).work refl))

  -- EVERY call
  pub passing : (c : Ask) → Passing s c (left real t st c)
  passing reset = reset-passes
  passing (begin i o j) = begin-passes i o j
  passing (step i) = step-passes i
  passing (abandon i) = abandon-passes i
  passing tidy = tidy-passes
  passing figures = figures-passes
  passing (list room) = list-passes room
