-- What holds of where a history stands is kept by everything that a call can do.
use Prim.Native.Nat.{◌+◌, ◌<◌, ℕ}
use borrow.Author.Tests.{ltb-true}
use borrow.Fn.PlainCycle.{is}
use lib.Dec.{ltb}
use lib.ListN.{length, set}
use mathlib.Core.Bool.{◌&&◌, true}
use mathlib.Core.List.{List}
use mathlib.Core.Logic.{inl}
use mathlib.Core.Path.{◌∙◌, ◌≡◌, ap, refl, subst, sym}
use native.Mathlib.Nat.{add-zero}
use native.Mathlib.Omega.{arith}
use Rattle.demand2.proofs.Accounts.{Agree, Booked}
use Rattle.demand2.proofs.After.{After, newly, step_after, task_after}
use Rattle.demand2.proofs.Fresh.{stands-fresh}
use Rattle.demand2.proofs.Passes.{Passes, abandons, begins, looks, refused, resets, steps, tidies, view_at}
use Rattle.demand2.proofs.Seen.{all_idle, the_seen, tidied}
use Rattle.demand2.proofs.Stands.{Stands, restands, unchanged}
use Rattle.fares.proofs.Tidied.{swept, swept-carries}
use Rattle.history.specs.History.{Ask}
use Rattle.history.specs.Ledger.{Account, Open, Point, begun, one_unsettled, open_at, shut, unsettled, with_open}
use Rattle.machine.proofs.Tests.{both_first}
use Rattle.machine.specs.Calls.{sweep}
use Rattle.machine.specs.Commit.{Did}
use Rattle.machine.specs.Record.{number_fits, price_fits}
use Rattle.machine.specs.State.{ask_fits, busy_tasks, job_fits, task_at, with_task}
use Rattle.machine.specs.Step.{Left}
use Rattle.machine.specs.Table.{puts, view}
use Rattle.steps.proofs.Facts.{both}
use Rattle.steps.specs.Does.{Does}
use Rattle.steps.specs.Trail.{WorkOk}
use Rattle.terms.specs.Task.{busy, idle_task, is_busy}
use Rattle.terms.specs.declared.Job.{Job}
use Rattle.terms.specs.declared.Operation.{Operation}
use Rattle.terms.specs.declared.Phase.{Phase}
use Rattle.terms.specs.declared.State.{State}
use Rattle.terms.specs.declared.Work.{Work}
use Rattle.terms.specs.declared.Work.TheVariants.{Busy, Idle}
use Rattle.trees.specs.Tree.{Tree}
use Rattle.views.proofs.Law.{length_law, view-law}
use Rattle.views.specs.Update.{Within}
use Rattle.terms.specs.Task.{begun as taskBegun}

-- an idle task has nothing open
idle_shut : (o : Open) (w : Work) → Agree o w → w ≡ Idle → one_unsettled o ≡ 0
idle_shut shut w g e = refl
idle_shut (begun o j) w g e = refl
idle_shut unsettled Idle g e = absurd g
idle_shut unsettled (Busy j f) g e = absurd (let q : is_busy (Busy j f) ≡ is_busy Idle = ap is_busy e in let z : ◌≡◌ {A = ℕ} 0 1 = cc in omega arith)

fits-ask : (o : Operation) (j : Job) → ask_fits o j ≡ true → (j.number < 1000000) × (j.price < 100000)
unfolding ask_fits job_fits number_fits price_fits
fits-ask o j e =
    let h = both (ltb j.number 1000000) (ltb j.price 100000) (both_first (ltb j.number 1000000 && ltb j.price 100000) _ e) in
    (ltb-true _ _ h.0, ltb-true _ _ h.1)

module _ {p : Point} (s : Stands p) where
  abbrev t : List ℕ
  t = p.table

  abbrev st : State
  st = p.state

  abbrev a : Account
  a = p.account

  begin-stands : (i : ℕ) (o : Operation) (j : Job) → i < 8 → ask_fits o j ≡ true → (task_at st i).work ≡ Idle
      → Stands (record { table = t; state = with_task st i (taskBegun o j); account = with_open a i (begun o j) })
  begin-stands i o j lt f idle =
      let fit = fits-ask o j f in
      rw (← (add-zero st.m), ← (add-zero st.u), ← (add-zero a.lost))
      (restands s i lt t refl (taskBegun o j) (begun o j) a.commits 0 0 (unchanged s (taskBegun o j) (fit.0, fit.1, tt)) (refl, refl)
      (omega (arith, idle_shut (open_at a i) (task_at st i).work (s.agree i) idle)) (omega arith) (inl refl))

  abandon-stands : (i du : ℕ) → i < 8 → du ≡ one_unsettled (open_at a i)
      → Stands (record {
        table = t;
        state = record { tasks = set st.tasks i idle_task; m = st.m; u = st.u + du };
        account = record { tasks = set a.tasks i shut; commits = a.commits; lost = a.lost + du };
      })
  abandon-stands i du lt e =
      rw (← (add-zero st.m)) (restands s i lt t refl idle_task shut a.commits 0 du (unchanged s idle_task tt) tt (omega arith) (omega arith) (inl refl))

  tidy-stands : busy_tasks st.tasks 8 ≡ 0 → Stands (record { table = tidied s; state = st; account = a })
  tidy-stands e =
      let w = swept s.n t s.tree (the_seen s) s.size in
      record {
        n = s.n;
        size = length_law s.n t (sweep (the_seen s).marks s.n 0) s.size;
        least = s.least;
        most = s.most;
        tree = s.tree;
        carries = swept-carries s.n (view s.n t) (view s.n (tidied s)) s.tree w s.carries;
        shape = s.shape;
        held = s.held;
        lawful = s.lawful;
        eight = s.eight;
        eight-open = s.eight-open;
        ok = λ x. subst (WorkOk (view s.n (tidied s)) s.tree) (sym (all_idle s e x)) tt;
        agree = s.agree;
        m-is = s.m-is;
        u-is = s.u-is;
        limit = s.limit;
        few = s.few;
      }

  step-stands : (i : ℕ) (j : Job) (f : Phase) (d : Did) → i < 8 → (task_at st i).work ≡ Busy j f → Within s.n d.writes → (does : Does (view_at s) s.tree st.m j f d)
      → (b : Booked st a i (open_at a i) d (busy j f) (newly does a.commits))
      → Stands (record {
        table = puts t d.writes;
        state = record { tasks = set st.tasks i (task_after d.turn (busy j f)); m = st.m + b.dm; u = st.u + b.du };
        account = record { tasks = set a.tasks i b.then; commits = newly does a.commits; lost = a.lost + b.du };
      })
  step-stands i j f d lt is inside does b =
      let ok = subst (WorkOk (view_at s) s.tree) is (s.ok i) in
      restands s i lt (puts t d.writes) (length_law s.n t d.writes s.size ∙ sym s.size) (task_after d.turn (busy j f)) b.then (newly does a.commits) b.dm b.du
      (subst (λ w. After (view_at s) w s.tree (task_after d.turn (busy j f)) a.commits (newly does a.commits)) (sym (view-law s.n t d.writes s.size inside))
      (step_after (view_at s) s.tree s.carries s.shape st.m j f ok a.commits s.held s.lawful d does))
      b.agrees b.balance b.puts b.limit

  pub stands_on : {c : Ask} {l : Left} {a' : Account} {t' : Tree} → Passes s c l a' t' → Stands (record { table = l.table; state = l.state; account = a' })
  stands_on (refused x h) = s
  stands_on (looks x h) = s
  stands_on resets = stands-fresh (length t) s.n s.size s.least s.most
  stands_on (begins i o j lt idle f) = begin-stands i o j lt f idle
  stands_on (steps i j f d lt is e inside does b) = step-stands i j f d lt is inside does b
  stands_on (abandons i du x lt b e h) = abandon-stands i du lt e
  stands_on (tidies e) = tidy-stands e
