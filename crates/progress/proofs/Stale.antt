-- ANY BUSY TASK STEPPED ALONE ends, where no step answers 17.
use Prim.Native.Nat.{◌+◌, ◌<◌, ◌≤◌, suc, zero, ℕ}
use mathlib.Core.Bool.{Bool, false, true}
use mathlib.Core.Logic.{◌⊎◌, inl, inr}
use mathlib.Core.Path.{◌∙◌, ◌≡◌, ap, refl, sym}
use native.Mathlib.Omega.{arith}
use Rattle.demand2.proofs.Passes.{view_at}
use Rattle.demand2.proofs.Stands.{Stands}
use Rattle.demand3.proofs.Demand3.{rich-on}
use Rattle.demand3.proofs.Rich.{Rich}
use Rattle.history.specs.History.{step}
use Rattle.history.specs.Ledger.{Point, advance}
use Rattle.history.specs.Machine.{real}
use Rattle.terms.specs.Answers.{number_of}
use Rattle.machine.specs.Choice.{if_b}
use Rattle.machine.specs.Commit.{Did, calm}
use Rattle.machine.specs.State.{count_open, one, task_at}
use Rattle.machine.specs.Step.{phase_step}
use Rattle.machine.specs.Table.{View}
use Rattle.progress.proofs.Budget.{Unhurt, end-answer, ends_as, serve-answer, settle-alone, settle-answer, unhurt-now, unhurt-on}
use Rattle.progress.proofs.Cases.{goal_kept}
use Rattle.progress.proofs.Drift.{Drift, Drifts, Stale, phase_drifts}
use Rattle.progress.proofs.Ends.{ends-later, ends_now, ends-wider}
use Rattle.progress.proofs.Entry.{restart_ends}
use Rattle.progress.proofs.Onward.{answer_is, next-open, same-sight, table_same, task_is, task_ok}
use Rattle.progress.specs.Alone.{Ends}
use Rattle.progress.specs.Budget.{EndAnswer, GoalAnswer, budget, goal_budget}
use Rattle.progress.specs.Restarts.{is_start}
use Rattle.steps.proofs.Steps.{step-does}
use Rattle.steps.specs.Does.{Does, Quiet, put-commits, rests, settle-commits, take-commits, turn_of_put}
use Rattle.terms.specs.Task.{busy, goal_of, goal_settles, work_settles}
use Rattle.terms.specs.declared.Answer.{Answer}
use Rattle.terms.specs.declared.Answer.TheVariants.{TakenOut}
use Rattle.terms.specs.declared.Goal.{Goal}
use Rattle.terms.specs.declared.Goal.TheVariants.{Serve, Settle}
use Rattle.terms.specs.declared.Job.{Job}
use Rattle.terms.specs.declared.Operation.TheVariants.{PutIn}
use Rattle.terms.specs.declared.Phase.{Phase}
use Rattle.terms.specs.declared.Phase.TheVariants.{PuttingIn, Settling, Start, TakingOut, Walk}
use Rattle.terms.specs.declared.PutStage.TheVariants.{PutCommit, PutLeaf, PutParent}
use Rattle.terms.specs.declared.SettleStage.TheVariants.{SettleChoose, SettleDouble, SettleGrand, SettleParent, SettleRotate}
use Rattle.terms.specs.declared.TakeStage.TheVariants.{TakeCommit, TakeGrand, TakeLeft, TakeParent, TakeRight}
use Rattle.terms.specs.declared.Task.{Task}
use Rattle.terms.specs.declared.Turn.{Turn}
use Rattle.terms.specs.declared.Turn.TheVariants.{Done, Hurt, Next}
use Rattle.terms.specs.declared.Work.TheVariants.{Busy}
use Rattle.trees.specs.Rank.{height}

module _ (i : ℕ) (lt : i < 8) (j : Job) (c h : ℕ) where
  abbrev pub DriftRun : ℕ → Type 0
  DriftRun F = (p : Point) (r : Rich p) → Unhurt i p → count_open p.state ≤ c → height r.stands.tree ≤ h + 1 → (f : Phase) (g : Goal) → goal_of f ≡ g → (task_at p.state i).work ≡ Busy j f
      → (d : ℕ) → Stale (view_at r.stands) j.number f d → d ≤ F → Ends real p i (F + goal_budget g h c) (GoalAnswer g)

  module _ (F : ℕ) (run : DriftRun F) (p : Point) (r : Rich p) (u : Unhurt i p) (le : count_open p.state ≤ c) (low : height r.stands.tree ≤ h + 1) (f : Phase) (g : Goal) (eg : goal_of f ≡ g)
      (is : (task_at p.state i).work ≡ Busy j f) where
    abbrev s : Stands p
    s = r.stands

    abbrev v : View
    v = view_at s

    abbrev did : Did
    did = phase_step v s.n p.state.m j f

    abbrev r' : Rich (advance real p (step i))
    r' = rich-on r (step i)

    quiet-answer : (g : Goal) → goal_of f ≡ g → (a : Answer) → Quiet v s.tree j f (Done a) → GoalAnswer g (number_of a)
    quiet-answer (Serve o) e a q = end-answer i lt j o (number_of a) (serve-answer i lt j o v s.tree f a e q)
    quiet-answer Settle e a q = settle-answer i lt j v s.tree f a e q

    open_same : (k : Task) → did.turn ≡ Next k → (f' : Phase) → k ≡ busy j f' → goal_of f' ≡ goal_of f → count_open (advance real p (step i)).state ≤ c
    open_same k turn f' ek eg' =
        let o = next-open s i lt j f is k turn in
        let a : one (work_settles k.work) ≡ one (goal_settles (goal_of f)) = ap (λ (x : Task). one (work_settles x.work)) ek ∙ ap (λ y. one (goal_settles y)) eg' in
        omega arith

    goes_further : (k : Task) → did ≡ calm (Next k) → (f' : Phase) (d' : ℕ) → k ≡ busy j f' → goal_of f' ≡ goal_of f → ((is_start f' ≡ true) ⊎ (Stale v j.number f' d' × (suc d' ≤ suc F)))
        → Ends real p i (suc F + goal_budget g h c) (GoalAnswer g)
    goes_further k e f' d' ek eg' next =
        let turn = ap (λ (x : Did). x.turn) e in
        let same = table_same s i lt j f is (ap (λ (x : Did). x.writes) e) in
        let sight = same-sight s r'.stands same in
        let is' : (task_at (advance real p (step i)).state i).work ≡ Busy j f' = task_is s i lt j f is (Next k) turn ∙ ap (λ (x : Task). x.work) ek in
        let low' : height r'.stands.tree ≤ h + 1 = rw sight.0 low in
        let open' = open_same k turn f' ek eg' in
        let z = answer_is s i lt j f is (Next k) turn in
        elim next [
          | inl st ↦ ends-wider (ends-later z (restart_ends i j c h _ r' (unhurt-on i p u (step i)) open' low' g (is' ∙ ap (Busy j) (start_of f' g (eg' ∙ eg) st)))) (omega arith)
          | inr st ↦ ends-wider (ends-later z (run _ r' (unhurt-on i p u (step i)) open' low' f' g (eg' ∙ eg) is' d' (rw sight.1 st.0) (omega (arith, st.1)))) (omega arith)
        ]
      where
        start_of : (f : Phase) (g : Goal) → goal_of f ≡ g → is_start f ≡ true → f ≡ Start g
        start_of (Start x) g e st = ap Start e
        start_of (Walk x q) g e st = absurd (let z : ◌≡◌ {A = ℕ} 0 1 = cc in omega arith)
        start_of (PuttingIn q x) g e st = absurd (let z : ◌≡◌ {A = ℕ} 0 1 = cc in omega arith)
        start_of (TakingOut q x) g e st = absurd (let z : ◌≡◌ {A = ℕ} 0 1 = cc in omega arith)
        start_of (Settling q x) g e st = absurd (let z : ◌≡◌ {A = ℕ} 0 1 = cc in omega arith)

    by_turn : (a : Turn) → did ≡ calm a → Quiet v s.tree j f a → Drift v j (suc F) a → Ends real p i (suc F + goal_budget g h c) (GoalAnswer g)
    by_turn Hurt e q h = absurd (unhurt-now i p u (answer_is s i lt j f is Hurt (ap (λ (x : Did). x.turn) e)))
    by_turn (Done a) e q h = ends_now (rw (answer_is s i lt j f is (Done a) (ap (λ (x : Did). x.turn) e)) (quiet-answer g eg a q)) (omega arith)
    by_turn (Next k) e q (f', d', ek, next) = goes_further k e f' d' ek (goal_kept f' q ek) next

    after-put : goal_of f ≡ Serve PutIn → (b : Bool) → did.turn ≡ turn_of_put j b → Ends real p i (suc F + goal_budget g h c) (GoalAnswer g)
    unfolding if_b budget
    after-put e true turn =
        let o = next-open s i lt j f is (busy j (Start Settle)) turn in
        let a : one (goal_settles (goal_of f)) ≡ 0 = ap (λ y. one (goal_settles y)) e in
        let x = settle-alone i lt j (c + 1) _ r' (unhurt-on i p u (step i)) (omega arith) (task_is s i lt j f is _ turn) in
        rw (sym eg ∙ e) (ends-wider (ends-later (answer_is s i lt j f is _ turn) (ends_as {E' = EndAnswer PutIn} (λ x s. inr s) x)) (omega arith))
    after-put e false turn = rw (sym eg ∙ e) (ends_now (inr (inl (answer_is s i lt j f is _ turn))) (omega arith))

    by_does : (x : Did) → did ≡ x → Does v s.tree p.state.m j f x → Drifts v j (suc F) x → Ends real p i (suc F + goal_budget g h c) (GoalAnswer g)
    by_does _ e (rests a q) h = by_turn a e q (h refl)
    by_does _ e (put-commits b ws lim x ch) h = after-put x b (ap (λ (x : Did). x.turn) e)
    by_does _ e (take-commits ws x ch) h = rw (sym eg ∙ x) (ends_now (inr (answer_is s i lt j f is (Done TakenOut) (ap (λ (x : Did). x.turn) e))) (omega arith))
    by_does _ e (settle-commits ws x ch) h =
        let turn = ap (λ (x : Did). x.turn) e in
        let next = settle-alone i lt j c _ r' (unhurt-on i p u (step i)) (open_same _ turn (Start Settle) refl (sym x)) (task_is s i lt j f is _ turn) in
        rw (sym eg ∙ x) (ends-wider (ends-later (answer_is s i lt j f is _ turn) next) (omega arith))

  stale_pos : (v : View) (k : ℕ) (f : Phase) (d : ℕ) → Stale v k f d → 1 ≤ d
  stale_pos v k (Start g) d s = absurd s
  stale_pos v k (Walk g q) d (L, w, e) = omega arith
  stale_pos v k (PuttingIn q PutParent) d s = omega arith
  stale_pos v k (PuttingIn q (PutLeaf a)) d s = omega arith
  stale_pos v k (PuttingIn q (PutCommit a b)) d s = omega arith
  stale_pos v k (TakingOut q TakeGrand) d s = omega arith
  stale_pos v k (TakingOut q (TakeParent a)) d s = omega arith
  stale_pos v k (TakingOut q (TakeLeft a b)) d s = omega arith
  stale_pos v k (TakingOut q (TakeRight a b x)) d s = omega arith
  stale_pos v k (TakingOut q (TakeCommit a b x y)) d s = omega arith
  stale_pos v k (Settling q SettleGrand) d s = omega arith
  stale_pos v k (Settling q (SettleParent a)) d s = omega arith
  stale_pos v k (Settling q (SettleChoose a b)) d s = omega arith
  stale_pos v k (Settling q (SettleRotate a b x)) d s = omega arith
  stale_pos v k (Settling q (SettleDouble a b x y)) d s = omega arith

  pub drift_run : (F : ℕ) → DriftRun F
  drift_run zero p r u le low f g eg is d st b = absurd (omega (arith, stale_pos (view_at r.stands) j.number f d st))
  drift_run (suc F) p r u le low f g eg is d st b =
      let s = r.stands in
      let ok = task_ok s i lt j f is in
      by_does F (drift_run F) p r u le low f g eg is _ refl (step-does (view_at s) s.tree s.carries s.shape s.n p.state.m j f ok)
      (phase_drifts s.n (view_at s) j p.state.m f d (suc F) st b)
