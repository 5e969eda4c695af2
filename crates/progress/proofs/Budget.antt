-- EVERY OPERATION STEPPED ALONE ends within its budget, as no step answers 17.
use Prim.Native.Nat.{◌*◌, ◌+◌, ◌<◌, ◌≤◌, suc, zero, ℕ}
use mathlib.Core.Bool.{Bool, false, true}
use mathlib.Core.List.{List, [], ◌∷◌}
use mathlib.Core.Logic.{◌⊎◌, inl, inr}
use mathlib.Core.Path.{◌∙◌, ◌≡◌, ap, refl, subst, sym}
use native.Mathlib.Omega.{arith}
use Rattle.demand2.proofs.After.{task_after}
use Rattle.demand2.proofs.Passes.{view_at}
use Rattle.demand3.proofs.Demand3.{rich-on}
use Rattle.demand3.proofs.Rich.{Rich}
use Rattle.history.specs.History.{Ask, step}
use Rattle.history.specs.Ledger.{Point, advance, goes}
use Rattle.history.specs.Machine.{Machine, real}
use Rattle.terms.specs.Answers.{number_of}
use Rattle.machine.specs.Choice.{if_b}
use Rattle.machine.specs.State.{count_open, task_at}
use Rattle.machine.specs.Step.{answered}
use Rattle.machine.specs.Table.{View}
use Rattle.progress.proofs.Bounds.{height-c, work-c}
use Rattle.progress.proofs.Cases.{Case, ended, hurt, next-case, onward, puts-now, settles_now, takes-now}
use Rattle.progress.proofs.Ends.{ends-later, ends_now, ends-wider}
use Rattle.progress.proofs.Look.{same-sees, top_is}
use Rattle.progress.proofs.Onward.{same-sight}
use Rattle.progress.proofs.Rounds.{more-rounds, one-round}
use Rattle.progress.proofs.Sees.{Sees, sees_pos}
use Rattle.progress.specs.Alone.{Ends, answer_of}
use Rattle.progress.specs.Budget.{EndAnswer, settle_budget}
use Rattle.progress.specs.Work.{work}
use Rattle.steps.specs.Does.{EndOf, Quiet, leaves, settled, stops, turn_of_put}
use Rattle.terms.specs.Task.{busy, goal_of}
use Rattle.terms.specs.declared.Answer.{Answer}
use Rattle.terms.specs.declared.Goal.TheVariants.{Serve, Settle}
use Rattle.terms.specs.declared.Job.{Job}
use Rattle.terms.specs.declared.Operation.{Operation}
use Rattle.terms.specs.declared.Operation.TheVariants.{LookUp, PutIn, TakeOut}
use Rattle.terms.specs.declared.Phase.{Phase}
use Rattle.terms.specs.declared.Phase.TheVariants.{Start}
use Rattle.terms.specs.declared.Turn.TheVariants.{Done}
use Rattle.terms.specs.declared.Work.TheVariants.{Busy}
use Rattle.trees.specs.Rank.{height}
use Rattle.trees.specs.Tree.{Tree}

pub ends_as : {M : Machine} {p : Point} {i limit : ℕ} {E E' : ℕ → Type 0} → ((x : ℕ) → E x → E' x) → Ends M p i limit E → Ends M p i limit E'
ends_as f h = record { before = h.before; within = h.within; going = h.going; last = f _ h.last }

-- no step of task i answers 17 from here on
abbrev pub Unhurt : ℕ → Point → Type 0
Unhurt i p = (ds : List Ask) → answer_of real (goes real p ds) i ≡ 17 → ⊥

pub unhurt-now : (i : ℕ) (p : Point) → Unhurt i p → answer_of real p i ≡ 17 → ⊥
unfolding goes
unhurt-now i p u = u []

pub unhurt-on : (i : ℕ) (p : Point) → Unhurt i p → (c : Ask) → Unhurt i (advance real p c)
unfolding goes
unhurt-on i p u c ds = u (c ∷ ds)

goal_differs : {A : Type 0} {o : Operation} (f : Phase) → goal_of f ≡ Settle → goal_of f ≡ Serve o → A
goal_differs {o = o} f g h = absurd (let y : Settle ≡ Serve o = sym g ∙ h in let z : ◌≡◌ {A = ℕ} 0 1 = cc in omega arith)

operation_is : (f : Phase) (o o' : Operation) → goal_of f ≡ Serve o → goal_of f ≡ Serve o' → o ≡ o'
operation_is f o o' g h = let y : Serve o ≡ Serve o' = sym g ∙ h in cc

module _ (i : ℕ) (lt : i < 8) (j : Job) where
  -- ---- settling

  abbrev pub Settled : ℕ → Type 0
  Settled x = (x ≡ 3) ⊎ (x ≡ 6)

  pub settle-answer : (v : View) (t : Tree) (f : Phase) (a : Answer) → goal_of f ≡ Settle → Quiet v t j f (Done a) → Settled (number_of a)
  settle-answer v t f a g (stops o _ h e) = goal_differs f g h
  settle-answer v t f _ g (settled h w l e) = inl refl
  settle-answer v t f _ g (leaves h) = inr refl

  module _ (c : ℕ) where
    abbrev SettleRun : ℕ → Type 0
    SettleRun F = (p : Point) (r : Rich p) → Unhurt i p → count_open p.state ≤ c → (f : Phase) → (task_at p.state i).work ≡ Busy j f → goal_of f ≡ Settle
        → (d : ℕ) → Sees (view_at r.stands) r.stands.tree f d → d + work 255 r.stands.tree * (c + 35) ≤ F → Ends real p i F Settled

    settle-more : (F : ℕ) → SettleRun F → (p : Point) (r : Rich p) → Unhurt i p → count_open p.state ≤ c → (f : Phase) → goal_of f ≡ Settle
        → (d : ℕ) → 1 ≤ d → d + work 255 r.stands.tree * (c + 35) ≤ suc F → Case r.stands i j f d → Ends real p i (suc F) Settled
    settle-more F run p r u le f g d pos b (hurt w e k) = absurd (unhurt-now i p u e)
    settle-more F run p r u le f g d pos b (ended a q e k) = ends_now (rw e (settle-answer (view_at r.stands) r.stands.tree f a g q)) (omega arith)
    settle-more F run p r u le f g d pos b (onward f' d' z same is' g' st se less o) =
        let r' = rich-on r (step i) in
        let w : work 255 r'.stands.tree * (c + 35) ≡ work 255 r.stands.tree * (c + 35) = ap (λ y. work 255 y * (c + 35)) (same-sight r.stands r'.stands same).0 in
        ends-later z (run _ r' (unhurt-on i p u (step i)) (omega arith) f' is' (g' ∙ g) d' (same-sees r.stands r'.stands same f' d' se) (omega arith))
    settle-more F run p r u le f g d pos b (puts-now _ h e k s o) = goal_differs f g h
    settle-more F run p r u le f g d pos b (takes-now h e k) = goal_differs f g h
    settle-more F run p r u le f g d pos b (settles_now h e k less o) =
        let r' = rich-on r (step i) in
        let w = work 255 r'.stands.tree in
        ends-later e (run _ r' (unhurt-on i p u (step i)) (omega arith) (Start Settle) k refl (suc (height r'.stands.tree) + 5) refl
        (omega (arith, height-c r', one-round w (c + 35), more-rounds (suc w) (work 255 r.stands.tree) (c + 35) (less r'.stands))))

    settle-run : (F : ℕ) → SettleRun F
    settle-run zero p r u le f is g d sees b = absurd (omega (arith, sees_pos (view_at r.stands) r.stands.tree f d sees))
    settle-run (suc F) p r u le f is g d sees b =
        settle-more F (settle-run F) p r u le f g d (sees_pos (view_at r.stands) r.stands.tree f d sees) b (next-case r.stands (top_is r) i lt j f is d sees)

    pub settle-alone : (p : Point) (r : Rich p) → Unhurt i p → count_open p.state ≤ c → (task_at p.state i).work ≡ Busy j (Start Settle) → Ends real p i (settle_budget c) Settled
    unfolding settle_budget
    settle-alone p r u le is =
        settle-run ((28 * c + 1) * (c + 35)) p r u le (Start Settle) is refl (suc (height r.stands.tree) + 5) refl
        (omega (arith, height-c r, one-round (work 255 r.stands.tree) (c + 35), more-rounds (suc (work 255 r.stands.tree)) (28 * c + 1) (c + 35) (omega (arith, work-c r))))

  -- ---- an operation

  pub serve-answer : (o : Operation) (v : View) (t : Tree) (f : Phase) (a : Answer) → goal_of f ≡ Serve o → Quiet v t j f (Done a) → EndOf o (number_of a)
  serve-answer o v t f a g (stops o' _ h e) = subst (λ y. EndOf y (number_of a)) (operation_is f o' o h g) e
  serve-answer o v t f _ g (settled h w l e) = goal_differs f h g
  serve-answer o v t f _ g (leaves h) = goal_differs f h g

  pub end-answer : (o : Operation) (x : ℕ) → EndOf o x → EndAnswer o x
  end-answer LookUp x e = e
  end-answer PutIn x e = inl e
  end-answer TakeOut x e = inl e

  -- the steps after the commit
  abbrev pub beyond_commit : Operation → ℕ → ℕ
  beyond_commit LookUp c = 0
  beyond_commit PutIn c = settle_budget (c + 1)
  beyond_commit TakeOut c = 0

  module _ (o : Operation) (c : ℕ) where
    abbrev pub ServeRun : ℕ → Type 0
    ServeRun F = (p : Point) (r : Rich p) → Unhurt i p → count_open p.state ≤ c → (f : Phase) → (task_at p.state i).work ≡ Busy j f → goal_of f ≡ Serve o
        → (d : ℕ) → Sees (view_at r.stands) r.stands.tree f d → d ≤ F → Ends real p i (F + beyond_commit o c) (EndAnswer o)

    after-put : (F : ℕ) (p : Point) (r : Rich p) → Unhurt i p → count_open p.state ≤ c → (f : Phase) → o ≡ PutIn → (b : Bool) → answer_of real p i ≡ number_of (answered (turn_of_put j b))
        → (task_at (advance real p (step i)).state i).work ≡ (task_after (turn_of_put j b) (busy j f)).work → (b ≡ true → count_open (advance real p (step i)).state ≡ count_open p.state + 1)
        → Ends real p i (suc F + beyond_commit o c) (EndAnswer o)
    unfolding if_b
    after-put F p r u le f e true a k more =
        let g = settle-alone (c + 1) _ (rich-on r (step i)) (unhurt-on i p u (step i)) (omega (arith, more refl)) k in
        rw e (ends-wider (ends-later a (ends_as {E' = EndAnswer PutIn} (λ x s. inr s) g)) (omega arith))
    after-put F p r u le f e false a k more = rw e (ends_now (inr (inl a)) (omega arith))

    serve-more : (F : ℕ) → ServeRun F → (p : Point) (r : Rich p) → Unhurt i p → count_open p.state ≤ c → (f : Phase) → goal_of f ≡ Serve o
        → (d : ℕ) → d ≤ suc F → Case r.stands i j f d → Ends real p i (suc F + beyond_commit o c) (EndAnswer o)
    serve-more F run p r u le f g d b (hurt w e k) = absurd (unhurt-now i p u e)
    serve-more F run p r u le f g d b (ended a q e k) = ends_now (rw e (end-answer o (number_of a) (serve-answer o (view_at r.stands) r.stands.tree f a g q))) (omega arith)
    serve-more F run p r u le f g d b (onward f' d' z same is' g' st se less n) =
        let r' = rich-on r (step i) in
        ends-wider (ends-later z (run _ r' (unhurt-on i p u (step i)) (omega arith) f' is' (g' ∙ g) d' (same-sees r.stands r'.stands same f' d' se) (omega arith))) (omega arith)
    serve-more F run p r u le f g d b (puts-now x h e k s n) = after-put F p r u le f (operation_is f o PutIn g h) x e k n
    serve-more F run p r u le f g d b (takes-now h e k) = rw (operation_is f o TakeOut g h) (ends_now (inr e) (omega arith))
    serve-more F run p r u le f g d b (settles_now h e k l n) = goal_differs f h g

    pub serve-run : (F : ℕ) → ServeRun F
    serve-run zero p r u le f is g d sees b = absurd (omega (arith, sees_pos (view_at r.stands) r.stands.tree f d sees))
    serve-run (suc F) p r u le f is g d sees b = serve-more F (serve-run F) p r u le f g d b (next-case r.stands (top_is r) i lt j f is d sees)
