-- A LOOK UP STEPPED ALONE ends within height + 2 steps.
use Prim.Native.Nat.{◌*◌, ◌+◌, ◌<◌, ◌≤◌, suc, zero, ℕ}
use lib.ListN.{length}
use mathlib.Core.Bool.{true}
use mathlib.Core.List.{List, [], ◌++◌, ◌∷◌}
use mathlib.Core.Logic.{inl, inr}
use mathlib.Core.Path.{◌∙◌, ◌≡◌, ap, refl, subst, sym}
use native.Mathlib.Omega.{arith}
use Rattle.commits.proofs.Shape.{Shape}
use Rattle.demand2.proofs.Counts.{stored_here}
use Rattle.demand2.proofs.Demand2.{keeps}
use Rattle.demand2.proofs.Passes.{Passes, begins, looks, passing, refused, view_at}
use Rattle.demand2.proofs.Stands.{Stands}
use Rattle.demand3.proofs.Crown.{Plain, plain-below, top_rank}
use Rattle.demand3.proofs.Demand3.{crowned, height-printed, rich}
use Rattle.demand3.proofs.Rich.{Rich, extra_at}
use Rattle.demand3.specs.Demand3.{figures_at}
use Rattle.fares.specs.Fares.{fares, leaf_fares}
use Rattle.history.specs.History.{Ask, begin, step}
use Rattle.history.specs.Ledger.{Account, Fare, Point, advance, given, history}
use Rattle.history.specs.Machine.{real}
use Rattle.terms.specs.Answers.{number_of}
use Rattle.machine.specs.Calls.{begin_of}
use Rattle.machine.specs.Choice.{if_b}
use Rattle.machine.specs.Record.{top_number}
use Rattle.machine.specs.State.{task_at}
use Rattle.machine.specs.Step.{Left}
use Rattle.machine.specs.Table.{View}
use Rattle.progress.proofs.Cases.{Case, ended, hurt, next-case, onward, puts-now, settles_now, takes-now}
use Rattle.progress.proofs.Ends.{ends-later, ends_now, ends-wider}
use Rattle.progress.proofs.Onward.{same-sight}
use Rattle.progress.proofs.Sees.{Sees, sees_pos}
use Rattle.progress.specs.Alone.{Ends, FoundOrNot, LookUpAlone, LookUpsEnd}
use Rattle.steps.specs.Does.{EndOf, Quiet, leaves, settled, stops, walks}
use Rattle.terms.specs.Task.{busy, goal_of, idle_task}
use Rattle.terms.specs.declared.Answer.{Answer}
use Rattle.terms.specs.declared.Answer.TheVariants.{Accepted}
use Rattle.terms.specs.declared.Goal.TheVariants.{Serve, Settle}
use Rattle.terms.specs.declared.Job.{Job}
use Rattle.terms.specs.declared.Operation.{Operation}
use Rattle.terms.specs.declared.Operation.TheVariants.{LookUp, PutIn, TakeOut}
use Rattle.terms.specs.declared.Phase.{Phase}
use Rattle.terms.specs.declared.Phase.TheVariants.{PuttingIn, Settling, Start, TakingOut, Walk}
use Rattle.terms.specs.declared.State.{State}
use Rattle.terms.specs.declared.Task.{Task}
use Rattle.terms.specs.declared.Turn.TheVariants.{Done}
use Rattle.terms.specs.declared.Work.TheVariants.{Busy}
use Rattle.trees.specs.Rank.{height, rank}
use Rattle.trees.specs.Tree.{Tree, leaf, node}
use Rattle.undamaged.proofs.Walks.{true_false}

look-walks : (f : Phase) → goal_of f ≡ Serve LookUp → walks f ≡ true
look-walks (Start g) e = refl
look-walks (Walk g q) e = refl
look-walks (PuttingIn q s) e = absurd (let z : ◌≡◌ {A = ℕ} 0 1 = cc in omega arith)
look-walks (TakingOut q s) e = absurd (let z : ◌≡◌ {A = ℕ} 0 1 = cc in omega arith)
look-walks (Settling q s) e = absurd (let z : ◌≡◌ {A = ℕ} 0 1 = cc in omega arith)

-- the answers that end it
look-answer : (v : View) (t : Tree) (j : Job) (f : Phase) (a : Answer) → goal_of f ≡ Serve LookUp → Quiet v t j f (Done a) → FoundOrNot (number_of a)
look-answer v t j f a g (stops o _ h e) = let y : Serve o ≡ Serve LookUp = sym h ∙ g in let z : o ≡ LookUp = cc in subst (λ o. EndOf o (number_of a)) z e
look-answer v t j f _ g (settled h w l e) = absurd (let y : Serve LookUp ≡ Settle = sym g ∙ h in let z : ◌≡◌ {A = ℕ} 0 1 = cc in omega arith)
look-answer v t j f _ g (leaves h) = absurd (let y : Serve LookUp ≡ Settle = sym g ∙ h in let z : ◌≡◌ {A = ℕ} 0 1 = cc in omega arith)

-- the tree of a point with the same table has the same top
pub same-top : {p p' : Point} (s : Stands p) (s' : Stands p') → p'.table ≡ p.table → rank s.tree ≡ 255 → rank s'.tree ≡ 255
same-top s s' e h = ap rank (same-sight s s' e).0 ∙ h

pub same-sees : {p p' : Point} (s : Stands p) (s' : Stands p') → p'.table ≡ p.table → (f : Phase) (d : ℕ) → Sees (view_at s) s.tree f d → Sees (view_at s') s'.tree f d
same-sees s s' e f d h = let w = same-sight s s' e in rw (w.0, w.1) h

module _ (i : ℕ) (lt : i < 8) (j : Job) where
  abbrev Run : ℕ → Type 0
  Run D = (p : Point) (s : Stands p) → rank s.tree ≡ 255 → (f : Phase) → (task_at p.state i).work ≡ Busy j f → goal_of f ≡ Serve LookUp
      → (d : ℕ) → Sees (view_at s) s.tree f d → d ≤ D → Ends real p i D FoundOrNot

  one_more : (D : ℕ) → Run D → {p : Point} (s : Stands p) → rank s.tree ≡ 255 → (f : Phase) → goal_of f ≡ Serve LookUp → (d : ℕ) → d ≤ suc D → Case s i j f d → Ends real p i (suc D) FoundOrNot
  one_more D run s top f g d le (hurt w e k) = true_false (walks f) (look-walks f g) w
  one_more D run s top f g d le (ended a q e k) = ends_now (rw e (look-answer (view_at s) s.tree j f a g q)) (omega arith)
  one_more D run s top f g d le (onward f' d' z same is' g' st se less o) =
      let s' = keeps s (step i) in
      ends-later z (run _ s' (same-top s s' same top) f' is' (g' ∙ g) d' (same-sees s s' same f' d' se) (omega arith))
  one_more D run s top f g d le (puts-now b h e k c o) = absurd (let y : Serve LookUp ≡ Serve PutIn = sym g ∙ h in let z : ◌≡◌ {A = ℕ} 0 1 = cc in omega arith)
  one_more D run s top f g d le (takes-now h e k) = absurd (let y : Serve LookUp ≡ Serve TakeOut = sym g ∙ h in let z : ◌≡◌ {A = ℕ} 0 1 = cc in omega arith)
  one_more D run s top f g d le (settles_now h e k w o) = absurd (let y : Serve LookUp ≡ Settle = sym g ∙ h in let z : ◌≡◌ {A = ℕ} 0 1 = cc in omega arith)

  look-run : (D : ℕ) → Run D
  look-run zero p s top f is g d sees le = absurd (omega (arith, sees_pos (view_at s) s.tree f d sees))
  look-run (suc D) p s top f is g d sees le = one_more D (look-run D) s top f g d le (next-case s top i lt j f is d sees)

-- ---- from the begin

-- an accepted begin: the table stays, the task is about to walk from the entry
pub begun-facts : {p : Point} (s : Stands p) (i : ℕ) (o : Operation) (j : Job) {l : Left} {a : Account} {t' : Tree} → Passes s (begin i o j) l a t' → number_of l.answer ≡ 0
    → (i < 8) × (l.table ≡ p.table) × ((task_at l.state i).work ≡ Busy j (Start (Serve o)))
begun-facts s i o j (refused x h) e = absurd (omega arith)
begun-facts s i o j (looks x h) e = absurd h
begun-facts {p} s i o j (begins _ _ _ lt idle f) e = (lt, refl, ap (λ (k : Task). k.work) (stored_here p.state.tasks i (busy j (Start (Serve o))) idle_task (omega (arith, s.eight))))

-- the top is a sentinel
pub top_is : {p : Point} (r : Rich p) → rank r.stands.tree ≡ 255
top_is r = omega (arith, top_rank r.stands.tree r.stands.shape.ranked (extra_at r).sentinel-leaf, r.stands.shape.limit)

-- while no fare is held the tree is one leaf
first-none : (xs ys : List Fare) → (xs ++ ys) ≡ [] → xs ≡ []
first-none [] ys e = refl
first-none (x ∷ xs) ys e = absurd (let z : ◌≡◌ {A = ℕ} 0 1 = cc in omega arith)

plain-fares : (t : Tree) → Plain t → fares t ≡ [] → ⊥
unfolding leaf_fares if_b
plain-fares (leaf s k pr rk) p e = absurd (let y = rw p.1 at e in let z : ◌≡◌ {A = ℕ} 0 1 = cc in omega arith)
plain-fares (node s k rk l r) p e = plain-fares l p.2 (first-none (fares l) (fares r) e)

pub empty_height : (t : Tree) → Shape t → rank t ≡ 255 → fares t ≡ [] → height t ≡ 0
empty_height (leaf s k pr rk) sh top e = refl
empty_height (node s k rk l r) sh top e =
    let ek : k ≡ top_number = elim sh.marks.0 [ inl q ↦ q.0 | inr q ↦ absurd (omega (arith, q.2)) ] in
    absurd (plain-fares l (plain-below 0 k l sh.order.0 (omega arith) sh.marks.1) (first-none (fares l) (fares r) e))

-- the tree has at most height + 1 links below the entry's child, with height as figures prints it
pub height-of : {p : Point} (r : Rich p) → height r.stands.tree ≤ (figures_at real p).height + 1
height-of {p} r = go (given p.account.commits) refl
  where
    go : (fs : List Fare) → given p.account.commits ≡ fs → height r.stands.tree ≤ (figures_at real p).height + 1
    go [] e = omega (arith, empty_height r.stands.tree r.stands.shape (top_is r) (r.stands.held ∙ e))
    go (x ∷ xs) e =
        let held : given p.account.commits ≡ [] → ⊥ = λ z. (let w = sym e ∙ z in let y : ◌≡◌ {A = ℕ} 0 1 = cc in omega arith) in
        let k = crowned r held in
        omega (arith, height-printed r held, ap height k.whole)

module _ (t : List ℕ) (st : State) (cs : List Ask) (n : ℕ) (e : length t ≡ 6 * n) (least : 8 ≤ n) (most : n ≤ 4096) (i : ℕ) (j : Job)
    (yes : (begin_of (history real t st cs).table (history real t st cs).state i LookUp j).answer ≡ Accepted) where
  abbrev p : Point
  p = history real t st cs

  r : Rich p
  r = rich t st cs n e least most

  look-from : Ends real (advance real p (begin i LookUp j)) i (suc (height r.stands.tree)) FoundOrNot
  unfolding advance
  look-from =
      let s = r.stands in
      let f = begun-facts s i LookUp j (passing s (begin i LookUp j)).passes (ap number_of yes) in
      let s' = keeps s (begin i LookUp j) in
      look-run i f.0 j (suc (height s.tree)) _ s' (same-top s s' f.1 (top_is r)) (Start (Serve LookUp)) f.2 refl (suc (height s.tree))
      (same-sees s s' f.1 (Start (Serve LookUp)) (suc (height s.tree)) (omega arith)) (omega arith)

  look-alone : LookUpAlone real p i j
  look-alone = record {
    by_height = ends-wider look-from (omega (arith, height-of r));
    when_empty = λ z. ends-wider look-from (omega (arith, empty_height r.stands.tree r.stands.shape (top_is r) (r.stands.held ∙ z)));
  }

-- THE THEOREM
pub look-ups_end : LookUpsEnd real
look-ups_end = look-alone
