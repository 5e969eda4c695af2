-- ONE STEP OF A TASK THAT LEFT THE ENTRY AT ANY TIME, without a write: it ends, starts its walk again, or has fewer steps left.
use Prim.Native.Nat.{◌+◌, ◌≤◌, suc, zero, ℕ}
use borrow.Author.Tests.{not-false}
use mathlib.Core.Bool.{Bool, true}
use mathlib.Core.List.{[]}
use mathlib.Core.Logic.{◌⊎◌, inl, inr}
use mathlib.Core.Path.{◌∙◌, ◌≡◌, refl, subst, sym}
use native.Mathlib.Omega.{arith}
use Rattle.machine.proofs.Choice.{if_elim}
use Rattle.machine.specs.Commit.{Did, commit_if, reading}
use Rattle.machine.specs.PutIn.{put_commit, put_step, read_put_leaf, read_put_parent}
use Rattle.machine.specs.Record.{links_of}
use Rattle.machine.specs.Rows.{around_of}
use Rattle.machine.specs.Settling.{choose_by, choose_step, commit_four, commit_three, commit_two, double_first, double_step, double_turn, read_grand, read_on, read_parent, rotate_first, rotate_on, rotate_step, rotate_turn, settle_step}
use Rattle.machine.specs.Step.{phase_step}
use Rattle.machine.specs.Table.{View}
use Rattle.machine.specs.TakeOut.{read_take_grand, read_take_left, read_take_parent, read_take_right, take_commit, take_step}
use Rattle.machine.specs.Walk.{arrival, at_leaf, serve_arrival, settle_arrival, sought, walk_from, walk_on, walk_to}
use Rattle.progress.proofs.Changes.{NoNext, Stops, double-stops, promote-stops, put-stops, rotate-stops, take_stops}
use Rattle.progress.proofs.Sees.{put_left, settle_left, take_left}
use Rattle.progress.specs.Restarts.{is_start}
use Rattle.progress.specs.Stale.{Walked}
use Rattle.steps.proofs.Facts.{linked-formed}
use Rattle.steps.proofs.Trails.{next-sought}
use Rattle.terms.specs.Task.{busy, goal_of, noted}
use Rattle.terms.specs.declared.Goal.{Goal}
use Rattle.terms.specs.declared.Goal.TheVariants.{Serve, Settle}
use Rattle.terms.specs.declared.Job.{Job}
use Rattle.terms.specs.declared.Operation.{Operation}
use Rattle.terms.specs.declared.Operation.TheVariants.{LookUp, PutIn, TakeOut}
use Rattle.terms.specs.declared.Path.{Path}
use Rattle.terms.specs.declared.Phase.{Phase}
use Rattle.terms.specs.declared.Phase.TheVariants.{PuttingIn, Settling, Start, TakingOut, Walk}
use Rattle.terms.specs.declared.PutStage.{PutStage}
use Rattle.terms.specs.declared.PutStage.TheVariants.{PutCommit, PutLeaf, PutParent}
use Rattle.terms.specs.declared.Rec.{Rec}
use Rattle.terms.specs.declared.SettleStage.{SettleStage}
use Rattle.terms.specs.declared.SettleStage.TheVariants.{SettleChoose, SettleDouble, SettleGrand, SettleParent, SettleRotate}
use Rattle.terms.specs.declared.TakeStage.{TakeStage}
use Rattle.terms.specs.declared.TakeStage.TheVariants.{TakeCommit, TakeGrand, TakeLeft, TakeParent, TakeRight}
use Rattle.terms.specs.declared.Turn.{Turn}
use Rattle.terms.specs.declared.Turn.TheVariants.{Done, Hurt, Next}

-- with d steps left at most
abbrev pub Stale : View → ℕ → Phase → ℕ → Type 0
Stale v k (Start g) d = ⊥
Stale v k (Walk g q) d = (L : ℕ) × Walked v k q.here L × (d ≡ L + 5)
Stale v k (PuttingIn q s) d = d ≡ put_left s
Stale v k (TakingOut q s) d = d ≡ take_left s
Stale v k (Settling q s) d = d ≡ settle_left s

abbrev pub Drift : View → Job → ℕ → Turn → Type 0
Drift v j d Hurt = Unit {0}
Drift v j d (Next k) = (f' : Phase) × (d' : ℕ) × (k ≡ busy j f') × ((is_start f' ≡ true) ⊎ (Stale v j.number f' d' × (suc d' ≤ d)))
Drift v j d (Done a) = Unit {0}

abbrev pub Drifts : View → Job → ℕ → Did → Type 0
Drifts v j d x = x.writes ≡ [] → Drift v j d x.turn

module _ (n : ℕ) (v : View) (j : Job) where
  abbrev k : ℕ
  k = j.number

  -- ---- the walk

  module _ (q : Path) (L D : ℕ) (w : Walked v k q.here L) (le : suc (L + 5) ≤ D) where
    leaf_drift : (o : Operation) (r : Rec) → Drift v j D (at_leaf o j q r)
    unfolding at_leaf
    leaf_drift LookUp r = if_elim (Drift v j D) _ (λ e. tt) (λ e. tt)
    leaf_drift PutIn r = if_elim (Drift v j D) _ (λ e. tt) (λ e. (PuttingIn q PutParent, 3, refl, inr (refl, omega arith)))
    leaf_drift TakeOut r = if_elim (Drift v j D) _ (λ e. (TakingOut q TakeGrand, 5, refl, inr (refl, omega arith))) (λ e. tt)

    arrives : (g : Goal) (p r : Rec) → Drift v j D (arrival g j q p r)
    unfolding arrival serve_arrival settle_arrival
    arrives (Serve o) p r = if_elim (Drift v j D) _ (λ e. leaf_drift o r) (λ e. (Walk (Serve o) q, L + 5, refl, inr ((L, w, refl), le)))
    arrives Settle p r =
        if_elim (Drift v j D) _ (λ e. tt)
        (λ e. if_elim (Drift v j D) _ (λ l. (Settling q SettleGrand, 5, refl, inr (refl, omega arith)))
        (λ l. if_elim (Drift v j D) _ (λ h. tt) (λ h. (Walk Settle q, L + 5, refl, inr ((L, w, refl), le)))))

  -- the next record is there, so a link was left
  walk_drift : (g : Goal) (q : Path) (L D : ℕ) → Walked v k q.here L → L + 5 ≤ D → Drift v j D (walk_on v n g j q)
  unfolding walk_on walk_from walk_to
  walk_drift g q L D w le =
      if_elim (Drift v j D) _ (λ e. tt)
      (λ e. if_elim (Drift v j D) _ (λ y. tt)
      (λ y. if_elim (Drift v j D) _ (λ z. tt)
      (λ z. onward L w le (linked-formed n _ _ (not-false _ z)).0)))
    where
      onward : (L : ℕ) → Walked v k q.here L → L + 5 ≤ D → (sought k (v q.here) ≡ 0 → ⊥)
          → Drift v j D (arrival g j (record { grand = q.parent; parent = q.here; here = sought k (v q.here) }) (v q.here) (v (sought k (v q.here))))
      onward zero w le nz = absurd (nz (next-sought v k q.here ∙ w))
      onward (suc L) w le nz = arrives _ L D (subst (λ y. Walked v k y L) (sym (next-sought v k q.here)) w.1) (omega arith) g _ _

  -- ---- readings and commits

  reads : (f f' : Phase) (D d' : ℕ) (formed good : Bool) (r : Rec) → noted (busy j f) (links_of r) ≡ busy j f' → Stale v k f' d' → suc d' ≤ D → Drift v j D (reading (busy j f) formed good r)
  unfolding reading
  reads f f' D d' formed good r e s le =
      if_elim (Drift v j D) _ (λ a. tt) (λ a. if_elim (Drift v j D) _ (λ y. (f', d', e, inr (s, le))) (λ y. (Start (goal_of f), 0, refl, inl refl)))

  stops_drift : (D : ℕ) (x : Turn) → NoNext x → Drift v j D x
  stops_drift D Hurt h = tt
  stops_drift D (Next k) h = absurd h
  stops_drift D (Done a) h = tt

  commits : (f : Phase) (D : ℕ) (grounds test : Bool) (change : Did) → Stops change → Drifts v j D (commit_if (busy j f) grounds test change)
  unfolding commit_if
  commits f D grounds test change h =
      if_elim (Drifts v j D) _ (λ a w. tt) (λ a. if_elim (Drifts v j D) _ (λ y w. (Start (goal_of f), 0, refl, inl refl)) (λ y w. stops_drift D change.turn (h w)))

  put-drift : (m : ℕ) (q : Path) (s : PutStage) (D : ℕ) → put_left s ≤ D → Drifts v j D (put_step v n m j q s)
  unfolding put_step read_put_parent read_put_leaf put_commit
  put-drift m q PutParent D le = λ z. reads (PuttingIn q PutParent) (PuttingIn q (PutLeaf (links_of (v q.parent)))) D 2 _ _ (v q.parent) refl refl le
  put-drift m q (PutLeaf a) D le = λ z. reads (PuttingIn q (PutLeaf a)) (PuttingIn q (PutCommit a (links_of (v q.here)))) D 1 _ _ (v q.here) refl refl le
  put-drift m q (PutCommit a c) D le = commits (PuttingIn q (PutCommit a c)) D _ _ _ (put-stops n v j m q _ _ _)

  take_drift : (q : Path) (s : TakeStage) (D : ℕ) → take_left s ≤ D → Drifts v j D (take_step v n j q s)
  unfolding take_step read_take_grand read_take_parent read_take_left read_take_right take_commit
  take_drift q TakeGrand D le = λ z. reads (TakingOut q TakeGrand) (TakingOut q (TakeParent (links_of (v q.grand)))) D 4 _ _ (v q.grand) refl refl le
  take_drift q (TakeParent a) D le = λ z. reads (TakingOut q (TakeParent a)) (TakingOut q (TakeLeft a (links_of (v q.parent)))) D 3 _ _ (v q.parent) refl refl le
  take_drift q (TakeLeft a c) D le = λ z. reads (TakingOut q (TakeLeft a c)) (TakingOut q (TakeRight a c (links_of (v c.left)))) D 2 _ _ (v c.left) refl refl le
  take_drift q (TakeRight a c d) D le = λ z. reads (TakingOut q (TakeRight a c d)) (TakingOut q (TakeCommit a c d (links_of (v c.right)))) D 1 _ _ (v c.right) refl refl le
  take_drift q (TakeCommit a c d x) D le = commits (TakingOut q (TakeCommit a c d x)) D _ _ _ (take_stops n v j q _ _ _)

  settle-drift : (q : Path) (s : SettleStage) (D : ℕ) → settle_left s ≤ D → Drifts v j D (settle_step v n j q s)
  unfolding settle_step read_grand read_parent choose_step choose_by commit_two read_on rotate_step rotate_first rotate_turn rotate_on commit_three double_step double_first double_turn commit_four
  settle-drift q SettleGrand D le = λ z. reads (Settling q SettleGrand) (Settling q (SettleParent (links_of (v q.grand)))) D 4 _ _ (v q.grand) refl refl le
  settle-drift q (SettleParent a) D le = λ z. reads (Settling q (SettleParent a)) (Settling q (SettleChoose a (links_of (v q.parent)))) D 3 _ _ (v q.parent) refl refl le
  settle-drift q (SettleChoose a c) D le =
      let f = Settling q (SettleChoose a c) in
      if_elim (Drifts v j D) _ (λ y w. tt)
      (λ y. if_elim (Drifts v j D) _
      (λ w z. reads f (Settling q (SettleRotate a c (links_of (v q.here)))) D 2 _ _ (v q.here) refl refl le)
      (λ w. commits f D _ _ _ (promote-stops n v j _ q a c _)))
  settle-drift q (SettleRotate a c d) D le =
      let f = Settling q (SettleRotate a c d) in
      if_elim (Drifts v j D) _ (λ y w. tt)
      (λ y. if_elim (Drifts v j D) _
      (λ w. if_elim (Drifts v j D) _ (λ x w. tt)
      (λ x. if_elim (Drifts v j D) _
      (λ r z. reads f (Settling q (SettleDouble a c d (links_of (v (around_of q a c d).y)))) D 1 _ _ (v (around_of q a c d).y) refl refl le)
      (λ r. commits f D _ _ _ (rotate-stops n v j _ q _ _ _))))
      (λ w. commits f D _ _ _ (promote-stops n v j _ q a c _)))
  settle-drift q (SettleDouble a c d x) D le =
      let f = Settling q (SettleDouble a c d x) in
      if_elim (Drifts v j D) _ (λ y w. tt)
      (λ y. if_elim (Drifts v j D) _
      (λ w. if_elim (Drifts v j D) _ (λ u w. tt)
      (λ u. commits f D _ _ _ (double-stops n v j _ q _ x _ _ _)))
      (λ w. commits f D _ _ _ (promote-stops n v j _ q a c _)))

  -- EVERY PHASE but the entry's
  pub phase_drifts : (m : ℕ) (f : Phase) (d D : ℕ) → Stale v k f d → d ≤ D → Drifts v j D (phase_step v n m j f)
  unfolding phase_step
  phase_drifts m (Start g) d D s le = absurd s
  phase_drifts m (Walk g q) d D (L, w, e) le = λ z. walk_drift g q L D w (omega arith)
  phase_drifts m (PuttingIn q x) d D s le = put-drift m q x D (omega arith)
  phase_drifts m (TakingOut q x) d D s le = take_drift q x D (omega arith)
  phase_drifts m (Settling q x) d D s le = settle-drift q x D (omega arith)
