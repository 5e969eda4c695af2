-- READINGS AND TESTS OF RECORDS AS THEY ARE never fail: the stage goes on, the operation ends, or the commit is made.
use Prim.Native.Nat.{◌≤◌, suc, ℕ}
use borrow.Author.Tests.{eq-eqb, not-false, not-true}
use lib.Dec.{eqb}
use mathlib.Core.Bool.{Bool, ◌&&◌, false, not, true}
use mathlib.Core.Path.{◌∙◌, ◌≡◌, refl, sym}
use native.Mathlib.Omega.{arith}
use Rattle.commits.proofs.Shape.{Shape}
use Rattle.fares.proofs.Whole.{Bounded}
use Rattle.machine.proofs.Choice.{if_elim}
use Rattle.machine.proofs.Tests.{both_first}
use Rattle.machine.specs.Commit.{Did, calm, commit_if, reading}
use Rattle.machine.specs.PutIn.{put_commit, put_step, put_test, read_put_leaf, read_put_parent}
use Rattle.machine.specs.Record.{in_tree, leads, linked, links_of, still}
use Rattle.machine.specs.Rows.{around_of}
use Rattle.machine.specs.Settling.{choose_by, choose_step, commit_four, commit_three, commit_two, double_first, double_step, double_turn, read_grand, read_on, read_parent, rotate_first, rotate_on, rotate_step, rotate_turn, settle_step, test_four, test_three, test_two, turn_formed}
use Rattle.machine.specs.Table.{View}
use Rattle.machine.specs.TakeOut.{read_take_grand, read_take_left, read_take_parent, read_take_right, take_commit, take_step, take_test}
use Rattle.progress.proofs.Changes.{NoNext, Stops, double-stops, promote-stops, put-stops, rotate-stops, take_stops}
use Rattle.progress.proofs.Sees.{GoesOn, Onward, Over, Sees, Three, Two}
use Rattle.progress.specs.Restarts.{is_start}
use Rattle.steps.proofs.Facts.{formed-plain, inner-by, leads-to, linked-formed, side-link}
use Rattle.steps.specs.Does.{walks}
use Rattle.terms.specs.Task.{busy, noted}
use Rattle.terms.specs.declared.Job.{Job}
use Rattle.terms.specs.declared.Links.{Links}
use Rattle.terms.specs.declared.Path.{Path}
use Rattle.terms.specs.declared.Phase.{Phase}
use Rattle.terms.specs.declared.Phase.TheVariants.{PuttingIn, Settling, TakingOut}
use Rattle.terms.specs.declared.PutStage.{PutStage}
use Rattle.terms.specs.declared.PutStage.TheVariants.{PutCommit, PutLeaf, PutParent}
use Rattle.terms.specs.declared.Rec.{Rec}
use Rattle.terms.specs.declared.SettleStage.{SettleStage}
use Rattle.terms.specs.declared.SettleStage.TheVariants.{SettleChoose, SettleDouble, SettleGrand, SettleParent, SettleRotate}
use Rattle.terms.specs.declared.TakeStage.{TakeStage}
use Rattle.terms.specs.declared.TakeStage.TheVariants.{TakeCommit, TakeGrand, TakeLeft, TakeParent, TakeRight}
use Rattle.terms.specs.declared.Turn.{Turn}
use Rattle.terms.specs.declared.Turn.TheVariants.{Done, Hurt, Next}
use Rattle.trees.proofs.Held.{Carries}
use Rattle.trees.specs.Tree.{Tree}
use Rattle.undamaged.proofs.Puts.{and_true}
use Rattle.undamaged.proofs.Records.{below-facts, tree_formed}
use Rattle.undamaged.proofs.Walks.{inner-links, true_false}
use Rattle.views.specs.Update.{link}

in_tree_is : (r : Rec) → r.state ≡ 1 → in_tree r ≡ true
unfolding in_tree
in_tree_is r e = eq-eqb r.state 1 e

still-is : (r : Rec) (a : Links) → r.state ≡ 1 → a ≡ links_of r → still r a ≡ true
unfolding still
still-is r a one e = rw (e, in_tree_is r one, eq-eqb r.left r.left refl, eq-eqb r.right r.right refl) refl

over-is : (v : View) (a s : ℕ) → Over v a s → (in_tree (v a) && leads (links_of (v a)) s) ≡ true
over-is v a s o = and_true _ _ (in_tree_is (v a) o.0) o.1

module _ (n : ℕ) (v : View) (t : Tree) (i : Carries v t) (sh : Shape t) (b : Bounded n v) (j : Job) where
  -- ---- a reading, and a commit after its test

  reads : (f f' : Phase) (D d' : ℕ) (formed good : Bool) (r : Rec) → walks f ≡ false → good ≡ true → noted (busy j f) (links_of r) ≡ busy j f' → is_start f' ≡ false → Sees v t f' d' → suc d' ≤ D
      → Onward v t j f D (reading (busy j f) formed good r)
  unfolding reading
  reads f f' D d' formed good r w g e st s le =
      if_elim (Onward v t j f D) _ (λ a. w)
      (λ a. if_elim (Onward v t j f D) _ (λ y. (f', d', e, st, s, le)) (λ y. true_false good g y))

  module _ (f : Phase) (D : ℕ) (walked : walks f ≡ false) where
    abbrev On : Did → Type 0
    On = GoesOn v t j f D

    hurts_on : On (calm Hurt)
    hurts_on w = walked

    stops_on : (x : Turn) → NoNext x → Onward v t j f D x
    stops_on Hurt h = walked
    stops_on (Next k) h = absurd h
    stops_on (Done a) h = tt

    tested : (grounds test : Bool) (change : Did) → test ≡ true → Stops change → On (commit_if (busy j f) grounds test change)
    unfolding commit_if
    tested grounds test change e h = if_elim On _ (λ a w. walked) (λ a. if_elim On _ (λ y. true_false test e (not-true test y)) (λ y w. stops_on change.turn (h w)))

  -- ---- put-in

  pub put_on : (m : ℕ) (q : Path) (s : PutStage) (D : ℕ) → Sees v t (PuttingIn q s) D → GoesOn v t j (PuttingIn q s) D (put_step v n m j q s)
  unfolding put_step read_put_parent read_put_leaf put_commit put_test
  put_on m q PutParent D (o, s, e) =
      λ z. reads (PuttingIn q PutParent) (PuttingIn q (PutLeaf (links_of (v q.parent)))) D 2 _ _ (v q.parent) refl (over-is v q.parent q.here o.0) refl refl (o, refl, refl) (omega arith)
  put_on m q (PutLeaf a) D (o, s, e) =
      λ z. reads (PuttingIn q (PutLeaf a)) (PuttingIn q (PutCommit a (links_of (v q.here)))) D 1 _ _ (v q.here) refl (in_tree_is (v q.here) o.1) refl refl (o, (s, refl), refl) (omega arith)
  put_on m q (PutCommit a c) D (o, s, e) =
      tested (PuttingIn q (PutCommit a c)) D refl _ _ _ (and_true _ _ (still-is (v q.parent) a o.0.0 s.0) (still-is (v q.here) c o.1 s.1))
      (put-stops n v j m q _ _ _)

  -- ---- take-out

  -- a child of a record in the tree
  child-one : (a h : ℕ) (d : Bool) → (v a).state ≡ 1 → link d (v a) ≡ h → (h ≡ 0 → ⊥) → (v h).state ≡ 1
  child-one a h d one e nz = (below-facts n v t i sh b a h d one e nz).one

  -- the parent of a leaf leads to two records of the tree
  parent-links : (q : Path) (d : Bool) → Two v q → (q.parent ≡ 0 → ⊥) → link d (v q.parent) ≡ 0 → ⊥
  parent-links q d o nz = inner-links n q.parent (v q.parent) (tree_formed n v t i sh b q.parent o.0.0) nz (inner o.0.1) d
    where
      inner : leads (links_of (v q.parent)) q.here ≡ true → (v q.parent).left ≡ 0 → ⊥
      inner l z =
          let s = leads-to (v q.parent) (links_of (v q.parent)) q.here (still-is (v q.parent) (links_of (v q.parent)) o.0.0 refl) l in
          inner-by n (v q.parent) (eqb (v q.parent).left q.here) (formed-plain n q.parent (v q.parent) (tree_formed n v t i sh b q.parent o.0.0) nz) (λ y. s.0 (sym s.1 ∙ y)) z

  child-state : (q : Path) (d : Bool) → Two v q → (q.parent ≡ 0 → ⊥) → (v (link d (v q.parent))).state ≡ 1
  child-state q d o nz = child-one q.parent (link d (v q.parent)) d o.0.0 refl (parent-links q d o nz)

  -- a record that another leads to is not the entry
  over-pos : (a s : ℕ) → Over v a s → s ≡ 0 → ⊥
  over-pos a s o = (leads-to (v a) (links_of (v a)) s (still-is (v a) (links_of (v a)) o.0 refl) o.1).0

  pub take_on : (q : Path) (s : TakeStage) (D : ℕ) → Sees v t (TakingOut q s) D → GoesOn v t j (TakingOut q s) D (take_step v n j q s)
  unfolding take_step read_take_grand read_take_parent read_take_left read_take_right take_commit take_test
  take_on q TakeGrand D (o, s, e) =
      λ z. reads (TakingOut q TakeGrand) (TakingOut q (TakeParent (links_of (v q.grand)))) D 4 _ _ (v q.grand) refl (over-is v q.grand q.parent o.0) refl refl (o, refl, refl) (omega arith)
  take_on q (TakeParent a) D (o, s, e) =
      λ z. reads (TakingOut q (TakeParent a)) (TakingOut q (TakeLeft a (links_of (v q.parent)))) D 3 _ _ (v q.parent) refl (over-is v q.parent q.here o.1.0) refl refl (o, (s, refl), refl) (omega arith)
  take_on q (TakeLeft a c) D (o, s, e) =
      λ z. let one : (v c.left).state ≡ 1 = rw s.1 (child-state q true o.1 (over-pos q.grand q.parent o.0)) in
      reads (TakingOut q (TakeLeft a c)) (TakingOut q (TakeRight a c (links_of (v c.left)))) D 2 _ _ (v c.left) refl (in_tree_is (v c.left) one) refl refl (o, (s.0, s.1, refl, one), refl) (omega arith)
  take_on q (TakeRight a c d) D (o, s, e) =
      λ z. let one : (v c.right).state ≡ 1 = rw s.1 (child-state q false o.1 (over-pos q.grand q.parent o.0)) in
      reads (TakingOut q (TakeRight a c d)) (TakingOut q (TakeCommit a c d (links_of (v c.right)))) D 1 _ _ (v c.right) refl (in_tree_is (v c.right) one) refl refl
      (o, (s.0, s.1, s.2, s.3, refl, one), refl) (omega arith)
  take_on q (TakeCommit a c d x) D (o, s, e) =
      tested (TakingOut q (TakeCommit a c d x)) D refl _ _ _
      (and_true _ _ (still-is (v q.grand) a o.0.0 s.0)
      (and_true _ _ (still-is (v q.parent) c o.1.0.0 s.1)
      (and_true _ _ (still-is (v c.left) d s.3 s.2) (still-is (v c.right) x s.5 s.4))))
      (take_stops n v j q _ _ _)

  -- ---- settling

  -- the links noted lead where they do
  module _ (q : Path) (o : Three v q) where
    test_two_lem : (a c : Links) → a ≡ links_of (v q.grand) → c ≡ links_of (v q.parent) → test_two a c (v q.grand) (v q.parent) ≡ true
    unfolding test_two
    test_two_lem a c e g = and_true _ _ (still-is (v q.grand) a o.0.0 e) (still-is (v q.parent) c o.1.0.0 g)

    test_three_lem : (a c d : Links) → a ≡ links_of (v q.grand) → c ≡ links_of (v q.parent) → d ≡ links_of (v q.here) → test_three a c d (v q.grand) (v q.parent) (v q.here) ≡ true
    unfolding test_three
    test_three_lem a c d e g h = and_true _ _ (test_two_lem a c e g) (still-is (v q.here) d o.1.1 h)

    -- x leads to y
    y_link : (a c d : Links) → d ≡ links_of (v q.here) → (around_of q a c d).y ≡ link (not (eqb c.left q.here)) (v q.here)
    unfolding around_of
    y_link a c d h = side-link (v q.here) d (not (eqb c.left q.here)) (still-is (v q.here) d o.1.1 h)

    y_one : (a c d : Links) → d ≡ links_of (v q.here) → linked n (around_of q a c d).y (v (around_of q a c d).y) ≡ true → (v (around_of q a c d).y).state ≡ 1
    y_one a c d h l =
        let e = y_link a c d h in
        child-one q.here (around_of q a c d).y (not (eqb c.left q.here)) o.1.1 (sym e) (linked-formed n (around_of q a c d).y (v (around_of q a c d).y) l).0

  pub settle-on : (q : Path) (s : SettleStage) (D : ℕ) → Sees v t (Settling q s) D → GoesOn v t j (Settling q s) D (settle_step v n j q s)
  unfolding settle_step read_grand read_parent choose_step choose_by commit_two read_on rotate_step rotate_first rotate_turn rotate_on commit_three double_step double_first double_turn commit_four test_four turn_formed
  settle-on q SettleGrand D (o, s, e) =
      λ z. reads (Settling q SettleGrand) (Settling q (SettleParent (links_of (v q.grand)))) D 4 _ _ (v q.grand) refl (over-is v q.grand q.parent o.0) refl refl (o, refl, refl) (omega arith)
  settle-on q (SettleParent a) D (o, s, e) =
      λ z. reads (Settling q (SettleParent a)) (Settling q (SettleChoose a (links_of (v q.parent)))) D 3 _ _ (v q.parent) refl (over-is v q.parent q.here o.1.0) refl refl (o, (s, refl), refl) (omega arith)
  settle-on q (SettleChoose a c) D (o, s, e) =
      let f = Settling q (SettleChoose a c) in
      if_elim (GoesOn v t j f D) _ (λ y. hurts_on f D refl)
      (λ y. if_elim (GoesOn v t j f D) _
      (λ w z. reads f (Settling q (SettleRotate a c (links_of (v q.here)))) D 2 _ _ (v q.here) refl (in_tree_is (v q.here) o.1.1) refl refl (o, (s.0, s.1, refl), refl) (omega arith))
      (λ w. tested f D refl _ _ _ (test_two_lem q o a c s.0 s.1) (promote-stops n v j _ q a c _)))
  settle-on q (SettleRotate a c d) D (o, s, e) =
      let f = Settling q (SettleRotate a c d) in
      if_elim (GoesOn v t j f D) _ (λ y. hurts_on f D refl)
      (λ y. if_elim (GoesOn v t j f D) _
      (λ w. if_elim (GoesOn v t j f D) _ (λ x. hurts_on f D refl)
      (λ x. if_elim (GoesOn v t j f D) _
      (λ r z. (
      let one = y_one q o a c d s.2 (both_first _ _ (not-false _ x)) in
      reads f (Settling q (SettleDouble a c d (links_of (v (around_of q a c d).y)))) D 1 _ _ (v (around_of q a c d).y) refl (in_tree_is (v (around_of q a c d).y) one) refl refl
      (o, (s.0, s.1, s.2, refl, one), refl) (omega arith)
      ))
      (λ r. tested f D refl _ _ _ (test_three_lem q o a c d s.0 s.1 s.2) (rotate-stops n v j _ q _ _ _))))
      (λ w. tested f D refl _ _ _ (test_three_lem q o a c d s.0 s.1 s.2) (promote-stops n v j _ q a c _)))
  settle-on q (SettleDouble a c d x) D (o, s, e) =
      let f = Settling q (SettleDouble a c d x) in
      let test = and_true _ _ (test_three_lem q o a c d s.0 s.1 s.2) (still-is (v (around_of q a c d).y) x s.4 s.3) in
      if_elim (GoesOn v t j f D) _ (λ y. hurts_on f D refl)
      (λ y. if_elim (GoesOn v t j f D) _
      (λ w. if_elim (GoesOn v t j f D) _ (λ u. hurts_on f D refl)
      (λ u. tested f D refl _ _ _ test (double-stops n v j _ q _ x _ _ _)))
      (λ w. tested f D refl _ _ _ test (promote-stops n v j _ q a c _)))
