-- The steps of a settling task never find damage, and some row always fits.
use Prim.Native.Nat.{◌-◌, ◌<◌, ◌≤◌, suc, ℕ}
use borrow.Author.Tests.{eqb-true, leb-true, ltb-true, not-true}
use lib.Dec.{eqb}
use mathlib.Core.Bool.{Bool, false, not, true}
use mathlib.Core.Logic.{inl, inr}
use mathlib.Core.Path.{◌∙◌, ◌≡◌, ap, refl, subst, sym}
use native.Mathlib.Omega.{arith}
use Rattle.machine.proofs.Choice.{if_elim}
use Rattle.machine.proofs.Tests.{both_first, both-second}
use Rattle.machine.specs.Choice.{if_b}
use Rattle.machine.specs.Commit.{Did}
use Rattle.machine.specs.Record.{in_tree, leads, level, links_of, other, still, well_formed}
use Rattle.machine.specs.Rows.{around_of, level_row, link_at, parent_row}
use Rattle.machine.specs.Settling.{choose_by, choose_formed, choose_step, commit_four, commit_three, commit_two, double_by, double_do, double_first, double_step, double_turn, grounds_four, grounds_three, grounds_two, is_double, is_wider, promote_by, promote_do, read_grand, read_on, read_parent, rotate_by, rotate_do, rotate_first, rotate_on, rotate_step, rotate_turn, rotate_two_do, settle_step, test_four, test_three, test_two, turn_formed}
use Rattle.machine.specs.Table.{View}
use Rattle.potential.specs.Potential.{phi}
use Rattle.routes.proofs.Level.{lv-yes}
use Rattle.routes.specs.Route.{lev_at, lv}
use Rattle.steps.proofs.Choosing.{pair_found}
use Rattle.steps.proofs.Facts.{both, formed-plain, side-link, still-facts}
use Rattle.steps.proofs.Putting.{leaf_marks}
use Rattle.steps.proofs.Rowing.{LevelFacts, ParentFacts, level-row, parent_row_lem, wide_row}
use Rattle.steps.proofs.Settling.{Pair, level-small}
use Rattle.steps.specs.Trail.{Upper}
use Rattle.terms.specs.Task.{busy}
use Rattle.terms.specs.declared.Job.{Job}
use Rattle.terms.specs.declared.LevelRow.{LevelRow}
use Rattle.terms.specs.declared.LevelRow.TheVariants.{DoubleRotation, NoRow, RotateOne, RotateTwo}
use Rattle.terms.specs.declared.Links.{Links}
use Rattle.terms.specs.declared.ParentRow.{ParentRow}
use Rattle.terms.specs.declared.ParentRow.TheVariants.{Outranked, Promote, Wider}
use Rattle.terms.specs.declared.Path.{Path}
use Rattle.terms.specs.declared.Phase.TheVariants.{Settling}
use Rattle.terms.specs.declared.Rec.{Rec}
use Rattle.terms.specs.declared.SettleStage.{SettleStage}
use Rattle.terms.specs.declared.SettleStage.TheVariants.{SettleChoose, SettleDouble, SettleGrand, SettleParent, SettleRotate}
use Rattle.trees.specs.Tree.{Tree}
use Rattle.undamaged.proofs.Limits.{no-level_child, promote-limit, rotate-limit}
use Rattle.undamaged.proofs.Puts.{and_true, commit-safe, differs, grand_there, here-linked, in_tree_one, leads-which, parent-formed, read-safe}
use Rattle.undamaged.proofs.Records.{below-facts}
use Rattle.undamaged.proofs.Walks.{formed, inner-links, linked-is, true_false}
use Rattle.undamaged.specs.Memory.{Chosen, InnerIs, SettleNotes, Slope, Turning, Way}
use Rattle.undamaged.specs.Records.{Used}
use Rattle.undamaged.specs.Safe.{Ground, Safe}
use Rattle.views.specs.Update.{link}

link_at_is : (d : Bool) (r : Rec) → link_at d (links_of r) ≡ link d r
unfolding link_at if_b
link_at_is true r = refl
link_at_is false r = refl

-- the other child is one of the two
other-which : (P : ℕ → Type 0) (b : Links) (s : ℕ) → P b.left → P b.right → P (other b s)
unfolding other
other-which P b s l r = if_elim P (eqb b.left s) (λ e. r) (λ e. l)

-- children below x that are not level: a row fits
row-there : (x y w : ℕ) → suc y ≤ x → suc w ≤ x → level_row x y w ≡ NoRow → ⊥
unfolding level_row
row-there x y w hy hw =
    if_elim (λ r. r ≡ NoRow → ⊥) _ (λ e. absurd (let h : x < y = ltb-true x y e in omega arith))
    (λ e. if_elim (λ r. r ≡ NoRow → ⊥) _ (λ d. absurd (let h : x < w = ltb-true x w d in omega arith))
    (λ d. if_elim (λ r. r ≡ NoRow → ⊥) _ (λ c. λ f. let z : ◌≡◌ {A = ℕ} 0 1 = cc in omega arith)
    (λ c. if_elim (λ r. r ≡ NoRow → ⊥) _ (λ b. absurd (let h : x - y ≡ 0 = eqb-true (x - y) 0 b in omega arith))
    (λ b. if_elim (λ r. r ≡ NoRow → ⊥) _ (λ a. absurd (let h : x - w ≡ 0 = eqb-true (x - w) 0 a in omega arith))
    (λ a. if_elim (λ r. r ≡ NoRow → ⊥) _ (λ k. λ f. let z : ◌≡◌ {A = ℕ} 0 1 = cc in omega arith) (λ k. λ f. let z : ◌≡◌ {A = ℕ} 0 1 = cc in omega arith))))))

module _ (n : ℕ) (v : View) (t : Tree) (g : Ground n v t) (paid : phi t ≤ 2000000) (m : ℕ) (j : Job) (q : Path) (up : Upper v q)
    (w : Way v q) (sl : Slope v t q) (lev : level (v q.parent) (v q.here) ≡ true) where
  abbrev z : ℕ
  z = q.parent

  abbrev x : ℕ
  x = q.here

  abbrev Ok : Did → Type 0
  Ok d = Safe v t d.turn

  -- a level record is no sentinel: so z is not the entry, and the grandparent is there
  small : ((v z).rank ≡ (v x).rank) × ((v x).rank ≤ 28) × (lv (v z).rank (v x).rank ≡ true)
  small = level-small n (v z) (v x) (formed-plain n x (v x) (formed n v t g x w.here-used) w.here-pos) lev

  z_pos : z ≡ 0 → ⊥
  z_pos e = omega (arith, small.1, w.top_rank e)

  grand_is : InnerIs v q.grand
  grand_is = grand_there n v t g q w z_pos

  -- and it outranks z
  higher : (v z).rank < (v q.grand).rank
  higher =
      let le : (v z).rank ≤ (v q.grand).rank = elim sl.upper [ inl e ↦ absurd (z_pos e) | inr h ↦ h ] in
      let no-level : lv (v q.grand).rank (v z).rank ≡ true → ⊥ = elim up [ inl e ↦ absurd (z_pos e) | inr s ↦ s.2 ] in
      strict le (λ e. no-level (lv-yes (v q.grand).rank (v z).rank e (omega (arith, small.0, small.1))))
    where
      strict : (v z).rank ≤ (v q.grand).rank → ((v q.grand).rank ≡ (v z).rank → ⊥) → (v z).rank < (v q.grand).rank
      strict a d = omega arith

  g_formed : well_formed n q.grand (v q.grand) ≡ true
  g_formed = formed n v t g q.grand grand_is.0

  g_z : q.grand ≡ z → ⊥
  g_z e = omega (arith, higher, ap (λ y. (v y).rank) e)

  g_x : q.grand ≡ x → ⊥
  g_x e = omega (arith, higher, small.0, ap (λ y. (v y).rank) e)

  -- ---- the first two readings

  grand_safe : Safe v t (read_grand n j q (v q.grand))
  unfolding read_grand
  grand_safe = read-safe v t (busy j (Settling q SettleGrand)) _ _ (v q.grand) g_formed (λ e. (w, sl, lev, both-second (in_tree (v q.grand)) _ e)) tt

  z_right : (v z).right ≡ 0 → ⊥
  z_right = inner-links n z (v z) (parent-formed n v t g q w) z_pos w.parent_in.1 false

  chosen_is : (a : Links) → leads a z ≡ true → (v z).state ≡ 1 → leads (links_of (v z)) x ≡ true → Chosen v q a (links_of (v z))
  chosen_is a to-z one to-x =
      let bl = below-facts n v t g.carries g.shape g.bounded z (v z).left true one refl w.parent_in.1 in
      let br = below-facts n v t g.carries g.shape g.bounded z (v z).right false one refl z_right in
      record {
        to-z = to-z;
        to-x = to-x;
        s_used = other-which (λ y. Used v y) (links_of (v z)) x (λ e. omega (arith, bl.one)) (λ e. omega (arith, br.one));
        s_pos = other-which (λ y. y ≡ 0 → ⊥) (links_of (v z)) x w.parent_in.1 z_right;
        z_x = elim (leads-which (links_of (v z)) x to-x) [ inl e ↦ (λ y. bl.apart (y ∙ sym e)) | inr e ↦ (λ y. br.apart (y ∙ sym e)) ];
      }

  parent-safe : (a : Links) → leads a z ≡ true → Safe v t (read_parent n j q a (v z))
  unfolding read_parent
  parent-safe a to-z =
      read-safe v t (busy j (Settling q (SettleParent a))) _ _ (v z) (parent-formed n v t g q w)
      (λ e. let h = both (in_tree (v z)) _ e in (w, sl, lev, chosen_is a to-z (in_tree_one (v z) h.0) h.1)) tt

  -- ---- with z noted

  module _ (a b : Links) (ch : Chosen v q a b) where
    abbrev o : ℕ
    o = other b x

    form : choose_formed n q b (v z) (v x) (v o) ≡ true
    unfolding choose_formed
    form = and_true _ _ (parent-formed n v t g q w) (and_true _ _ (here-linked n v t g q w) (linked-is n v t g o ch.s_pos ch.s_used))

    ground-two : grounds_two n q a b (v q.grand) (v z) (v x) ≡ true
    unfolding grounds_two
    ground-two = and_true _ _ g_formed (and_true _ _ (differs _ _ g_z) (and_true _ _ ch.to-z (and_true _ _ ch.to-x lev)))

    ground-three : grounds_three n q a b (v q.grand) (v z) (v x) ≡ true
    unfolding grounds_three
    ground-three = and_true _ _ ground-two (and_true _ _ (differs _ _ g_x) (differs _ _ ch.z_x))

    pair_is : test_two a b (v q.grand) (v z) ≡ true → Pair v q.grand z x o (eqb a.left z) (eqb b.left x)
    pair_is te = pair_found v t g.carries g.shape n m j q up a b form ground-two te

    z_one : test_two a b (v q.grand) (v z) ≡ true → (v z).state ≡ 1
    unfolding test_two
    z_one te = (still-facts (v z) b (both-second (still (v q.grand) a) _ te)).0

    -- s does not outrank z
    s_low : test_two a b (v q.grand) (v z) ≡ true → (v o).rank ≤ (v z).rank
    s_low te = let p = pair_is te in (below-facts n v t g.carries g.shape g.bounded z o (not (eqb b.left x)) (z_one te) (sym p.to-o) ch.s_pos).lower

    -- promote
    promote-ok : (row : ParentRow) → is_wider row ≡ false → ParentFacts (v z).rank (v o).rank row → test_two a b (v q.grand) (v z) ≡ true → Ok (promote_by row v n j q a b (v z))
    unfolding promote_by promote_do
    promote-ok Outranked f h te = absurd (omega (arith, h, s_low te))
    promote-ok Wider f h te = true_false true refl f
    promote-ok Promote f h te =
        if_elim Ok _ (λ e. absurd (promote-limit n v t g paid q.grand z x o (eqb a.left z) (eqb b.left x) (pair_is te) h.0 h.1 (leb-true 28 (v z).rank e)))
        (λ e. if_elim Ok _ (λ r. tt) (λ r. tt))

    -- x is inner where a rotation is to come
    x_inner : suc (suc (v o).rank) ≤ (v z).rank → (v x).left ≡ 0 → ⊥
    x_inner wide e =
        elim (leaf_marks n (v x) (formed-plain n x (v x) (formed n v t g x w.here-used) w.here-pos) e) [
          | inl s ↦ omega (arith, s.2, small.1)
          | inr s ↦ omega (arith, s.2, small.0)
        ]

    turning-is : suc (suc (v o).rank) ≤ (v z).rank → (v x).state ≡ 1 → Turning v q a b (links_of (v x))
    unfolding around_of
    turning-is wide one =
        record {
          chosen = ch;
          y_used = rw (link_at_is (not (eqb b.left x)) (v x)) (λ e. omega (arith, child (not (eqb b.left x))));
          y_pos = rw (link_at_is (not (eqb b.left x)) (v x)) (x_link (not (eqb b.left x)));
          w_used = rw (link_at_is (eqb b.left x) (v x)) (λ e. omega (arith, child (eqb b.left x)));
          w_pos = rw (link_at_is (eqb b.left x) (v x)) (x_link (eqb b.left x));
        }
      where
        x_link : (d : Bool) → link d (v x) ≡ 0 → ⊥
        x_link d = inner-links n x (v x) (formed n v t g x w.here-used) w.here-pos (x_inner wide) d

        child : (d : Bool) → (v (link d (v x))).state ≡ 1
        child d = (below-facts n v t g.carries g.shape g.bounded x (link d (v x)) d one refl (x_link d)).one

    choose_safe : Ok (choose_step v n j q a b (v z) (v x) (v o))
    unfolding choose_step choose_by commit_two read_on
    choose_safe =
        if_elim Ok _ (λ e. true_false _ form (not-true _ e))
        (λ e. if_elim Ok _
        (λ d. read-safe v t (busy j (Settling q (SettleChoose a b))) _ _ (v x) refl
        (λ h. (w, sl, lev, turning-is (wide_row (v z).rank (v o).rank (parent_row (v z).rank (v o).rank) (parent_row_lem (v z).rank (v o).rank) d) (in_tree_one (v x) h))) tt)
        (λ d. commit-safe v t (busy j (Settling q (SettleChoose a b))) _ _ _ ground-two tt (λ te. promote-ok (parent_row (v z).rank (v o).rank) d (parent_row_lem (v z).rank (v o).rank) te)))

    -- ---- with x noted

    module _ (c : Links) (tn : Turning v q a b c) where
      abbrev yy : ℕ
      yy = link_at (not (eqb b.left x)) c

      abbrev ww : ℕ
      ww = link_at (eqb b.left x) c

      y_u : Used v yy
      unfolding around_of
      y_u = tn.y_used

      y_p : yy ≡ 0 → ⊥
      unfolding around_of
      y_p = tn.y_pos

      w_u : Used v ww
      unfolding around_of
      w_u = tn.w_used

      w_p : ww ≡ 0 → ⊥
      unfolding around_of
      w_p = tn.w_pos

      turn-formed : turn_formed n (around_of q a b c) (v yy) (v ww) ≡ true
      unfolding turn_formed around_of
      turn-formed = and_true _ _ (linked-is n v t g yy y_p y_u) (linked-is n v t g ww w_p w_u)

      test_two_lem : test_three a b c (v q.grand) (v z) (v x) ≡ true → (test_two a b (v q.grand) (v z) ≡ true) × (still (v x) c ≡ true)
      unfolding test_three
      test_two_lem e = both (test_two a b (v q.grand) (v z)) (still (v x) c) e

      module _ (wide : suc (suc (v o).rank) ≤ (v z).rank) (te : test_two a b (v q.grand) (v z) ≡ true) (xs : still (v x) c ≡ true) where
        x_one : (v x).state ≡ 1
        x_one = (still-facts (v x) c xs).0

        to-y : yy ≡ link (not (eqb b.left x)) (v x)
        to-y = side-link (v x) c (not (eqb b.left x)) xs

        to-w : ww ≡ link (eqb b.left x) (v x)
        to-w = side-link (v x) c (eqb b.left x) xs

        x_level : 1 ≤ lev_at 255 x t
        x_level =
            let p = pair_is te in
            (below-facts n v t g.carries g.shape g.bounded z x (eqb b.left x) (z_one te) p.to-x p.x_pos).level p.levels

        -- y and w are below x, and not level
        child : (y : ℕ) (d : Bool) → y ≡ link d (v x) → (y ≡ 0 → ⊥) → suc (v y).rank ≤ (v x).rank
        child y d e nz =
            let f = below-facts n v t g.carries g.shape g.bounded x y d x_one (sym e) nz in
            strict f.lower (λ r. no-level_child n v t g paid x y d x_one w.here-pos x_level (omega (arith, small.0)) (sym e) nz (lv-yes (v x).rank (v y).rank r (omega (arith, small.1))))
          where
            strict : (v y).rank ≤ (v x).rank → ((v x).rank ≡ (v y).rank → ⊥) → suc (v y).rank ≤ (v x).rank
            strict l n = omega arith

        no_row : level_row (v x).rank (v yy).rank (v ww).rank ≡ NoRow → ⊥
        no_row e = row-there (v x).rank (v yy).rank (v ww).rank (child yy (not (eqb b.left x)) to-y y_p) (child ww (eqb b.left x) to-w w_p) e

        rotate-ok : (row : LevelRow) → level_row (v x).rank (v yy).rank (v ww).rank ≡ row → is_double row ≡ false → Ok (rotate_by row v n j q (around_of q a b c) (v z) (v x))
        unfolding rotate_by rotate_do rotate_two_do
        rotate-ok NoRow e d = absurd (no_row e)
        rotate-ok RotateOne e d = if_elim Ok _ (λ r. tt) (λ r. tt)
        rotate-ok RotateTwo e d =
            let f = subst (LevelFacts (v x).rank (v yy).rank (v ww).rank) e (level-row (v x).rank (v yy).rank (v ww).rank) in
            if_elim Ok _
            (λ h. absurd (rotate-limit n v t g paid q.grand z x o (eqb a.left z) (eqb b.left x) (pair_is te) yy ww to-y to-w (x_inner wide) wide f.0 f.1 (leb-true 28 (v x).rank h)))
            (λ h. if_elim Ok _ (λ r. tt) (λ r. tt))
        rotate-ok DoubleRotation e d = true_false true refl d

        double-ok : (d : Links) (row : LevelRow) → level_row (v x).rank (v yy).rank (v ww).rank ≡ row → Ok (double_by row v n j q (around_of q a b c) d (v z) (v x) (v yy))
        unfolding double_by double_do
        double-ok d NoRow e = absurd (no_row e)
        double-ok d RotateOne e = rotate-ok RotateOne e refl
        double-ok d RotateTwo e = rotate-ok RotateTwo e refl
        double-ok d DoubleRotation e = if_elim Ok _ (λ r. tt) (λ r. tt)

      double-rank : (row : LevelRow) → is_double row ≡ true → LevelFacts (v x).rank (v yy).rank (v ww).rank row → suc (v yy).rank ≡ (v x).rank
      double-rank NoRow e f = true_false false e refl
      double-rank RotateOne e f = true_false false e refl
      double-rank RotateTwo e f = true_false false e refl
      double-rank DoubleRotation e f = f.0

      rotate-turn_safe : suc (suc (v o).rank) ≤ (v z).rank → Ok (rotate_turn v n j q a b c (v z) (v x) (v yy) (v ww))
      unfolding rotate_turn rotate_on commit_three read_on around_of
      rotate-turn_safe wide =
          if_elim Ok _ (λ e. true_false _ turn-formed (not-true _ e))
          (λ e. if_elim Ok _
          (λ d. read-safe v t (busy j (Settling q (SettleRotate a b c))) _ _ (v yy) refl (λ h. (w, sl, lev, (tn, double-rank (level_row (v x).rank (v yy).rank (v ww).rank) d (level-row (v x).rank (v yy).rank (v ww).rank)))) tt)
          (λ d. commit-safe v t (busy j (Settling q (SettleRotate a b c))) _ _ _ ground-three tt (λ te. let h = test_two_lem te in rotate-ok wide h.0 h.1 _ refl d)))

      rotate-first_safe : (row : ParentRow) → ParentFacts (v z).rank (v o).rank row → Ok (rotate_first row v n j q a b c (v z) (v x))
      unfolding rotate_first commit_three around_of
      rotate-first_safe row f =
          if_elim Ok _ (λ d. rotate-turn_safe (wide_row (v z).rank (v o).rank row f d))
          (λ d. commit-safe v t (busy j (Settling q (SettleRotate a b c))) _ _ _ ground-three tt (λ te. promote-ok row d f (test_two_lem te).0))

      rotate-safe : Ok (rotate_step v n j q a b c (v z) (v x) (v o))
      unfolding rotate_step
      rotate-safe = if_elim Ok _ (λ e. true_false _ form (not-true _ e)) (λ e. rotate-first_safe _ (parent_row_lem (v z).rank (v o).rank))

      -- ---- with y noted

      module _ (d : Links) (ry : suc (v yy).rank ≡ (v x).rank) where
        y_apart : (s : ℕ) → (v x).rank ≤ (v s).rank → s ≡ yy → ⊥
        y_apart s le e = omega (arith, ap (λ q. (v q).rank) e)

        ground-four : grounds_four n q a b yy (v q.grand) (v z) (v x) (v yy) ≡ true
        unfolding grounds_four
        ground-four =
            and_true _ _ ground-three (and_true _ _ (linked-is n v t g yy y_p y_u)
            (and_true _ _ (differs _ _ (y_apart q.grand (omega (arith, higher, small.0)))) (and_true _ _ (differs _ _ (y_apart z (omega (arith, small.0)))) (differs _ _ (y_apart x (omega arith))))))

        test_four_is : test_four a b c d (v q.grand) (v z) (v x) (v yy) ≡ true → test_three a b c (v q.grand) (v z) (v x) ≡ true
        unfolding test_four
        test_four_is e = both_first (test_three a b c (v q.grand) (v z) (v x)) _ e

        double-turn_safe : suc (suc (v o).rank) ≤ (v z).rank → Ok (double_turn v n j q a b c d (v z) (v x) (v yy) (v ww))
        unfolding double_turn commit_four around_of
        double-turn_safe wide =
            if_elim Ok _ (λ e. true_false _ turn-formed (not-true _ e))
            (λ e. commit-safe v t (busy j (Settling q (SettleDouble a b c d))) _ _ _ ground-four tt (λ te. let h = test_two_lem (test_four_is te) in double-ok wide h.0 h.1 d _ refl))

        double-first_safe : (row : ParentRow) → ParentFacts (v z).rank (v o).rank row → Ok (double_first row v n j q a b c d (v z) (v x))
        unfolding double_first commit_four around_of
        double-first_safe row f =
            if_elim Ok _ (λ e. double-turn_safe (wide_row (v z).rank (v o).rank row f e))
            (λ e. commit-safe v t (busy j (Settling q (SettleDouble a b c d))) _ _ _ ground-four tt (λ te. promote-ok row e f (test_two_lem (test_four_is te)).0))

        double-safe : Ok (double_step v n j q a b c d (v z) (v x) (v o))
        unfolding double_step
        double-safe = if_elim Ok _ (λ e. true_false _ form (not-true _ e)) (λ e. double-first_safe _ (parent_row_lem (v z).rank (v o).rank))

  pub settle-safe : (s : SettleStage) → SettleNotes v q s → Safe v t (settle_step v n j q s).turn
  unfolding settle_step around_of
  settle-safe SettleGrand h = grand_safe
  settle-safe (SettleParent a) h = parent-safe a h
  settle-safe (SettleChoose a b) h = choose_safe a b h
  settle-safe (SettleRotate a b c) h = rotate-safe a b h.chosen c h
  settle-safe (SettleDouble a b c d) h = double-safe a b h.0.chosen c h.0 d h.1
