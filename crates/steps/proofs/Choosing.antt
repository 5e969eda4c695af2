-- Each step of a settling task chooses by the links noted so far: a reading, or the commit of the row that fits.
use Prim.Native.Nat.{◌-◌, ◌≤◌, suc, ℕ}
use borrow.Author.Tests.{leb-false, not-false}
use lib.Dec.{eqb}
use mathlib.Core.Bool.{Bool, not, true}
use mathlib.Core.Logic.{inl, inr}
use mathlib.Core.Path.{◌∙◌, ◌≡◌, refl, sym}
use native.Mathlib.Omega.{arith}
use Rattle.commits.proofs.Shape.{Shape}
use Rattle.machine.proofs.Choice.{if_elim}
use Rattle.machine.proofs.Tests.{both_first, both-second}
use Rattle.machine.specs.Commit.{Did, calm}
use Rattle.machine.specs.Record.{leads, level, linked, links_of, other, still, well_formed}
use Rattle.machine.specs.Rows.{around_of, double_writes, link_at, rotate_writes}
use Rattle.machine.specs.Settling.{choose_by, choose_formed, choose_step, commit_four, commit_three, commit_two, double_by, double_do, double_first, double_step, double_turn, grounds_four, grounds_three, grounds_two, promote_by, promote_do, read_grand, read_on, read_parent, rotate_by, rotate_do, rotate_first, rotate_on, rotate_step, rotate_turn, rotate_two_do, settle_step, test_four, test_three, test_two, turn_formed}
use Rattle.machine.specs.Table.{View, slot1, slot2, slot3}
use Rattle.steps.proofs.Facts.{Plain, both, formed-plain, inner-by, leads-to, linked-formed, other-link, side-link, still-facts}
use Rattle.steps.proofs.Putting.{commit-does}
use Rattle.steps.proofs.Rooms.{one_free, three-free, two-free}
use Rattle.steps.proofs.Rowing.{LevelFacts, ParentFacts, level-row, parent_row_lem, wide_row}
use Rattle.steps.proofs.Settling.{Pair, double-pair, level-small, promote-pair, rotate1-pair, rotate2-pair}
use Rattle.steps.proofs.Walking.{read-quiet}
use Rattle.steps.specs.Does.{Does, hurts, leaves, rests, settle-commits}
use Rattle.steps.specs.Trail.{Trail, Upper}
use Rattle.terms.specs.declared.Answer.TheVariants.{PutUnsettled}
use Rattle.terms.specs.declared.Around.{Around}
use Rattle.terms.specs.declared.Job.{Job}
use Rattle.terms.specs.declared.LevelRow.{LevelRow}
use Rattle.terms.specs.declared.LevelRow.TheVariants.{DoubleRotation, NoRow, RotateOne, RotateTwo}
use Rattle.terms.specs.declared.Links.{Links}
use Rattle.terms.specs.declared.ParentRow.{ParentRow}
use Rattle.terms.specs.declared.ParentRow.TheVariants.{Outranked, Promote, Wider}
use Rattle.terms.specs.declared.Path.{Path}
use Rattle.terms.specs.declared.Phase.TheVariants.{Settling}
use Rattle.terms.specs.declared.Rec.{Rec}
use Rattle.terms.specs.declared.SettleStage.{SettleStage}
use Rattle.terms.specs.declared.SettleStage.TheVariants.{SettleChoose, SettleDouble, SettleGrand, SettleParent, SettleRotate}
use Rattle.terms.specs.declared.Turn.TheVariants.{Done, Hurt}
use Rattle.trees.proofs.Held.{Carries}
use Rattle.trees.specs.Tree.{Tree}
use Rattle.views.specs.Update.{link}

module _ (v : View) (t : Tree) (i : Carries v t) (sh : Shape t) (n m : ℕ) (j : Job) (q : Path) (up : Upper v q) where
  abbrev g : ℕ
  g = q.grand

  abbrev z : ℕ
  z = q.parent

  abbrev x : ℕ
  x = q.here

  abbrev Acts : SettleStage → Did → Type 0
  Acts s = Does v t m j (Settling q s)

  -- a commit that finds too few slots, or a row that gives 17
  none : (s : SettleStage) → Acts s (calm Hurt)
  none s = rests Hurt hurts

  too_few : (s : SettleStage) → Acts s (calm (Done PutUnsettled))
  too_few s = rests _ (leaves refl)

  module _ (a b : Links) where
    abbrev side-z : Bool
    side-z = eqb a.left z

    abbrev side-x : Bool
    side-x = eqb b.left x

    abbrev o : ℕ
    o = other b x

    abbrev Seen : Type 0
    Seen = Pair v g z x o side-z side-x

    -- z, x and s are well formed; grounds and test of a commit with two records read
    pub pair_found : choose_formed n q b (v z) (v x) (v o) ≡ true → grounds_two n q a b (v g) (v z) (v x) ≡ true → test_two a b (v g) (v z) ≡ true → Seen
    unfolding choose_formed grounds_two test_two
    pair_found form gr te =
        let f₁ = both (well_formed n z (v z)) _ form in
        let f₂ = both (linked n x (v x)) (linked n o (v o)) f₁.1 in
        let g₁ = both (well_formed n g (v g)) _ gr in
        let g₂ = both (not (eqb g z)) _ g₁.1 in
        let g₃ = both (leads a z) _ g₂.1 in
        let g₄ = both (leads b x) (level (v z) (v x)) g₃.1 in
        let e = both (still (v g) a) (still (v z) b) te in
        let to-z = leads-to (v g) a z e.0 g₃.0 in
        let to-x = leads-to (v z) b x e.1 g₄.0 in
        let l = linked-formed n x (v x) f₂.0 in
        let s = level-small n (v z) (v x) (formed-plain n x (v x) l.1 l.0) g₄.1 in
        record {
          above = (still-facts (v g) a e.0).0;
          to-z = to-z.1;
          z_pos = to-z.0;
          inner = inner-by n (v z) side-x (formed-plain n z (v z) f₁.0 to-z.0) (λ y. to-x.0 (sym to-x.1 ∙ y));
          to-x = to-x.1;
          x_pos = to-x.0;
          to-o = other-link (v z) b x e.1;
          ranks = s.0;
          small = s.1;
          levels = s.2;
          steady = elim up [ inl y ↦ absurd (to-z.0 y) | inr y ↦ y ];
        }

    -- promote, for a commit with any number of records read
    promote-acts : (s : SettleStage) (row : ParentRow) → ParentFacts (v z).rank (v o).rank row → Seen → still (v z) b ≡ true → Acts s (promote_by row v n j q a b (v z))
    unfolding promote_by promote_do
    promote-acts s Outranked f p e = none s
    promote-acts s Wider f p e = none s
    promote-acts s Promote f p e =
        let l = still-facts (v z) b e in
        if_elim (Acts s) _ (λ h. none s)
        (λ h. if_elim (Acts s) _ (λ r. too_few s)
        (λ r. settle-commits _ refl (promote-pair v t i sh g z x o (slot1 v n) b.left b.right side-z side-x p (sym l.1) (sym l.2) f.1 (leb-false 28 _ h) (one_free v n (leb-false n _ r)))))

    choose_acts : Trail v t j.number q → Acts (SettleChoose a b) (choose_step v n j q a b (v z) (v x) (v o))
    unfolding choose_step choose_by commit_two read_on test_two
    choose_acts tr =
        if_elim (Acts (SettleChoose a b)) _ (λ e. none _)
        (λ e. let form = not-false (choose_formed n q b (v z) (v x) (v o)) e in
        if_elim (Acts (SettleChoose a b)) _
        (λ w. rests _ (read-quiet v t j (Settling q (SettleChoose a b)) (Settling q (SettleRotate a b (links_of (v x)))) _ _ (v x) refl refl (tr, up) tt))
        (λ w. commit-does v t m j (Settling q (SettleChoose a b)) _ _ _
        (λ gr te. promote-acts (SettleChoose a b) _ (parent_row_lem (v z).rank (v o).rank) (pair_found form gr te) (both-second (still (v g) a) _ te))))

    -- x is noted too
    module _ (c : Links) where
      abbrev around : Around
      around = around_of q a b c

      abbrev yy : ℕ
      yy = link_at (not side-x) c

      abbrev ww : ℕ
      ww = link_at side-x c

      -- the rank of z, by its predecessor
      before : (r : ℕ) → suc (suc r) ≤ (v z).rank → (v z).rank ≡ suc ((v z).rank - 1)
      before r h = omega arith

      -- y is inner: one below a rank of 2 or more
      y_inner : Plain n (v yy) → suc (v yy).rank ≡ (v x).rank → (v x).rank ≤ 28 → 2 ≤ (v x).rank → (v yy).left ≡ 0 → ⊥
      y_inner (inl h) e s m y = elim h.2 [ inl r ↦ omega (arith, r.2) | inr r ↦ omega (arith, r.2) ]
      y_inner (inr h) e s m y = h.0 y

      module _ (p : Seen) (wide : suc (suc (v o).rank) ≤ (v z).rank) (x-plain : Plain n (v x)) (x-still : still (v x) c ≡ true) (formed : turn_formed n around (v yy) (v ww) ≡ true) where
        y_linked : (yy ≡ 0 → ⊥) × (well_formed n yy (v yy) ≡ true)
        unfolding turn_formed around_of
        y_linked = linked-formed n yy (v yy) (both_first (linked n yy (v yy)) (linked n ww (v ww)) formed)

        to-w : ww ≡ link side-x (v x)
        to-w = side-link (v x) c side-x x-still

        to-y : yy ≡ link (not side-x) (v x)
        to-y = side-link (v x) c (not side-x) x-still

        x_inner : (v x).left ≡ 0 → ⊥
        x_inner e = inner-by n (v x) (not side-x) x-plain (λ u. y_linked.0 (to-y ∙ u)) e

        rotate-acts : (s : SettleStage) (row : LevelRow) → LevelFacts (v x).rank (v yy).rank (v ww).rank row → Acts s (rotate_by row v n j q around (v z) (v x))
        unfolding rotate_by rotate_do rotate_two_do rotate_writes around_of
        rotate-acts s NoRow f = none s
        rotate-acts s DoubleRotation f = none s
        rotate-acts s RotateOne f =
            if_elim (Acts s) _ (λ r. too_few s)
            (λ r. let free = two-free v n (leb-false n _ r) in
            settle-commits _ refl
            (rotate1-pair v t i sh g z x o yy ww (slot1 v n) (slot2 v n) ((v z).rank - 1) side-z side-x p to-w to-y
            x_inner (before _ wide) (omega arith) free.first free.second free.rise (omega (arith, p.ranks, f.0)) _ refl))
        rotate-acts s RotateTwo f =
            if_elim (Acts s) _ (λ h. none s)
            (λ h. if_elim (Acts s) _ (λ r. too_few s)
            (λ r. let free = two-free v n (leb-false n _ r) in
            settle-commits _ refl
            (rotate2-pair v t i sh g z x o yy ww (slot1 v n) (slot2 v n) ((v z).rank - 1) side-z side-x p to-w to-y
            x_inner (before _ wide) (omega arith) free.first free.second free.rise (leb-false 28 _ h) (omega (arith, p.ranks, f.0)) (omega (arith, p.ranks, f.1)) _ (omega arith))))

        double-acts : (s : SettleStage) (d : Links) → still (v yy) d ≡ true → (row : LevelRow) → LevelFacts (v x).rank (v yy).rank (v ww).rank row
            → Acts s (double_by row v n j q around d (v z) (v x) (v yy))
        unfolding double_by double_do double_writes around_of
        double-acts s d y-still NoRow f = none s
        double-acts s d y-still RotateOne f = rotate-acts s RotateOne f
        double-acts s d y-still RotateTwo f = rotate-acts s RotateTwo f
        double-acts s d y-still DoubleRotation f =
            if_elim (Acts s) _ (λ r. too_few s)
            (λ r. let free = three-free v n (leb-false n _ r) in
            settle-commits _ refl
            (double-pair v t i g z x o yy ww (link_at side-x d) (link_at (not side-x) d) (slot1 v n) (slot2 v n) (slot3 v n) ((v z).rank - 1) side-z side-x p to-w to-y
            (side-link (v yy) d side-x y-still) (side-link (v yy) d (not side-x) y-still) x_inner
            (y_inner (formed-plain n yy (v yy) y_linked.1 y_linked.0) f.0 p.small (omega (arith, p.ranks))) (before _ wide) (omega arith)
            (omega (arith, p.ranks, f.0)) (omega (arith, p.ranks, f.1)) free.first free.second free.third free.low free.high _ _ _
            (omega (arith, p.ranks, f.0)) (omega (arith, p.ranks)) refl))

      -- x is well formed
      x_form : choose_formed n q b (v z) (v x) (v o) ≡ true → Plain n (v x)
      unfolding choose_formed
      x_form form =
          let l = linked-formed n x (v x) (both_first (linked n x (v x)) (linked n o (v o)) (both-second (well_formed n z (v z)) _ form)) in
          formed-plain n x (v x) l.1 l.0

      -- grounds and test with three records read hold those with two
      three-two : grounds_three n q a b (v g) (v z) (v x) ≡ true → grounds_two n q a b (v g) (v z) (v x) ≡ true
      unfolding grounds_three
      three-two h = both_first (grounds_two n q a b (v g) (v z) (v x)) _ h

      test_three_lem : test_three a b c (v g) (v z) (v x) ≡ true → (test_two a b (v g) (v z) ≡ true) × (still (v x) c ≡ true)
      unfolding test_three
      test_three_lem h = both (test_two a b (v g) (v z)) (still (v x) c) h

      z_still : test_two a b (v g) (v z) ≡ true → still (v z) b ≡ true
      unfolding test_two
      z_still h = both-second (still (v g) a) (still (v z) b) h

      module _ (tr : Trail v t j.number q) (form : choose_formed n q b (v z) (v x) (v o) ≡ true) where
        rotate-turn : suc (suc (v o).rank) ≤ (v z).rank → Acts (SettleRotate a b c) (rotate_turn v n j q a b c (v z) (v x) (v yy) (v ww))
        unfolding rotate_turn rotate_on commit_three read_on
        rotate-turn wide =
            if_elim (Acts (SettleRotate a b c)) _ (λ e. none _)
            (λ e. if_elim (Acts (SettleRotate a b c)) _
            (λ d. rests _ (read-quiet v t j (Settling q (SettleRotate a b c)) (Settling q (SettleDouble a b c (links_of (v yy)))) _ _ (v yy) refl refl (tr, up) tt))
            (λ d. commit-does v t m j (Settling q (SettleRotate a b c)) _ _ _
            (λ gr te. let h = test_three_lem te in
            rotate-acts (pair_found form (three-two gr) h.0) wide (x_form form) h.1 (not-false (turn_formed n around (v yy) (v ww)) e) (SettleRotate a b c) _
            (level-row (v x).rank (v yy).rank (v ww).rank))))

        rotate-first : (row : ParentRow) → ParentFacts (v z).rank (v o).rank row → Acts (SettleRotate a b c) (rotate_first row v n j q a b c (v z) (v x))
        unfolding rotate_first commit_three around_of
        rotate-first row f =
            if_elim (Acts (SettleRotate a b c)) _ (λ w. rotate-turn (wide_row (v z).rank (v o).rank row f w))
            (λ w. commit-does v t m j (Settling q (SettleRotate a b c)) _ _ _
            (λ gr te. let h = test_three_lem te in promote-acts (SettleRotate a b c) row f (pair_found form (three-two gr) h.0) (z_still h.0)))

      rotate-step : Trail v t j.number q → Acts (SettleRotate a b c) (rotate_step v n j q a b c (v z) (v x) (v o))
      unfolding rotate_step
      rotate-step tr =
          if_elim (Acts (SettleRotate a b c)) _ (λ e. none _)
          (λ e. rotate-first tr (not-false (choose_formed n q b (v z) (v x) (v o)) e) _ (parent_row_lem (v z).rank (v o).rank))

      -- y is noted too
      module _ (d : Links) where
        four-three : (r : Rec) → grounds_four n q a b yy (v g) (v z) (v x) r ≡ true → grounds_three n q a b (v g) (v z) (v x) ≡ true
        unfolding grounds_four
        four-three r h = both_first (grounds_three n q a b (v g) (v z) (v x)) _ h

        test_four_lem : test_four a b c d (v g) (v z) (v x) (v yy) ≡ true → (test_three a b c (v g) (v z) (v x) ≡ true) × (still (v yy) d ≡ true)
        unfolding test_four
        test_four_lem h = both (test_three a b c (v g) (v z) (v x)) (still (v yy) d) h

        module _ (form : choose_formed n q b (v z) (v x) (v o) ≡ true) where
          double-turn : suc (suc (v o).rank) ≤ (v z).rank → Acts (SettleDouble a b c d) (double_turn v n j q a b c d (v z) (v x) (v yy) (v ww))
          unfolding double_turn commit_four around_of
          double-turn wide =
              if_elim (Acts (SettleDouble a b c d)) _ (λ e. none _)
              (λ e. commit-does v t m j (Settling q (SettleDouble a b c d)) _ _ _
              (λ gr te. let h = test_four_lem te in let h₂ = test_three_lem h.0 in
              double-acts (pair_found form (three-two (four-three _ gr)) h₂.0) wide (x_form form) h₂.1 (not-false (turn_formed n around (v yy) (v ww)) e) (SettleDouble a b c d) d h.1 _
              (level-row (v x).rank (v yy).rank (v ww).rank)))

          double-first : (row : ParentRow) → ParentFacts (v z).rank (v o).rank row → Acts (SettleDouble a b c d) (double_first row v n j q a b c d (v z) (v x))
          unfolding double_first commit_four around_of
          double-first row f =
              if_elim (Acts (SettleDouble a b c d)) _ (λ w. double-turn (wide_row (v z).rank (v o).rank row f w))
              (λ w. commit-does v t m j (Settling q (SettleDouble a b c d)) _ _ _
              (λ gr te. let h = test_three_lem (test_four_lem te).0 in promote-acts (SettleDouble a b c d) row f (pair_found form (three-two (four-three _ gr)) h.0) (z_still h.0)))

        double-step : Acts (SettleDouble a b c d) (double_step v n j q a b c d (v z) (v x) (v o))
        unfolding double_step
        double-step =
            if_elim (Acts (SettleDouble a b c d)) _ (λ e. none _)
            (λ e. double-first (not-false (choose_formed n q b (v z) (v x) (v o)) e) _ (parent_row_lem (v z).rank (v o).rank))

pub settle-does : (v : View) (t : Tree) → Carries v t → Shape t → (n m : ℕ) (j : Job) (q : Path) → Trail v t j.number q → Upper v q → (s : SettleStage) → Does v t m j (Settling q s) (settle_step v n j q s)
unfolding settle_step read_grand read_parent
settle-does v t i sh n m j q tr up SettleGrand = rests _ (read-quiet v t j (Settling q SettleGrand) (Settling q (SettleParent (links_of (v q.grand)))) _ _ (v q.grand) refl refl (tr, up) tt)
settle-does v t i sh n m j q tr up (SettleParent a) =
    rests _ (read-quiet v t j (Settling q (SettleParent a)) (Settling q (SettleChoose a (links_of (v q.parent)))) _ _ (v q.parent) refl refl (tr, up) tt)
settle-does v t i sh n m j q tr up (SettleChoose a b) = choose_acts v t i sh n m j q up a b tr
settle-does v t i sh n m j q tr up (SettleRotate a b c) = rotate-step v t i sh n m j q up a b c tr
settle-does v t i sh n m j q tr up (SettleDouble a b c d) = double-step v t i sh n m j q up a b c d
