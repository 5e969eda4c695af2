-- The records of a tree with right labels are well formed.
use Prim.Native.Nat.{◌<◌, ◌≤◌, ℕ}
use borrow.Author.Tests.{le-leb, lt-ltb, ne_eqb}
use mathlib.Core.Bool.{true}
use mathlib.Core.Logic.{inl, inr}
use mathlib.Core.Path.{◌≡◌, refl}
use native.Mathlib.Omega.{arith}
use Rattle.machine.specs.PutIn.{inner_of}
use Rattle.machine.specs.Record.{entry_form, fare_marks, inner_marks, is_inner, is_leaf, is_link, linked, number_fits, plain_form, price_fits, sentinel, top_number, well_formed}
use Rattle.trees.specs.Marks.{LeafMarks, NodeMarks}
use Rattle.trees.specs.Tree.{leaf_rec}

pub leaf_linked : (n s k pr rk : ℕ) → (s ≡ 0 → ⊥) → LeafMarks k pr rk → linked n s (leaf_rec k pr rk) ≡ true
unfolding linked well_formed plain_form is_leaf sentinel fare_marks number_fits price_fits
leaf_linked n s k pr rk nz (inl m) = rw (ne_eqb s 0 nz, m.0, m.1, m.2) refl
leaf_linked n s k pr rk nz (inr m) = rw (ne_eqb s 0 nz, ne_eqb k top_number (λ e. omega (arith, m.0)), lt-ltb k 1000000 m.0, lt-ltb pr 100000 m.1, m.2) refl

pub node_linked : (n s k rk l r : ℕ) → (s ≡ 0 → ⊥) → NodeMarks k rk → (l ≡ 0 → ⊥) → l < n → (r ≡ 0 → ⊥) → r < n → (l ≡ r → ⊥) → linked n s (inner_of k rk l r) ≡ true
unfolding linked well_formed plain_form is_leaf is_inner is_link sentinel inner_marks number_fits
node_linked n s k rk l r nz (inl m) ln lb rn rb d =
    rw (ne_eqb s 0 nz, ne_eqb l 0 ln, le-leb 1 l (pos l ln), lt-ltb l n lb, le-leb 1 r (pos r rn), lt-ltb r n rb, ne_eqb l r d, m.0, m.1) refl
  where
    pos : (x : ℕ) → (x ≡ 0 → ⊥) → 1 ≤ x
    pos x h = omega arith
node_linked n s k rk l r nz (inr m) ln lb rn rb d =
    rw (ne_eqb s 0 nz, ne_eqb l 0 ln, le-leb 1 l (pos l ln), lt-ltb l n lb, le-leb 1 r (pos r rn), lt-ltb r n rb, ne_eqb l r d, ne_eqb k top_number (λ e. omega (arith, m.0)), lt-ltb k 1000000 m.0, le-leb 1 rk m.1, le-leb rk 28 m.2) refl
  where
    pos : (x : ℕ) → (x ≡ 0 → ⊥) → 1 ≤ x
    pos x h = omega arith

-- the entry
pub entry-formed : (n h : ℕ) → (h ≡ 0 → ⊥) → h < n → well_formed n 0 (inner_of top_number 255 h 0) ≡ true
unfolding well_formed entry_form is_link sentinel
entry-formed n h nz lt = rw (le-leb 1 h (pos nz), lt-ltb h n lt) refl
  where
    pos : (h ≡ 0 → ⊥) → 1 ≤ h
    pos d = omega arith
