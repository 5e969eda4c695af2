-- A leaf is no inner record, so it is well formed as a leaf or not at all.
use mathlib.Core.Path.{◌≡◌, refl}
use mathlib.Core.Bool.{Bool, true, false, ◌||◌}
use Prim.Native.Nat.{ℕ}
use lib.Dec.{eqb}
use borrow.Author.Tests.{ne_eqb, eqb-true}
use Rattle.terms.specs.declared.Rec.{Rec}
use Rattle.machine.specs.Record.{sentinel, fare_marks, is_link, is_leaf, is_inner, plain_form, well_formed}
use Rattle.machine.proofs.Tests.{both_first}

or_false : (b : Bool) → (b || false) ≡ b
or_false true = refl
or_false false = refl

module _ (n s : ℕ) (r : Rec) (live : Bool) (e : live ≡ (eqb r.state 1 || eqb r.state 2)) (h : live ≡ true) (z : s ≡ 0 → ⊥) where
  no_inner : is_leaf r ≡ true → is_inner n r ≡ false
  unfolding is_inner is_link is_leaf
  no_inner t =
      let a : r.left ≡ 0 = eqb-true r.left 0 (both_first (eqb r.left 0) (eqb r.right 0) t) in
      simp a

  pub leaf_is : is_leaf r ≡ true → (b : Bool) → b ≡ (sentinel r || fare_marks r) → b ≡ well_formed n s r
  unfolding well_formed plain_form
  leaf_is t b eb = simp (← e, h, ne_eqb s 0 z, t, no_inner t, or_false, eb)
