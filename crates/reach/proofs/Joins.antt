-- What is told of both sides of a record is told of the record.
use mathlib.Core.Path.{◌≡◌, refl}
use mathlib.Core.Bool.{Bool, true, false}
use mathlib.Core.List.{List}
use Prim.Native.Nat.{ℕ, suc, ◌+◌, ◌-◌, ◌<◌, ◌≤◌, max}
use borrow.Author.Tests.{leb-true, leb-false}
use native.Mathlib.Omega.{arith}
use Rattle.terms.specs.declared.Rec.{Rec}
use Rattle.machine.specs.State.{one}
use Rattle.machine.specs.Reach.{Tree, leaf, Reached, hurt, reached, join_left, join_right, larger, deeper}
use Rattle.machine.proofs.Choice.{if_elim}
use Rattle.reach.specs.declared.Below.{Below}
use Rattle.reach.specs.Down.{leaf_below, inner_below, Told, Tells}

pub one-most : (b : Bool) → one b ≤ 1
one-most true = omega arith
one-most false = omega arith

pub larger-most : (a b k : ℕ) → a ≤ k → b ≤ k → larger a b ≤ k
unfolding larger
larger-most a b k ha hb = if_elim (λ x. x ≤ k) _ (λ t. hb) (λ t. ha)

pub larger_is : (a b : ℕ) → max a b ≡ larger a b
unfolding larger
larger_is a b = if_elim (λ x. max a b ≡ x) _ (λ t. let h : a ≤ b = leb-true a b t in omega arith) (λ t. let h : b < a = leb-false a b t in omega arith)

pub deeper-most : (d k : ℕ) → d ≤ k → deeper d ≤ k + 1
unfolding deeper
deeper-most d k h = if_elim (λ x. x ≤ k + 1) _ (λ t. omega arith) (λ t. omega arith)

pub leaf_told : (p r : Rec) (s left : ℕ) (m : List ℕ) → 1 ≤ left → Told p left (leaf_below p r (left - 1)) m (leaf s r) m
unfolding leaf_below
leaf_told p r s left m h = record { marks = refl; level = refl; fares = refl; depth = refl; height = refl; used = omega arith }

module _ (p r : Rec) (s left k : ℕ) (a : Below) (ma : List ℕ) where
  -- damage on the right side
  pub right-hurt : (x : Reached) (f : List ℕ → Reached) → Tells r k a ma x → f ma ≡ hurt → join_left s r x f ≡ hurt
  right-hurt hurt f e h = absurd e
  right-hurt (reached u m) f e h = rw (← e.marks, h) refl

  module _ (b : Below) (mb : List ℕ) where
    inner-told :
        (u : Tree) (m : List ℕ) (y : Reached) → Told r k a ma u m → left ≡ suc k
        → Tells r a.left b mb y → Tells p left (inner_below p r a b) mb (join_right s r u y)
    unfolding inner_below
    inner-told u m hurt e l eb = absurd eb
    inner-told u m (reached w j) e l eb =
        record {
          marks = eb.marks;
          level = rw (e.level, eb.level) refl;
          fares = rw (e.fares, eb.fares) refl;
          depth = rw (e.depth, eb.depth) refl;
          height = rw e.depth refl;
          used = omega arith;
        }

    pub tells_inner :
        (x : Reached) (f : List ℕ → Reached) → Tells r k a ma x → left ≡ suc k
        → Tells r a.left b mb (f ma) → Tells p left (inner_below p r a b) mb (join_left s r x f)
    tells_inner hurt f e l eb = absurd e
    tells_inner (reached u m) f e l eb = inner-told u m (f m) e l (rw e.marks at eb)
