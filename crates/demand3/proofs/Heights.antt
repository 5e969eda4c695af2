-- The height that figures prints, and the level records that it counts, of a tree: height ≤ rank of the root record + level records.
use Prim.Native.Nat.{◌+◌, ◌-◌, ◌<◌, ◌≤◌, max, suc, ℕ}
use borrow.Author.Tests.{leb-false, leb-true, ne_eqb}
use lib.Dec.{eqb, leb}
use mathlib.Core.Bool.{Bool, false, not, true}
use mathlib.Core.Path.{◌∙◌, ◌≡◌, ap, sym}
use native.Mathlib.Omega.{arith}
use Rattle.demand3.proofs.Crown.{Crown, Plain}
use Rattle.fares.proofs.Whole.{fare-test}
use Rattle.fares.specs.Read.{read}
use Rattle.machine.proofs.Choice.{if_elim}
use Rattle.machine.specs.Choice.{if_b}
use Rattle.machine.specs.Reach.{deeper, depth, height_of, larger}
use Rattle.machine.specs.Record.{is_fare, top_number}
use Rattle.machine.specs.State.{one}
use Rattle.routes.proofs.Level.{lv-yes, lvs-le}
use Rattle.routes.specs.Route.{lev, lv, lvs}
use Rattle.trees.specs.Marks.{LeafMarks}
use Rattle.trees.specs.Rank.{Ranked, height, rank}
use Rattle.trees.specs.Tree.{Tree, leaf, leaf_rec, node}

-- ---- a link down costs a rank or a level record

down : (a rk : ℕ) → a ≤ rk → rk < 255 → suc a ≤ rk + lvs rk a 1
down a rk h b = if_elim (λ y. suc a ≤ rk + y) (lv rk a) (λ q. omega arith) (λ q. strict q)
  where
    strict : lv rk a ≡ false → suc a ≤ rk + 0
    strict q = apart (λ e. absurd (let z : ◌≡◌ {A = Bool} true false = sym (lv-yes rk a e (omega arith)) ∙ q in let w : ◌≡◌ {A = ℕ} 0 1 = cc in omega arith))
      where
        apart : (rk ≡ a → ⊥) → suc a ≤ rk + 0
        apart d = omega arith

height-own : (q : ℕ) (t : Tree) → Ranked t → rank t < 255 → height t + lvs q (rank t) 1 ≤ rank t + lev q t
height-own q (leaf s k pr rk) h b = omega arith
height-own q (node s k rk l r) h b =
    omega (arith, height-own rk l h.2 (omega arith), height-own rk r h.3 (omega arith), down (rank l) rk h.0 b, down (rank r) rk h.1 b)

-- "height ≤ R + level records"
pub height-levels : (q : ℕ) (t : Tree) → Ranked t → rank t < 255 → height t ≤ rank t + lev q t
height-levels q t h b = omega (arith, height-own q t h b)

-- ---- the height by figures

larger-is : (a b : ℕ) → larger a b ≡ max a b
unfolding larger
larger-is a b = if_elim (λ y. y ≡ max a b) (leb a b) (λ e. let h = leb-true a b e in omega arith) (λ e. let h = leb-false a b e in omega arith)

deeper-is : (d : ℕ) → deeper (suc d) ≡ suc (suc d)
unfolding deeper if_b
deeper-is d = rw (ne_eqb (suc d) 0 (λ e. omega arith)) (omega arith)

leaf_depth : (k pr rk : ℕ) → LeafMarks k pr rk → rk ≡ 0 → one (is_fare (leaf_rec k pr rk)) ≡ 1
leaf_depth k pr rk m e = ap one (fare-test k pr rk m) ∙ ap (λ r. one (not (eqb r 255))) e

pub depth_is : (t : Tree) → Plain t → depth (read t) ≡ suc (height t)
depth_is (leaf s k pr rk) p = leaf_depth k pr rk p.0 p.1
depth_is (node s k rk l r) p =
    ap deeper (larger-is (depth (read l)) (depth (read r)) ∙ both (depth (read l)) (depth (read r)) (height l) (height r) (depth_is l p.2) (depth_is r p.3))
    ∙ deeper-is (max (height l) (height r))
  where
    both : (a b c d : ℕ) → a ≡ suc c → b ≡ suc d → max a b ≡ suc (max c d)
    both a b c d e f = omega arith

pub height-is : (t : Tree) (c : Crown t) → height_of (read t) ≡ height c.tree
height-is t c = ap (λ x. height_of (read x)) c.whole ∙ less (depth (read c.tree)) (height c.tree) (depth_is c.tree c.plain)
  where
    less : (a b : ℕ) → a ≡ suc b → a - 1 ≡ b
    less a b e = omega arith

-- ---- a plain tree

pub plain-rank : (t : Tree) → Plain t → rank t ≤ 28
plain-rank (leaf s k pr rk) p = omega (arith, p.1)
plain-rank (node s k rk l r) p = p.1

-- the level records of the whole are those below the root record
pub crown-levels : (e o : ℕ) (t : Tree) → lev 255 t ≤ lev 255 (node e top_number 255 t (leaf o top_number 0 255))
crown-levels e o t = omega (arith, lvs-le 255 255 1)
