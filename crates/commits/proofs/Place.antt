-- A commit at one place of the tree: what has to be shown of the place alone, under a record of rank q, and the surgery of the whole tree.
use Prim.Native.Nat.{◌≤◌, ℕ}
use borrow.Author.Tests.{le-ltb, lt-ltb}
use lib.Dec.{ltb}
use mathlib.Core.Bool.{Bool, false, not, true}
use mathlib.Core.Logic.{inl, inr}
use mathlib.Core.Path.{◌≡◌, subst}
use native.Mathlib.Omega.{arith}
use Rattle.machine.proofs.Choice.{if_elim, if_false, if_true}
use Rattle.machine.specs.Table.{View}
use Rattle.routes.proofs.Kept.{Fate}
use Rattle.routes.proofs.Level.{above_has, has_occ, lev_at-le, lev_at-plug, lvs-le, lvs-pos, lvs-yes}
use Rattle.routes.proofs.Surgery.{From, Off, Surgery}
use Rattle.routes.proofs.Swap.{Swap, swap_plug}
use Rattle.routes.specs.Route.{Above, lev_at, lev_c, lv, lvs, rank_c, route, via}
use Rattle.trees.proofs.Held.{Carries, ind-le, occ_c-entry}
use Rattle.trees.proofs.Plug.{ind-other, ind-same, occ-plug, pos-cases}
use Rattle.trees.specs.Order.{Side}
use Rattle.trees.specs.Rank.{rank}
use Rattle.trees.specs.Tree.{Ctx, Tree, hole, ind, join, leaf, node, occ, occ_c, plug, root, top}

-- ---- routes and level records by sides

pub route-near : (b : Bool) (k s key rk : ℕ) (t u : Tree) → Side b k key → route k (join b s key rk t u) ≡ via s rk (route k t)
route-near true k s key rk t u h = rw (lt-ltb k key h, if_true)
route-near false k s key rk t u h = rw (le-ltb k key h, if_false)

pub route-far : (b : Bool) (k s key rk : ℕ) (t u : Tree) → Side (not b) k key → route k (join b s key rk t u) ≡ via s rk (route k u)
route-far true k s key rk t u h = rw (le-ltb k key h, if_false)
route-far false k s key rk t u h = rw (lt-ltb k key h, if_true)

-- a tree under another record: what is level there was level before
lvs-mono : (q q' r n : ℕ) → (lv q' r ≡ true → lv q r ≡ true) → lvs q' r n ≤ lvs q r n
lvs-mono q q' r n h = elim (pos-cases (lvs q' r n)) [ inl p ↦ omega (arith, lvs-yes q r n (h (lvs-pos q' r n p)), lvs-le q' r n) | inr z ↦ omega arith ]

pub lev_at-mono : (q q' b : ℕ) (t : Tree) → (lv q' (rank t) ≡ true → lv q (rank t) ≡ true) → lev_at q' b t ≤ lev_at q b t
lev_at-mono q q' b (leaf s k pr rk) h = lvs-mono q q' rk (ind b s) h
lev_at-mono q q' b (node s k rk l r) h = omega (arith, lvs-mono q q' rk (ind b s) h)

-- nothing on a route stands above the top, nor above what does not stand in the tree
pub above_none : (k y a : ℕ) (t : Tree) → occ y t ≡ 0 → Above a y (route k t) → ⊥
above_none k y a t z h = omega (arith, has_occ k y t (above_has a y (route k t) h))

pub above_root : (k a : ℕ) (t : Tree) → occ (root t) t ≤ 1 → Above a (root t) (route k t) → ⊥
above_root k a (leaf s key pr rk) h (inl e) = e.1
above_root k a (leaf s key pr rk) h (inr e) = e
above_root k a (node s key rk l r) h g =
    if_elim (λ L. Above a s (via s rk L) → ⊥) (ltb k key) (λ q. under l (omega (arith, ind-same s))) (λ q. under r (omega (arith, ind-same s))) g
  where
    under : (t : Tree) → occ s t ≡ 0 → Above a s (via s rk (route k t)) → ⊥
    under t z (inl e) = omega (arith, has_occ k s t e.1)
    under t z (inr e) = above_none k s a t z e

pub lev_c-le : (x : ℕ) (c : Ctx) → lev_c x c ≤ occ_c x c
lev_c-le x top = omega arith
lev_c-le x (hole b s k rk u c) = omega (arith, lvs-le (rank_c c) rk (ind x s), lev_at-le rk x u, lev_c-le x c)

-- ---- the place

pub record Local (w : View) (q x y : ℕ) (old new : Tree) : Type 0 where
  pub paths : (k : ℕ) → Swap (Off w) x y (route k old) (route k new)
  pub y_in : 1 ≤ occ y old
  pub x_in : 1 ≤ occ x new
  pub y_lost : lev_at q y new ≡ 0
  pub no-new : (b : ℕ) → (b ≡ x → ⊥) → lev_at q b new ≤ lev_at q b old

module _ {v w : View} {x y : ℕ} {old new : Tree} (c : Ctx) (i : Carries v (plug c old)) (i' : Carries w (plug c new)) where
  pub surgery_at : ((s : ℕ) → Fate v (v s) (w s)) → Local w (rank_c c) x y old new → Surgery v w (plug c old) (plug c new) x y
  surgery_at f l =
      let z : occ_c y c ≡ 0 = omega (arith, i.ones y, occ-plug y c old, ind-le (v y).state 1, l.y_in) in
      record {
        before = i;
        after = i';
        fate = f;
        routes = λ k. swap_plug k c old new z (l.paths k);
        inside = omega (arith, occ-plug y c old, l.y_in, ind-other y 0 (λ e. omega (arith, subst (λ s. occ_c s c ≡ 0) e z, occ_c-entry c)));
        lost = omega (arith, lev_at-plug y c new, lev_c-le y c, l.y_lost);
        others = λ b d. omega (arith, lev_at-plug b c new, lev_at-plug b c old, l.no-new b d);
      }

  pub from_at : Local w (rank_c c) x y old new → (1 ≤ lev_at (rank_c c) x new → 1 ≤ lev_at (rank_c c) y old) → From (plug c old) (plug c new) x y
  from_at l f h =
      omega (
        arith,
        lev_at-plug y c old,
        f (omega (arith, lev_at-plug x c new, lev_c-le x c, i'.ones x, occ-plug x c new, ind-le (w x).state 1, l.x_in)),
      )
