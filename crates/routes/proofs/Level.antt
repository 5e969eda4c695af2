-- Level records: at one place of the tree, on a route, and counted against a list that covers them.
use Prim.Native.Nat.{◌+◌, ◌<◌, ◌≤◌, suc, zero, ℕ}
use borrow.Author.Tests.{eq-eqb, eqb-true, ne_eqb}
use lib.Dec.{eqb, ltb}
use lib.ListN.{length}
use mathlib.Core.Bool.{Bool, ◌&&◌, false, true}
use mathlib.Core.List.{List, [], ◌∷◌}
use mathlib.Core.Logic.{inl, inr}
use mathlib.Core.Path.{◌≡◌, refl}
use native.Mathlib.Omega.{arith}
use Rattle.machine.proofs.Choice.{if_elim, if_false, if_true}
use Rattle.routes.specs.Route.{Above, Below, Has, Level, Route, full, lev, lev_at, lev_c, lv, lvs, rank_c, route, via, stop}
use Rattle.trees.proofs.Counting.{sum_add, sum_none, sum_one}
use Rattle.trees.proofs.Plug.{ind-eq, ind-same}
use Rattle.trees.specs.Count.{sum_to}
use Rattle.trees.specs.Rank.{rank}
use Rattle.trees.specs.Tree.{Ctx, Tree, hole, ind, join, leaf, node, occ, plug, root, top}
use Rattle.views.proofs.Law.{in_or_out}

-- ---- the test

pub lvs-le : (q r n : ℕ) → lvs q r n ≤ n
lvs-le q r n = if_elim (λ y. y ≤ n) (lv q r) (λ e. omega arith) (λ e. omega arith)

pub lvs-pos : (q r n : ℕ) → 1 ≤ lvs q r n → lv q r ≡ true
lvs-pos q r n = if_elim (λ y. 1 ≤ y → lv q r ≡ true) (lv q r) (λ e h. e) (λ e h. absurd (omega arith))

pub lvs-not : (q r n : ℕ) → (lv q r ≡ true → ⊥) → lvs q r n ≡ 0
lvs-not q r n no-pair = if_elim (λ y. y ≡ 0) (lv q r) (λ e. absurd (no-pair e)) (λ e. refl)

pub lvs-yes : (q r n : ℕ) → lv q r ≡ true → lvs q r n ≡ n
lvs-yes q r n e = rw e (if_true n 0)

and_first : (a b : Bool) → (a && b) ≡ true → a ≡ true
and_first true b e = refl
and_first false b e = e

pub lv-eq : (q r : ℕ) → lv q r ≡ true → q ≡ r
unfolding lv
lv-eq q r e = eqb-true q r (and_first (eqb q r) _ e)

pub lv-not_255 : (q : ℕ) → lv q 255 ≡ true → ⊥
unfolding lv
lv-not_255 q e = none (eqb q 255) e
  where
    none : (a : Bool) → (a && false) ≡ true → ⊥
    none true f = let z : ◌≡◌ {A = ℕ} 0 1 = cc in omega arith
    none false f = let z : ◌≡◌ {A = ℕ} 0 1 = cc in omega arith

pub lv-yes : (q r : ℕ) → q ≡ r → r < 255 → lv q r ≡ true
unfolding lv
lv-yes q r e h = rw (eq-eqb q r e, ne_eqb r 255 (omega arith))

-- ---- at one place

pub lev_at-le : (q x : ℕ) (t : Tree) → lev_at q x t ≤ occ x t
lev_at-le q x (leaf s k pr rk) = lvs-le q rk (ind x s)
lev_at-le q x (node s k rk l r) = omega (arith, lvs-le q rk (ind x s), lev_at-le rk x l, lev_at-le rk x r)

pub lev_at-join : (b : Bool) (q x s k rk : ℕ) (t u : Tree) → lev_at q x (join b s k rk t u) ≡ lvs q rk (ind x s) + lev_at rk x t + lev_at rk x u
lev_at-join true q x s k rk t u = refl
lev_at-join false q x s k rk t u = omega arith

pub lev_at-plug : (x : ℕ) (c : Ctx) (t : Tree) → lev_at 255 x (plug c t) ≡ lev_c x c + lev_at (rank_c c) x t
lev_at-plug x top t = omega arith
lev_at-plug x (hole b s k rk u c) t = omega (arith, lev_at-plug x c (join b s k rk t u), lev_at-join b (rank_c c) x s k rk t u)

-- the top of a tree
pub lev_at-root : (q : ℕ) (t : Tree) → occ (root t) t ≤ 1 → lev_at q (root t) t ≡ lvs q (rank t) 1
lev_at-root q (leaf s k pr rk) h = rw (ind-same s)
lev_at-root q (node s k rk l r) h = rw (ind-same s) (omega (arith, ind-same s, lev_at-le rk s l, lev_at-le rk s r))

-- ---- on a route: a level record that the route meets is level there, as it stands in the tree once

pub has_occ : (k b : ℕ) (t : Tree) → Has b (route k t) → 1 ≤ occ b t
has_occ k b (leaf s key pr rk) (inl e) = omega (arith, ind-eq b s e)
has_occ k b (node s key rk l r) h =
    if_elim (λ L. Has b (via s rk L) → 1 ≤ occ b (node s key rk l r)) (ltb k key)
    (λ q. elim [ inl e ↦ omega (arith, ind-eq b s e) | inr g ↦ omega (arith, has_occ k b l g) ])
    (λ q. elim [ inl e ↦ omega (arith, ind-eq b s e) | inr g ↦ omega (arith, has_occ k b r g) ]) h
has_occ k b (leaf s key pr rk) (inr h) = elim h [ ]

pub above_has : (a b : ℕ) (L : Route) → Above a b L → Has b L
above_has a b (via s rk L) (inl h) = inr h.1
above_has a b (via s rk L) (inr h) = inr (above_has a b L h)
above_has a b stop h = elim h [ ]

-- below a node: u is the side on which the route goes on, o the other
module _ (q s rk k b : ℕ) (u o : Tree) (once : ind b s + occ b u + occ b o ≤ 1) (is : 1 ≤ lvs q rk (ind b s) + lev_at rk b u + lev_at rk b o) where
  further : Has b (route k u) → 1 ≤ lev_at rk b u
  further h = omega (arith, lvs-le q rk (ind b s), lev_at-le rk b o, has_occ k b u h)

  level-node : (1 ≤ lev_at rk b u → Has b (route k u) → Level rk b (route k u)) → Has b (via s rk (route k u)) → Level q b (via s rk (route k u))
  level-node ih (inl e) = inl (e, lvs-pos q rk (ind b s) (omega (arith, ind-eq b s e, lev_at-le rk b u, lev_at-le rk b o)))
  level-node ih (inr h) = inr (ih (further h) h)

  below-node : (a : ℕ) → (1 ≤ lev_at rk b u → Has b (route k u) → Level rk b (route k u)) → (1 ≤ lev_at rk b u → Above a b (route k u) → Below a b (route k u))
      → Above a b (via s rk (route k u)) → Below a b (via s rk (route k u))
  below-node a lh ih (inl h) = inl (h.0, lh (further h.1) h.1)
  below-node a lh ih (inr h) = inr (ih (further (above_has a b (route k u) h)) h)

pub level-here : (q k b : ℕ) (t : Tree) → occ b t ≤ 1 → 1 ≤ lev_at q b t → Has b (route k t) → Level q b (route k t)
level-here q k b (leaf s key pr rk) once is (inl e) = inl (e, lvs-pos q rk (ind b s) is)
level-here q k b (node s key rk l r) once is h =
    if_elim (λ L. Has b (via s rk L) → Level q b (via s rk L)) (ltb k key)
    (λ y. level-node q s rk k b l r (omega arith) (omega arith) (level-here rk k b l (omega arith)))
    (λ y. level-node q s rk k b r l (omega arith) (omega arith) (level-here rk k b r (omega arith))) h
level-here q k b (leaf s key pr rk) once is (inr h) = elim h [ ]

below-tree : (q a k b : ℕ) (t : Tree) → occ b t ≤ 1 → 1 ≤ lev_at q b t → Above a b (route k t) → Below a b (route k t)
below-tree q a k b (leaf s key pr rk) once is (inl h) = absurd h.1
below-tree q a k b (leaf s key pr rk) once is (inr h) = absurd h
below-tree q a k b (node s key rk l r) once is h =
    if_elim (λ L. Above a b (via s rk L) → Below a b (via s rk L)) (ltb k key)
    (λ y. below-node q s rk k b l r (omega arith) (omega arith) a (level-here rk k b l (omega arith)) (below-tree rk a k b l (omega arith)))
    (λ y. below-node q s rk k b r l (omega arith) (omega arith) a (level-here rk k b r (omega arith)) (below-tree rk a k b r (omega arith))) h

pub below-here : (a k b : ℕ) (t : Tree) → occ b t ≤ 1 → 1 ≤ lev_at 255 b t → Above a b (full k t) → Below a b (full k t)
below-here a k b t once is (inl h) = inl (h.0, level-here 255 k b t once is h.1)
below-here a k b t once is (inr h) = inr (below-tree 255 a k b t once is h)

pub level-above : (a b : ℕ) (L : Route) → Below a b L → Above a b L
level-above a b (via s rk L) (inl h) = inl (h.0, level-has rk b L h.1)
  where
    level-has : (q b : ℕ) (L : Route) → Level q b L → Has b L
    level-has q b (via s rk L) (inl h) = inl h.0
    level-has q b (via s rk L) (inr h) = inr (level-has rk b L h)
    level-has q b stop h = elim h [ ]
level-above a b (via s rk L) (inr h) = inr (level-above a b L h)
level-above a b stop h = elim h [ ]

-- ---- a list that holds every level record is at least as long as there are level records

abbrev pub times : ℕ → List ℕ → ℕ
times x [] = 0
times x (y ∷ l) = ind x y + times x l

sum_zero : (n : ℕ) → sum_to n (λ x. 0) ≡ 0
unfolding sum_to
sum_zero zero = refl
sum_zero (suc n) = omega (arith, sum_zero n)

sum_lvs : (n q r s : ℕ) → s < n → sum_to n (λ x. lvs q r (ind x s)) ≡ lvs q r 1
sum_lvs n q r s h = go (lv q r) refl
  where
    go : (b : Bool) → lv q r ≡ b → sum_to n (λ x. lvs q r (ind x s)) ≡ lvs q r 1
    go true e = simp (e, if_true) (sum_one n s h)
    go false e = simp (e, if_false) (sum_zero n)

lev-sum : (n q : ℕ) (t : Tree) → ((x : ℕ) → 0 < occ x t → x < n) → sum_to n (λ x. lev_at q x t) ≡ lev q t
lev-sum n q (leaf s k pr rk) h = sum_lvs n q rk s (h s (omega (arith, ind-same s)))
lev-sum n q (node s k rk l r) h =
    omega (
      arith,
      sum_add n (λ x. lvs q rk (ind x s) + lev_at rk x l) (λ x. lev_at rk x r),
      sum_add n (λ x. lvs q rk (ind x s)) (λ x. lev_at rk x l),
      sum_lvs n q rk s (h s (omega (arith, ind-same s))),
      lev-sum n rk l (λ x p. h x (omega arith)),
      lev-sum n rk r (λ x p. h x (omega arith)),
    )

sum_mono : (n : ℕ) (f g : ℕ → ℕ) → ((x : ℕ) → f x ≤ g x) → sum_to n f ≤ sum_to n g
unfolding sum_to
sum_mono zero f g h = omega arith
sum_mono (suc n) f g h = omega (arith, sum_mono n f g h, h n)

sum_times : (n : ℕ) (l : List ℕ) → sum_to n (λ x. times x l) ≤ length l
sum_times n [] = omega (arith, sum_zero n)
sum_times n (y ∷ l) = omega (arith, sum_add n (λ x. ind x y) (λ x. times x l), sum_times n l, one)
  where
    one : sum_to n (λ x. ind x y) ≤ 1
    one = elim (in_or_out y n) [ inl h ↦ omega (arith, sum_one n y h) | inr h ↦ omega (arith, sum_none n y h) ]

pub covered_le : (n : ℕ) (t : Tree) (l : List ℕ) → ((x : ℕ) → 0 < occ x t → x < n) → ((x : ℕ) → occ x t ≤ 1) → ((x : ℕ) → 1 ≤ lev_at 255 x t → 1 ≤ times x l) → lev 255 t ≤ length l
covered_le n t l low once cov = omega (arith, lev-sum n 255 t low, sum_mono n (λ x. lev_at 255 x t) (λ x. times x l) each, sum_times n l)
  where
    each : (x : ℕ) → lev_at 255 x t ≤ times x l
    each x = elim (in_or_out 0 (lev_at 255 x t)) [ inl h ↦ omega (arith, cov x h, lev_at-le 255 x t, once x) | inr h ↦ omega arith ]
