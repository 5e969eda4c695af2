-- Grounds of a commit that no test of the commit gives: what a task remembers of ranks never changes, and a put-in's leaf stands where its number belongs.
use Prim.Native.Nat.{◌<◌, ◌≤◌, suc, ℕ}
use borrow.Author.Tests.{ltb-false, ltb-true}
use lib.Dec.{ltb}
use mathlib.Core.Bool.{Bool, false, true}
use mathlib.Core.Logic.{◌⊎◌, inl, inr}
use mathlib.Core.Path.{◌∙◌, ◌≡◌, ap, refl}
use native.Mathlib.Omega.{arith}
use Rattle.commits.proofs.Shape.{Shape, There, shape_at, shape_marks}
use Rattle.machine.proofs.Choice.{if_elim}
use Rattle.machine.specs.Table.{View}
use Rattle.routes.proofs.Kept.{Fate, stays_used}
use Rattle.routes.proofs.Level.{has_occ, lv-eq, lv-not_255, lv-yes}
use Rattle.routes.specs.Route.{Has, lv, rank_c, route, via}
use Rattle.trees.proofs.Held.{Carries, ind-le, root-occ}
use Rattle.trees.proofs.Plug.{ind-eq, occ-plug, take_apart_lem}
use Rattle.trees.proofs.Search.{goes-within}
use Rattle.trees.specs.Marks.{LeafMarks, MarkedC}
use Rattle.trees.specs.Order.{Goes, high, low}
use Rattle.trees.specs.Rank.{rank}
use Rattle.trees.specs.Tree.{Ctx, Holds, HoldsC, Tree, hole, leaf, node, occ_c, parent, plug, root, side_rec, top}

-- ---- a pair of records in use that is not level: no commit makes it level

abbrev pub Steady : View → ℕ → ℕ → Type 0
Steady v a b = ((v a).state ≡ 0 → ⊥) × ((v b).state ≡ 0 → ⊥) × (lv (v a).rank (v b).rank ≡ true → ⊥)

pub steady_kept : (v w : View) → ((s : ℕ) → Fate v (v s) (w s)) → (a b : ℕ) → Steady v a b → Steady w a b
steady_kept v w f a b s =
    let p = stays_used (f a) s.0 in
    let q = stays_used (f b) s.1 in
    (p.1, q.1, rw (p.0, q.0) s.2)

-- the rank above a hole, and at the top of a tree, as the view says
side-rank : (b : Bool) (k rk l r : ℕ) → (side_rec b k rk l r).rank ≡ rk
side-rank true k rk l r = refl
side-rank false k rk l r = refl

pub parent-rank : (v : View) (c : Ctx) (h : ℕ) → HoldsC v c h → (v (parent c)).rank ≡ rank_c c
parent-rank v top h g = ap (λ r. r.rank) g
parent-rank v (hole b s k rk u c) h g = ap (λ r. r.rank) g.0 ∙ side-rank b k rk h (root u)

pub root-rank : (v : View) (t : Tree) → Holds v t → (v (root t)).rank ≡ rank t
root-rank v (leaf s k pr rk) h = ap (λ r. r.rank) h
root-rank v (node s k rk l r) h = ap (λ r. r.rank) h.0

-- so the record above outranks it: the ground of a promotion and of rotate case 2
pub outranked : (v : View) (c : Ctx) (t : Tree) → Carries v (plug c t) → Shape (plug c t) → rank t < 255 → Steady v (parent c) (root t) → suc (rank t) ≤ rank_c c
outranked v c t i f below s =
    let g = take_apart_lem v c t i.entry i.holds in
    let n : lv (rank_c c) (rank t) ≡ true → ⊥ = rw (parent-rank v c (root t) g.0, root-rank v t g.1) at s.2 in
    strict (λ e. n (lv-yes (rank_c c) (rank t) e below)) (shape_at c t f).under
  where
    strict : (rank_c c ≡ rank t → ⊥) → rank t ≤ rank_c c → suc (rank t) ≤ rank_c c
    strict d le = omega arith

-- ---- a leaf that is on the route of k: k belongs there

-- a slot that does not stand in the surroundings and is on the route: the search for k leads into the hole
pub has_goes : (k h : ℕ) (c : Ctx) (t : Tree) → occ_c h c ≡ 0 → Has h (route k (plug c t)) → Goes k c × Has h (route k t)
has_goes k h top t z on = (tt, on)
has_goes k h (hole true s key rk u c) t z on =
    let g = has_goes k h c (node s key rk t u) (omega arith) on in
    if_elim (λ L. Has h (via s rk L) → Goes k (hole true s key rk u c) × Has h (route k t)) (ltb k key)
    (λ q. elim [ inl e ↦ absurd (omega (arith, ind-eq h s e)) | inr f ↦ ((ltb-true k key q, g.0), f) ])
    (λ q. elim [ inl e ↦ absurd (omega (arith, ind-eq h s e)) | inr f ↦ absurd (omega (arith, has_occ k h u f)) ]) g.1
has_goes k h (hole false s key rk u c) t z on =
    let g = has_goes k h c (node s key rk u t) (omega arith) on in
    if_elim (λ L. Has h (via s rk L) → Goes k (hole false s key rk u c) × Has h (route k t)) (ltb k key)
    (λ q. elim [ inl e ↦ absurd (omega (arith, ind-eq h s e)) | inr f ↦ absurd (omega (arith, has_occ k h u f)) ])
    (λ q. elim [ inl e ↦ absurd (omega (arith, ind-eq h s e)) | inr f ↦ ((ltb-false k key q, g.0), f) ]) g.1

pub route-goes : (v : View) (k : ℕ) (c : Ctx) (t : Tree) → Carries v (plug c t) → Has (root t) (route k (plug c t)) → Goes k c
route-goes v k c t i on =
    (has_goes k (root t) c t (omega (arith, i.ones (root t), occ-plug (root t) c t, root-occ t, ind-le (v (root t)).state 1)) on).0

-- ---- the two leaves of a put-in: the new one, of number k and price p, before or behind a copy of the old one

pub data Two (k p kh ph rh : ℕ) : (kl pl rl km pm rm : ℕ) → Type 0 where
  below : k < kh → Two k p kh ph rh k p 0 kh ph rh
  above : kh < k → Two k p kh ph rh kh ph rh k p 0

-- the new one has rank 0, the copy the old one's rank
pub two-ranks : (k p kh ph rh kl pl rl km pm rm : ℕ) → Two k p kh ph rh kl pl rl km pm rm → ((rl ≡ 0) × (rm ≡ rh)) ⊎ ((rl ≡ rh) × (rm ≡ 0))
two-ranks k p kh ph rh _ _ _ _ _ _ (below q) = inl (refl, refl)
two-ranks k p kh ph rh _ _ _ _ _ _ (above q) = inr (refl, refl)

-- "Inner rank 1, or 255 if the leaf was a sentinel."
abbrev pub InnerRank : ℕ → ℕ → Type 0
InnerRank rh RK = ((rh ≡ 255) × (RK ≡ 255)) ⊎ ((rh ≡ 0) × (RK ≡ 1))

pub record Fits (c : Ctx) (a l m RK kl pl rl km pm rm : ℕ) : Type 0 where
  pub there : There c (node a km RK (leaf l kl pl rl) (leaf m km pm rm))
  pub low-apart : lv RK rl ≡ true → ⊥
  pub high-apart : lv RK rm ≡ true → ⊥

-- an inner record's rank is at least 1
pub parent-inner : (c : Ctx) → MarkedC c → 1 ≤ rank_c c
parent-inner top h = omega arith
parent-inner (hole b s k rk u c) h = elim h.0 [ inl e ↦ omega (arith, e.1) | inr e ↦ omega (arith, e.1) ]

apart-ranks : (RK r : ℕ) → (RK ≡ r → ⊥) → lv RK r ≡ true → ⊥
apart-ranks RK r d e = d (lv-eq RK r e)

-- where the leaf's labels and the search bounds are known
fits-at : (c : Ctx) (k p kh ph rh a l m RK kl pl rl km pm rm : ℕ) → k < 1000000 → p < 100000 → LeafMarks kh ph rh → InnerRank rh RK → rh ≤ rank_c c → 1 ≤ rank_c c
    → low c ≤ k → k < high c → low c ≤ kh → kh < high c → Two k p kh ph rh kl pl rl km pm rm → Fits c a l m RK kl pl rl km pm rm
fits-at c k p kh ph rh a l m RK _ _ _ _ _ _ hk hp (inl s) (inl r) u o lk kk lh hh (below q) = record {
  there = record {
    under = omega (arith, r.0, r.1);
    ranks = (omega (arith, r.1), omega (arith, r.0, r.1), tt, tt);
    within = ((lk, q), (omega arith, hh));
    labels = (inl (s.0, r.1), inr (hk, hp, refl), inl s);
  };
  low-apart = apart-ranks RK 0 (λ e. omega (arith, r.1));
  high-apart = λ e. lv-not_255 RK (rw s.2 at e);
}
fits-at c k p kh ph rh a l m RK _ _ _ _ _ _ hk hp (inl s) (inl r) u o lk kk lh hh (above q) = absurd (omega (arith, s.0))
fits-at c k p kh ph rh a l m RK _ _ _ _ _ _ hk hp (inl s) (inr r) u o lk kk lh hh w = absurd (omega (arith, s.2, r.0))
fits-at c k p kh ph rh a l m RK _ _ _ _ _ _ hk hp (inr s) (inl r) u o lk kk lh hh w = absurd (omega (arith, s.2, r.0))
fits-at c k p kh ph rh a l m RK _ _ _ _ _ _ hk hp (inr s) (inr r) u o lk kk lh hh (below q) = record {
  there = record {
    under = omega (arith, r.1);
    ranks = (omega (arith, r.1), omega (arith, r.0, r.1), tt, tt);
    within = ((lk, q), (omega arith, hh));
    labels = (inr (s.0, omega (arith, r.1), omega (arith, r.1)), inr (hk, hp, refl), inr s);
  };
  low-apart = apart-ranks RK 0 (λ e. omega (arith, r.1));
  high-apart = apart-ranks RK rh (λ e. omega (arith, r.0, r.1));
}
fits-at c k p kh ph rh a l m RK _ _ _ _ _ _ hk hp (inr s) (inr r) u o lk kk lh hh (above q) = record {
  there = record {
    under = omega (arith, r.1);
    ranks = (omega (arith, r.0, r.1), omega (arith, r.1), tt, tt);
    within = ((lh, q), (omega arith, kk));
    labels = (inr (hk, omega (arith, r.1), omega (arith, r.1)), inr s, inr (hk, hp, refl));
  };
  low-apart = apart-ranks RK rh (λ e. omega (arith, r.0, r.1));
  high-apart = apart-ranks RK 0 (λ e. omega (arith, r.1));
}

-- the ground of a put-in: its three records stand in order, under the parent
pub put-fits : (v : View) (c : Ctx) (k p h kh ph rh a l m RK kl pl rl km pm rm : ℕ) → Carries v (plug c (leaf h kh ph rh)) → Shape (plug c (leaf h kh ph rh)) → k < 1000000 → p < 100000
    → Has h (route k (plug c (leaf h kh ph rh))) → InnerRank rh RK → Two k p kh ph rh kl pl rl km pm rm → Fits c a l m RK kl pl rl km pm rm
put-fits v c k p h kh ph rh a l m RK kl pl rl km pm rm i f hk hp on r w =
    let g = goes-within k c (omega arith) (route-goes v k c (leaf h kh ph rh) i on) in
    let s = shape_at c (leaf h kh ph rh) f in
    fits-at c k p kh ph rh a l m RK kl pl rl km pm rm hk hp s.labels r s.under (parent-inner c (shape_marks c (leaf h kh ph rh) f)) g.0 g.1 s.within.0 s.within.1 w
