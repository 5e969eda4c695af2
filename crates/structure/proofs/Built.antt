-- A table that carries a tree is built as it should be: reached once, in search order, well formed.
use Prim.Native.Nat.{◌<◌, ◌≤◌, ℕ}
use mathlib.Core.Bool.{Bool, false, true}
use mathlib.Core.List.{[], ◌∷◌}
use mathlib.Core.Logic.{inl, inr}
use mathlib.Core.Path.{◌∙◌, ◌≡◌, ap, refl, subst, sym}
use native.Mathlib.Omega.{arith}
use Rattle.commits.proofs.Grounds.{root-rank}
use Rattle.commits.proofs.Shape.{Shape}
use Rattle.demand2.proofs.Stands.{Stands, slots-is}
use Rattle.fares.proofs.Formed.{entry-formed, leaf_linked, node_linked}
use Rattle.fares.proofs.Whole.{Bounded, slots-below, view-bounded}
use Rattle.grounds.proofs.Records.{says_formed, says_linked}
use Rattle.grounds.specs.Record.{WellFormed}
use Rattle.grounds.specs.Ways.{Goes, Way}
use Rattle.history.specs.Ledger.{Point}
use Rattle.machine.specs.Record.{linked}
use Rattle.machine.specs.Table.{View, slots, view}
use Rattle.routes.proofs.Surgery.{at_most, in_tree_lem}
use Rattle.structure.proofs.Ways.{At, Part, at-holds, at-marked, at-occ, at-ordered, at-ranked, at-root, at-within, goes-part, number, number_is, part_goes, part_once, reach-part}
use Rattle.structure.specs.Built.{Built, view_of}
use Rattle.trees.proofs.Held.{Carries, root-occ, root-pos, zero_out}
use Rattle.trees.proofs.Plug.{ind-cases, ind-eq, ind-same}
use Rattle.trees.specs.Marks.{Marked}
use Rattle.trees.specs.Order.{ALL, Ordered, Side}
use Rattle.trees.specs.Rank.{Ranked, rank}
use Rattle.trees.specs.Tree.{Holds, Tree, leaf, node, occ, root}

-- the numbers on a side of a record, and the ranks below it
side-of : (lo hi : ℕ) (t : Tree) (side : Bool) (w : Way) (u : Tree) → Ordered lo hi t → At t (side ∷ w) u → Side side (number u) (number t)
side-of lo hi (leaf s k pr rk) side w u o a = absurd a
side-of lo hi (node s k rk l r) true w u o a = (at-within lo k l w u o.0 a).1
side-of lo hi (node s k rk l r) false w u o a = (at-within k hi r w u o.1 a).0

child-rank : (t : Tree) (side : Bool) (u : Tree) → Ranked t → At t (side ∷ []) u → rank u ≤ rank t
child-rank (leaf s k pr rk) side u h a = absurd a
child-rank (node s k rk l r) true u h a = subst (λ y. rank y ≤ rk) a h.0
child-rank (node s k rk l r) false u h a = subst (λ y. rank y ≤ rk) a h.1

module _ (n : ℕ) (v : View) (t : Tree) (i : Carries v t) (sh : Shape t) (b : Bounded n v) where
  left_is : (v 0).left ≡ root t
  left_is = ap (λ r. r.left) i.entry

  -- a way from the entry stays there, or goes down the tree
  data From (x : ℕ) : Way → Type 0 where
    stop : x ≡ 0 → From x []
    down : {w : Way} → Part t w x → From x (true ∷ w)

  from : (w : Way) (x : ℕ) → Goes v 0 w x → From x w
  from [] x g = stop (sym g)
  from (true ∷ w) x g = down (goes-part v t w x i.holds (subst (λ y. Goes v y w x) left_is g.1))
  from (false ∷ w) x g = absurd (g.0 (ap (λ r. r.right) i.entry))

  to : (w : Way) (x : ℕ) → Part t w x → Goes v 0 (true ∷ w) x
  to w x p = ((λ e. root-pos v t i (sym left_is ∙ e)), subst (λ y. Goes v y w x) (sym left_is) (part_goes v t w x i.holds (zero_out v t i) p))

  is_reached : (x : ℕ) → (v x).state ≡ 1 → (w : Way) × Goes v 0 w x
  is_reached x one =
      elim (ind-cases x 0) [
        | inl q ↦ ([], sym q.0)
        | inr q ↦ (let g = reach-part x t (omega (arith, i.ones x, q.1, ind-eq (v x).state 1 one)) in (true ∷ g.0, to g.0 x g.1))
      ]

  part_occ : (w : Way) (x : ℕ) → Part t w x → 1 ≤ occ x t
  part_occ w x p = subst (λ y. 1 ≤ occ y t) p.is (at-root t w p.sub p.at)

  is_in_tree : (w : Way) (x : ℕ) → From x w → (v x).state ≡ 1
  is_in_tree _ x (stop e) = rw e (ap (λ r. r.state) i.entry)
  is_in_tree _ x (down {w} p) = in_tree_lem v t x i (part_occ w x p)

  is_once : (w u : Way) (x : ℕ) → From x w → From x u → w ≡ u
  is_once _ _ x (stop e) (stop d) = refl
  is_once _ _ x (stop e) (down {w} p) = absurd (omega (arith, zero_out v t i, subst (λ y. 1 ≤ occ y t) e (part_occ w x p)))
  is_once _ _ x (down {w} p) (stop e) = absurd (omega (arith, zero_out v t i, subst (λ y. 1 ≤ occ y t) e (part_occ w x p)))
  is_once _ _ x (down {w} p) (down {w = u} q) = ap (λ z. true ∷ z) (part_once x t (at_most v t x i) w u p q)

  never_back : (w : Way) → From 0 (true ∷ w) → ⊥
  never_back _ (down {w} p) = omega (arith, zero_out v t i, part_occ w 0 p)

  back : (side : Bool) (w : Way) → Goes v 0 (side ∷ w) 0 → ⊥
  back true w g = never_back w (from (true ∷ w) 0 g)
  back false w g = g.0 (ap (λ r. r.right) i.entry)

  -- a part of the tree, and a way on from it
  part_holds : (w : Way) (x : ℕ) (p : Part t w x) → Holds v p.sub
  part_holds w x p = at-holds v t w p.sub i.holds p.at

  on : (w u : Way) (x y : ℕ) (p : Part t w x) → Goes v x u y → Part p.sub u y
  on w u x y p g = goes-part v p.sub u y (part_holds w x p) (subst (λ z. Goes v z u y) (sym p.is) g)

  number_at : (w : Way) (x : ℕ) (p : Part t w x) → (v x).number ≡ number p.sub
  number_at w x p = subst (λ y. (v y).number ≡ number p.sub) p.is (number_is v p.sub (part_holds w x p))

  rank-at : (w : Way) (x : ℕ) (p : Part t w x) → (v x).rank ≡ rank p.sub
  rank-at w x p = subst (λ y. (v y).rank ≡ rank p.sub) p.is (root-rank v p.sub (part_holds w x p))

  is_ordered : (w u : Way) (side : Bool) (x y : ℕ) → From x w → (x ≡ 0 → ⊥) → Goes v x (side ∷ u) y → Side side (v y).number (v x).number
  is_ordered _ u side x y (stop e) nz g = absurd (nz e)
  is_ordered _ u side x y (down {w} p) nz g =
      let q = on w (side ∷ u) x y p g in
      let o = at-ordered 0 ALL t w p.sub sh.order p.at in
      let e : (v y).number ≡ number q.sub = subst (λ z. (v z).number ≡ number q.sub) q.is (number_is v q.sub (at-holds v p.sub (side ∷ u) q.sub (part_holds w x p) q.at)) in
      subst (λ a. Side side a (v x).number) (sym e) (subst (Side side (number q.sub)) (sym (number_at w x p)) (side-of o.0 o.1 p.sub side u q.sub o.2 q.at))

  is_ranked : (w : Way) (side : Bool) (x y : ℕ) → From x w → Goes v x (side ∷ []) y → (v y).rank ≤ (v x).rank
  is_ranked _ side x y (stop e) g = under side (subst (λ z. Goes v z (side ∷ []) y) e g)
    where
      top : From y (true ∷ []) → (v y).rank ≤ (v x).rank
      top (down {w} p) = omega (arith, rank-at [] y p, ap rank p.at, sh.limit, ap (λ z. (v z).rank) e, ap (λ r. r.rank) i.entry)

      under : (d : Bool) → Goes v 0 (d ∷ []) y → (v y).rank ≤ (v x).rank
      under true h = top (from (true ∷ []) y h)
      under false h = absurd (h.0 (ap (λ r. r.right) i.entry))
  is_ranked _ side x y (down {w} p) g =
      let q = on w (side ∷ []) x y p g in
      let e : (v y).rank ≡ rank q.sub = subst (λ z. (v z).rank ≡ rank q.sub) q.is (root-rank v q.sub (at-holds v p.sub (side ∷ []) q.sub (part_holds w x p) q.at)) in
      omega (arith, e, rank-at w x p, child-rank p.sub side q.sub (at-ranked t w p.sub sh.ranked p.at) q.at)

  -- a slot of the tree is a link
  a_link : (x : ℕ) → 1 ≤ occ x t → (x ≡ 0 → ⊥) × (x < n)
  a_link x o = ((λ e. omega (arith, zero_out v t i, subst (λ y. 1 ≤ occ y t) e o)), slots-below n v t i sh.marks b x o)

  sub_formed : (u : Tree) → Holds v u → Marked u → ((x : ℕ) → occ x u ≤ occ x t) → linked n (root u) (v (root u)) ≡ true
  sub_formed (leaf s k pr rk) h m le = rw h (leaf_linked n s k pr rk (a_link s (omega (arith, le s, ind-same s))).0 m)
  sub_formed (node s k rk l r) h m le =
      let at-l = a_link (root l) (omega (arith, le (root l), root-occ l)) in
      let at-r = a_link (root r) (omega (arith, le (root r), root-occ r)) in
      rw h.0 (node_linked n s k rk (root l) (root r) (a_link s (omega (arith, le s, ind-same s))).0 m.0 at-l.0 at-l.1 at-r.0 at-r.1 differ)
    where
      differ : root l ≡ root r → ⊥
      differ e = let z : 1 ≤ occ (root l) r = subst (λ y. 1 ≤ occ y r) (sym e) (root-occ r) in omega (arith, at_most v t (root l) i, le (root l), root-occ l)

  is_formed : (w : Way) (x : ℕ) → From x w → WellFormed n x (v x)
  is_formed _ x (stop e) =
      let r = a_link (root t) (root-occ t) in
      subst (λ y. WellFormed n y (v y)) (sym e) ((says_formed (v 0) n 0).holds (rw i.entry (entry-formed n (root t) r.0 r.1)))
  is_formed _ x (down {w} p) =
      subst (λ y. WellFormed n y (v y)) p.is
      ((says_linked (v (root p.sub)) n (root p.sub)).holds
      (sub_formed p.sub (part_holds w x p) (at-marked t w p.sub sh.marks p.at) (λ y. at-occ y t w p.sub p.at))).1

  pub is_built : Built n v
  is_built = record {
    in_tree = λ x. (is_reached x, λ g. is_in_tree g.0 x (from g.0 x g.1));
    once = λ w u x g h. is_once w u x (from w x g) (from u x h);
    no_ones_child = back;
    order = λ w u side x y g nz h. is_ordered w u side x y (from w x g) nz h;
    formed = λ w x g. is_formed w x (from w x g);
    ranks = λ w side x y g h. is_ranked w side x y (from w x g) h;
  }

-- where a history stands
pub built_at : {p : Point} → Stands p → Built (slots p.table) (view_of p)
built_at {p} s =
    subst (λ n. Built n (view n p.table)) (sym (slots-is s)) (is_built s.n (view s.n p.table) s.tree s.carries s.shape (view-bounded s.n p.table))
