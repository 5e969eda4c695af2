-- Ways of links in a view are ways down the tree that it holds.
use Prim.Native.Nat.{◌+◌, ◌<◌, ◌≤◌, ℕ}
use mathlib.Core.Bool.{false, true}
use mathlib.Core.List.{[], ◌∷◌}
use mathlib.Core.Logic.{inl, inr}
use mathlib.Core.Path.{◌∙◌, ◌≡◌, ap, refl, subst, sym}
use native.Mathlib.Omega.{arith}
use Rattle.grounds.specs.Ways.{Goes, Way}
use Rattle.machine.specs.Table.{View}
use Rattle.trees.proofs.Held.{root-occ}
use Rattle.trees.proofs.Plug.{ind-cases, ind-eq, pos-cases}
use Rattle.trees.proofs.Search.{ordered_lt}
use Rattle.trees.specs.Marks.{Marked}
use Rattle.trees.specs.Order.{Ordered}
use Rattle.trees.specs.Rank.{Ranked}
use Rattle.trees.specs.Tree.{Holds, Tree, ind, leaf, node, occ, root}

-- the way leads to a part of the tree
abbrev pub At : Tree → Way → Tree → Type 0
At t [] u = t ≡ u
At (leaf s k pr rk) (side ∷ w) u = ⊥
At (node s k rk l r) (true ∷ w) u = At l w u
At (node s k rk l r) (false ∷ w) u = At r w u

-- a part of the tree at slot x
pub record Part (t : Tree) (w : Way) (x : ℕ) : Type 0 where
  pub sub : Tree
  pub at : At t w sub
  pub is : root sub ≡ x

-- the number and the rank of the record on top
abbrev pub number : Tree → ℕ
number (leaf s k pr rk) = k
number (node s k rk l r) = k

-- ---- what holds of a tree holds of its parts

pub at-holds : (v : View) (t : Tree) (w : Way) (u : Tree) → Holds v t → At t w u → Holds v u
at-holds v t [] u h e = subst (Holds v) e h
at-holds v (leaf s k pr rk) (side ∷ w) u h a = absurd a
at-holds v (node s k rk l r) (true ∷ w) u h a = at-holds v l w u h.1 a
at-holds v (node s k rk l r) (false ∷ w) u h a = at-holds v r w u h.2 a

pub at-occ : (x : ℕ) (t : Tree) (w : Way) (u : Tree) → At t w u → occ x u ≤ occ x t
at-occ x t [] u e = rw e (omega arith)
at-occ x (leaf s k pr rk) (side ∷ w) u a = absurd a
at-occ x (node s k rk l r) (true ∷ w) u a = omega (arith, at-occ x l w u a)
at-occ x (node s k rk l r) (false ∷ w) u a = omega (arith, at-occ x r w u a)

pub at-root : (t : Tree) (w : Way) (u : Tree) → At t w u → 1 ≤ occ (root u) t
at-root t w u a = omega (arith, root-occ u, at-occ (root u) t w u a)

pub at-marked : (t : Tree) (w : Way) (u : Tree) → Marked t → At t w u → Marked u
at-marked t [] u m e = subst Marked e m
at-marked (leaf s k pr rk) (side ∷ w) u m a = absurd a
at-marked (node s k rk l r) (true ∷ w) u m a = at-marked l w u m.1 a
at-marked (node s k rk l r) (false ∷ w) u m a = at-marked r w u m.2 a

pub at-ranked : (t : Tree) (w : Way) (u : Tree) → Ranked t → At t w u → Ranked u
at-ranked t [] u m e = subst Ranked e m
at-ranked (leaf s k pr rk) (side ∷ w) u m a = absurd a
at-ranked (node s k rk l r) (true ∷ w) u m a = at-ranked l w u m.2 a
at-ranked (node s k rk l r) (false ∷ w) u m a = at-ranked r w u m.3 a

pub at-ordered : (lo hi : ℕ) (t : Tree) (w : Way) (u : Tree) → Ordered lo hi t → At t w u → (a b : ℕ) × Ordered a b u
at-ordered lo hi t [] u o e = (lo, hi, subst (Ordered lo hi) e o)
at-ordered lo hi (leaf s k pr rk) (side ∷ w) u o a = absurd a
at-ordered lo hi (node s k rk l r) (true ∷ w) u o a = at-ordered lo k l w u o.0 a
at-ordered lo hi (node s k rk l r) (false ∷ w) u o a = at-ordered k hi r w u o.1 a

-- all numbers of a tree lie within its bounds
top_within : (lo hi : ℕ) (t : Tree) → Ordered lo hi t → (lo ≤ number t) × (number t < hi)
top_within lo hi (leaf s k pr rk) o = o
top_within lo hi (node s k rk l r) o = (omega (arith, ordered_lt lo k l o.0), ordered_lt k hi r o.1)

pub at-within : (lo hi : ℕ) (t : Tree) (w : Way) (u : Tree) → Ordered lo hi t → At t w u → (lo ≤ number u) × (number u < hi)
at-within lo hi t [] u o e = subst (λ y. (lo ≤ number y) × (number y < hi)) e (top_within lo hi t o)
at-within lo hi (leaf s k pr rk) (side ∷ w) u o a = absurd a
at-within lo hi (node s k rk l r) (true ∷ w) u o a =
    let g = at-within lo k l w u o.0 a in
    (g.0, omega (arith, g.1, ordered_lt k hi r o.1))
at-within lo hi (node s k rk l r) (false ∷ w) u o a =
    let g = at-within k hi r w u o.1 a in
    (omega (arith, g.0, ordered_lt lo k l o.0), g.1)

-- what the view says of the record on top
pub number_is : (v : View) (t : Tree) → Holds v t → (v (root t)).number ≡ number t
number_is v (leaf s k pr rk) h = ap (λ r. r.number) h
number_is v (node s k rk l r) h = ap (λ r. r.number) h.0

-- ---- a slot of the tree is reached, by one way

pub reach-part : (x : ℕ) (t : Tree) → 1 ≤ occ x t → (w : Way) × Part t w x
reach-part x (leaf s k pr rk) o = elim (ind-cases x s) [ inl q ↦ ([], record { sub = leaf s k pr rk; at = refl; is = sym q.0 }) | inr q ↦ absurd (omega (arith, q.1)) ]
reach-part x (node s k rk l r) o =
    elim (ind-cases x s) [
      | inl q ↦ ([], record { sub = node s k rk l r; at = refl; is = sym q.0 })
      | inr q ↦
          (elim (pos-cases (occ x l)) [
            | inl d ↦ (let g = reach-part x l d in (true ∷ g.0, record { sub = g.1.sub; at = g.1.at; is = g.1.is }))
            | inr d ↦ (let g = reach-part x r (omega (arith, q.1, d)) in (false ∷ g.0, record { sub = g.1.sub; at = g.1.at; is = g.1.is }))
          ])
    ]

-- the slot on top stands nowhere below
top_twice : (x s k rk : ℕ) (l r side : Tree) {u : Tree} → ind x s + occ x l + occ x r ≤ 1 → node s k rk l r ≡ u → root u ≡ x → 1 ≤ occ x side → occ x side ≤ occ x l + occ x r → ⊥
top_twice x s k rk l r side h a e o le = omega (arith, ind-eq x s (sym (ap root a ∙ e)))

pub part_once : (x : ℕ) (t : Tree) → occ x t ≤ 1 → (w w' : Way) → Part t w x → Part t w' x → w ≡ w'
part_once x t h [] [] p q = refl
part_once x (leaf s k pr rk) h [] (side ∷ w') p q = absurd q.at
part_once x (leaf s k pr rk) h (side ∷ w) w' p q = absurd p.at
part_once x (node s k rk l r) h [] (true ∷ w') p q = absurd (top_twice x s k rk l r l h p.at p.is (rw q.is at (at-root l w' q.sub q.at)) (omega arith))
part_once x (node s k rk l r) h [] (false ∷ w') p q = absurd (top_twice x s k rk l r r h p.at p.is (rw q.is at (at-root r w' q.sub q.at)) (omega arith))
part_once x (node s k rk l r) h (true ∷ w) [] p q = absurd (top_twice x s k rk l r l h q.at q.is (rw p.is at (at-root l w p.sub p.at)) (omega arith))
part_once x (node s k rk l r) h (false ∷ w) [] p q = absurd (top_twice x s k rk l r r h q.at q.is (rw p.is at (at-root r w p.sub p.at)) (omega arith))
part_once x (node s k rk l r) h (true ∷ w) (true ∷ w') p q =
    ap (λ z. true ∷ z) (part_once x l (omega arith) w w' (record { sub = p.sub; at = p.at; is = p.is }) (record { sub = q.sub; at = q.at; is = q.is }))
part_once x (node s k rk l r) h (false ∷ w) (false ∷ w') p q =
    ap (λ z. false ∷ z) (part_once x r (omega arith) w w' (record { sub = p.sub; at = p.at; is = p.is }) (record { sub = q.sub; at = q.at; is = q.is }))
part_once x (node s k rk l r) h (true ∷ w) (false ∷ w') p q = absurd (omega (arith, rw p.is at (at-root l w p.sub p.at), rw q.is at (at-root r w' q.sub q.at)))
part_once x (node s k rk l r) h (false ∷ w) (true ∷ w') p q = absurd (omega (arith, rw p.is at (at-root r w p.sub p.at), rw q.is at (at-root l w' q.sub q.at)))

-- ---- ways of links are ways in the tree

pub zero_root : (t : Tree) → occ 0 t ≡ 0 → root t ≡ 0 → ⊥
zero_root t z e = let o : 1 ≤ occ 0 t = rw e at (root-occ t) in omega arith

module _ (v : View) where
  pub goes-part : (t : Tree) (w : Way) (x : ℕ) → Holds v t → Goes v (root t) w x → Part t w x
  goes-part t [] x h g = record { sub = t; at = refl; is = g }
  goes-part (leaf s k pr rk) (true ∷ w) x h g = absurd (g.0 (ap (λ r. r.left) h))
  goes-part (leaf s k pr rk) (false ∷ w) x h g = absurd (g.0 (ap (λ r. r.right) h))
  goes-part (node s k rk l r) (true ∷ w) x h g =
      let p = goes-part l w x h.1 (subst (λ y. Goes v y w x) (ap (λ r. r.left) h.0) g.1) in
      record { sub = p.sub; at = p.at; is = p.is }
  goes-part (node s k rk l r) (false ∷ w) x h g =
      let p = goes-part r w x h.2 (subst (λ y. Goes v y w x) (ap (λ r. r.right) h.0) g.1) in
      record { sub = p.sub; at = p.at; is = p.is }

  pub part_goes : (t : Tree) (w : Way) (x : ℕ) → Holds v t → occ 0 t ≡ 0 → Part t w x → Goes v (root t) w x
  part_goes t [] x h z p = ap root p.at ∙ p.is
  part_goes (leaf s k pr rk) (side ∷ w) x h z p = absurd p.at
  part_goes (node s k rk l r) (true ∷ w) x h z p =
      let e = ap (λ r. r.left) h.0 in
      ((λ n. absurd (zero_root l (omega arith) (sym e ∙ n))), subst (λ y. Goes v y w x) (sym e) (part_goes l w x h.1 (omega arith) (record { sub = p.sub; at = p.at; is = p.is })))
  part_goes (node s k rk l r) (false ∷ w) x h z p =
      let e = ap (λ r. r.right) h.0 in
      ((λ n. absurd (zero_root r (omega arith) (sym e ∙ n))), subst (λ y. Goes v y w x) (sym e) (part_goes r w x h.2 (omega arith) (record { sub = p.sub; at = p.at; is = p.is })))
