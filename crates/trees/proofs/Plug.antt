-- A place of the tree: taken apart and put together; the frame; where a slot stands.
use Prim.Native.Nat.{◌+◌, ◌<◌, ◌≤◌, suc, zero, ℕ}
use borrow.Author.Tests.{eq-eqb, eqb-false, eqb-true, ne_eqb}
use lib.Dec.{eqb}
use mathlib.Core.Bool.{Bool, false, true}
use mathlib.Core.Logic.{◌⊎◌, inl, inr}
use mathlib.Core.Path.{◌∙◌, ◌≡◌, ap, refl, subst, sym}
use native.Mathlib.Omega.{arith}
use Rattle.machine.specs.Table.{View}
use Rattle.trees.specs.Tree.{Ctx, Holds, HoldsC, Tree, hole, ind, leaf, node, occ, occ_c, parent, plug, pside, root, side_rec, top}
use Rattle.views.specs.Update.{with_link}

-- the entry stands outside the tree
pub occ-plug : (x : ℕ) (c : Ctx) (t : Tree) → ind x 0 + occ x (plug c t) ≡ occ_c x c + occ x t
occ-plug x top t = refl
occ-plug x (hole true s k rk u c) t = omega (arith, occ-plug x c (node s k rk t u))
occ-plug x (hole false s k rk u c) t = omega (arith, occ-plug x c (node s k rk u t))

pub take_apart_lem : (v : View) (c : Ctx) (t : Tree) → HoldsC v top (root (plug c t)) → Holds v (plug c t) → HoldsC v c (root t) × Holds v t
take_apart_lem v top t e h = (e, h)
take_apart_lem v (hole true s k rk u c) t e h = let g = take_apart_lem v c (node s k rk t u) e h in ((g.1.0, g.0, g.1.2), g.1.1)
take_apart_lem v (hole false s k rk u c) t e h = let g = take_apart_lem v c (node s k rk u t) e h in ((g.1.0, g.0, g.1.1), g.1.2)

pub put-together : (v : View) (c : Ctx) (t : Tree) → HoldsC v c (root t) → Holds v t → HoldsC v top (root (plug c t)) × Holds v (plug c t)
put-together v top t g h = (g, h)
put-together v (hole true s k rk u c) t g h = put-together v c (node s k rk t u) g.1 (g.0, h, g.2)
put-together v (hole false s k rk u c) t g h = put-together v c (node s k rk u t) g.1 (g.0, g.2, h)

pub pos-cases : (n : ℕ) → (0 < n) ⊎ (n ≡ 0)
pos-cases zero = inr refl
pos-cases (suc n) = inl (omega arith)

-- the indicator's two values
pub ind-same : (x : ℕ) → ind x x ≡ 1
ind-same x = rw (eq-eqb x x refl)

pub ind-eq : (x s : ℕ) → x ≡ s → ind x s ≡ 1
ind-eq x s e = rw (eq-eqb x s e)

pub ind-other : (x s : ℕ) → (x ≡ s → ⊥) → ind x s ≡ 0
ind-other x s n = rw (ne_eqb x s n)

-- a slot is another or not: the two cases, with what the indicator is in each
pub ind-cases : (x s : ℕ) → ((x ≡ s) × (ind x s ≡ 1)) ⊎ ((x ≡ s → ⊥) × (ind x s ≡ 0))
ind-cases x s = go (eqb x s) refl
  where
    go : (b : Bool) → eqb x s ≡ b → ((x ≡ s) × (ind x s ≡ 1)) ⊎ ((x ≡ s → ⊥) × (ind x s ≡ 0))
    go true e = inl (eqb-true x s e, rw e)
    go false e = inr (eqb-false x s e, rw e)

-- the frame: what a view holds of a tree goes by the tree's slots alone
pub frame : (v w : View) (t : Tree) → ((x : ℕ) → 0 < occ x t → w x ≡ v x) → Holds v t → Holds w t
frame v w (leaf s k pr rk) e h = e s (omega (arith, ind-same s)) ∙ h
frame v w (node s k rk l r) e h = (
  e s (omega (arith, ind-same s)) ∙ h.0,
  frame v w l (λ x p. e x (omega arith)) h.1,
  frame v w r (λ x p. e x (omega arith)) h.2,
)

pub frame_c : (v w : View) (c : Ctx) (h : ℕ) → ((x : ℕ) → 0 < occ_c x c → w x ≡ v x) → HoldsC v c h → HoldsC w c h
frame_c v w top h e g = e 0 (omega (arith, ind-same 0)) ∙ g
frame_c v w (hole b s k rk u c) h e g =
    (e s (omega (arith, ind-same s)) ∙ g.0, frame_c v w c s (λ x p. e x (omega arith)) g.1, frame v w u (λ x p. e x (omega arith)) g.2)

-- a slot of the tree stands somewhere in it: its surroundings and the tree below
pub record Found (x : ℕ) (t : Tree) : Type 0 where
  pub ctx : Ctx
  pub sub : Tree
  pub whole : t ≡ plug ctx sub
  pub at : root sub ≡ x

pub find-in : (x : ℕ) (c : Ctx) (t : Tree) → 0 < occ x t → Found x (plug c t)
find-in x c (leaf s k pr rk) p = elim (ind-cases x s) [ inl q ↦ record { ctx = c; sub = leaf s k pr rk; whole = refl; at = sym q.0 } | inr q ↦ absurd (omega (arith, q.1)) ]
find-in x c (node s k rk l r) p =
    elim (ind-cases x s) [
      | inl q ↦ record { ctx = c; sub = node s k rk l r; whole = refl; at = sym q.0 }
      | inr q ↦
          (elim (pos-cases (occ x l)) [
            | inl d ↦ find-in x (hole true s k rk r c) l d
            | inr d ↦ find-in x (hole false s k rk l c) r (omega (arith, q.1, d))
          ])
    ]

pub find : (x : ℕ) (t : Tree) → 0 < occ x t → Found x t
find x t p = find-in x top t p

-- a slot that counts somewhere is another than one that does not
pub apart : (f : ℕ → ℕ) (x s : ℕ) → 0 < f x → f s ≡ 0 → x ≡ s → ⊥
apart f x s p q e = let r : 0 < f s = subst (λ y. 0 < f y) e p in omega arith

-- only the link to the hole is changed: the surroundings then lead to another slot, and are as before
pub relink : (v w : View) (c : Ctx) (h a : ℕ) → occ_c (parent c) c ≤ 1 → w (parent c) ≡ with_link (pside c) a (v (parent c))
    → ((x : ℕ) → (x ≡ parent c → ⊥) → 0 < occ_c x c → w x ≡ v x) → HoldsC v c h → HoldsC w c a
relink v w top h a once e other g = e ∙ ap (with_link true a) g
relink v w (hole b s k rk u c) h a once e other g = (
  e ∙ ap (with_link b a) g.0 ∙ relinked b,
  frame_c v w c s (λ x p. other x (apart (λ y. occ_c y c) x s p (omega (arith, ind-same s))) (omega arith)) g.1,
  frame v w u (λ x p. other x (apart (λ y. occ y u) x s p (omega (arith, ind-same s))) (omega arith)) g.2,
)
  where
    relinked : (d : Bool) → with_link d a (side_rec d k rk h (root u)) ≡ side_rec d k rk a (root u)
    relinked true = refl
    relinked false = refl
