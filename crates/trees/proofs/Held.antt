-- A view carries a tree: what stands where, and which slots are in state 1.
use Prim.Native.Nat.{◌+◌, ◌≤◌, ℕ}
use mathlib.Core.Bool.{Bool, false, true}
use mathlib.Core.Logic.{inl, inr}
use mathlib.Core.Path.{◌∙◌, ◌≡◌, ap, refl, subst, sym}
use native.Mathlib.Omega.{arith}
use Rattle.machine.specs.Table.{View, fill, lead, off}
use Rattle.terms.specs.declared.Rec.{Rec}
use Rattle.trees.proofs.Plug.{Found, find, ind-cases, ind-eq, ind-same, occ-plug, take_apart_lem}
use Rattle.trees.specs.Tree.{Ctx, Holds, HoldsC, Tree, hole, ind, leaf, node, occ, occ_c, parent, plug, pside, root, top}
use Rattle.views.proofs.Law.{upd-hit, upd-miss}
use Rattle.views.specs.Update.{link, upd, with_link}

-- the table holds the tree below the entry, and the slots in state 1 are those of the tree, each once
pub record Carries (v : View) (t : Tree) : Type 0 where
  pub entry : HoldsC v top (root t)
  pub holds : Holds v t
  pub ones : (x : ℕ) → ind x 0 + occ x t ≡ ind (v x).state 1

-- a child of a record in state 1 stands in a hole below that record
pub record Child (p h : ℕ) (b : Bool) (t : Tree) : Type 0 where
  pub ctx : Ctx
  pub sub : Tree
  pub whole : t ≡ plug ctx sub
  pub at : root sub ≡ h
  pub under : parent ctx ≡ p
  pub on : pside ctx ≡ b

pub ind-le : (x s : ℕ) → ind x s ≤ 1
ind-le x s = elim (ind-cases x s) [ inl q ↦ omega (arith, q.1) | inr q ↦ omega (arith, q.1) ]

pub root-occ : (t : Tree) → 1 ≤ occ (root t) t
root-occ (leaf s k pr rk) = omega (arith, ind-same s)
root-occ (node s k rk l r) = omega (arith, ind-same s)

-- the top of a tree is in state 1
pub root-one : (v : View) (t : Tree) → Holds v t → (v (root t)).state ≡ 1
root-one v (leaf s k pr rk) h = ap (λ r. r.state) h
root-one v (node s k rk l r) h = ap (λ r. r.state) h.0

-- slot 0 is no one's child
pub zero_out : (v : View) (t : Tree) → Carries v t → occ 0 t ≡ 0
zero_out v t i = omega (arith, i.ones 0, ind-same 0, ind-le (v 0).state 1)

pub root-pos : (v : View) (t : Tree) → Carries v t → root t ≡ 0 → ⊥
root-pos v t i e = let z : 1 ≤ occ 0 t = rw e at (root-occ t) in omega (arith, zero_out v t i)

-- what the view holds at a place of the tree
pub at_place : (v : View) (c : Ctx) (u : Tree) → Carries v (plug c u) → HoldsC v c (root u) × Holds v u
at_place v c u i = take_apart_lem v c u i.entry i.holds

child-below : (v : View) (t : Tree) (c : Ctx) (u : Tree) (p h : ℕ) (b : Bool) → Carries v (plug c u) → t ≡ plug c u → root u ≡ p
    → link b (v p) ≡ h → (h ≡ 0 → ⊥) → Child p h b t
child-below v t c (leaf s k pr rk) p h true i w at e nz = absurd (nz (sym e ∙ ap (λ y. (v y).left) (sym at) ∙ ap (λ r. r.left) (at_place v c (leaf s k pr rk) i).1))
child-below v t c (leaf s k pr rk) p h false i w at e nz = absurd (nz (sym e ∙ ap (λ y. (v y).right) (sym at) ∙ ap (λ r. r.right) (at_place v c (leaf s k pr rk) i).1))
child-below v t c (node s k rk l r) p h true i w at e nz =
    record { ctx = hole true s k rk r c; sub = l; whole = w; at = sym (ap (λ r. r.left) (at_place v c (node s k rk l r) i).1.0) ∙ ap (λ y. (v y).left) at ∙ e; under = at; on = refl }
child-below v t c (node s k rk l r) p h false i w at e nz =
    record { ctx = hole false s k rk l c; sub = r; whole = w; at = sym (ap (λ r. r.right) (at_place v c (node s k rk l r) i).1.0) ∙ ap (λ y. (v y).right) at ∙ e; under = at; on = refl }

pub child-of : (v : View) (t : Tree) → Carries v t → (p h : ℕ) (b : Bool) → (v p).state ≡ 1 → link b (v p) ≡ h → (h ≡ 0 → ⊥) → Child p h b t
child-of v t i p h b one e nz =
    elim (ind-cases p 0) [
      | inl q ↦ at_entry b q.0 (subst (λ y. link b (v y) ≡ h) q.0 e)
      | inr q ↦ below (find p t (omega (arith, i.ones p, q.1, ind-eq (v p).state 1 one)))
    ]
  where
    at_entry : (d : Bool) → p ≡ 0 → link d (v 0) ≡ h → Child p h d t
    at_entry true q f = record { ctx = top; sub = t; whole = refl; at = sym (ap (link true) i.entry) ∙ f; under = sym q; on = refl }
    at_entry false q f = absurd (nz (sym f ∙ ap (link false) i.entry))

    below : Found p t → Child p h b t
    below f = child-below v t f.ctx f.sub p h b (rw f.whole at i) f.whole f.at e nz

-- the entry, and the record above the hole, stand in the surroundings
pub occ_c-entry : (c : Ctx) → 1 ≤ occ_c 0 c
occ_c-entry top = omega (arith, ind-same 0)
occ_c-entry (hole b s k rk u c) = omega (arith, occ_c-entry c)

pub occ_c-parent : (c : Ctx) → 1 ≤ occ_c (parent c) c
occ_c-parent top = omega (arith, ind-same 0)
occ_c-parent (hole b s k rk u c) = omega (arith, ind-same s)

-- a record without links is a leaf of the tree
pub is_leaf_lem : (v : View) (c : Ctx) (u : Tree) → Carries v (plug c u) → (v (root u)).left ≡ 0 → (k pr rk : ℕ) × (u ≡ leaf (root u) k pr rk)
is_leaf_lem v c (leaf s k pr rk) i e = (k, pr, rk, refl)
is_leaf_lem v c (node s k rk l r) i e = absurd (omega (arith, zero_out v _ i, occ-plug 0 c (node s k rk l r), ind-same 0, occ_c-entry c, z))
  where
    z : 1 ≤ occ 0 l
    z = rw (sym (ap (λ r. r.left) (at_place v c (node s k rk l r) i).1.0) ∙ e) at (root-occ l)

-- which slots are in state 1, as a number; each kind of write changes it by an indicator, so that a commit's count is one call of omega
abbrev pub one_at : View → ℕ → ℕ
one_at v x = ind (v x).state 1

with_st : (b : Bool) (x : ℕ) (r : Rec) → (with_link b x r).state ≡ r.state
with_st true x r = refl
with_st false x r = refl

pub one-fresh : (v : View) (s : ℕ) (r : Rec) → r.state ≡ 1 → one_at v s ≡ 0 → (x : ℕ) → one_at (upd v (fill s r)) x ≡ one_at v x + ind x s
one-fresh v s r e z x =
    elim (ind-cases x s) [
      | inl q ↦ rw (upd-hit v (fill s r) x q.0, e) (rw q.0 (omega (arith, z, ind-same s)))
      | inr q ↦ rw (upd-miss v (fill s r) x q.0) (omega (arith, q.1))
    ]

pub one-off : (v : View) (s : ℕ) → one_at v s ≡ 1 → (x : ℕ) → one_at (upd v (off s)) x + ind x s ≡ one_at v x
one-off v s z x =
    elim (ind-cases x s) [
      | inl q ↦ rw (upd-hit v (off s) x q.0) (rw q.0 (omega (arith, z, ind-same s)))
      | inr q ↦ rw (upd-miss v (off s) x q.0) (omega (arith, q.1))
    ]

pub one-lead : (v : View) (s : ℕ) (b : Bool) (a x : ℕ) → one_at (upd v (lead s b a)) x ≡ one_at v x
one-lead v s b a x =
    elim (ind-cases x s) [
      | inl q ↦ rw (upd-hit v (lead s b a) x q.0, with_st)
      | inr q ↦ rw (upd-miss v (lead s b a) x q.0)
    ]
