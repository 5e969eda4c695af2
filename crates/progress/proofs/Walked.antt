-- A remembered record leads to a leaf: by the tree, or by the links of records that were taken off.
use Prim.Native.Nat.{◌<◌, ◌≤◌, suc, ℕ}
use borrow.Author.Tests.{lt-ltb}
use lib.Dec.{ltb}
use mathlib.Core.Bool.{Bool, false, true}
use mathlib.Core.Logic.{inl, inr}
use mathlib.Core.Path.{◌∙◌, ◌≡◌, refl, subst, sym}
use native.Mathlib.Omega.{arith}
use Rattle.machine.proofs.Choice.{if_elim}
use Rattle.machine.specs.PutIn.{inner_of}
use Rattle.machine.specs.Record.{top_number}
use Rattle.machine.specs.Table.{View}
use Rattle.progress.specs.Stale.{Walked}
use Rattle.routes.specs.Route.{Has, here, last, led, next, route}
use Rattle.steps.specs.Trail.{Fine}
use Rattle.trees.proofs.Held.{Carries, root-occ, root-pos, zero_out}
use Rattle.trees.specs.Tree.{Holds, Tree, leaf, leaf_rec, node, occ, root}
use Rattle.views.specs.Update.{link}

module _ (v : View) (k : ℕ) where
  abbrev Some : ℕ → Type 0
  Some a = (L : ℕ) × Walked v k a L

  leaf_out : (s key pr rk : ℕ) → v s ≡ leaf_rec key pr rk → next v k s ≡ 0
  unfolding next
  leaf_out s key pr rk h = rw h (none (ltb k key))
    where
      none : (b : Bool) → link b (leaf_rec key pr rk) ≡ 0
      none true = refl
      none false = refl

  child-next : (s key rk : ℕ) (l r : Tree) → v s ≡ inner_of key rk (root l) (root r) → (b : Bool) → ltb k key ≡ b → next v k s ≡ link b (inner_of key rk (root l) (root r))
  unfolding next
  child-next s key rk l r h b e = rw (h, e) refl

  root-nz : (u : Tree) → occ 0 u ≡ 0 → root u ≡ 0 → ⊥
  root-nz u z e = let y : 1 ≤ occ 0 u = subst (λ s. 1 ≤ occ s u) e (root-occ u) in omega arith

  one_on : (a b : ℕ) → next v k a ≡ b → (b ≡ 0 → ⊥) → Some b → Some a
  one_on a b e nz (L, w) = (suc L, ((λ z. nz (sym e ∙ z)), subst (λ y. Walked v k y L) (sym e) w))

  root-walked : (u : Tree) → Holds v u → occ 0 u ≡ 0 → Some (root u)
  root-walked (leaf s key pr rk) h z = (0, leaf_out s key pr rk h)
  root-walked (node s key rk l r) h z =
      go (ltb k key) refl (root-walked l h.1 (omega arith)) (root-walked r h.2 (omega arith))
    where
      go : (b : Bool) → ltb k key ≡ b → Some (root l) → Some (root r) → Some s
      go true e x y = one_on s (root l) (child-next s key rk l r h.0 true e) (root-nz l (omega arith)) x
      go false e x y = one_on s (root r) (child-next s key rk l r h.0 false e) (root-nz r (omega arith)) y

  has_walked : (a : ℕ) (u : Tree) → Holds v u → occ 0 u ≡ 0 → Has a (route k u) → Some a
  has_walked a (leaf s key pr rk) h z (inl e) = subst Some (sym e) (root-walked (leaf s key pr rk) h z)
  has_walked a (leaf s key pr rk) h z (inr x) = absurd x
  has_walked a (node s key rk l r) h z (inl e) = subst Some (sym e) (root-walked (node s key rk l r) h z)
  has_walked a (node s key rk l r) h z (inr x) =
      if_elim (λ R. Has a R → Some a) (ltb k key) (λ e y. has_walked a l h.1 (omega arith) y) (λ e y. has_walked a r h.2 (omega arith) y) x

  module _ (t : Tree) (i : Carries v t) (lt : k < 1000000) where
    entry_next : next v k 0 ≡ root t
    unfolding next
    entry_next = rw (i.entry, lt-ltb k top_number (omega arith)) refl

    pub fine-walked : (a : ℕ) → Fine v t k a → Some a
    fine-walked a (here (inl e)) = subst Some (sym e) (one_on 0 (root t) entry_next (root-pos v t i) (root-walked t i.holds (zero_out v t i)))
    fine-walked a (here (inr h)) = has_walked a t i.holds (zero_out v t i) h
    fine-walked a (last s e w) = (0, e)
    fine-walked a (led s nz g) = let r = fine-walked (next v k a) g in (suc r.0, (nz, r.1))
