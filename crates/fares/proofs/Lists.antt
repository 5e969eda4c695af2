-- Sorted lists of fares: one put in, one taken out.
use Prim.Native.Nat.{◌<◌, ◌≤◌, ℕ}
use borrow.Author.Tests.{eq-eqb, le-ltb, lt-ltb, ne_eqb}
use mathlib.Core.List.{List, [], ◌++◌, ◌∷◌}
use mathlib.Core.Logic.{inl, inr}
use mathlib.Core.Path.{◌∙◌, ◌≡◌, ap, refl, subst, sym}
use native.Mathlib.Omega.{arith}
use Rattle.fares.specs.Fares.{Insert, fares, leaf_fares}
use Rattle.history.specs.Fares.{AllAbove, Held, Sorted}
use Rattle.history.specs.Ledger.{Fare, added, removed}
use Rattle.machine.proofs.Choice.{if_elim}
use Rattle.trees.proofs.Search.{ordered_lt}
use Rattle.trees.specs.Order.{Ordered}
use Rattle.trees.specs.Tree.{Tree, leaf, node}

pub append_assoc : (xs ys zs : List Fare) → (xs ++ ys) ++ zs ≡ xs ++ (ys ++ zs)
append_assoc [] ys zs = refl
append_assoc (x ∷ xs) ys zs = ap (λ r. x ∷ r) (append_assoc xs ys zs)

pub append_nil : (xs : List Fare) → xs ++ [] ≡ xs
append_nil [] = refl
append_nil (x ∷ xs) = ap (λ r. x ∷ r) (append_nil xs)

-- ---- bounds

abbrev pub Within : ℕ → ℕ → List Fare → Type 0
Within lo hi [] = Unit {0}
Within lo hi (f ∷ fs) = (lo ≤ f.number) × (f.number < hi) × Within lo hi fs

within_append : (lo hi : ℕ) (xs ys : List Fare) → Within lo hi xs → Within lo hi ys → Within lo hi (xs ++ ys)
within_append lo hi [] ys a b = b
within_append lo hi (x ∷ xs) ys a b = (a.0, a.1, within_append lo hi xs ys a.2 b)

pub within_wider : (lo hi lo' hi' : ℕ) (xs : List Fare) → lo' ≤ lo → hi ≤ hi' → Within lo hi xs → Within lo' hi' xs
within_wider lo hi lo' hi' [] a b w = tt
within_wider lo hi lo' hi' (x ∷ xs) a b w = (omega (arith, w.0), omega (arith, w.1), within_wider lo hi lo' hi' xs a b w.2)

above_within : (k lo hi : ℕ) (ys : List Fare) → k < lo → Within lo hi ys → AllAbove k ys
above_within k lo hi [] h w = tt
above_within k lo hi (y ∷ ys) h w = (omega (arith, w.0), above_within k lo hi ys h w.2)

above_append : (k : ℕ) (xs ys : List Fare) → AllAbove k xs → AllAbove k ys → AllAbove k (xs ++ ys)
above_append k [] ys a b = b
above_append k (x ∷ xs) ys a b = (a.0, above_append k xs ys a.1 b)

sorted_append : (lo mid hi : ℕ) (xs ys : List Fare) → Within lo mid xs → Within mid hi ys → Sorted xs → Sorted ys → Sorted (xs ++ ys)
sorted_append lo mid hi [] ys a b s r = r
sorted_append lo mid hi (x ∷ xs) ys a b s r = (
  above_append x.number xs ys s.0 (above_within x.number mid hi ys a.1 b),
  sorted_append lo mid hi xs ys a.2 b s.1 r,
)

leaf_within : (lo hi k pr rk : ℕ) → lo ≤ k → k < hi → Within lo hi (leaf_fares k pr rk)
unfolding leaf_fares
leaf_within lo hi k pr rk a b = if_elim (Within lo hi) _ (λ e. tt) (λ e. (a, b, tt))

leaf_sorted : (k pr rk : ℕ) → Sorted (leaf_fares k pr rk)
unfolding leaf_fares
leaf_sorted k pr rk = if_elim Sorted _ (λ e. tt) (λ e. (tt, tt))

-- a tree in search order has its fares in order
pub tree_within : (lo hi : ℕ) (t : Tree) → Ordered lo hi t → Within lo hi (fares t)
tree_within lo hi (leaf s k pr rk) o = leaf_within lo hi k pr rk o.0 o.1
tree_within lo hi (node s k rk l r) o =
    let a = ordered_lt lo k l o.0 in
    let b = ordered_lt k hi r o.1 in
    within_append lo hi (fares l) (fares r) (within_wider lo k lo hi (fares l) (omega arith) (omega arith) (tree_within lo k l o.0))
    (within_wider k hi lo hi (fares r) (omega arith) (omega arith) (tree_within k hi r o.1))

pub tree_sorted : (lo hi : ℕ) (t : Tree) → Ordered lo hi t → Sorted (fares t)
tree_sorted lo hi (leaf s k pr rk) o = leaf_sorted k pr rk
tree_sorted lo hi (node s k rk l r) o =
    sorted_append lo k hi (fares l) (fares r) (tree_within lo k l o.0) (tree_within k hi r o.1) (tree_sorted lo k l o.0) (tree_sorted k hi r o.1)

-- ---- one fare put in and taken out, where the longer list is sorted

abbrev fare : ℕ → ℕ → Fare
fare k p = record { number = k; price = p }

above_has : (k : ℕ) (f : Fare) (xs ys : List Fare) → AllAbove k (xs ++ (f ∷ ys)) → k < f.number
above_has k f [] ys h = h.0
above_has k f (x ∷ xs) ys h = above_has k f xs ys h.1

above_less : (k : ℕ) (f : Fare) (xs ys : List Fare) → AllAbove k (xs ++ (f ∷ ys)) → AllAbove k (xs ++ ys)
above_less k f [] ys h = h.1
above_less k f (x ∷ xs) ys h = (h.0, above_less k f xs ys h.1)

added-first : (k p : ℕ) (ys : List Fare) → AllAbove k ys → added k p ys ≡ fare k p ∷ ys
unfolding added
added-first k p [] h = refl
added-first k p (y ∷ ys) h = rw (lt-ltb k y.number h.0, added) refl

added-at : (k p : ℕ) (xs ys : List Fare) → Sorted (xs ++ (fare k p ∷ ys)) → added k p (xs ++ ys) ≡ xs ++ (fare k p ∷ ys)
unfolding added
added-at k p [] ys s = added-first k p ys s.0
added-at k p (x ∷ xs) ys s =
    let h = above_has x.number (fare k p) xs ys s.0 in
    rw (le-ltb k x.number (omega arith), added) (ap (λ r. x ∷ r) (added-at k p xs ys s.1))

removed-at : (k p : ℕ) (xs ys : List Fare) → Sorted (xs ++ (fare k p ∷ ys)) → removed k (xs ++ (fare k p ∷ ys)) ≡ xs ++ ys
unfolding removed
removed-at k p [] ys s = rw (eq-eqb k k refl, removed) refl
removed-at k p (x ∷ xs) ys s =
    let h = above_has x.number (fare k p) xs ys s.0 in
    rw (ne_eqb k x.number (λ e. omega arith), removed) (ap (λ r. x ∷ r) (removed-at k p xs ys s.1))

above_not : (k : ℕ) (ys : List Fare) → AllAbove k ys → Held k ys → ⊥
above_not k (y ∷ ys) a (inl e) = omega (arith, a.0)
above_not k (y ∷ ys) a (inr h) = above_not k ys a.1 h
above_not k [] a h = elim h [ ]

not_held : (k p : ℕ) (xs ys : List Fare) → Sorted (xs ++ (fare k p ∷ ys)) → Held k (xs ++ ys) → ⊥
not_held k p [] ys s h = above_not k ys s.0 h
not_held k p (x ∷ xs) ys s (inl e) = let h = above_has x.number (fare k p) xs ys s.0 in omega arith
not_held k p (x ∷ xs) ys s (inr h) = not_held k p xs ys s.1 h

held-there : (k p : ℕ) (xs ys : List Fare) → Held k (xs ++ (fare k p ∷ ys))
held-there k p [] ys = inl refl
held-there k p (x ∷ xs) ys = inr (held-there k p xs ys)

-- by what is inserted
pub insert_added : (k p : ℕ) (less more : List Fare) → Insert k p less more → Sorted more → (more ≡ added k p less) × (Held k less → ⊥)
insert_added k p less more i s =
    let s' : Sorted (i.xs ++ (fare k p ∷ i.ys)) = subst Sorted i.with_it s in
    (i.with_it ∙ sym (added-at k p i.xs i.ys s') ∙ ap (added k p) (sym i.without), λ h. not_held k p i.xs i.ys s' (subst (Held k) i.without h))

pub insert_removed : (k p : ℕ) (less more : List Fare) → Insert k p less more → Sorted more → (less ≡ removed k more) × Held k more
insert_removed k p less more i s =
    let s' : Sorted (i.xs ++ (fare k p ∷ i.ys)) = subst Sorted i.with_it s in
    (i.without ∙ sym (removed-at k p i.xs i.ys s') ∙ ap (removed k) (sym i.with_it), subst (Held k) (sym i.with_it) (held-there k p i.xs i.ys))
