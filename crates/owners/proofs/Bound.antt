-- A walking step meets on, a leaf meets nothing; and THE BOUND: no more level records than u and the settling tasks together.
use Prim.Native.Nat.{◌+◌, ◌<◌, ◌≤◌, suc, zero, ℕ}
use lib.ListN.{length}
use mathlib.Core.Bool.{true}
use mathlib.Core.List.{List, ◌∷◌}
use mathlib.Core.Logic.{inl, inr}
use mathlib.Core.Path.{◌∙◌, ◌≡◌, ap, subst, sym}
use native.Mathlib.Omega.{arith}
use Rattle.machine.specs.Table.{View}
use Rattle.owners.specs.Owners.{Owners, Role, is_settler, other, settler, settlers}
use Rattle.routes.proofs.Kept.{Follows}
use Rattle.routes.proofs.Level.{covered_le, times}
use Rattle.routes.proofs.Surgery.{at_most}
use Rattle.routes.specs.Route.{Below, Meets, Route, gone, lev, lv, next, pair, stop, tree, via}
use Rattle.trees.proofs.Plug.{ind-cases, ind-eq}
use Rattle.trees.specs.Count.{sum_to}
use Rattle.trees.specs.Tree.{Tree, leaf, node, occ}
use Rattle.views.proofs.Law.{in_or_out, same_or}

-- ---- a walking step

module _ (v : View) (k b : ℕ) where
  -- one link further, where the pair is not level
  next-below : (l : Route) → Follows v k l → (a : ℕ) → (lv (v a).rank (v (next v k a)).rank ≡ true → ⊥) → Below a b l → Below (next v k a) b l
  next-below (via s rk l) w a n (inr h) = inr (next-below l w.4 a n h)
  next-below (via s rk stop) w a n (inl h) = absurd h.1
  next-below (via s rk (via s' rk' l)) w a n (inl h) = elim h.1 [ inl q ↦ absurd (n (rw (h.0, w.2, w.1, w.4.1) q.1)) | inr g ↦ inr (inl (ap (next v k) h.0 ∙ w.2, g)) ]
  next-below stop w a n h = elim h [ ]

  pub meets_next : (L : Route) → Follows v k L → (a : ℕ) → (lv (v a).rank (v (next v k a)).rank ≡ true → ⊥) → Meets v L k b a → Meets v L k b (next v k a)
  meets_next L w a n (tree h) = tree (next-below L w a n h)
  meets_next L w a n (pair e nz used p) = absurd (n p)
  meets_next L w a n (gone e nz m) = m

  -- a leaf meets nothing
  leaf_below_lem : (l : Route) → Follows v k l → (a : ℕ) → next v k a ≡ 0 → Below a b l → ⊥
  leaf_below_lem (via s rk l) w a z (inr h) = leaf_below_lem l w.4 a z h
  leaf_below_lem (via s rk stop) w a z (inl h) = h.1
  leaf_below_lem (via s rk (via s' rk' l)) w a z (inl h) = w.3 (sym (ap (next v k) h.0 ∙ w.2) ∙ z)
  leaf_below_lem stop w a z h = elim h [ ]

  pub meets_leaf : (L : Route) → Follows v k L → (a : ℕ) → next v k a ≡ 0 → Meets v L k b a → ⊥
  meets_leaf L w a z (tree h) = leaf_below_lem L w a z h
  meets_leaf L w a z (pair e nz used p) = nz z
  meets_leaf L w a z (gone e nz m) = nz z

-- ---- the bound

abbrev with_tok : Role → ℕ → List ℕ → List ℕ
with_tok other b l = l
with_tok (settler k p) b l = b ∷ l

abbrev toks : ℕ → (ℕ → Role) → (ℕ → ℕ) → List ℕ → List ℕ
toks zero T f l = l
toks (suc n) T f l = with_tok (T n) (f n) (toks n T f l)

with_length : (τ : Role) (b : ℕ) (l : List ℕ) → length (with_tok τ b l) ≡ is_settler τ + length l
with_length other b l = omega arith
with_length (settler k p) b l = omega arith

with_more : (x : ℕ) (τ : Role) (b : ℕ) (l : List ℕ) → times x l ≤ times x (with_tok τ b l)
with_more x other b l = omega arith
with_more x (settler k p) b l = omega arith

with_own : (x : ℕ) (τ : Role) (b : ℕ) (l : List ℕ) → is_settler τ ≡ 1 → b ≡ x → 1 ≤ times x (with_tok τ b l)
with_own x other b l s e = absurd (omega arith)
with_own x (settler k p) b l s e = omega (arith, ind-eq x b (sym e))

toks-length : (n : ℕ) (T : ℕ → Role) (f : ℕ → ℕ) (l : List ℕ) → length (toks n T f l) ≡ settlers n T + length l
unfolding settlers sum_to
toks-length zero T f l = omega arith
toks-length (suc n) T f l = omega (arith, with_length (T n) (f n) (toks n T f l), toks-length n T f l)

toks-loose : (x n : ℕ) (T : ℕ → Role) (f : ℕ → ℕ) (l : List ℕ) → times x l ≤ times x (toks n T f l)
toks-loose x zero T f l = omega arith
toks-loose x (suc n) T f l = omega (arith, with_more x (T n) (f n) (toks n T f l), toks-loose x n T f l)

toks-own : (x n : ℕ) (T : ℕ → Role) (f : ℕ → ℕ) (l : List ℕ) (j : ℕ) → j < n → is_settler (T j) ≡ 1 → f j ≡ x → 1 ≤ times x (toks n T f l)
toks-own x zero T f l j h s e = absurd (omega arith)
toks-own x (suc n) T f l j h s e =
    elim (same_or j n) [
      | inl q ↦ with_own x (T n) (f n) (toks n T f l) (subst (λ y. is_settler (T y) ≡ 1) q s) (subst (λ y. f y ≡ x) q e)
      | inr q ↦ omega (arith, with_more x (T n) (f n) (toks n T f l), toks-own x n T f l j (below q) s e)
    ]
  where
    below : (j ≡ n → ⊥) → j < n
    below q = omega arith

-- a number above all slots of the tree
abbrev beyond : Tree → ℕ
beyond (leaf s k pr rk) = suc s
beyond (node s k rk l r) = suc s + beyond l + beyond r

beyond-ok : (x : ℕ) (t : Tree) → 0 < occ x t → x < beyond t
beyond-ok x (leaf s k pr rk) h = elim (ind-cases x s) [ inl q ↦ omega (arith, q.0) | inr q ↦ absurd (omega (arith, q.1)) ]
beyond-ok x (node s k rk l r) h =
    elim (ind-cases x s) [
      | inl q ↦ omega (arith, q.0)
      | inr q ↦ (elim (in_or_out 0 (occ x l)) [ inl p ↦ omega (arith, beyond-ok x l p) | inr p ↦ omega (arith, beyond-ok x r (omega (arith, q.1))) ])
    ]

-- THE BOUND: no more level records than u and the settling tasks together
pub owners_le : {n : ℕ} {v : View} {t : Tree} {u : ℕ} {T : ℕ → Role} → Owners n v t u T → lev 255 t ≤ u + settlers n T
owners_le {n} {v} {t} {u} {T} g =
    let l = toks n T g.tok g.loose in
    omega (
      arith,
      toks-length n T g.tok g.loose,
      g.few,
      covered_le (beyond t) t l (λ x. beyond-ok x t) (λ x. at_most v t x g.inv) (λ x h.
          elim (g.cover x h) [
            | inl p ↦ omega (arith, toks-loose x n T g.tok g.loose)
            | inr q ↦ toks-own x n T g.tok g.loose q.0 q.1 q.2 q.3
          ]),
    )
