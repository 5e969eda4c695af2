-- A tree whose slots are below n, each once, has at most n records, and is less than n high.
use Prim.Native.Nat.{◌+◌, ◌<◌, ◌≤◌, suc, zero, ℕ}
use mathlib.Core.Logic.{inl, inr}
use mathlib.Core.Path.{◌≡◌, refl, subst}
use native.Mathlib.Omega.{arith}
use Rattle.trees.proofs.Plug.{ind-other, ind-same}
use Rattle.trees.specs.Count.{size, sum_to}
use Rattle.trees.specs.Rank.{height}
use Rattle.trees.specs.Tree.{Tree, ind, leaf, node, occ}
use Rattle.views.proofs.Law.{in_or_out}

pub sum_add : (n : ℕ) (f g : ℕ → ℕ) → sum_to n (λ s. f s + g s) ≡ sum_to n f + sum_to n g
unfolding sum_to
sum_add zero f g = refl
sum_add (suc n) f g = omega (arith, sum_add n f g)

pub sum_le : (n : ℕ) (f : ℕ → ℕ) → ((s : ℕ) → f s ≤ 1) → sum_to n f ≤ n
unfolding sum_to
sum_le zero f h = omega arith
sum_le (suc n) f h = omega (arith, sum_le n f h, h n)

-- an indicator's sum
pub sum_none : (n x : ℕ) → n ≤ x → sum_to n (λ s. ind s x) ≡ 0
unfolding sum_to
sum_none zero x h = refl
sum_none (suc n) x h = omega (arith, sum_none n x (omega arith), ind-other n x (omega arith))

pub sum_one : (n x : ℕ) → x < n → sum_to n (λ s. ind s x) ≡ 1
unfolding sum_to
sum_one zero x h = absurd (omega arith)
sum_one (suc n) x h =
    elim (in_or_out x n) [
      | inl q ↦ omega (arith, sum_one n x q, ind-other n x (omega arith))
      | inr q ↦ (let e : n ≡ x = omega arith in omega (arith, sum_none n x (omega arith), subst (λ y. ind n y ≡ 1) e (ind-same n)))
    ]

pub size-sum : (n : ℕ) (t : Tree) → ((x : ℕ) → 0 < occ x t → x < n) → sum_to n (λ s. occ s t) ≡ size t
size-sum n (leaf s k pr rk) h = sum_one n s (h s (omega (arith, ind-same s)))
size-sum n (node s k rk l r) h =
    omega (
      arith,
      sum_add n (λ x. ind x s + occ x l) (λ x. occ x r),
      sum_add n (λ x. ind x s) (λ x. occ x l),
      sum_one n s (h s (omega (arith, ind-same s))),
      size-sum n l (λ x p. h x (omega arith)),
      size-sum n r (λ x p. h x (omega arith)),
    )

height-size : (t : Tree) → height t < size t
height-size (leaf s k pr rk) = omega arith
height-size (node s k rk l r) = omega (arith, height-size l, height-size r)

pub height-below : (n : ℕ) (t : Tree) → ((x : ℕ) → 0 < occ x t → x < n) → ((x : ℕ) → occ x t ≤ 1) → height t < n
height-below n t h once = omega (arith, height-size t, size-sum n t h, sum_le n (λ s. occ s t) once)
