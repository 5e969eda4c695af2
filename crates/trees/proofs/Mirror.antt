-- Sides: what holds of both mirror forms, said once.
use Prim.Native.Nat.{◌+◌, ◌≤◌, ℕ}
use mathlib.Core.Bool.{Bool, false, not, true}
use mathlib.Core.Logic.{◌⊎◌, inl, inr}
use mathlib.Core.Path.{◌≡◌, refl}
use native.Mathlib.Omega.{arith}
use Rattle.trees.specs.Order.{Side}
use Rattle.trees.specs.Tree.{Tree, ind, join, occ}
use Rattle.views.proofs.Law.{in_or_out}

-- what holds of a node holds of it by sides
pub occ-join : (b : Bool) (q s k rk : ℕ) (t u : Tree) → occ q (join b s k rk t u) ≡ ind q s + occ q t + occ q u
occ-join true q s k rk t u = refl
occ-join false q s k rk t u = omega arith

pub side-or : (b : Bool) (k key : ℕ) → Side b k key ⊎ Side (not b) k key
side-or true k key = in_or_out k key
side-or false k key = elim (in_or_out k key) [ inl h ↦ inr h | inr h ↦ inl h ]

-- kx stands on side b of kz
abbrev pub Toward : Bool → ℕ → ℕ → Type 0
Toward true kx kz = kx ≤ kz
Toward false kx kz = kz ≤ kx

pub near_near : (b : Bool) (k kx kz : ℕ) → Toward b kx kz → Side b k kx → Side b k kz
near_near true k kx kz o h = omega arith
near_near false k kx kz o h = omega arith

pub far_far : (b : Bool) (k kx kz : ℕ) → Toward b kx kz → Side (not b) k kz → Side (not b) k kx
far_far true k kx kz o h = omega arith
far_far false k kx kz o h = omega arith
