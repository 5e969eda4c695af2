-- The trees before and after each commit, by sides, with their slots and level records counted once.
use Prim.Native.Nat.{◌+◌, ◌≤◌, ℕ}
use mathlib.Core.Bool.{Bool, false, true}
use mathlib.Core.Path.{◌≡◌, refl}
use native.Mathlib.Omega.{arith}
use Rattle.routes.proofs.Level.{lev_at-join, lev_at-root, lvs-le}
use Rattle.routes.specs.Route.{lev_at, lvs}
use Rattle.trees.proofs.Mirror.{occ-join}
use Rattle.trees.proofs.Plug.{ind-other}
use Rattle.trees.specs.Rank.{rank}
use Rattle.trees.specs.Tree.{Tree, ind, join, leaf, node, occ, root}

-- x below z on side b: W and Y below x, S beside x; and turned, x on top
abbrev pub lean : Bool → (z x kx kz rz rx : ℕ) → (W Y S : Tree) → Tree
lean b z x kx kz rz rx W Y S = join b z kz rz (join b x kx rx W Y) S

abbrev pub turn : Bool → (x z kx kz rx rz : ℕ) → (W Y S : Tree) → Tree
turn b x z kx kz rx rz W Y S = join b x kx rx W (join b z kz rz Y S)

-- the same with y, between x and z, below x; and flat, y on top
abbrev pub deep : Bool → (z x y kx ky kz rz rx ry : ℕ) → (W A B S : Tree) → Tree
deep b z x y kx ky kz rz rx ry W A B S = join b z kz rz (join b x kx rx W (join b y ky ry A B)) S

abbrev pub flat : Bool → (y x z kx ky kz ry rx rz : ℕ) → (W A B S : Tree) → Tree
flat b y x z kx ky kz ry rx rz W A B S = join b y ky ry (join b x kx rx W A) (join b z kz rz B S)

-- the same tree with another slot at its top
abbrev pub renew : ℕ → Tree → Tree
renew s' (leaf s k pr rk) = leaf s' k pr rk
renew s' (node s k rk l r) = node s' k rk l r

-- ---- slots

pub occ-lean : (b : Bool) (s z x kx kz rz rx : ℕ) (W Y S : Tree) → occ s (lean b z x kx kz rz rx W Y S) ≡ ind s z + ind s x + occ s W + occ s Y + occ s S
occ-lean b s z x kx kz rz rx W Y S = omega (arith, occ-join b s z kz rz (join b x kx rx W Y) S, occ-join b s x kx rx W Y)

pub occ-turn : (b : Bool) (s x z kx kz rx rz : ℕ) (W Y S : Tree) → occ s (turn b x z kx kz rx rz W Y S) ≡ ind s x + ind s z + occ s W + occ s Y + occ s S
occ-turn b s x z kx kz rx rz W Y S = omega (arith, occ-join b s x kx rx W (join b z kz rz Y S), occ-join b s z kz rz Y S)

pub occ-deep : (b : Bool) (s z x y kx ky kz rz rx ry : ℕ) (W A B S : Tree) → occ s (deep b z x y kx ky kz rz rx ry W A B S) ≡ ind s z + ind s x + ind s y + occ s W + occ s A + occ s B + occ s S
occ-deep b s z x y kx ky kz rz rx ry W A B S = omega (arith, occ-join b s z kz rz (join b x kx rx W (join b y ky ry A B)) S, occ-join b s x kx rx W (join b y ky ry A B), occ-join b s y ky ry A B)

pub occ-flat : (b : Bool) (s y x z kx ky kz ry rx rz : ℕ) (W A B S : Tree) → occ s (flat b y x z kx ky kz ry rx rz W A B S) ≡ ind s y + ind s x + ind s z + occ s W + occ s A + occ s B + occ s S
occ-flat b s y x z kx ky kz ry rx rz W A B S = omega (arith, occ-join b s y ky ry (join b x kx rx W A) (join b z kz rz B S), occ-join b s x kx rx W A, occ-join b s z kz rz B S)

pub occ-renew : (s' : ℕ) (S : Tree) (x : ℕ) → occ x (renew s' S) + ind x (root S) ≡ occ x S + ind x s'
occ-renew s' (leaf s k pr rk) x = omega arith
occ-renew s' (node s k rk l r) x = omega arith

pub occ-root : (t : Tree) (s : ℕ) → ind s (root t) ≤ occ s t
occ-root (leaf a k pr rk) s = omega arith
occ-root (node a k rk x y) s = omega arith

-- ---- level records

pub lev-lean : (b : Bool) (q s z x kx kz rz rx : ℕ) (W Y S : Tree)
    → lev_at q s (lean b z x kx kz rz rx W Y S) ≡ lvs q rz (ind s z) + lvs rz rx (ind s x) + lev_at rx s W + lev_at rx s Y + lev_at rz s S
lev-lean b q s z x kx kz rz rx W Y S = omega (arith, lev_at-join b q s z kz rz (join b x kx rx W Y) S, lev_at-join b rz s x kx rx W Y)

pub lev-turn : (b : Bool) (q s x z kx kz rx rz : ℕ) (W Y S : Tree)
    → lev_at q s (turn b x z kx kz rx rz W Y S) ≡ lvs q rx (ind s x) + lvs rx rz (ind s z) + lev_at rx s W + lev_at rz s Y + lev_at rz s S
lev-turn b q s x z kx kz rx rz W Y S = omega (arith, lev_at-join b q s x kx rx W (join b z kz rz Y S), lev_at-join b rx s z kz rz Y S)

pub lev-deep : (b : Bool) (q s z x y kx ky kz rz rx ry : ℕ) (W A B S : Tree)
    → lev_at q s (deep b z x y kx ky kz rz rx ry W A B S) ≡ lvs q rz (ind s z) + lvs rz rx (ind s x) + lvs rx ry (ind s y) + lev_at rx s W + lev_at ry s A + lev_at ry s B + lev_at rz s S
lev-deep b q s z x y kx ky kz rz rx ry W A B S =
    omega (arith, lev_at-join b q s z kz rz (join b x kx rx W (join b y ky ry A B)) S, lev_at-join b rz s x kx rx W (join b y ky ry A B), lev_at-join b rx s y ky ry A B)

pub lev-flat : (b : Bool) (q s y x z kx ky kz ry rx rz : ℕ) (W A B S : Tree)
    → lev_at q s (flat b y x z kx ky kz ry rx rz W A B S) ≡ lvs q ry (ind s y) + lvs ry rx (ind s x) + lvs ry rz (ind s z) + lev_at rx s W + lev_at rx s A + lev_at rz s B + lev_at rz s S
lev-flat b q s y x z kx ky kz ry rx rz W A B S = omega (arith, lev_at-join b q s y ky ry (join b x kx rx W A) (join b z kz rz B S), lev_at-join b ry s x kx rx W A, lev_at-join b ry s z kz rz B S)

pub lev-renew : (q q' b s' : ℕ) (t : Tree) → (b ≡ s' → ⊥) → lev_at q b (renew s' t) ≤ lev_at q' b t
lev-renew q q' b s' (leaf s k pr rk) d = omega (arith, lvs-le q rk (ind b s'), ind-other b s' d)
lev-renew q q' b s' (node s k rk l r) d = omega (arith, lvs-le q rk (ind b s'), ind-other b s' d)

pub lev-renew_top : (q s' : ℕ) (t : Tree) → occ s' (renew s' t) ≤ 1 → lev_at q s' (renew s' t) ≡ lvs q (rank t) 1
lev-renew_top q s' (leaf s k pr rk) h = lev_at-root q (leaf s' k pr rk) h
lev-renew_top q s' (node s k rk l r) h = lev_at-root q (node s' k rk l r) h

-- ---- tops

pub root-join : (b : Bool) (s k rk : ℕ) (t u : Tree) → root (join b s k rk t u) ≡ s
root-join true s k rk t u = refl
root-join false s k rk t u = refl

pub rank-join : (b : Bool) (s k rk : ℕ) (t u : Tree) → rank (join b s k rk t u) ≡ rk
rank-join true s k rk t u = refl
rank-join false s k rk t u = refl

pub root-renew : (s' : ℕ) (S : Tree) → root (renew s' S) ≡ s'
root-renew s' (leaf s k pr rk) = refl
root-renew s' (node s k rk l r) = refl
