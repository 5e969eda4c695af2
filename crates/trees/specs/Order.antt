-- The search order.
use Rattle.std.specs.Prelude.{◌<◌, ◌≤◌, ℕ, Bool, false, true}
use Rattle.trees.specs.Tree.{Ctx, Tree, hole, leaf, node, top}

-- a search for k goes on side b at a number
abbrev pub Side : Bool → ℕ → ℕ → Type 0
Side true k key = k < key
Side false k key = key ≤ k

-- it leads into the hole
abbrev pub Goes : ℕ → Ctx → Type 0
Goes k top = Unit {0}
Goes k (hole b s key rk u c) = Side b k key × Goes k c

-- the numbers of the leaves are at least lo and below hi, in search order
abbrev pub Ordered : ℕ → ℕ → Tree → Type 0
Ordered lo hi (leaf s k pr rk) = (lo ≤ k) × (k < hi)
Ordered lo hi (node s k rk l r) = Ordered lo k l × Ordered k hi r

-- all 32-bit numbers
abbrev pub ALL : ℕ
ALL = 4294967296

-- the bounds at the hole
abbrev pub low : Ctx → ℕ
low top = 0
low (hole true s k rk u c) = low c
low (hole false s k rk u c) = k

abbrev pub high : Ctx → ℕ
high top = ALL
high (hole true s k rk u c) = k
high (hole false s k rk u c) = high c

abbrev pub OrderedC : Ctx → Type 0
OrderedC top = Unit {0}
OrderedC (hole true s k rk u c) = Ordered k (high c) u × OrderedC c
OrderedC (hole false s k rk u c) = Ordered (low c) k u × OrderedC c
