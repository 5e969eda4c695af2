-- The order at one place of the tree.
use Prim.Native.Nat.{◌<◌, ◌≤◌, ℕ}
use mathlib.Core.Bool.{false, true}
use native.Mathlib.Omega.{arith}
use Rattle.trees.specs.Order.{ALL, Goes, Ordered, OrderedC, high, low}
use Rattle.trees.specs.Tree.{Ctx, Tree, hole, leaf, node, plug, top}

pub ordered_apart : (c : Ctx) (t : Tree) → Ordered 0 ALL (plug c t) → OrderedC c × Ordered (low c) (high c) t
ordered_apart top t o = (tt, o)
ordered_apart (hole true s k rk u c) t o = let g = ordered_apart c (node s k rk t u) o in ((g.1.1, g.0), g.1.0)
ordered_apart (hole false s k rk u c) t o = let g = ordered_apart c (node s k rk u t) o in ((g.1.0, g.0), g.1.1)

pub ordered_together : (c : Ctx) (t : Tree) → OrderedC c → Ordered (low c) (high c) t → Ordered 0 ALL (plug c t)
ordered_together top t g o = o
ordered_together (hole true s k rk u c) t g o = ordered_together c (node s k rk t u) g.1 (o, g.0)
ordered_together (hole false s k rk u c) t g o = ordered_together c (node s k rk u t) g.1 (g.0, o)

pub goes-within : (k : ℕ) (c : Ctx) → k < ALL → Goes k c → (low c ≤ k) × (k < high c)
goes-within k top h g = (omega arith, h)
goes-within k (hole true s key rk u c) h g = ((goes-within k c h g.1).0, g.0)
goes-within k (hole false s key rk u c) h g = (g.0, (goes-within k c h g.1).1)

pub ordered_lt : (lo hi : ℕ) (t : Tree) → Ordered lo hi t → lo < hi
ordered_lt lo hi (leaf s k pr rk) o = omega arith
ordered_lt lo hi (node s k rk l r) o = omega (arith, ordered_lt lo k l o.0, ordered_lt k hi r o.1)
