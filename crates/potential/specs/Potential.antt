-- The potential of a tree, by ranks and Fibonacci numbers.
use Rattle.std.specs.Prelude.{◌+◌, ◌-◌, suc, zero, ℕ, eqb}
use Rattle.machine.specs.Allowed.{fib}
use Rattle.machine.specs.Choice.{if_b}
use Rattle.trees.specs.Rank.{rank}
use Rattle.trees.specs.Tree.{Ctx, Tree, hole, leaf, node, top}

-- what a record of rank k owes, by how far its children are below it
abbrev pub weight : ℕ → ℕ → ℕ → ℕ
weight k zero zero = fib (suc (suc (suc k)))
weight k zero (suc zero) = fib (suc (suc k))
weight k zero (suc (suc e)) = fib (suc k)
weight k (suc zero) zero = fib (suc (suc k))
weight k (suc zero) (suc zero) = fib k
weight k (suc zero) (suc (suc e)) = 0
weight k (suc (suc d)) zero = fib (suc k)
weight k (suc (suc d)) (suc zero) = 0
weight k (suc (suc d)) (suc (suc e)) = 0

-- the root record, of rank q, hangs under a sentinel, which owes Fibonacci number q + 3 for it, and nothing for another sentinel
unfoldable pub root_share : ℕ → ℕ
root_share q = if_b (eqb q 255) 0 (fib (suc (suc (suc q))))

-- a record of rank rk whose children have ranks q and p
unfoldable pub owes : ℕ → ℕ → ℕ → ℕ
owes rk q p = if_b (eqb rk 255) (root_share q + root_share p) (weight rk (rk - q) (rk - p))

abbrev pub phi : Tree → ℕ
phi (leaf s k pr rk) = 0
phi (node s k rk l r) = owes rk (rank l) (rank r) + phi l + phi r

-- the surroundings, where a tree of rank q stands in the hole
abbrev pub phi_c : ℕ → Ctx → ℕ
phi_c q top = 0
phi_c q (hole b s k rk u c) = owes rk q (rank u) + phi u + phi_c rk c
