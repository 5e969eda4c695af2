-- Sums over slots, and the number of records of a tree.
use Rattle.std.specs.Prelude.{◌+◌, suc, zero, ℕ}
use Rattle.trees.specs.Tree.{Tree, leaf, node}

unfoldable pub sum_to : ℕ → (ℕ → ℕ) → ℕ
sum_to zero f = 0
sum_to (suc n) f = sum_to n f + f n

abbrev pub size : Tree → ℕ
size (leaf s k pr rk) = 1
size (node s k rk l r) = 1 + size l + size r
