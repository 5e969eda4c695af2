-- Ranks in a tree: no child outranks its parent.
use Rattle.std.specs.Prelude.{◌≤◌, max, suc, ℕ}
use Rattle.trees.specs.Tree.{Tree, leaf, node}

abbrev pub rank : Tree → ℕ
rank (leaf s k pr rk) = rk
rank (node s k rk l r) = rk

abbrev pub Ranked : Tree → Type 0
Ranked (leaf s k pr rk) = Unit {0}
Ranked (node s k rk l r) = (rank l ≤ rk) × (rank r ≤ rk) × Ranked l × Ranked r

-- links from the top to the farthest leaf
abbrev pub height : Tree → ℕ
height (leaf s k pr rk) = 0
height (node s k rk l r) = suc (max (height l) (height r))
