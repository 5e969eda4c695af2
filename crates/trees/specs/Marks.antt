-- The labels of well-formed records: sentinel marks together or not at all.
use Rattle.std.specs.Prelude.{◌<◌, ◌≤◌, ℕ, ◌⊎◌, ◌≡◌}
use Rattle.machine.specs.Record.{top_number}
use Rattle.trees.specs.Tree.{Ctx, Tree, hole, leaf, node, top}

abbrev pub LeafMarks : ℕ → ℕ → ℕ → Type 0
LeafMarks k pr rk = ((k ≡ top_number) × (pr ≡ 0) × (rk ≡ 255)) ⊎ ((k < 1000000) × (pr < 100000) × (rk ≡ 0))

abbrev pub NodeMarks : ℕ → ℕ → Type 0
NodeMarks k rk = ((k ≡ top_number) × (rk ≡ 255)) ⊎ ((k < 1000000) × (1 ≤ rk) × (rk ≤ 28))

abbrev pub Marked : Tree → Type 0
Marked (leaf s k pr rk) = LeafMarks k pr rk
Marked (node s k rk l r) = NodeMarks k rk × Marked l × Marked r

abbrev pub MarkedC : Ctx → Type 0
MarkedC top = Unit {0}
MarkedC (hole b s k rk u c) = NodeMarks k rk × Marked u × MarkedC c
