-- The tree that hangs on a slot, read off the view alone, and how many records it has.
use Rattle.std.specs.Prelude.{ℕ, zero, suc, ◌+◌, true, false}
use Rattle.machine.specs.Record.{is_leaf}
use Rattle.machine.specs.Table.{View}
use Rattle.machine.specs.Reach.{Tree, leaf, node}

abbrev pub size : Tree → ℕ
size (leaf s r) = 1
size (node s r a b) = suc (size a + size b)

-- gas: no way down is longer. Where it does not last, the record stands alone
unfoldable pub tree_from : ℕ → View → ℕ → Tree
tree_from zero v s = leaf s (v s)
tree_from (suc g) v s =
    elim (is_leaf (v s)) [ true ↦ leaf s (v s) | false ↦ node s (v s) (tree_from g v (v s).left) (tree_from g v (v s).right) ]
