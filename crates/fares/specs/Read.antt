-- The tree that figures, list and tidy reach, of a tree with its labels.
use Rattle.machine.specs.PutIn.{inner_of}
use Rattle.machine.specs.Reach.{Tree as Reachable, leaf as reached-leaf, node as reached-node}
use Rattle.trees.specs.Tree.{Tree, leaf, node, leaf_rec, root}

abbrev pub read : Tree → Reachable
read (leaf s k pr rk) = reached-leaf s (leaf_rec k pr rk)
read (node s k rk l r) = reached-node s (inner_of k rk (root l) (root r)) (read l) (read r)
