-- The fares of a tree, from the leftmost leaf to the rightmost.
use Rattle.std.specs.Prelude.{ℕ, eqb, false, true, List, [], ◌++◌, ◌∷◌, ◌≡◌}
use Rattle.history.specs.Ledger.{Fare}
use Rattle.machine.specs.Choice.{if_b}
use Rattle.trees.specs.Tree.{Ctx, Tree, hole, leaf, node, top}

-- a leaf that is no sentinel
unfoldable pub leaf_fares : ℕ → ℕ → ℕ → List Fare
leaf_fares k pr rk = if_b (eqb rk 255) [] (record { number = k; price = pr } ∷ [])

abbrev pub fares : Tree → List Fare
fares (leaf s k pr rk) = leaf_fares k pr rk
fares (node s k rk l r) = fares l ++ fares r

-- the fares before and behind a hole
abbrev pub front : Ctx → List Fare
front top = []
front (hole true s k rk u c) = front c
front (hole false s k rk u c) = front c ++ fares u

abbrev pub back : Ctx → List Fare
back top = []
back (hole true s k rk u c) = fares u ++ back c
back (hole false s k rk u c) = back c

-- one fare more: `more` is `less` with a fare of number k and price p in one place
pub record Insert (k p : ℕ) (less more : List Fare) : Type 0 where
  pub xs : List Fare
  pub ys : List Fare
  pub without : less ≡ xs ++ ys
  pub with_it : more ≡ xs ++ (record { number = k; price = p } ∷ ys)
