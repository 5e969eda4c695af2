-- What a slot reaches, a row of the definition at a time.
use mathlib.Core.Path.{◌≡◌, refl}
use mathlib.Core.Bool.{true, false, ◌&&◌}
use mathlib.Core.List.{List}
use Prim.Native.Nat.{ℕ, zero, suc, ◌<◌}
use lib.Dec.{eqb}
use lib.ListN.{get_or, set}
use borrow.Author.Tests.{eqb-true}
use Rattle.machine.specs.Record.{is_leaf, linked, in_tree}
use Rattle.machine.specs.Table.{View, view}
use Rattle.machine.specs.Reach.{hurt, reached, leaf, join_left, reachable, reach_from}
use Rattle.machine.proofs.Tests.{both_first, both-second, linked-in}

module _ (n : ℕ) (v : View) (marks : List ℕ) (s : ℕ) where
  pub reach-hurt : reachable n v marks s ≡ false → (g : ℕ) → reach_from g n v marks s ≡ hurt
  unfolding reach_from
  reach-hurt e zero = refl
  reach-hurt e (suc g) = simp (reach_from, e)

  pub reach-leaf : reachable n v marks s ≡ true → is_leaf (v s) ≡ true → (g : ℕ) → reach_from (suc g) n v marks s ≡ reached (leaf s (v s)) (set marks s 1)
  unfolding reach_from
  reach-leaf e l g = simp (reach_from, e, l)

  pub reach-inner :
      reachable n v marks s ≡ true → is_leaf (v s) ≡ false → (g : ℕ)
      → reach_from (suc g) n v marks s ≡ join_left s (v s) (reach_from g n v (set marks s 1) (v s).left) (λ m. reach_from g n v m (v s).right)
  unfolding reach_from
  reach-inner e l g = simp (reach_from, e, l)

  -- what is reached had no mark
  pub reach-unmarked : reachable n v marks s ≡ true → get_or marks s 0 ≡ 0
  unfolding reachable
  reach-unmarked e =
      eqb-true _ _ (both-second (in_tree (v s)) (eqb (get_or marks s 0) 0) (both-second (linked n s (v s)) (in_tree (v s) && eqb (get_or marks s 0) 0) e))

-- and is in the table
pub reach-in : (n : ℕ) (t marks : List ℕ) (s : ℕ) → reachable n (view n t) marks s ≡ true → s < n
unfolding reachable
reach-in n t marks s e = linked-in n t s (both_first (linked n s (view n t s)) (in_tree (view n t s) && eqb (get_or marks s 0) 0) e)
