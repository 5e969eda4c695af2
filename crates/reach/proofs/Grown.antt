-- The tree that the definition reaches is the one that hangs there.
use mathlib.Core.Path.{◌≡◌, refl, ap}
use mathlib.Core.Bool.{Bool, true, false}
use mathlib.Core.List.{List}
use Prim.Native.Nat.{ℕ, zero, suc}
use lib.ListN.{set, replicate}
use Rattle.terms.specs.declared.Rec.{Rec}
use Rattle.machine.specs.Record.{is_leaf}
use Rattle.machine.specs.Table.{View}
use Rattle.machine.specs.Reach.{Tree, node, Reached, hurt, reached, join_left, join_right, reachable, reach_from, reach}
use Rattle.machine.proofs.Choice.{if_elim}
use Rattle.machine.proofs.Reach.{reach-hurt, reach-leaf, reach-inner}
use Rattle.reach.specs.Tree.{tree_from}
use Rattle.reach.proofs.Lines.{gas-leaf, gas-inner}

-- what is reached, if anything, is tree w
abbrev pub Grown : Tree → Reached → Type 0
Grown w hurt = Unit {0}
Grown w (reached u k) = u ≡ w

grown-right : (s : ℕ) (r : Rec) (a b : Tree) (y : Reached) → Grown b y → Grown (node s r a b) (join_right s r a y)
grown-right s r a b hurt e = tt
grown-right s r a b (reached u k) e = ap (node s r a) e

grown-left : (s : ℕ) (r : Rec) (a b : Tree) (x : Reached) (f : List ℕ → Reached) → Grown a x → ((m : List ℕ) → Grown b (f m)) → Grown (node s r a b) (join_left s r x f)
grown-left s r a b hurt f e h = tt
grown-left s r a b (reached u m) f e h = rw (← e) (grown-right s r u b (f m) (h m))

module _ (n : ℕ) (v : View) where
  -- by the two tests of a slot
  grown-by :
      (c b : Bool) (g : ℕ) (marks : List ℕ) (s : ℕ) → reachable n v marks s ≡ c → is_leaf (v s) ≡ b
      → ((m : List ℕ) (i : ℕ) → Grown (tree_from g v i) (reach_from g n v m i)) → Grown (tree_from (suc g) v s) (reach_from (suc g) n v marks s)
  grown-by false b g marks s ec eb ih = rw (reach-hurt n v marks s ec (suc g)) tt
  grown-by true true g marks s ec eb ih = rw (reach-leaf n v marks s ec eb g, gas-leaf (suc g) v s eb) refl
  grown-by true false g marks s ec eb ih =
      rw (reach-inner n v marks s ec eb g, gas-inner g v s eb)
      (grown-left s (v s) (tree_from g v (v s).left) (tree_from g v (v s).right) (reach_from g n v (set marks s 1) (v s).left)
      (λ m. reach_from g n v m (v s).right) (ih (set marks s 1) (v s).left) (λ m. ih m (v s).right))

  grown : (g : ℕ) (marks : List ℕ) (s : ℕ) → Grown (tree_from g v s) (reach_from g n v marks s)
  unfolding reach_from
  grown zero marks s = tt
  grown (suc g) marks s = grown-by (reachable n v marks s) (is_leaf (v s)) g marks s refl refl (λ m i. grown g m i)

  pub all_grown : Grown (tree_from n v (v 0).left) (reach n v)
  unfolding reach
  all_grown = if_elim (Grown (tree_from n v (v 0).left)) _ (λ e. tt) (λ e. grown n (set (replicate n 0) 0 1) (v 0).left)
