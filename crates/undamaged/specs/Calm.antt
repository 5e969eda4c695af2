-- A level record of rank 2 or more has no level child: so some row of the settling table always fits.
use Rattle.std.specs.Prelude.{◌≤◌, ℕ, true, ◌≡◌}
use Rattle.routes.specs.Route.{lv, rank_c}
use Rattle.trees.specs.Rank.{rank}
use Rattle.trees.specs.Tree.{Ctx, Tree, hole, leaf, node, top}

-- a record of rank rk under one of rank q, with children of ranks x and y
abbrev pub NoTwo : ℕ → ℕ → ℕ → ℕ → Type 0
NoTwo q rk x y = lv q rk ≡ true → 2 ≤ rk → (lv rk x ≡ true → ⊥) × (lv rk y ≡ true → ⊥)

-- a tree that hangs under a record of rank q
abbrev pub Calm : ℕ → Tree → Type 0
Calm q (leaf s k pr rk) = Unit {0}
Calm q (node s k rk l r) = NoTwo q rk (rank l) (rank r) × Calm rk l × Calm rk r

-- the surroundings, where a tree of rank q stands in the hole
abbrev pub CalmC : ℕ → Ctx → Type 0
CalmC q top = Unit {0}
CalmC q (hole b s k rk u c) = NoTwo (rank_c c) rk q (rank u) × Calm rk u × CalmC rk c
