-- EVERY LEVEL RECORD HAS AN OWNER: a settling task, each owns one at most, or one of u nameless ones.
use Rattle.std.specs.Prelude.{◌<◌, ◌≤◌, ℕ, eqb, length, List, ◌⊎◌, ◌≡◌}
use Rattle.machine.specs.Choice.{if_b}
use Rattle.machine.specs.Record.{top_number}
use Rattle.machine.specs.Table.{View}
use Rattle.routes.proofs.Level.{times}
use Rattle.routes.specs.Route.{Has, Meets, Route, full, lev_at, route}
use Rattle.trees.proofs.Held.{Carries}
use Rattle.trees.specs.Count.{sum_to}
use Rattle.trees.specs.Tree.{Tree}

-- what matters of a settling task: its number, and where it walks or that it reads
pub data Where : Type 0 where
  walking : (h : ℕ) → Where
  reads : Where

pub data Role : Type 0 where
  other : Role
  settler : (k : ℕ) → Where → Role

abbrev pub is_settler : Role → ℕ
is_settler other = 0
is_settler (settler k p) = 1

-- a walking task meets its record; a reading task needs nothing: it does not end with 3
abbrev pub Needs : View → Route → ℕ → ℕ → Where → Type 0
Needs v L k b (walking h) = Meets v L k b h
Needs v L k b reads = Unit {0}

-- the token b of a settling task: none (slot 0), or a level record on its number's route
abbrev pub Owns : View → Tree → ℕ → Where → ℕ → Type 0
Owns v t k p b = (b ≡ 0) ⊎ ((1 ≤ lev_at 255 b t) × Has b (route k t) × Needs v (full k t) k b p)

abbrev pub Owner : View → Tree → Role → ℕ → Type 0
Owner v t other b = Unit {0}
Owner v t (settler k p) b = (k < top_number) × Owns v t k p b

-- n tasks and u nameless owners cover all level records
pub record Owners (n : ℕ) (v : View) (t : Tree) (u : ℕ) (T : ℕ → Role) : Type 0 where
  pub inv : Carries v t
  pub tok : ℕ → ℕ
  pub loose : List ℕ
  pub few : length loose ≤ u
  pub owner : (j : ℕ) → Owner v t (T j) (tok j)
  pub cover : (b : ℕ) → 1 ≤ lev_at 255 b t → (1 ≤ times b loose) ⊎ ((j : ℕ) × (j < n) × (is_settler (T j) ≡ 1) × (tok j ≡ b))

unfoldable pub settlers : ℕ → (ℕ → Role) → ℕ
settlers n T = sum_to n (λ j. is_settler (T j))

-- one role changed
unfoldable pub cast {ℓ} : {A : Type ℓ} → (ℕ → A) → ℕ → A → ℕ → A
cast f i y j = if_b (eqb j i) y (f j)
