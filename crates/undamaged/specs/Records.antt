-- What holds of every record in use, in the tree or taken off.
use Rattle.std.specs.Prelude.{◌<◌, ◌≤◌, ℕ, Bool, true, ◌⊎◌, ◌≡◌}
use Rattle.machine.specs.Record.{well_formed}
use Rattle.machine.specs.Table.{View}
use Rattle.routes.specs.Route.{lev_at, lv}
use Rattle.trees.specs.Tree.{Tree}
use Rattle.views.specs.Update.{link}

abbrev pub Used : View → ℕ → Type 0
Used v s = (v s).state ≡ 0 → ⊥

-- a record in the tree is not level with its parent
abbrev pub NotLevel : View → Tree → ℕ → Type 0
NotLevel v t s = (v s).state ≡ 1 → lev_at 255 s t ≡ 0

-- each link of slot a leads to a record in use that does not outrank it; if the two are not level, no other parent makes it level
abbrev pub Down : View → Tree → ℕ → Type 0
Down v t a = (b : Bool) → (link b (v a) ≡ 0 → ⊥)
    → Used v (link b (v a)) × ((v (link b (v a))).rank ≤ (v a).rank) × ((lv (v a).rank (v (link b (v a))).rank ≡ true → ⊥) → NotLevel v t (link b (v a)))

-- the records that were taken off; no slot has another state than 0, 1 and 2
pub record Old (n : ℕ) (v : View) (t : Tree) : Type 0 where
  pub states : (a : ℕ) → ((v a).state ≡ 0) ⊎ (((v a).state ≡ 1) ⊎ ((v a).state ≡ 2))
  pub inside : (a : ℕ) → (v a).state ≡ 2 → a < n
  pub formed : (a : ℕ) → (v a).state ≡ 2 → well_formed n a (v a) ≡ true
  pub down : (a : ℕ) → (v a).state ≡ 2 → Down v t a
