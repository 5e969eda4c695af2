-- WHAT STANDS IN THE SLOTS: ways of links from the entry, and the search order.
use Rattle.std.specs.Prelude.{◌≤◌, ℕ, Bool, [], ◌∷◌, ◌↔◌, ◌≢◌, ◌≡◌}
use Rattle.grounds.specs.Record.{WellFormed}
use Rattle.grounds.specs.Ways.{Goes, Way}
use Rattle.history.specs.Ledger.{Point}
use Rattle.machine.specs.Table.{View, slots, view}
use Rattle.trees.specs.Order.{Side}

-- what each slot of the table reads as
abbrev pub view_of : Point → View
view_of p = view (slots p.table) p.table

pub record Built (n : ℕ) (v : View) : Type 0 where
  -- "1 in the tree": a slot is in state 1 exactly where a way of links leads to it from the entry
  pub in_tree : (x : ℕ) → ((v x).state ≡ 1) ↔ ((w : Way) × Goes v 0 w x)
  -- each is reached once: no two ways lead to it
  pub once : (w u : Way) (x : ℕ) → Goes v 0 w x → Goes v 0 u x → w ≡ u
  -- "slot 0 is the entry and is nobody's child": no way comes back to it
  pub no_ones_child : (side : Bool) (w : Way) → ¬ (Goes v 0 (side ∷ w) 0)
  -- search order: the numbers below the left link of a record are smaller than its own, those below its right link are not. The entry holds all on its left
  pub order : (w u : Way) (side : Bool) (x y : ℕ) → Goes v 0 w x → x ≢ 0 → Goes v x (side ∷ u) y → Side side (v y).number (v x).number
  -- each record is well formed: its number is a fare's or the sentinels', which stands above all of these
  pub formed : (w : Way) (x : ℕ) → Goes v 0 w x → WellFormed n x (v x)
  -- no record outranks its parent
  pub ranks : (w : Way) (side : Bool) (x y : ℕ) → Goes v 0 w x → Goes v x (side ∷ []) y → (v y).rank ≤ (v x).rank
