-- WHAT CALLS CHANGE: a slot is free, then in the tree, then taken off. Only a tidy or a reset frees it.
use Rattle.std.specs.Prelude.{ℕ, Bool, List, [], ◌∷◌, ◌≢◌, ◌⊎◌, ◌≡◌}
use Rattle.grounds.specs.Ways.{link_on}
use Rattle.history.specs.History.{Ask, abandon, begin, figures, left, list, reset, step, tidy}
use Rattle.history.specs.Ledger.{Point, advance}
use Rattle.history.specs.Machine.{real}
use Rattle.machine.specs.Calls.{entry_rec, first_leaf}
use Rattle.machine.specs.Record.{free_rec}
use Rattle.machine.specs.Step.{Left}
use Rattle.machine.specs.Table.{View}
use Rattle.terms.specs.declared.Answer.TheVariants.{Accepted}
use Rattle.terms.specs.declared.Rec.{Rec}
use Rattle.views.specs.Update.{taken_off}

-- "State 0 free (all six are zero), 1 in the tree, 2 taken off."
abbrev pub Stated : Rec → Type 0
Stated r = (r ≡ free_rec) ⊎ ((r.state ≡ 1) ⊎ (r.state ≡ 2))

-- an accepted reset or tidy
abbrev pub FreedBy : Ask → Left → Type 0
FreedBy reset l = l.answer ≡ Accepted
FreedBy (begin i o j) l = ⊥
FreedBy (step i) l = ⊥
FreedBy (abandon i) l = ⊥
FreedBy tidy l = l.answer ≡ Accepted
FreedBy figures l = ⊥
FreedBy (list room) l = ⊥

abbrev pub Frees : Point → Ask → Type 0
Frees p c = FreedBy c (left real p.table p.state c)

-- no call of the list is one
abbrev pub NoneFrees : Point → List Ask → Type 0
NoneFrees p [] = Unit {0}
NoneFrees p (c ∷ cs) = (¬ (Frees p c)) × NoneFrees (advance real p c) cs

-- only a step, a reset and a tidy write to the table
abbrev pub Writes : Ask → Type 0
Writes reset = Unit {0}
Writes (begin i o j) = ⊥
Writes (step i) = Unit {0}
Writes (abandon i) = ⊥
Writes tidy = Unit {0}
Writes figures = ⊥
Writes (list room) = ⊥

-- number, price and rank
pub record SameLabels (r r' : Rec) : Type 0 where
  pub number : r'.number ≡ r.number
  pub price : r'.price ≡ r.price
  pub rank : r'.rank ≡ r.rank

-- from a view v to a later view w, with no accepted reset or tidy between
pub record Grows (v w : View) : Type 0 where
  -- a slot in use stays in use
  pub used : (x : ℕ) → (v x).state ≢ 0 → (w x).state ≢ 0
  -- a record that is taken off is frozen: state 2 never goes back to 1, and its links stay
  pub frozen : (x : ℕ) → (v x).state ≡ 2 → w x ≡ v x
  -- a record of the tree stays there or is taken off
  pub one-or_two : (x : ℕ) → (v x).state ≡ 1 → ((w x).state ≡ 1) ⊎ ((w x).state ≡ 2)
  -- number, price and rank of a record never change
  pub labels : (x : ℕ) → (v x).state ≢ 0 → SameLabels (v x) (w x)
  -- each link of a record of the tree stays, or leads to a slot that was free
  pub fresh-links : (x : ℕ) (side : Bool) → (v x).state ≡ 1 → (link_on side (w x) ≡ link_on side (v x)) ⊎ ((v (link_on side (w x))).state ≡ 0)

-- the same over one call
pub record OneCall (v w : View) : Type 0 where
  pub grows : Grows v w
  -- "Every record replaced is taken off, and only its state changes"
  pub only_state : (x : ℕ) → (v x).state ≡ 1 → (w x).state ≡ 2 → w x ≡ taken_off (v x)
  -- a free slot stays as it is, or gets a record of the tree
  pub born : (x : ℕ) → (v x).state ≡ 0 → (w x ≡ v x) ⊎ ((w x).state ≡ 1)

-- an accepted tidy: "sets every slot not reachable from the entry to zero", and changes nothing else
pub record Tidied (v w : View) : Type 0 where
  pub stays : (x : ℕ) → (v x).state ≡ 1 → w x ≡ v x
  pub freed : (x : ℕ) → (v x).state ≢ 1 → w x ≡ free_rec

-- an accepted reset: "slot 0 entry, slot 1 sentinel leaf, .. all other slots zero"
pub record Anew (w : View) : Type 0 where
  pub entry : w 0 ≡ entry_rec
  pub leaf : w 1 ≡ first_leaf
  pub others : (x : ℕ) → x ≢ 0 → x ≢ 1 → w x ≡ free_rec
