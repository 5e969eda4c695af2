-- QUANTITIES, in document 01's words: what a record must be.
use Rattle.std.specs.Prelude.{ℕ, ◌≤◌, ◌<◌, ◌≡◌, ◌⊎◌, ◌↔◌, ◌≢◌}
use Rattle.terms.specs.declared.Rec.{Rec}
use Rattle.terms.specs.declared.Links.{Links}
use Rattle.machine.specs.Table.{View}

-- "Fare number: 0 to 999,999."
abbrev pub FareNumber : ℕ → Type 0
FareNumber k = k ≤ 999999

-- "Price: 0 to 99,999 whole cents."
abbrev pub Price : ℕ → Type 0
Price p = p ≤ 99999

-- "A left or right of 0 means no link"; "links below the slot count"
abbrev pub Link : ℕ → ℕ → Type 0
Link n s = (s ≢ 0) × (s < n)

-- "a leaf (no links ..)"
abbrev pub NoLinks : Rec → Type 0
NoLinks r = (r.left ≡ 0) × (r.right ≡ 0)

-- "it is a leaf (no links, rank 0 or 255)"
abbrev pub Leaf : Rec → Type 0
Leaf r = NoLinks r × ((r.rank ≡ 0) ⊎ (r.rank ≡ 255))

-- "or inner (two different links below the slot count, rank 1 to 28 or 255)"; "Inner records have price 0."
pub record Inner (n : ℕ) (r : Rec) : Type 0 where
  pub left-link : Link n r.left
  pub right-link : Link n r.right
  pub two-different : r.left ≢ r.right
  pub inner-rank : ((1 ≤ r.rank) × (r.rank ≤ 28)) ⊎ (r.rank ≡ 255)
  pub inner-price : r.price ≡ 0

-- "Slot 0 alone has instead a left link, no right one and sentinel marks."
pub record Entry (n : ℕ) (r : Rec) : Type 0 where
  pub a_left_link : Link n r.left
  pub no_right_one : r.right ≡ 0
  pub sentinel-number : r.number ≡ 4294967295
  pub sentinel-rank : r.rank ≡ 255

-- "A record is well formed if its state is 1 or 2, its number, price and rank are as above, number and rank are sentinel marks
-- together or not at all, and it is a leaf .. or inner .."
pub record WellFormed (n s : ℕ) (r : Rec) : Type 0 where
  pub state_1_or_2 : (r.state ≡ 1) ⊎ (r.state ≡ 2)
  pub number_as_above : FareNumber r.number ⊎ (r.number ≡ 4294967295)
  pub price_as_above : Price r.price
  pub sentinel-price : r.number ≡ 4294967295 → r.price ≡ 0
  pub together_or_not_at_all : (r.number ≡ 4294967295) ↔ (r.rank ≡ 255)
  pub shape : ((s ≡ 0) × Entry n r) ⊎ ((s ≢ 0) × (Leaf r ⊎ Inner n r))

-- "Sentinels carry number 4,294,967,295, rank 255 and price 0."
abbrev pub Sentinel : Rec → Type 0
Sentinel r = (r.number ≡ 4294967295) × (r.rank ≡ 255) × (r.price ≡ 0)

-- "A record that isn't a sentinel is a level record if its rank equals its parent's."
abbrev pub Level : Rec → Rec → Type 0
Level parent r = (¬ (Sentinel r)) × (r.rank ≡ parent.rank)

-- "noted links .. lead to": a link of 0 is no link
abbrev pub LeadTo : Links → ℕ → Type 0
LeadTo l s = (s ≢ 0) × ((l.left ≡ s) ⊎ (l.right ≡ s))

-- "still in state 1 with both links as noted"
pub record AsNoted (r : Rec) (l : Links) : Type 0 where
  pub state-1 : r.state ≡ 1
  pub left_as_noted : r.left ≡ l.left
  pub right_as_noted : r.right ≡ l.right

-- a remembered record is ".. outside the table or not well formed"; a grandparent that is not there stands outside every table
pub data Unreadable (v : View) (n s : ℕ) : Type 0 where
  outside_the_table : n ≤ s → Unreadable v n s
  not_well_formed : ¬ (WellFormed n s (v s)) → Unreadable v n s

-- a record that a link leads to is "missing" too where the link is 0: "slot 0 is the entry and is nobody's child"
pub data ChildUnreadable (v : View) (n s : ℕ) : Type 0 where
  missing : s ≡ 0 → ChildUnreadable v n s
  there-but : Unreadable v n s → ChildUnreadable v n s
