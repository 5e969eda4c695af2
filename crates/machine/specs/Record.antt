-- QUANTITIES. A record of six numbers, and which records are well formed.
use Rattle.std.specs.Prelude.{ℕ, Bool, ◌&&◌, ◌||◌, not, ltb, leb, eqb}
use Rattle.terms.specs.declared.Rec.{Rec}
use Rattle.terms.specs.declared.Links.{Links}
use Rattle.machine.specs.Choice.{if_b}

-- "Sentinels carry number 4,294,967,295": it stands above every fare number
abbrev pub top_number : ℕ
top_number = 4294967295

-- "State 0 free (all six are zero)"
abbrev pub free_rec : Rec
free_rec = record { state = 0; number = 0; price = 0; rank = 0; left = 0; right = 0 }

-- "1 in the tree, 2 taken off"
unfoldable pub in_tree : Rec → Bool
in_tree r = eqb r.state 1

-- "Sentinels carry number 4,294,967,295, rank 255 and price 0."
unfoldable pub sentinel : Rec → Bool
sentinel r = eqb r.number top_number && (eqb r.rank 255 && eqb r.price 0)

-- "Fare number: 0 to 999,999. Price: 0 to 99,999 whole cents."
unfoldable pub number_fits : ℕ → Bool
number_fits k = ltb k 1000000

-- "Price: 0 to 99,999 whole cents."
unfoldable pub price_fits : ℕ → Bool
price_fits p = ltb p 100000

-- "Other ranks: leaves 0"
unfoldable pub fare_marks : Rec → Bool
fare_marks r = number_fits r.number && (price_fits r.price && eqb r.rank 0)

-- "inner records 1 to 28. Inner records have price 0."
unfoldable pub inner_marks : Rec → Bool
inner_marks r = number_fits r.number && (eqb r.price 0 && (leb 1 r.rank && leb r.rank 28))

-- "A left or right of 0 means no link"; a link is below the slot count
unfoldable pub is_link : ℕ → ℕ → Bool
is_link n s = leb 1 s && ltb s n

-- "a leaf (no links ..)"
unfoldable pub is_leaf : Rec → Bool
is_leaf r = eqb r.left 0 && eqb r.right 0

-- "inner (two different links below the slot count ..)"
unfoldable pub is_inner : ℕ → Rec → Bool
is_inner n r = is_link n r.left && (is_link n r.right && not (eqb r.left r.right))

-- "number and rank are sentinel marks together or not at all, and it is a leaf (.. rank 0 or 255) or inner (.. rank 1 to 28 or 255)"
unfoldable pub plain_form : ℕ → Rec → Bool
plain_form n r = (is_leaf r && (sentinel r || fare_marks r)) || (is_inner n r && (sentinel r || inner_marks r))

-- "Slot 0 alone has instead a left link, no right one and sentinel marks."
unfoldable pub entry_form : ℕ → Rec → Bool
entry_form n r = sentinel r && (is_link n r.left && eqb r.right 0)

-- "A record is well formed if its state is 1 or 2, .."
unfoldable pub well_formed : ℕ → ℕ → Rec → Bool
well_formed n s r = (eqb r.state 1 || eqb r.state 2) && ((eqb s 0 && entry_form n r) || (not (eqb s 0) && plain_form n r))

-- a record that a link leads to: "slot 0 is the entry and is nobody's child", so at 0 it is missing
unfoldable pub linked : ℕ → ℕ → Rec → Bool
linked n s r = not (eqb s 0) && well_formed n s r

-- "A record that isn't a sentinel is a level record if its rank equals its parent's."
unfoldable pub level : Rec → Rec → Bool
level p r = not (sentinel r) && eqb r.rank p.rank

-- a fare is a leaf without sentinel marks, wherever it hangs
unfoldable pub is_fare : Rec → Bool
is_fare r = is_leaf r && not (sentinel r)

-- "A reading notes both links."
abbrev pub links_of : Rec → Links
links_of r = record { left = r.left; right = r.right }

-- "to which neither noted link leads"; 0 leads nowhere
unfoldable pub leads : Links → ℕ → Bool
leads a s = not (eqb s 0) && (eqb a.left s || eqb a.right s)

-- "still in state 1 with both links as noted"
unfoldable pub still : Rec → Links → Bool
still r a = in_tree r && (eqb r.left a.left && eqb r.right a.right)

-- "z's other child": the link that does not lead to s; the left one where neither does
unfoldable pub other : Links → ℕ → ℕ
other b s = if_b (eqb b.left s) b.right b.left
