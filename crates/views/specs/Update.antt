-- What a write makes of a view: the slot that it goes to, and nothing else.
use Rattle.std.specs.Prelude.{ℕ, ◌<◌, Bool, true, false, List, [], ◌∷◌, eqb}
use Rattle.terms.specs.declared.Rec.{Rec}
use Rattle.machine.specs.Choice.{if_b}
use Rattle.machine.specs.Table.{View, Write, fill, lead, off}

-- the slot that a write goes to
abbrev pub where_to : Write → ℕ
where_to (fill s r) = s
where_to (lead s b a) = s
where_to (off s) = s

-- a link of a record: true is left
abbrev pub link : Bool → Rec → ℕ
link true r = r.left
link false r = r.right

-- a record with one link changed: true is left
abbrev pub with_link : Bool → ℕ → Rec → Rec
with_link true a r = record { state = r.state; number = r.number; price = r.price; rank = r.rank; left = a; right = r.right }
with_link false a r = record { state = r.state; number = r.number; price = r.price; rank = r.rank; left = r.left; right = a }

-- "taken off, and only its state changes"
abbrev pub taken_off : Rec → Rec
taken_off r = record { state = 2; number = r.number; price = r.price; rank = r.rank; left = r.left; right = r.right }

-- what the write makes of the record in its slot
abbrev pub made : Write → Rec → Rec
made (fill s x) r = x
made (lead s b a) r = with_link b a r
made (off s) r = taken_off r

unfoldable pub upd : View → Write → View
upd v w s = if_b (eqb s (where_to w)) (made w (v s)) (v s)

abbrev pub upds : View → List Write → View
upds v [] = v
upds v (w ∷ ws) = upds (upd v w) ws

-- all writes go to slots below n
abbrev pub Within : ℕ → List Write → Type 0
Within n [] = Unit {0}
Within n (w ∷ ws) = (where_to w < n) × Within n ws
