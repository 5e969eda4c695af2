-- The table: where a field stands, what a slot reads as, writes, and room.
use Rattle.std.specs.Prelude.{ℕ, zero, suc, ◌+◌, ◌-◌, ◌*◌, ◌/◌, ◌%◌, Bool, true, false, ◌&&◌, List, [], ◌∷◌, ltb, leb, eqb, length, get_or, set}
use Rattle.terms.specs.declared.Rec.{Rec}
use Rattle.machine.specs.Choice.{if_b}
use Rattle.machine.specs.Record.{free_rec}

-- THE width of a record: "six 32-bit numbers each"
abbrev pub width : ℕ
width = 6

-- THE address rule: field f of slot s, "state, fare number, price, rank, left, right" from 0
unfoldable pub place : ℕ → ℕ → ℕ
place s f = s * width + f

-- "Slots: 8 to 4,096"; 18: "table not 6 times 8 to 4,096 numbers long"
unfoldable pub length_fits : ℕ → Bool
length_fits l = eqb (l % width) 0 && (leb (8 * width) l && leb l (4096 * width))

-- how many slots a table has
abbrev pub slots : List ℕ → ℕ
slots t = length t / width

-- what each slot reads as
abbrev pub View : Type 0
View = ℕ → Rec

-- what each slot reads as; beyond the table, as free
unfoldable pub view : ℕ → List ℕ → View
view n t s =
    if_b (ltb s n)
    (record {
      state = get_or t (place s 0) 0;
      number = get_or t (place s 1) 0;
      price = get_or t (place s 2) 0;
      rank = get_or t (place s 3) 0;
      left = get_or t (place s 4) 0;
      right = get_or t (place s 5) 0;
    })
    free_rec

-- what a call writes: a whole record, one link (true: the left one), or "taken off, and only its state changes"
pub data Write : Type 0 where
  fill : ℕ → Rec → Write
  lead : ℕ → Bool → ℕ → Write
  off : ℕ → Write

-- a write carried out
unfoldable pub put : List ℕ → Write → List ℕ
put t (fill s r) =
    set
    (set
    (set (set (set (set t (place s 0) r.state) (place s 1) r.number) (place s 2) r.price) (place s 3) r.rank)
    (place s 4)
    r.left)
    (place s 5)
    r.right
put t (lead s true a) = set t (place s 4) a
put t (lead s false a) = set t (place s 5) a
put t (off s) = set t (place s 0) 2

-- writes carried out one after another
unfoldable pub puts : List ℕ → List Write → List ℕ
puts t [] = t
puts t (w ∷ ws) = puts (put t w) ws

-- the lowest free slot from s on, with d slots to look at; s + d where there is none
unfoldable pub free_from : View → ℕ → ℕ → ℕ
free_from v zero s = s
free_from v (suc d) s = elim (eqb (v s).state 0) [ true ↦ s | false ↦ free_from v d (s + 1) ]

-- the lowest free slot from s on, below n
unfoldable pub free : View → ℕ → ℕ → ℕ
free v n s = free_from v (n - s) s

-- "New records take the lowest-numbered free slots": the first, the second, the third; at or past n there is none
unfoldable pub slot1 : View → ℕ → ℕ
slot1 v n = free v n 1

-- the second
unfoldable pub slot2 : View → ℕ → ℕ
slot2 v n = free v n (slot1 v n + 1)

-- the third
unfoldable pub slot3 : View → ℕ → ℕ
slot3 v n = free v n (slot2 v n + 1)

-- "Free slots are counted as those in state 0."
unfoldable pub count_free : View → ℕ → ℕ
count_free v zero = 0
count_free v (suc k) = count_free v k + if_b (eqb (v k).state 0) 1 0
