-- What the entry reaches, as a tree; its height and counts.
use Rattle.std.specs.Prelude.{ℕ, zero, suc, ◌+◌, ◌-◌, Bool, true, false, ◌&&◌, not, List, [], ◌∷◌, ◌++◌, leb, eqb, get_or, set, replicate}
use Rattle.terms.specs.declared.Rec.{Rec}
use Rattle.machine.specs.Choice.{if_b}
use Rattle.machine.specs.Record.{well_formed, linked, in_tree, is_leaf, is_fare, level}
use Rattle.machine.specs.Table.{View}
use Rattle.machine.specs.State.{one}

-- a slot, its record and what hangs below it
pub data Tree : Type 0 where
  leaf : ℕ → Rec → Tree
  node : ℕ → Rec → Tree → Tree → Tree

-- the tree, with a mark for each slot reached so far; or damage
pub data Reached : Type 0 where
  hurt : Reached
  reached : Tree → List ℕ → Reached

-- a record with what it reaches on both sides
abbrev pub join_right : ℕ → Rec → Tree → Reached → Reached
join_right s r l hurt = hurt
join_right s r l (reached u m) = reached (node s r l u) m

-- the left side first; the right side goes on with its marks
abbrev pub join_left : ℕ → Rec → Reached → (List ℕ → Reached) → Reached
join_left s r hurt f = hurt
join_left s r (reached l m) f = join_right s r l (f m)

-- 17 of tidy, figures and list: "a record reachable from the entry isn't well formed, is in state 2 or is reached twice"
unfoldable pub reachable : ℕ → View → List ℕ → ℕ → Bool
reachable n v marks s = linked n s (v s) && (in_tree (v s) && eqb (get_or marks s 0) 0)

-- what slot s reaches. No way down is longer than there are slots: with no gas left every slot was reached already
unfoldable pub reach_from : ℕ → ℕ → View → List ℕ → ℕ → Reached
reach_from zero n v marks s = hurt
reach_from (suc g) n v marks s =
    elim (reachable n v marks s) [
      | false ↦ hurt
      | true ↦
          elim (is_leaf (v s)) [
            | true ↦ reached (leaf s (v s)) (set marks s 1)
            | false ↦
                join_left s (v s) (reach_from g n v (set marks s 1) (v s).left) (λ m. reach_from g n v m (v s).right)
          ]
    ]

-- from the entry: what hangs on its left link
unfoldable pub reach : ℕ → View → Reached
reach n v =
    if_b (not (well_formed n 0 (v 0) && in_tree (v 0))) hurt
    (reach_from n n v (set (replicate n 0) 0 1) (v 0).left)

-- "level records and fares counted over what the entry reaches": level against the parent p
abbrev pub levels : Rec → Tree → ℕ
levels p (leaf s r) = one (level p r)
levels p (node s r a b) = one (level p r) + (levels r a + levels r b)

-- fares "counted over what the entry reaches"
abbrev pub count_fares : Tree → ℕ
count_fares (leaf s r) = one (is_fare r)
count_fares (node s r a b) = count_fares a + count_fares b

-- "number and price of each fare, from the leftmost leaf to the rightmost"
abbrev pub fare_line : Bool → Rec → List ℕ
fare_line true r = r.number ∷ r.price ∷ []
fare_line false r = []

-- the fares of a tree, left before right
abbrev pub fare_list : Tree → List ℕ
fare_list (leaf s r) = fare_line (is_fare r) r
fare_list (node s r a b) = fare_list a ++ fare_list b

-- the larger of two
unfoldable pub larger : ℕ → ℕ → ℕ
larger a b = if_b (leb a b) b a

-- one record more on the way, where there is a fare
unfoldable pub deeper : ℕ → ℕ
deeper d = if_b (eqb d 0) 0 (d + 1)

-- the records on the longest way down to a fare of a tree
abbrev pub depth : Tree → ℕ
depth (leaf s r) = one (is_fare r)
depth (node s r a b) = deeper (larger (depth a) (depth b))

-- "Height counts links from the root record (the left child of the entry's left child) to the farthest fare below it, 0 without one."
abbrev pub height_of : Tree → ℕ
height_of (leaf s r) = 0
height_of (node s r a b) = depth a - 1
