-- A tree of records with their slots; a tree with a hole; what it is that a view holds a tree.
use Rattle.std.specs.Prelude.{◌+◌, ℕ, eqb, Bool, cond, false, true, ◌≡◌}
use Rattle.machine.specs.PutIn.{inner_of}
use Rattle.machine.specs.Record.{top_number}
use Rattle.machine.specs.Table.{View}
use Rattle.terms.specs.declared.Rec.{Rec}

-- number, price and rank stand in the tree as labels; the links of a record are where its children stand
pub data Tree : Type 0 where
  leaf : (s k pr rk : ℕ) → Tree
  node : (s k rk : ℕ) → Tree → Tree → Tree

-- a node whose first tree is on side b (true is left), and whose second is on the other: both mirror forms are one text
abbrev pub join : Bool → ℕ → ℕ → ℕ → Tree → Tree → Tree
join true s k rk t u = node s k rk t u
join false s k rk t u = node s k rk u t

-- a hole's surroundings, from the hole outwards; at the outside stands the entry, slot 0
pub data Ctx : Type 0 where
  top : Ctx
  hole : (b : Bool) (s k rk : ℕ) → Tree → Ctx → Ctx

abbrev pub plug : Ctx → Tree → Tree
plug top t = t
plug (hole b s k rk u c) t = plug c (join b s k rk t u)

abbrev pub root : Tree → ℕ
root (leaf s k pr rk) = s
root (node s k rk l r) = s

-- the record above the hole, and the side of it on which the hole is
abbrev pub parent : Ctx → ℕ
parent top = 0
parent (hole b s k rk u c) = s

abbrev pub pside : Ctx → Bool
pside top = true
pside (hole b s k rk u c) = b

abbrev pub ind : ℕ → ℕ → ℕ
ind a b = cond (eqb a b) 1 0

-- how often slot x stands in the tree; the entry counts with the surroundings
abbrev pub occ : ℕ → Tree → ℕ
occ x (leaf s k pr rk) = ind x s
occ x (node s k rk l r) = ind x s + occ x l + occ x r

abbrev pub occ_c : ℕ → Ctx → ℕ
occ_c x top = ind x 0
occ_c x (hole b s k rk u c) = ind x s + occ_c x c + occ x u

-- the records that the labels stand for
abbrev pub leaf_rec : ℕ → ℕ → ℕ → Rec
leaf_rec k pr rk = record { state = 1; number = k; price = pr; rank = rk; left = 0; right = 0 }

abbrev pub side_rec : Bool → ℕ → ℕ → ℕ → ℕ → Rec
side_rec true k rk a b = inner_of k rk a b
side_rec false k rk a b = inner_of k rk b a

abbrev pub Holds : View → Tree → Type 0
Holds v (leaf s k pr rk) = v s ≡ leaf_rec k pr rk
Holds v (node s k rk l r) = (v s ≡ inner_of k rk (root l) (root r)) × Holds v l × Holds v r

-- the same of the surroundings, where slot h stands in the hole
abbrev pub HoldsC : View → Ctx → ℕ → Type 0
HoldsC v top h = v 0 ≡ inner_of top_number 255 h 0
HoldsC v (hole b s k rk u c) h = (v s ≡ side_rec b k rk h (root u)) × HoldsC v c s × Holds v u
