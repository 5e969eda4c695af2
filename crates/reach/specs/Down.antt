-- What the way down hands back: the counts below a slot, and how they stand to the definition.
use Rattle.std.specs.Prelude.{ℕ, ◌+◌, ◌-◌, ◌≤◌, ◌≡◌, List, Some, None}
use Rattle.std.specs.declared.option.Option.{Option}
use Rattle.terms.specs.declared.Rec.{Rec}
use Rattle.machine.specs.Record.{level, is_fare}
use Rattle.machine.specs.Table.{View}
use Rattle.machine.specs.State.{one}
use Rattle.machine.specs.Reach.{Tree, Reached, hurt, reached, reach_from, reach, levels, count_fares, depth, height_of, larger, deeper}
use Rattle.machine.proofs.Marks.{unmarked}
use Rattle.reach.specs.declared.Below.{Below}
use Rattle.reach.specs.Tree.{size}

-- the counts of a leaf r below p
unfoldable pub leaf_below : Rec → Rec → ℕ → Below
leaf_below p r left =
    record { left = left; level = one (level p r); fares = one (is_fare r); depth = one (is_fare r); height = 0 }

-- the counts of an inner record r below p, out of those of its left and its right side
unfoldable pub inner_below : Rec → Rec → Below → Below → Below
inner_below p r a b =
    record {
      left = b.left;
      level = one (level p r) + (a.level + b.level);
      fares = a.fares + b.fares;
      depth = deeper (larger a.depth b.depth);
      height = a.depth - 1;
    }

-- r tells tree u, whose top hangs below p, and the marks m are those of the definition
pub record Told (p : Rec) (left : ℕ) (r : Below) (m : List ℕ) (u : Tree) (k : List ℕ) : Type 0 where
  pub marks : m ≡ k
  pub level : r.level ≡ levels p u
  pub fares : r.fares ≡ count_fares u
  pub depth : r.depth ≡ depth u
  pub height : r.height ≡ height_of u
  pub used : r.left + size u ≡ left

-- the same of what the definition comes to
abbrev pub Tells : Rec → ℕ → Below → List ℕ → Reached → Type 0
Tells p left r m hurt = ⊥
Tells p left r m (reached u k) = Told p left r m u k

-- damage below slot s, with so many slots not marked, whatever gas the definition has from there on
pub record Lost (v : View) (n : ℕ) (s : ℕ) (marks : List ℕ) (left : ℕ) : Type 0 where
  pub same : (g : ℕ) → left ≤ g → reach_from g n v marks s ≡ hurt

-- the counts below slot s, below p, likewise
pub record Way (v : View) (n : ℕ) (p : Rec) (s : ℕ) (marks : List ℕ) (left : ℕ) (r : Below) (later : List ℕ) : Type 0 where
  pub rest : r.left ≡ unmarked later
  pub fewer : r.left ≤ left
  pub level : r.level + r.left ≤ left
  pub fares : r.fares + r.left ≤ left
  pub depth : r.depth + r.left ≤ left
  pub same : (g : ℕ) → left ≤ g → Tells p left r later (reach_from g n v marks s)

-- the way down from slot s
abbrev pub Down : View → ℕ → Rec → ℕ → List ℕ → ℕ → Option Below → List ℕ → Type 0
Down v n p s marks left None later = Lost v n s marks left
Down v n p s marks left (Some r) later = Way v n p s marks left r later

-- the way down from the entry, in a table of n slots
abbrev pub All : View → ℕ → Option Below → List ℕ → Type 0
All v n None later = reach n v ≡ hurt
All v n (Some r) later = (r.fares ≤ n) × Tells (v 0) (n - 1) r later (reach n v)
