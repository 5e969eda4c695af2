-- What the sweep leaves of a slot, and what is written of the fares.
use Rattle.std.specs.Prelude.{ℕ, ◌+◌, ◌*◌, ◌≤◌, ◌≡◌, List, eqb, length}
use Rattle.std.proofs.lemmas.List.Edits.{sets}
use Rattle.terms.specs.declared.Rec.{Rec}
use Rattle.machine.specs.Choice.{if_b}
use Rattle.machine.specs.Record.{free_rec, is_fare}
use Rattle.machine.specs.State.{one}
use Rattle.machine.specs.Table.{fill, put}
use Rattle.machine.specs.Reach.{Tree, count_fares, fare_line, fare_list}
use Rattle.reach.specs.declared.Written.{Written}
use Rattle.reach.specs.Tree.{size}

unfoldable pub swept : List ℕ → ℕ → ℕ → List ℕ
swept t s mark = if_b (eqb mark 0) (put t (fill s free_rec)) t

-- the line of record r is written at place `at`, and the next place is x
pub record Line (r : Rec) (at : ℕ) (room : List ℕ) (x : ℕ) (later : List ℕ) : Type 0 where
  pub next : x ≡ at + 2 * one (is_fare r)
  pub lines : later ≡ sets room at (fare_line (is_fare r) r)

-- the tree is no larger than the slots left, and its lines fit into the room from place `at` on
abbrev pub RoomFor : Tree → ℕ → ℕ → List ℕ → Type 0
RoomFor u left at room = (size u ≤ left) × (at + 2 * count_fares u ≤ length room)

-- the lines of tree u are written from place `at` on, and nothing else is changed
pub record Wrote (u : Tree) (left at : ℕ) (room : List ℕ) (x : Written) (later : List ℕ) : Type 0 where
  pub next : x.at ≡ at + 2 * count_fares u
  pub used : x.left + size u ≡ left
  pub lines : later ≡ sets room at (fare_list u)
