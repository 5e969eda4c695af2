-- STRUCTURE FROM A RESET: what holds at every point of every history, of the next call, and of the calls after it.
use Rattle.std.specs.Prelude.{◌*◌, ◌+◌, ◌≤◌, ℕ, length, List, ◌↔◌, ◌≢◌, ◌≡◌}
use Rattle.demand2.specs.Demand2.{held_at}
use Rattle.grounds.specs.Record.{AsNoted}
use Rattle.grounds.specs.Ways.{ReachDamaged}
use Rattle.history.specs.History.{Ask, reset, step, tidy}
use Rattle.history.specs.Ledger.{Point, advance, goes, history, started}
use Rattle.history.specs.Machine.{real}
use Rattle.machine.specs.Record.{links_of}
use Rattle.machine.specs.State.{busy_tasks}
use Rattle.machine.specs.Table.{slots}
use Rattle.structure.specs.Built.{Built, view_of}
use Rattle.structure.specs.Changes.{Anew, Frees, Grows, NoneFrees, OneCall, Stated, Tidied, Writes}
use Rattle.structure.specs.Counts.{InUse, in_tree_of}
use Rattle.structure.specs.Readings.{Always, BusyAt, Note, OneOf, TestHolds, Unchanged, notes_at}
use Rattle.terms.specs.declared.State.{State}

pub record Structured (n : ℕ) (p : Point) : Type 0 where
  -- the table keeps its slots
  pub slots-stay : slots p.table ≡ n
  -- state 1 exactly where the entry reaches, each once, in search order
  pub built : Built n (view_of p)
  -- so tidy, figures and list never find damage
  pub never-damaged : ¬ (ReachDamaged (view_of p) n)
  -- every slot is free and all zero, in the tree, or taken off
  pub states : (x : ℕ) → Stated (view_of p x)
  -- what any call but an accepted tidy or reset changes: taken-off records are frozen, records of the tree get links to fresh slots alone
  pub one-call : (c : Ask) → ¬ (Frees p c) → OneCall (view_of p) (view_of (advance real p c))
  -- and any number of them
  pub grows : (later : List Ask) → NoneFrees p later → Grows (view_of p) (view_of (goes real p later))
  -- only a step, a tidy and a reset write at all
  pub others_write_nothing : (c : Ask) → ¬ (Writes c) → (advance real p c).table ≡ p.table
  -- "Tidy, with all tasks idle": it is accepted exactly then
  pub tidy-accepted : Frees p tidy ↔ (busy_tasks p.state.tasks 8 ≡ 0)
  pub tidied : Frees p tidy → Tidied (view_of p) (view_of (advance real p tidy))
  -- a reset is always accepted
  pub reset-accepted : Frees p reset
  pub reset-anew : Anew (view_of (advance real p reset))
  -- with n fares 2n + 2 slots are in state 1, and after a tidy no others are in use
  pub in_tree_count : in_tree_of (view_of p) n ≡ 2 * length (held_at p) + 2
  pub in_use : Frees p tidy → InUse p (advance real p tidy)
  -- a step changes no record in use but those that its task has read
  pub changes_what_it_read : (i x : ℕ) → (view_of p x).state ≢ 0 → view_of (advance real p (step i)) x ≢ view_of p x → (r : Note) × OneOf r (notes_at p i) × (r.slot ≡ x)
  -- while a task is busy: a record of the tree that is found in state 1 with both links as they were has been the same at every moment between
  pub same-between : (i x : ℕ) (later : List Ask) → Always (BusyAt i) p later → (view_of p x).state ≡ 1 → AsNoted (view_of (goes real p later) x) (links_of (view_of p x))
      → Always (λ q. view_of q x ≡ view_of p x) p later

-- THE BRIDGE to the published SCX, after these calls: "As no slot is used twice while a task is busy, this is the same as unchanged since the reading."
pub record ReadSince (start : Point) (calls : List Ask) : Type 0 where
  -- every note of a task was read at a step of it, and if its record is as noted now, it was never changed since
  pub as_read : (i : ℕ) (r : Note) → OneOf r (notes_at (goes real start calls) i) → AsNoted (view_of (goes real start calls) r.slot) r.links → Unchanged start calls i r
  -- where the test of a commit holds, no record that its task has read was changed at any moment since its reading
  pub tested_as_read : (i : ℕ) → TestHolds (goes real start calls) i → (r : Note) → OneOf r (notes_at (goes real start calls) i) → Unchanged start calls i r
  -- and a step changes the table only where its test holds
  pub writes-tested : (i : ℕ) → (advance real (goes real start calls) (step i)).table ≢ (goes real start calls).table → TestHolds (goes real start calls) i

-- a history is the reset call on any table of 6 times 8 to 4,096 numbers and any state, then any list of calls with any arguments
abbrev pub Structure : Type 0
Structure =
    (t : List ℕ) (st : State) (cs : List Ask) (n : ℕ) → length t ≡ 6 * n → 8 ≤ n → n ≤ 4096 → Structured n (history real t st cs) × ReadSince (started real t st) cs
