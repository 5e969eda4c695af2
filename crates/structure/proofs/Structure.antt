-- STRUCTURE FROM A RESET holds.
use Prim.Native.Nat.{◌*◌, ◌+◌, ◌≤◌, ℕ}
use lib.ListN.{length}
use mathlib.Core.List.{List, [], ◌∷◌}
use mathlib.Core.Path.{◌∙◌, ◌≡◌, ap, refl, subst, sym}
use native.Mathlib.Omega.{arith}
use Rattle.demand2.proofs.Fresh.{fresh-size, reset-is}
use Rattle.demand2.proofs.Carried.{after-long}
use Rattle.demand2.proofs.Counts.{all_alike}
use Rattle.demand2.proofs.Demand2.{keeps, keeps-all, stands}
use Rattle.demand2.proofs.Lengths.{fits-of, slots-of}
use Rattle.demand2.proofs.Passes.{passing}
use Rattle.demand2.proofs.Stands.{Stands, fits-is}
use Rattle.demand2.specs.Demand2.{held_at}
use Rattle.fares.specs.Fares.{fares}
use Rattle.grounds.specs.Record.{AsNoted}
use Rattle.grounds.specs.Ways.{ReachDamaged, in_state_2, not_well_formed, reached-twice}
use Rattle.history.specs.History.{Ask}
use Rattle.history.specs.Ledger.{Point, advance, goes, history, started}
use Rattle.history.specs.Machine.{real}
use Rattle.machine.specs.Calls.{empty_table, reset_of}
use Rattle.machine.specs.State.{fresh_state, task_at}
use Rattle.machine.specs.Step.{Left, same}
use Rattle.machine.specs.Table.{View, slots}
use Rattle.structure.proofs.Built.{built_at}
use Rattle.structure.proofs.Busy.{same-while_busy, since_read}
use Rattle.structure.proofs.Changes.{anew_at, no-writes_at, one-call_at, tidied-at, tidy-only, tidy-when}
use Rattle.structure.proofs.Counts.{in_tree_at, in_use_at}
use Rattle.structure.proofs.Grows.{grows-over}
use Rattle.structure.proofs.Since.{all_read}
use Rattle.structure.proofs.Sizes.{tree_sized}
use Rattle.structure.proofs.States.{all_stated}
use Rattle.structure.proofs.Tested.{step-covered, step-tested, test_noted}
use Rattle.structure.specs.Built.{Built, view_of}
use Rattle.structure.specs.Counts.{in_tree_of}
use Rattle.structure.specs.Readings.{Note, OneOf, Unchanged, notes_at, work_notes}
use Rattle.structure.specs.Structure.{ReadSince, Structure, Structured}
use Rattle.terms.specs.Task.{idle_task}
use Rattle.terms.specs.declared.Answer.TheVariants.{Accepted}
use Rattle.terms.specs.declared.State.{State}
use Rattle.terms.specs.declared.Task.{Task}
use Rattle.trees.specs.Count.{size}

-- the slots of the table stay as many
goes-long : {p : Point} (s : Stands p) (cs : List Ask) → length (goes real p cs).table ≡ length p.table
unfolding goes advance
goes-long s [] = refl
goes-long {p} s (c ∷ cs) = goes-long {p = advance real p c} (keeps s c) cs ∙ after-long s (passing s c).passes ∙ sym s.size

undamaged : (n : ℕ) (v : View) → Built n v → ReachDamaged v n → ⊥
undamaged n v b (not_well_formed w x g d) = d (b.formed w x g)
undamaged n v b (in_state_2 w x g d) = omega (arith, d, (b.in_tree x).1 (w, g))
undamaged n v b (reached-twice w u x d g h) = d (b.once w u x g h)

module _ (t : List ℕ) (st : State) (cs : List Ask) (n : ℕ) (e : length t ≡ 6 * n) (least : 8 ≤ n) (most : n ≤ 4096) where
  abbrev here : Point
  here = history real t st cs

  six : length t ≡ n * 6
  six = omega arith

  fresh-is : reset_of t st ≡ same (empty_table (length t)) fresh_state Accepted
  fresh-is = reset-is t st (fits-of (length t) n six least most)

  s : Stands here
  s = stands t st cs n e least most

  -- it starts where a history with no calls stands
  s₀ : Stands (started real t st)
  unfolding history goes
  s₀ = stands t st [] n e least most

  start-long : length (started real t st).table ≡ n * 6
  unfolding started
  start-long = ap (λ (l : Left). length l.table) fresh-is ∙ fresh-size (length t) n six least most

  slots-are : slots here.table ≡ n
  unfolding history
  slots-are = slots-of (length here.table) n (goes-long s₀ cs ∙ start-long)

  built_here : Built n (view_of here)
  built_here = subst (λ k. Built k (view_of here)) slots-are (built_at s)

  sized : size s.tree ≡ 2 * length (fares s.tree) + 1
  sized = tree_sized t st cs n e least most s

  structured : Structured n here
  structured = record {
    slots-stay = slots-are;
    built = built_here;
    never-damaged = undamaged n (view_of here) built_here;
    states = all_stated t st cs n e least most s;
    one-call = one-call_at s;
    grows = grows-over s;
    others_write_nothing = no-writes_at s;
    tidy-accepted = (tidy-only s, tidy-when s);
    tidied = tidied-at s;
    reset-accepted = ap (λ (l : Left). l.answer) (reset-is here.table here.state (fits-is s));
    reset-anew = anew_at s;
    in_tree_count = subst (λ k. in_tree_of (view_of here) k ≡ 2 * length (held_at here) + 2) slots-are (in_tree_at s sized);
    in_use = in_use_at s sized;
    changes_what_it_read = step-covered s;
    same-between = same-while_busy s;
  }

  -- at the reset no task has read anything
  no-notes : (i : ℕ) (r : Note) → OneOf r (notes_at (started real t st) i) → ⊥
  unfolding started
  no-notes i r o = subst (OneOf r) (ap (λ (l : Left). work_notes (task_at l.state i).work) fresh-is ∙ ap (λ (k : Task). work_notes k.work) (all_alike 8 i idle_task)) o

  read-as_noted : (i : ℕ) (r : Note) → OneOf r (notes_at (goes real (started real t st) cs) i) → AsNoted (view_of (goes real (started real t st) cs) r.slot) r.links → Unchanged (started real t st) cs i r
  unfolding goes
  read-as_noted i r o still = since_read s₀ cs i r (all_read s₀ [] cs (λ j q z. absurd (no-notes j q z)) i r o) still

  read-since : ReadSince (started real t st) cs
  read-since = record {
    as_read = read-as_noted;
    tested_as_read = λ i h r o. read-as_noted i r o (test_noted (goes real (started real t st) cs) i h r o);
    writes-tested = step-tested (keeps-all s₀ cs);
  }

-- THE THEOREM
pub structure : Structure
structure t st cs n e least most = (structured t st cs n e least most, read-since t st cs n e least most)
