-- DEMAND 2 holds of the real machine.
use Prim.Native.Nat.{◌*◌, ◌≤◌, ℕ}
use borrow.Author.Tests.{le-ltb, lt-ltb}
use lib.ListN.{length}
use mathlib.Core.List.{List, [], ◌∷◌}
use mathlib.Core.Path.{◌∙◌, ◌≡◌, ap, refl, subst, sym}
use native.Mathlib.Omega.{arith}
use Rattle.demand2.proofs.Fresh.{reset-is, stands-fresh}
use Rattle.demand2.proofs.Keeps.{stands_on}
use Rattle.demand2.proofs.Lengths.{fits-of}
use Rattle.demand2.proofs.Passes.{passing}
use Rattle.demand2.proofs.Seen.{reach-is, the_seen}
use Rattle.demand2.proofs.Stands.{Stands, fits-is, sound-is}
use Rattle.demand2.specs.Demand2.{Demand2, Kept, held_at}
use Rattle.fares.proofs.Lists.{tree_sorted}
use Rattle.fares.proofs.Whole.{fare-count, fare-list, written-long}
use Rattle.fares.specs.Read.{read}
use Rattle.history.specs.Fares.{Sorted}
use Rattle.history.specs.History.{Ask}
use Rattle.history.specs.Ledger.{Fare, Point, advance, goes, history, opening, started, written}
use Rattle.history.specs.Machine.{real}
use Rattle.machine.specs.Calls.{list_of, list_reached}
use Rattle.machine.specs.Choice.{if_b}
use Rattle.machine.specs.Reach.{count_fares, fare_list, reached}
use Rattle.terms.specs.declared.State.{State}
use Rattle.trees.specs.Order.{ALL}

-- every call keeps it
pub keeps : {p : Point} → Stands p → (c : Ask) → Stands (advance real p c)
unfolding advance
keeps s c = stands_on s (passing s c).passes

pub keeps-all : {p : Point} → Stands p → (cs : List Ask) → Stands (goes real p cs)
unfolding goes
keeps-all s [] = s
keeps-all {p} s (c ∷ cs) = keeps-all {p = advance real p c} (keeps s c) cs

-- so it holds on every history
pub stands : (t : List ℕ) (st : State) (cs : List Ask) (n : ℕ) → length t ≡ 6 * n → 8 ≤ n → n ≤ 4096 → Stands (history real t st cs)
unfolding history started
stands t st cs n e least most =
    let six : length t ≡ n * 6 = omega arith in
    keeps-all (subst (λ l. Stands (record { table = l.table; state = l.state; account = opening })) (sym (reset-is t st (fits-of (length t) n six least most)))
    (stands-fresh (length t) n six least most)) cs

-- ---- the list call

module _ {p : Point} (s : Stands p) where
  list-reached : (room : List ℕ) → list_of p.table p.state room ≡ list_reached room (reached (read s.tree) (the_seen s).marks)
  unfolding list_of if_b
  list-reached room = rw (fits-is s, sound-is s) (ap (list_reached room) (reach-is s))

  count_is : count_fares (read s.tree) ≡ length (held_at p)
  count_is = fare-count s.tree s.shape.marks ∙ ap (λ (x : List Fare). length x) s.held

  fares-is : fare_list (read s.tree) ≡ written (held_at p)
  fares-is = fare-list s.tree s.shape.marks ∙ ap written s.held

  long-is : length (fare_list (read s.tree)) ≡ 2 * length (held_at p)
  long-is = ap (λ (x : List ℕ). length x) fares-is ∙ written-long (held_at p)

  pub kept : Kept real p
  unfolding list_reached if_b
  kept = record {
    listed = λ room h. list-reached room ∙ rw (count_is, le-ltb (length room) (2 * length (held_at p)) h, long-is, fares-is) refl;
    no_room = λ room h. list-reached room ∙ rw (count_is, lt-ltb (length room) (2 * length (held_at p)) h) refl;
    sorted = subst Sorted s.held (tree_sorted 0 ALL s.tree s.shape.order);
    counted = s.m-is;
    lawful = s.lawful;
  }

-- THE THEOREM
pub demand_2 : Demand2 real
demand_2 t st cs n e least most = kept (stands t st cs n e least most)
