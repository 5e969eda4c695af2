-- AT MOST 28 settling commits for each put-in that settled, on every history and from any point on.
use Prim.Native.Nat.{◌*◌, ◌+◌, ◌≤◌, ℕ}
use lib.ListN.{length}
use mathlib.Core.List.{List, [], ◌∷◌}
use mathlib.Core.Path.{◌≡◌}
use native.Mathlib.Omega.{arith}
use Rattle.demand2.proofs.Carried.{same-tree}
use Rattle.demand2.proofs.Keeps.{stands_on}
use Rattle.demand2.proofs.Passes.{passing}
use Rattle.demand2.proofs.Stands.{Stands}
use Rattle.demand3.proofs.Demand3.{levels-few, rich}
use Rattle.demand3.specs.Demand3.{c_at}
use Rattle.history.specs.History.{Ask, left}
use Rattle.history.specs.Ledger.{Point, advance, goes, history, started, still_open}
use Rattle.history.specs.Machine.{real}
use Rattle.progress.proofs.Tally.{Fair, call_fair}
use Rattle.progress.proofs.Work.{work-28}
use Rattle.progress.specs.Tally.{FewSettlings, Tally, no_tally, tallied, tally_from, tally_of}
use Rattle.progress.specs.Work.{work}
use Rattle.terms.specs.declared.State.{State}

-- the tally and the work left at the end of these calls
pub settled-from : {p : Point} (s : Stands p) (B : ℕ) (n : Tally) → Fair B n s.tree → (cs : List Ask) → (s' : Stands (goes real p cs)) × Fair B (tally_from real p n cs) s'.tree
unfolding goes tally_from advance
settled-from s B n h [] = (s, h)
settled-from {p} s B n h (c ∷ cs) =
    let g = (passing s c).passes in
    let s' = stands_on s g in
    settled-from {p = advance real p c} s' B (tallied n p c (left real p.table p.state c)) (rw (same-tree s g s') (call_fair s B n h g)) cs

module _ (t : List ℕ) (st : State) (cs ds : List Ask) (n : ℕ) (e : length t ≡ 6 * n) (least : 8 ≤ n) (most : n ≤ 4096) where
  abbrev from : Point
  from = history real t st cs

  few-since : (tally_from real from no_tally ds).settlings ≤ 28 * (c_at from + (tally_from real from no_tally ds).settling-puts)
  few-since =
      let r = rich t st cs n e least most in
      let s = r.stands in
      let f = settled-from s (work 255 s.tree) no_tally (omega arith) ds in
      omega (arith, f.1, work-28 255 s.tree (omega arith) s.shape.marks, levels-few r)

few-ever : (t : List ℕ) (st : State) (cs : List Ask) (n : ℕ) → length t ≡ 6 * n → 8 ≤ n → n ≤ 4096 → (tally_of real t st cs).settlings ≤ 28 * (tally_of real t st cs).settling-puts
unfolding history goes started still_open
few-ever t st cs n e least most = omega (arith, few-since t st [] cs n e least most)

-- THE THEOREM
pub few-settlings : FewSettlings real
few-settlings = record { ever = few-ever; since = few-since }
