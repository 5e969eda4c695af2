-- From the entry on: its exits, and the first marks.
use mathlib.Core.Path.{◌≡◌, sym, ◌∙◌}
use mathlib.Core.Bool.{Bool, true, false, ◌&&◌}
use mathlib.Core.List.{List}
use Prim.Native.Nat.{ℕ, ◌-◌, ◌<◌}
use native.Mathlib.Omega.{arith}
use lib.ListN.{length, get_or, set, replicate, length-set, length-replicate, get_or-replicate}
use Rattle.std.specs.Prelude.{Some, None}
use Rattle.std.specs.declared.option.Option.{Option}
use Rattle.terms.specs.declared.Rec.{Rec}
use Rattle.machine.specs.Choice.{if_b}
use Rattle.machine.specs.Record.{well_formed, in_tree}
use Rattle.machine.specs.Table.{view}
use Rattle.machine.specs.Reach.{hurt, reach}
use Rattle.machine.proofs.Tests.{both_first, formed-in}
use Rattle.machine.proofs.Marks.{unmarked, unmarked-set, unmarked-all}
use Rattle.reach.specs.declared.Below.{Below}
use Rattle.reach.specs.Down.{Down, All}

module _
    (n : ℕ) (t marks : List ℕ) (em : marks ≡ replicate n 0) (e : Rec) (ee : e ≡ view n t 0)
    (f : Bool) (ef : f ≡ well_formed n 0 e) (i : Bool) (ei : i ≡ in_tree e)
  where
    pub entry-hurt : (f && i) ≡ false → reach n (view n t) ≡ hurt
    unfolding reach if_b
    entry-hurt h = simp (← ee, ← ef, ← ei, h)

    module _ (h : (f && i) ≡ true) where
      pub entry_in : 0 < n
      entry_in = formed-in n t 0 (rw (← ee) (sym ef ∙ both_first f i h))

      pub entry-slot : 0 < length marks
      entry-slot = rw (em, length-replicate {A = ℕ} n 0) entry_in

      pub entry-marked : n - 1 ≡ unmarked (set marks 0 1)
      entry-marked =
          let z : get_or marks 0 0 ≡ 0 = rw em (get_or-replicate n 0 0 0 entry_in) in
          let q : unmarked marks ≡ n = rw em (unmarked-all n) in
          omega (arith, unmarked-set marks 0 entry-slot z)

      pub entry_length : length (set marks 0 1) ≡ n
      entry_length = length-set marks 0 1 ∙ rw em (length-replicate {A = ℕ} n 0)

      pub entry-way : (x : Option Below) (later : List ℕ) → Down (view n t) n e e.left (set marks 0 1) (n - 1) x later → All (view n t) n x later
      unfolding reach if_b
      entry-way None later d = simp (← ee, ← ef, ← ei, h) (rw em at (d.same n (omega arith)))
      entry-way (Some x) later d = (omega arith, simp (← ee, ← ef, ← ei, h) (rw em at (d.same n (omega arith))))
