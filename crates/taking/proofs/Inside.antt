-- A take-out that passes its grounds stands in the table.
use mathlib.Core.Path.{◌≡◌}
use mathlib.Core.Bool.{Bool, true}
use mathlib.Core.List.{List}
use Prim.Native.Nat.{ℕ, ◌<◌}
use native.Mathlib.Omega.{arith}
use Rattle.std.proofs.lemmas.Grind.{common_steps}
use Rattle.terms.specs.declared.Rec.{Rec}
use Rattle.terms.specs.declared.Links.{Links}
use Rattle.terms.specs.declared.Path.{Path}
use Rattle.terms.specs.declared.Job.{Job}
use Rattle.walk.specs.Inside.{Inside}
use Rattle.machine.specs.Choice.{if_b}
use Rattle.machine.specs.Record.{leads, other}
use Rattle.machine.specs.Table.{view}
use Rattle.machine.specs.TakeOut.{take_grounds}
use Rattle.machine.proofs.Tests.{formed-in, linked-in}

module _ (n : ℕ) (t : List ℕ) (j : Job) (q : Path) (a b : Links) (g p l r : Rec) (x : Bool)
    (eg : g ≡ view n t q.grand) (ep : p ≡ view n t q.parent) (el : l ≡ view n t b.left) (er : r ≡ view n t b.right)
    (ex : x ≡ take_grounds n j q a b g p l r) (e : x ≡ true) where
  grand_in : q.grand < n
  unfolding take_grounds
  grand_in = grind (arith, common_steps, formed-in)

  parent_in : q.parent < n
  unfolding take_grounds
  parent_in = grind (arith, common_steps, formed-in)

  left_in : b.left < n
  unfolding take_grounds
  left_in = grind (arith, common_steps, linked-in)

  right_in : b.right < n
  unfolding take_grounds
  right_in = grind (arith, common_steps, linked-in)

  here_in : q.here < n
  unfolding take_grounds leads
  here_in = grind (arith, common_steps, left_in, right_in)

  pub sibling_in : (s : ℕ) → s ≡ other b q.here → s < n
  unfolding other if_b
  sibling_in s es = grind (arith, common_steps, left_in, right_in)

  pub path_in : Inside n q
  path_in = (grand_in, parent_in, here_in)
