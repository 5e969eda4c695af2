-- THE CHANGE OF A COMMIT, after its test: it writes, ends the operation, or finds damage. It never leaves the task walking on without a write.
use Prim.Native.Nat.{ℕ}
use mathlib.Core.Bool.{Bool}
use mathlib.Core.List.{List, [], ◌∷◌}
use mathlib.Core.Path.{◌≡◌}
use native.Mathlib.Omega.{arith}
use Rattle.machine.proofs.Choice.{if_elim}
use Rattle.machine.specs.Commit.{Did, calm}
use Rattle.machine.specs.PutIn.{put_done, put_limit, put_room, put_turn, put_writes}
use Rattle.machine.specs.Rows.{double_writes, rotate_writes}
use Rattle.machine.specs.Settling.{double_by, double_do, promote_by, promote_do, rotate_by, rotate_do, rotate_two_do}
use Rattle.machine.specs.Table.{View, Write, slot1, slot2, slot3}
use Rattle.machine.specs.TakeOut.{take_room}
use Rattle.terms.specs.Task.{busy}
use Rattle.terms.specs.declared.Answer.{Answer}
use Rattle.terms.specs.declared.Answer.TheVariants.{Limit, NoRoom, PutUnsettled}
use Rattle.terms.specs.declared.Around.{Around}
use Rattle.terms.specs.declared.Goal.TheVariants.{Settle}
use Rattle.terms.specs.declared.Job.{Job}
use Rattle.terms.specs.declared.LevelRow.{LevelRow}
use Rattle.terms.specs.declared.LevelRow.TheVariants.{DoubleRotation, NoRow, RotateOne, RotateTwo}
use Rattle.terms.specs.declared.Links.{Links}
use Rattle.terms.specs.declared.ParentRow.{ParentRow}
use Rattle.terms.specs.declared.ParentRow.TheVariants.{Outranked, Promote, Wider}
use Rattle.terms.specs.declared.Path.{Path}
use Rattle.terms.specs.declared.Phase.TheVariants.{Start}
use Rattle.terms.specs.declared.Rec.{Rec}
use Rattle.terms.specs.declared.Turn.{Turn}
use Rattle.terms.specs.declared.Turn.TheVariants.{Done, Hurt, Next}

abbrev pub NoNext : Turn → Type 0
NoNext Hurt = Unit {0}
NoNext (Next k) = ⊥
NoNext (Done a) = Unit {0}

abbrev pub Stops : Did → Type 0
Stops x = x.writes ≡ [] → NoNext x.turn

some_writes : {w : Write} {ws : List Write} → (w ∷ ws) ≡ [] → ⊥
some_writes e = let z : ◌≡◌ {A = ℕ} 0 1 = cc in omega arith

module _ (n : ℕ) (v : View) (j : Job) where
  hurt-stops : Stops (calm Hurt)
  hurt-stops w = tt

  done_stops : (a : Answer) → Stops (calm (Done a))
  done_stops a w = tt

  put_five : (q : Path) (e : Bool) (x : Turn) (h : Rec) → Stops (put_done x (put_writes j q e h (slot1 v n) (slot2 v n) (slot3 v n)))
  unfolding put_writes
  put_five q e x h = if_elim (λ ws. ws ≡ [] → NoNext x) _ (λ z r. absurd (some_writes r)) (λ z r. absurd (some_writes r))

  pub put-stops : (m : ℕ) (q : Path) (e : Bool) (p h : Rec) → Stops (put_limit v n m j q e p h)
  unfolding put_limit put_room
  put-stops m q e p h = if_elim Stops _ (λ a. done_stops Limit) (λ a. if_elim Stops _ (λ y. done_stops NoRoom) (λ y. put_five q e (put_turn j p h) h))

  pub take_stops : (q : Path) (e : Bool) (r : Rec) (x : ℕ) → Stops (take_room v n q e r x)
  unfolding take_room
  take_stops q e r x = if_elim Stops _ (λ a. done_stops NoRoom) (λ a y. absurd (some_writes y))

  promote-do : (q : Path) (e : Bool) (c : Links) (z : Rec) → Stops (promote_do v n j q e c z)
  unfolding promote_do
  promote-do q e c z = if_elim Stops _ (λ a. hurt-stops) (λ a. if_elim Stops _ (λ y. done_stops PutUnsettled) (λ y r. absurd (some_writes r)))

  pub promote-stops : (row : ParentRow) (q : Path) (a c : Links) (z : Rec) → Stops (promote_by row v n j q a c z)
  unfolding promote_by
  promote-stops Outranked q a c z = hurt-stops
  promote-stops Promote q a c z = promote-do q _ c z
  promote-stops Wider q a c z = hurt-stops

  rotate-do : (q : Path) (o : Around) (z x : Rec) (rx rz : ℕ) → Stops (rotate_do v n j q o z x rx rz)
  unfolding rotate_do rotate_writes
  rotate-do q o z x rx rz = if_elim Stops _ (λ y. done_stops PutUnsettled) (λ y e. absurd (some_writes e))

  pub rotate-stops : (row : LevelRow) (q : Path) (o : Around) (z x : Rec) → Stops (rotate_by row v n j q o z x)
  unfolding rotate_by rotate_two_do
  rotate-stops NoRow q o z x = hurt-stops
  rotate-stops RotateOne q o z x = rotate-do q o z x _ _
  rotate-stops RotateTwo q o z x = if_elim Stops _ (λ a. hurt-stops) (λ a. rotate-do q o z x _ _)
  rotate-stops DoubleRotation q o z x = hurt-stops

  double-do : (q : Path) (o : Around) (d : Links) (z x y : Rec) → Stops (double_do v n j q o d z x y)
  unfolding double_do double_writes
  double-do q o d z x y =
      if_elim Stops _ (λ a. done_stops PutUnsettled)
      (λ a. if_elim (λ ws. ws ≡ [] → NoNext (Next (busy j (Start Settle)))) o.side (λ r e. absurd (some_writes e)) (λ r e. absurd (some_writes e)))

  pub double-stops : (row : LevelRow) (q : Path) (o : Around) (d : Links) (z x y : Rec) → Stops (double_by row v n j q o d z x y)
  unfolding double_by
  double-stops NoRow q o d z x y = hurt-stops
  double-stops RotateOne q o d z x y = rotate-stops RotateOne q o z x
  double-stops RotateTwo q o d z x y = rotate-stops RotateTwo q o z x
  double-stops DoubleRotation q o d z x y = double-do q o d z x y
