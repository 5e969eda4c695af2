-- How the code speaks of a walk: what it comes to at the record arrived at, apart from the task.
use Rattle.std.specs.Prelude.{ℕ}
use Rattle.terms.specs.declared.Path.{Path}
use Rattle.terms.specs.declared.Job.{Job}
use Rattle.terms.specs.declared.Turn.{Turn}
use Rattle.terms.specs.declared.Turn.TheVariants.{Hurt, Next, Done}
use Rattle.terms.specs.declared.Goal.{Goal}
use Rattle.terms.specs.declared.PutStage.TheVariants.{PutParent}
use Rattle.terms.specs.declared.TakeStage.TheVariants.{TakeGrand}
use Rattle.terms.specs.declared.SettleStage.TheVariants.{SettleGrand}
use Rattle.terms.specs.declared.Phase.TheVariants.{Walk, PuttingIn, TakingOut, Settling}
use Rattle.terms.specs.Task.{busy}
use Rattle.machine.specs.Choice.{if_b}
use Rattle.machine.specs.Record.{well_formed}
use Rattle.machine.specs.Table.{View}
use Rattle.machine.specs.Walk.{sought}
use Rattle.walk.specs.declared.Arrival.{Arrival}
use Rattle.walk.specs.declared.Arrival.TheVariants.{Lost, On, Puts, Takes, Settles, Ends}

-- the slot that a walk for number k leaves slot s to; 0 where s is not well formed
unfoldable pub left_to : View → ℕ → ℕ → ℕ → ℕ
left_to v n k s = if_b (well_formed n s (v s)) (sought k (v s)) 0

-- the turn of a task that walked to q
unfoldable pub turn_at : Goal → Job → Path → Arrival → Turn
turn_at g j q Lost = Hurt
turn_at g j q On = Next (busy j (Walk g q))
turn_at g j q Puts = Next (busy j (PuttingIn q PutParent))
turn_at g j q Takes = Next (busy j (TakingOut q TakeGrand))
turn_at g j q Settles = Next (busy j (Settling q SettleGrand))
turn_at g j q (Ends a) = Done a
