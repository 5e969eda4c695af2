-- A task by itself: idle, begun, a reading noted, its walk started again, abandoned.
use Rattle.std.specs.Prelude.{ℕ, Bool, true, false}
use Rattle.terms.specs.declared.Links.{Links}
use Rattle.terms.specs.declared.Job.{Job}
use Rattle.terms.specs.declared.Operation.{Operation}
use Rattle.terms.specs.declared.Operation.TheVariants.{PutIn, TakeOut}
use Rattle.terms.specs.declared.Goal.{Goal}
use Rattle.terms.specs.declared.Goal.TheVariants.{Serve, Settle}
use Rattle.terms.specs.declared.PutStage.{PutStage}
use Rattle.terms.specs.declared.PutStage.TheVariants.{PutParent, PutLeaf, PutCommit}
use Rattle.terms.specs.declared.TakeStage.{TakeStage}
use Rattle.terms.specs.declared.TakeStage.TheVariants.{TakeGrand, TakeParent, TakeLeft, TakeRight, TakeCommit}
use Rattle.terms.specs.declared.SettleStage.{SettleStage}
use Rattle.terms.specs.declared.SettleStage.TheVariants.{SettleGrand, SettleParent, SettleChoose, SettleRotate, SettleDouble}
use Rattle.terms.specs.declared.Phase.{Phase}
use Rattle.terms.specs.declared.Phase.TheVariants.{Start, Walk, PuttingIn, TakingOut, Settling}
use Rattle.terms.specs.declared.Work.{Work}
use Rattle.terms.specs.declared.Work.TheVariants.{Idle, Busy}
use Rattle.terms.specs.declared.Task.{Task}

-- an idle task is one value
abbrev pub idle_task : Task
idle_task = record { work = Idle }

-- a busy task
abbrev pub busy : Job → Phase → Task
busy j f = record { work = Busy j f }

-- the parent is the entry: there is no grandparent
abbrev pub no_grand : ℕ
no_grand = 4294967295

-- "Begin makes the task busy with the operation, number and price handed in, about to walk from the entry"
abbrev pub begun : Operation → Job → Task
begun o j = busy j (Start (Serve o))

-- "A reading notes both links": the task's next stage
abbrev pub noted_put : PutStage → Links → PutStage
noted_put PutParent l = PutLeaf l
noted_put (PutLeaf a) l = PutCommit a l
noted_put (PutCommit a b) l = PutCommit a b

-- a take-out's next stage
abbrev pub noted_take : TakeStage → Links → TakeStage
noted_take TakeGrand l = TakeParent l
noted_take (TakeParent a) l = TakeLeft a l
noted_take (TakeLeft a b) l = TakeRight a b l
noted_take (TakeRight a b c) l = TakeCommit a b c l
noted_take (TakeCommit a b c d) l = TakeCommit a b c d

-- a settling task's next stage
abbrev pub noted_settle : SettleStage → Links → SettleStage
noted_settle SettleGrand l = SettleParent l
noted_settle (SettleParent a) l = SettleChoose a l
noted_settle (SettleChoose a b) l = SettleRotate a b l
noted_settle (SettleRotate a b c) l = SettleDouble a b c l
noted_settle (SettleDouble a b c d) l = SettleDouble a b c d

-- the stage goes on, the rest stays
abbrev pub noted_phase : Phase → Links → Phase
noted_phase (Start g) l = Start g
noted_phase (Walk g q) l = Walk g q
noted_phase (PuttingIn q s) l = PuttingIn q (noted_put s l)
noted_phase (TakingOut q s) l = TakingOut q (noted_take s l)
noted_phase (Settling q s) l = Settling q (noted_settle s l)

-- an idle task has nothing to note
abbrev pub noted_work : Work → Links → Work
noted_work Idle l = Idle
noted_work (Busy j f) l = Busy j (noted_phase f l)

-- "A reading notes both links."
abbrev pub noted : Task → Links → Task
noted k l = record { work = noted_work k.work l }

-- what the task walks for
abbrev pub goal_of : Phase → Goal
goal_of (Start g) = g
goal_of (Walk g q) = g
goal_of (PuttingIn q s) = Serve PutIn
goal_of (TakingOut q s) = Serve TakeOut
goal_of (Settling q s) = Settle

-- "the task starts its walk again at its next step": it remembers and has noted nothing
abbrev pub restarted_work : Work → Work
restarted_work Idle = Idle
restarted_work (Busy j f) = Busy j (Start (goal_of f))

-- "the task starts its walk again"
abbrev pub restarted : Task → Task
restarted k = record { work = restarted_work k.work }

-- "Abandon makes the task idle"
abbrev pub abandoned : Task → Task
abandoned k = idle_task

-- whether a walk settles
abbrev pub goal_settles : Goal → Bool
goal_settles (Serve o) = false
goal_settles Settle = true

-- "the tasks now settling"
abbrev pub work_settles : Work → Bool
work_settles Idle = false
work_settles (Busy j f) = goal_settles (goal_of f)

-- 12 and 13: whether the task is busy
abbrev pub is_busy : Work → Bool
is_busy Idle = false
is_busy (Busy j f) = true
