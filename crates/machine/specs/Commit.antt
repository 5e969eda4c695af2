-- HOW ONE STEP GOES, 2 and 3: a reading, and what every commit shares.
use Rattle.std.specs.Prelude.{Bool, false, not, List, []}
use Rattle.terms.specs.declared.Rec.{Rec}
use Rattle.terms.specs.declared.Task.{Task}
use Rattle.terms.specs.declared.Turn.{Turn}
use Rattle.terms.specs.declared.Turn.TheVariants.{Hurt, Next}
use Rattle.machine.specs.Choice.{if_b}
use Rattle.machine.specs.Record.{links_of}
use Rattle.machine.specs.Table.{Write}
use Rattle.terms.specs.Task.{noted, restarted}

-- "If the record is in state 2, or has a next remembered record to which neither noted link leads, the task starts its walk again":
-- `formed` says that the record read is there and well formed, `good` that it is in the tree and leads on
unfoldable pub reading : Task → Bool → Bool → Rec → Turn
reading k formed good r = if_b (not formed) Hurt (if_b good (Next (noted k (links_of r))) (Next (restarted k)))

-- what a step does: the task's turn, whether a put-in commits, and the writes
pub record Did : Type 0 where
  pub turn : Turn
  pub committed : Bool
  pub writes : List Write

-- a step that writes nothing
abbrev pub calm : Turn → Did
calm a = record { turn = a; committed = false; writes = [] }

-- "17 .. Commit only, before its test"; "If every record read is still .. as noted, the change is made; otherwise the walk starts again."
unfoldable pub commit_if : Task → Bool → Bool → Did → Did
commit_if k grounds test change = if_b (not grounds) (calm Hurt) (if_b (not test) (calm (Next (restarted k))) change)
