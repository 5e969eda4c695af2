-- What is handed back after a settling commit: the task walks again from the entry.
use Rattle.std.specs.Prelude.{false}
use Rattle.terms.specs.declared.Job.{Job}
use Rattle.terms.specs.declared.Goal.TheVariants.{Settle}
use Rattle.terms.specs.declared.Phase.TheVariants.{Start}
use Rattle.terms.specs.declared.Turn.TheVariants.{Next}
use Rattle.terms.specs.declared.Outcome.{Outcome}
use Rattle.terms.specs.Task.{busy}

abbrev pub settled_on : Job → Outcome
settled_on j = record { turn = Next (busy j (Start Settle)); committed = false }
