-- How the code speaks of a step that may stop before its change: it then writes nothing and hands back its turn.
use Rattle.std.specs.Prelude.{Ok, Err}
use Rattle.std.specs.declared.result.Result.{Result}
use Rattle.terms.specs.declared.Turn.{Turn}
use Rattle.terms.specs.declared.Outcome.{Outcome}
use Rattle.machine.specs.Commit.{Did, calm}
use Rattle.machine.proofs.Writes.{calmly}

-- the change, or the turn that stopped it
abbrev pub or_stopped : Did → Result (Unit {0}) Turn → Did
or_stopped d (Ok u) = d
or_stopped d (Err a) = calm a

-- what a step hands back
abbrev pub or_calm : Result Outcome Turn → Outcome
or_calm (Ok o) = o
or_calm (Err a) = calmly a
