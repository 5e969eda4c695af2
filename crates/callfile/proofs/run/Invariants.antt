use Rattle.std.proofs.Common.{◌≡◌, ◌-◌}
use Rattle.terms.specs.declared.Answer.TheVariants.{Accepted}
use Rattle.machine.specs.CallFile.{run_of}
use Rattle.callfile.proofs.run.Given as goal

abbrev pub invariant-loop : goal.invariant-loop
invariant-loop l = (l.o.answer ≡ Accepted) × (run_of l.count l.fn.t l.fn.st l.i ≡ run_of (l.count - l.counter) l.t l.o.state l.i)
