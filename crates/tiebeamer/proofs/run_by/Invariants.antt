use Rattle.std.proofs.Common.{◌≡◌, ◌-◌}
use Rattle.terms.specs.declared.Answer.TheVariants.{Accepted}
use Rattle.machine.specs.CallFile.{run_of}
use Rattle.statecode.specs.Lent.{lent, SameState}
use Rattle.tiebeamer.proofs.run_by.Given as goal

abbrev pub invariant-loop : goal.invariant-loop
invariant-loop l =
    (l.a ≡ Accepted)
    × (run_of l.count l.fn.t (lent l.fn.w) l.i ≡ run_of (l.count - l.counter) l.t (lent l.w) l.i)
    × SameState l.fn.w l.w
