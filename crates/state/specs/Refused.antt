-- How the code speaks of a refusal: as the error of what may be refused, and as the answer of the call.
use Rattle.std.specs.Prelude.{Ok, Err}
use Rattle.std.specs.declared.result.Result.{Result}
use Rattle.terms.specs.declared.State.{State}
use Rattle.terms.specs.declared.Out.{Out}
use Rattle.terms.specs.declared.Refusal.{Refusal}
use Rattle.terms.specs.Answers.{answer_of}

-- a call that may be refused, on a state: "a refusal changes nothing"
abbrev pub or_refused : State → Result Out Refusal → Out
or_refused st (Ok o) = o
or_refused st (Err e) = record { state = st; answer = answer_of e }
