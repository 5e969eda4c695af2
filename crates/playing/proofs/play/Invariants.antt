use Rattle.std.proofs.Common.{IfSome}
use Rattle.playing.proofs.Going.{Going}
use Rattle.playing.proofs.play.Given as goal

abbrev pub invariant-loop-place : goal.invariant-loop-place
invariant-loop-place g l = IfSome (g.R.Read.remaining l.initial.input) (λ bs. Going bs l.place l.t l.st (g.R.Read.remaining l.input) (g.W.Write.contents l.initial.out) (g.W.Write.contents l.out))
