use Rattle.std.proofs.Common.{ap, arith, replicate, ◌∙◌}
use Rattle.machine.specs.Calls.{reset_of}
use Rattle.playing.proofs.Going.{starts, goes_on, full, over, known_ends}
use Rattle.playing.proofs.play.Goals as goal
use Rattle.playing.proofs.play.Goals.{else-loop-place-test, then-loop-place-test+in_ok-next+in_default, then-loop-place-test+in_ok-next+in-Some+else-place-lt18446744073709551615}

pub loop-place-init : goal.loop-place-init
loop-place-init g c = starts _ _ _ c.reset.result (c.reset.ensures ∙ ap (λ st. reset_of (replicate 384 0) st) c.fresh_state.ensures)

pub loop-place-preserved : goal.loop-place-preserved
loop-place-preserved g c = goes_on _ _ _ _ _ _ _ _ _ _ _ _ c.in-Some.is c.loop-place.invariant c.in_ok-next.ensures

pub returns : goal.returns
returns g c = known_ends _ _ _ _ _ _ _ (elim c.loop-place-test.branch [
  | else-loop-place-test w ↦ rw (w.t-is, w.st-is, w.out-is) (full _ _ _ _ _ _ _ (omega arith) c.loop-place.invariant)
  | then-loop-place-test+in_ok-next+in_default w ↦ rw (w.t-is, w.st-is, w.out-is) (over _ _ _ _ _ _ _ _ _ _ _ w.in_default.is c.loop-place.invariant w.in_ok-next.ensures)
  | then-loop-place-test+in_ok-next+in-Some+else-place-lt18446744073709551615 w ↦ rw (w.t-is, w.st-is, w.out-is) (full _ _ _ _ _ _ _ (omega arith) (goes_on _ _ _ _ _ _ _ _ _ _ _ _ w.in-Some.is c.loop-place.invariant w.in_ok-next.ensures))
]) c.finish.ensures
