use Rattle.std.proofs.Common.{refl}
use Rattle.statecode.specs.Code.{state_by}
use Rattle.tiebeamer.proofs.ByNumbers.{m_by, u_by, hurt-turn, next-turn, done_turn}
use Rattle.tiebeamer.proofs.store_turn.Goals as goal

pub returns-in-Hurt : goal.returns-in-Hurt
returns-in-Hurt c = (hurt-turn (state_by c.args.w.now.numbers.now) c.args.i c.args.r.turn c.args.r.committed c.in-Hurt.is, refl)

pub returns-in-Next : goal.returns-in-Next
returns-in-Next c = (
  next-turn (state_by c.args.w.now.numbers.now) c.args.i c.args.r.turn c.args.r.committed _ _ _ (m_by c.args.w.now.numbers.now) (u_by c.args.w.now.numbers.now) c.from.ensures _ _ c.in-Next.is c.store_task.ensures.0,
  c.store_task.ensures.1,
)

pub returns-in-Done : goal.returns-in-Done
returns-in-Done c = (
  done_turn (state_by c.args.w.now.numbers.now) c.args.i c.args.r.turn c.args.r.committed _ _ _ (m_by c.args.w.now.numbers.now) (u_by c.args.w.now.numbers.now) c.from.ensures _ _ c.in-Done.is _ c.unsettled.ensures (rw c.idle.ensures at c.store_task-in-Done.ensures.0),
  c.store_task-in-Done.ensures.1,
)
