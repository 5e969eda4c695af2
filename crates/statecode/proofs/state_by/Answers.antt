use Rattle.statecode.specs.Code.{state_by, tasks_by}
use Rattle.statecode.proofs.state_by.Goals as goal

pub returns : goal.returns
unfolding state_by tasks_by
returns c =
    simp (
      c.task_at.ensures,
      c.task_at-2.ensures,
      c.task_at-3.ensures,
      c.task_at-4.ensures,
      c.task_at-5.ensures,
      c.task_at-6.ensures,
      c.task_at-7.ensures,
      c.task_at-8.ensures,
    )
