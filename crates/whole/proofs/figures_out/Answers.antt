-- A sound state has small counts.
use Rattle.std.proofs.Common.{arith}
use Rattle.machine.specs.State.{count_open}
use Rattle.whole.specs.Whole.{figures_out}
use Rattle.machine.proofs.Sound.{m_small, open_most}
use Rattle.whole.proofs.figures_out.Goals as goal

pub overflow_add-result : goal.overflow_add-result
overflow_add-result c = omega (arith, open_most c.args.st c.requires, m_small c.args.st c.requires, c.count_settling.ensures.0)

pub allowed_rank-requires : goal.allowed_rank-requires
allowed_rank-requires c = m_small c.args.st c.requires

pub returns : goal.returns
unfolding figures_out count_open
returns c = simp (c.count_settling.ensures.0, c.count_free.ensures, c.allowed_rank.ensures)
