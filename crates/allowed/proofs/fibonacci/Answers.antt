use Rattle.std.proofs.Common.{refl}
use Rattle.machine.proofs.Fibonacci.{table_is_fib}
use Rattle.machine.specs.Allowed.{fibonacci}
use Rattle.allowed.proofs.fibonacci.Goals as goal

pub returns-clause-table : goal.returns-clause-table
unfolding fibonacci
returns-clause-table c = refl

pub returns-clause-rule : goal.returns-clause-rule
unfolding fibonacci
returns-clause-rule c = table_is_fib
