-- The calls of a history, with any arguments.
use Rattle.std.specs.Prelude.{ℕ, List}
use Rattle.terms.specs.declared.Job.{Job}
use Rattle.terms.specs.declared.Operation.{Operation}
use Rattle.terms.specs.declared.State.{State}
use Rattle.machine.specs.Step.{Left, same}
use Rattle.history.specs.Machine.{Machine}

-- one of the seven calls: any task, operation, number and price; a list with any numbers lent
pub data Ask : Type 0 where
  reset : Ask
  begin : ℕ → Operation → Job → Ask
  step : ℕ → Ask
  abandon : ℕ → Ask
  tidy : Ask
  figures : Ask
  list : List ℕ → Ask

-- what a call leaves: table, state, answer. Figures and list leave both as they were
abbrev pub left : Machine → List ℕ → State → Ask → Left
left M t st reset = M.reset t st
left M t st (begin i o j) = M.begin t st i o j
left M t st (step i) = M.step t st i
left M t st (abandon i) = M.abandon t st i
left M t st tidy = M.tidy t st
left M t st figures = same t st (M.figures t st).answer
left M t st (list room) = same t st (M.list t st room).answer
