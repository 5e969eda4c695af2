-- The seven calls as one thing, so that a demand can be put to a wrong machine too.
use Rattle.std.specs.Prelude.{ℕ, List}
use Rattle.terms.specs.declared.Job.{Job}
use Rattle.terms.specs.declared.Operation.{Operation}
use Rattle.terms.specs.declared.Report.{Report}
use Rattle.terms.specs.declared.State.{State}
use Rattle.machine.specs.Step.{Left, step_of}
use Rattle.machine.specs.Calls.{Listed, reset_of, begin_of, abandon_of, tidy_of, figures_of, list_of}

-- what each call leaves and hands back, for every table, state and argument
pub record Machine : Type 0 where
  pub reset : List ℕ → State → Left
  pub begin : List ℕ → State → ℕ → Operation → Job → Left
  pub step : List ℕ → State → ℕ → Left
  pub abandon : List ℕ → State → ℕ → Left
  pub tidy : List ℕ → State → Left
  pub figures : List ℕ → State → Report
  pub list : List ℕ → State → List ℕ → Listed

-- THE machine: the very definitions that the contracts of the code cite
abbrev pub real : Machine
real = record { reset = reset_of; begin = begin_of; step = step_of; abandon = abandon_of; tidy = tidy_of; figures = figures_of; list = list_of }

-- the same but for its step
abbrev pub with_step : (List ℕ → State → ℕ → Left) → Machine
with_step f = record { reset = reset_of; begin = begin_of; step = f; abandon = abandon_of; tidy = tidy_of; figures = figures_of; list = list_of }
