-- The refusals of reset, begin and abandon in the printed order, each with its ground.
use Rattle.std.specs.Prelude.{ℕ, List, [], ◌∷◌}
use Rattle.terms.specs.declared.Job.{Job}
use Rattle.terms.specs.declared.Operation.{Operation}
use Rattle.terms.specs.declared.State.{State}
use Rattle.grounds.specs.Order.{Refusal}
use Rattle.grounds.specs.State.{TableLength, TaskNumberAbove7, OutOfRange, TaskBusy, TaskIdle, TaskSettles, CountsDamaged}

abbrev pub refuse : ℕ → Type 0 → Refusal
refuse k g = record { number = k; reason = g }

-- 18 "table not 6 times 8 to 4,096 numbers long"
abbrev pub length18 : List ℕ → Refusal
length18 t = refuse 18 (TableLength t)

-- 10 "task number above 7"
abbrev pub task10 : ℕ → Refusal
task10 i = refuse 10 (TaskNumberAbove7 i)

-- 11 "fare number or price out of range"
abbrev pub range11 : Operation → Job → Refusal
range11 o j = refuse 11 (OutOfRange o j)

-- 12 "begin: task busy"
abbrev pub busy12 : State → ℕ → Refusal
busy12 st i = refuse 12 (TaskBusy st i)

-- 13 "step, abandon: task idle"
abbrev pub idle13 : State → ℕ → Refusal
idle13 st i = refuse 13 (TaskIdle st i)

-- 17 "damaged", of a call that reads no record
abbrev pub counts17 : State → Refusal
counts17 st = refuse 17 (CountsDamaged st)

-- "it answers 6 (u one more) if the task was settling, otherwise 0"
abbrev pub settling6 : State → ℕ → Refusal
settling6 st i = refuse 6 (TaskSettles st i)

abbrev pub reset_refusals : List ℕ → List Refusal
reset_refusals t = length18 t ∷ []

abbrev pub begin_refusals : List ℕ → State → ℕ → Operation → Job → List Refusal
begin_refusals t st i o j = length18 t ∷ task10 i ∷ range11 o j ∷ busy12 st i ∷ counts17 st ∷ []

abbrev pub abandon_refusals : List ℕ → State → ℕ → List Refusal
abandon_refusals t st i = length18 t ∷ task10 i ∷ idle13 st i ∷ counts17 st ∷ settling6 st i ∷ []
