-- The state that goes with the table: eight tasks, m and u.
use Rattle.std.specs.Prelude.{ℕ, zero, suc, ◌+◌, Bool, true, false, ◌&&◌, ◌||◌, List, leb, eqb, get_or, set, replicate}
use Rattle.terms.specs.declared.Job.{Job}
use Rattle.terms.specs.declared.Operation.{Operation}
use Rattle.terms.specs.declared.Operation.TheVariants.{LookUp, PutIn, TakeOut}
use Rattle.terms.specs.declared.Task.{Task}
use Rattle.terms.specs.declared.State.{State}
use Rattle.machine.specs.Record.{number_fits, price_fits}
use Rattle.terms.specs.Task.{idle_task, work_settles, is_busy}

-- task i
abbrev pub task_at : State → ℕ → Task
task_at st i = get_or st.tasks i idle_task

-- task i stored
abbrev pub with_task : State → ℕ → Task → State
with_task st i k = record { tasks = set st.tasks i k; m = st.m; u = st.u }

-- a test as a number
abbrev pub one : Bool → ℕ
one true = 1
one false = 0

-- how many of the first k tasks settle, how many are busy
unfoldable pub settling : List Task → ℕ → ℕ
settling ts zero = 0
settling ts (suc k) = settling ts k + one (work_settles (get_or ts k idle_task).work)

-- 14: "some task busy"
unfoldable pub busy_tasks : List Task → ℕ → ℕ
busy_tasks ts zero = 0
busy_tasks ts (suc k) = busy_tasks ts k + one (is_busy (get_or ts k idle_task).work)

-- "c is u plus the tasks now settling."
unfoldable pub count_open : State → ℕ
count_open st = st.u + settling st.tasks 8

-- 17 of "every call but reset: m is above 1,000,000, or u plus the settling tasks is above m"
unfoldable pub sound : State → Bool
sound st = leb st.m 1000000 && leb (count_open st) st.m

-- 17 of a step: "the task's number or price is out of range"
unfoldable pub job_fits : Job → Bool
job_fits j = number_fits j.number && price_fits j.price

-- "A look up or take out with a price other than 0 gives 11."
abbrev pub may_price : Operation → Bool
may_price LookUp = false
may_price PutIn = true
may_price TakeOut = false

-- 11: "fare number or price out of range"
unfoldable pub ask_fits : Operation → Job → Bool
ask_fits o j = job_fits j && (may_price o || eqb j.price 0)

-- after a reset: "m and u 0, all tasks idle"
abbrev pub fresh_state : State
fresh_state = record { tasks = replicate 8 idle_task; m = 0; u = 0 }
