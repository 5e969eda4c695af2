-- The grounds that look at the length of the table, at the numbers handed in and at the state.
use Rattle.std.specs.Prelude.{ℕ, zero, suc, ◌+◌, ◌*◌, ◌≤◌, ◌<◌, ◌≡◌, List, ◌⊎◌, ◌≢◌, length}
use Rattle.terms.specs.declared.Job.{Job}
use Rattle.terms.specs.declared.Operation.{Operation}
use Rattle.terms.specs.declared.Operation.TheVariants.{LookUp, TakeOut}
use Rattle.terms.specs.declared.Goal.TheVariants.{Settle}
use Rattle.terms.specs.declared.Work.TheVariants.{Idle, Busy}
use Rattle.terms.specs.declared.Phase.{Phase}
use Rattle.terms.specs.declared.State.{State}
use Rattle.terms.specs.Task.{goal_of}
use Rattle.machine.specs.State.{task_at}
use Rattle.grounds.specs.Record.{FareNumber, Price}

-- "Slots: 8 to 4,096, six 32-bit numbers each"
abbrev pub Fits : List ℕ → Type 0
Fits t = (n : ℕ) × (length t ≡ 6 * n) × (8 ≤ n) × (n ≤ 4096)

-- 18: "table not 6 times 8 to 4,096 numbers long"
abbrev pub TableLength : List ℕ → Type 0
TableLength t = ¬ (Fits t)

-- 10: "task number above 7"
abbrev pub TaskNumberAbove7 : ℕ → Type 0
TaskNumberAbove7 i = 7 < i

-- "fare number or price out of range"
abbrev pub JobOutOfRange : Job → Type 0
JobOutOfRange j = (¬ (FareNumber j.number)) ⊎ (¬ (Price j.price))

-- 11: "fare number or price out of range"; "A look up or take out with a price other than 0 gives 11."
pub data OutOfRange (o : Operation) (j : Job) : Type 0 where
  number_or_price : JobOutOfRange j → OutOfRange o j
  look_up_with_price : o ≡ LookUp → j.price ≢ 0 → OutOfRange o j
  take_out_with_price : o ≡ TakeOut → j.price ≢ 0 → OutOfRange o j

-- task i is busy: it has an operation under way
abbrev pub TaskBusy : State → ℕ → Type 0
TaskBusy st i = (j : Job) × (f : Phase) × ((task_at st i).work ≡ Busy j f)

-- task i is idle
abbrev pub TaskIdle : State → ℕ → Type 0
TaskIdle st i = (task_at st i).work ≡ Idle

-- task i is busy and settles
abbrev pub TaskSettles : State → ℕ → Type 0
TaskSettles st i = (j : Job) × (f : Phase) × ((task_at st i).work ≡ Busy j f) × (goal_of f ≡ Settle)

-- 14: "tidy: some task busy"
abbrev pub SomeTaskBusy : State → Type 0
SomeTaskBusy st = (i : ℕ) × (i ≤ 7) × TaskBusy st i

-- "the tasks now settling": k of the first d tasks
pub data Settling (st : State) : ℕ → ℕ → Type 0 where
  none_yet : Settling st zero zero
  one_more : {d k : ℕ} → TaskSettles st d → Settling st d k → Settling st (suc d) (suc k)
  no_more : {d k : ℕ} → ¬ (TaskSettles st d) → Settling st d k → Settling st (suc d) k

-- 17, "Every call but reset: m is above 1,000,000, or u plus the settling tasks is above m."
pub data CountsDamaged (st : State) : Type 0 where
  m_above_1000000 : 1000000 < st.m → CountsDamaged st
  u_plus_settling_above_m : (k : ℕ) → Settling st 8 k → st.m < st.u + k → CountsDamaged st
