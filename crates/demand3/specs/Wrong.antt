-- WRONG MACHINES for demand 3: each is the real one but for one line.
use Rattle.std.specs.Prelude.{ℕ, eqb, Bool, false, not, List}
use Rattle.history.specs.Machine.{Machine, with_step}
use Rattle.machine.specs.Calls.{abandon_of, begin_of, figures_of, list_of, reset_of, tidy_of}
use Rattle.machine.specs.Choice.{if_b}
use Rattle.machine.specs.State.{task_at, with_task}
use Rattle.machine.specs.Step.{Left, same, step_of}
use Rattle.machine.specs.Table.{slots, view}
use Rattle.terms.specs.Task.{idle_task, work_settles}
use Rattle.terms.specs.declared.Answer.TheVariants.{PutSettled}
use Rattle.terms.specs.declared.Phase.TheVariants.{PuttingIn, Settling, Start, TakingOut, Walk}
use Rattle.terms.specs.declared.State.{State}
use Rattle.terms.specs.declared.Work.{Work}
use Rattle.terms.specs.declared.Work.TheVariants.{Busy, Idle}

-- a task ends as settled
abbrev ends_settled : List ℕ → State → ℕ → Left
ends_settled t st i = same t (with_task st i idle_task) PutSettled

-- it never settles: a settling task answers 3 at once
unfoldable pub lazy_step : List ℕ → State → ℕ → Left
lazy_step t st i = if_b (work_settles (task_at st i).work) (ends_settled t st i) (step_of t st i)

abbrev pub never_settles : Machine
never_settles = with_step lazy_step

-- it settles only at the root: a task that stands before any other level record answers 3
abbrev elsewhere : ℕ → Work → Bool
elsewhere r Idle = false
elsewhere r (Busy j (Start g)) = false
elsewhere r (Busy j (Walk g q)) = false
elsewhere r (Busy j (PuttingIn q s)) = false
elsewhere r (Busy j (TakingOut q s)) = false
elsewhere r (Busy j (Settling q s)) = not (eqb q.grand r)

unfoldable pub root_step : List ℕ → State → ℕ → Left
root_step t st i = if_b (elsewhere (view (slots t) t 0).left (task_at st i).work) (ends_settled t st i) (step_of t st i)

abbrev pub only_root : Machine
only_root = with_step root_step

-- it loses count of abandoned tasks
abbrev pub forgetful : Machine
forgetful =
    record {
      reset = reset_of;
      begin = begin_of;
      step = step_of;
      abandon = λ t st i. same t (record { tasks = (abandon_of t st i).state.tasks; m = st.m; u = st.u }) (abandon_of t st i).answer;
      tidy = tidy_of;
      figures = figures_of;
      list = list_of;
    }
