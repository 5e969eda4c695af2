-- STEP: the refusals in their order, then what the task's phase asks for.
use Rattle.std.specs.Prelude.{ℕ, ◌+◌, Bool, ◌&&◌, not, List, ltb, eqb, length, set}
use Rattle.terms.specs.declared.Job.{Job}
use Rattle.terms.specs.declared.Phase.{Phase}
use Rattle.terms.specs.declared.Phase.TheVariants.{Start, Walk, PuttingIn, TakingOut, Settling}
use Rattle.terms.specs.declared.Work.{Work}
use Rattle.terms.specs.declared.Work.TheVariants.{Idle, Busy}
use Rattle.terms.specs.declared.Task.{Task}
use Rattle.terms.specs.declared.State.{State}
use Rattle.terms.specs.declared.Answer.{Answer}
use Rattle.terms.specs.declared.Answer.TheVariants.{Accepted, TaskNumber, TaskIdle, Damaged, Length}
use Rattle.terms.specs.declared.Turn.{Turn}
use Rattle.terms.specs.declared.Turn.TheVariants.{Hurt, Next, Done}
use Rattle.machine.specs.Choice.{if_b}
use Rattle.terms.specs.Answers.{number_of}
use Rattle.machine.specs.Table.{View, view, puts, length_fits, slots}
use Rattle.terms.specs.Task.{idle_task, no_grand}
use Rattle.machine.specs.State.{task_at, one, sound, job_fits}
use Rattle.machine.specs.Walk.{walk_from, walk_on}
use Rattle.machine.specs.Commit.{Did, calm}
use Rattle.machine.specs.PutIn.{put_step}
use Rattle.machine.specs.TakeOut.{take_step}
use Rattle.machine.specs.Settling.{settle_step}

-- what is left of a call
pub record Left : Type 0 where
  pub table : List ℕ
  pub state : State
  pub answer : Answer

-- "same: nothing changed"
abbrev pub same : List ℕ → State → Answer → Left
same t st a = record { table = t; state = st; answer = a }

-- "first the entry's left, then the link on the sought side"; then as the phase says. m: put-ins committed so far
unfoldable pub phase_step : View → ℕ → ℕ → Job → Phase → Did
phase_step v n m j (Start g) = calm (walk_from v n g j no_grand 0)
phase_step v n m j (Walk g q) = calm (walk_on v n g j q)
phase_step v n m j (PuttingIn q s) = put_step v n m j q s
phase_step v n m j (TakingOut q s) = take_step v n j q s
phase_step v n m j (Settling q s) = settle_step v n j q s

-- 6: "task idle, u one more"
abbrev pub unsettled : Answer → Bool
unsettled a = eqb (number_of a) 6

-- task i stored, m and u so much more
abbrev pub counted : State → ℕ → Task → ℕ → ℕ → State
counted st i k m u = record { tasks = set st.tasks i k; m = st.m + m; u = st.u + u }

-- the state after a turn of task i; `committed`: m is one more
abbrev pub turned : State → ℕ → Turn → Bool → State
turned st i Hurt c = st
turned st i (Next k) c = counted st i k (one c) 0
turned st i (Done a) c = counted st i idle_task (one c) (one (unsettled a))

-- the answer of a turn: 17, 0 "the operation goes on", or its end
abbrev pub answered : Turn → Answer
answered Hurt = Damaged
answered (Next k) = Accepted
answered (Done a) = a

-- what the step does is carried out
unfoldable pub carried : List ℕ → State → ℕ → Did → Left
carried t st i d =
    record { table = puts t d.writes; state = turned st i d.turn d.committed; answer = answered d.turn }

-- 13, then 17 of the state and of the task's number and price
unfoldable pub step_work : List ℕ → State → ℕ → Work → Left
step_work t st i Idle = same t st TaskIdle
step_work t st i (Busy j f) =
    if_b (not (sound st && job_fits j)) (same t st Damaged)
    (carried t st i (phase_step (view (slots t) t) (slots t) st.m j f))

-- 18, then 10
unfoldable pub step_of : List ℕ → State → ℕ → Left
step_of t st i =
    if_b (not (length_fits (length t))) (same t st Length)
    (if_b (ltb 7 i) (same t st TaskNumber)
    (step_work t st i (task_at st i).work))
