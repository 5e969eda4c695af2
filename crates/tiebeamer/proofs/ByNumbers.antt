-- A step on a state that stays in its numbers: a turn stored, and what a step hands back.
use mathlib.Core.Path.{◌≡◌, refl}
use mathlib.Core.Bool.{Bool, true, false, ◌&&◌}
use mathlib.Core.List.{List}
use Prim.Native.Nat.{ℕ, ◌+◌, ◌≤◌}
use native.Mathlib.Omega.{arith}
use lib.Dec.{eqb}
use lib.ListN.{get_or}
use Rattle.terms.specs.declared.Task.{Task}
use Rattle.terms.specs.declared.State.{State}
use Rattle.terms.specs.declared.Answer.{Answer}
use Rattle.terms.specs.declared.Answer.TheVariants.{Accepted, Damaged}
use Rattle.terms.specs.declared.Job.{Job}
use Rattle.terms.specs.declared.Phase.{Phase}
use Rattle.terms.specs.declared.Work.{Work}
use Rattle.terms.specs.declared.Work.TheVariants.{Busy}
use Rattle.terms.specs.declared.Turn.{Turn}
use Rattle.terms.specs.declared.Turn.TheVariants.{Hurt, Next, Done}
use Rattle.terms.specs.Task.{idle_task}
use Rattle.machine.specs.State.{one, sound, job_fits}
use Rattle.machine.specs.Choice.{if_b}
use Rattle.machine.proofs.Tests.{both_first}
use Rattle.machine.proofs.Sound.{m_small, u_small}
use Rattle.terms.specs.Answers.{number_of}
use Rattle.machine.specs.Contract.{after, turned_out}
use Rattle.machine.specs.Step.{step_work}
use Rattle.statecode.specs.Code.{state_by}
use Rattle.statecode.specs.Own.{storing}

-- m and u stand behind the tasks
pub m_by : (w : List ℕ) → get_or w 120 0 ≡ (state_by w).m
unfolding state_by
m_by w = refl

pub u_by : (w : List ℕ) → get_or w 121 0 ≡ (state_by w).u
unfolding state_by
u_by w = refl

module _ (st : State) (i : ℕ) (a : Turn) (c : Bool) where
  pub hurt-turn : a ≡ Hurt → record { state = st; answer = Damaged } ≡ turned_out st i a c
  unfolding turned_out
  hurt-turn e = rw e refl

  module _ (m u x : ℕ) (em : m ≡ st.m) (eu : u ≡ st.u) (ex : x ≡ one c) (st' : State) where
    pub next-turn : (k : Task) → a ≡ Next k → st' ≡ storing st i k (m + x) u → record { state = st'; answer = Accepted } ≡ turned_out st i a c
    unfolding turned_out
    next-turn k e es = let z : st.u + 0 ≡ st.u = omega arith in rw (e, es, ex, em, eu, z) refl

    pub done_turn :
        (b : Answer) → a ≡ Done b → (y : ℕ) → y ≡ one (eqb (number_of b) 6) → st' ≡ storing st i idle_task (m + x) (u + y)
        → record { state = st'; answer = b } ≡ turned_out st i a c
    unfolding turned_out
    done_turn b e y ey es = rw (e, es, ex, em, eu, ey) refl

-- a sound state's counts are small, as numbers too
pub u_bounded : (w : List ℕ) → sound (state_by w) ≡ true → get_or w 121 0 ≤ 1000000
u_bounded w e = rw (u_by w) (u_small (state_by w) e)

-- a step of a task, the state read out of numbers
module _ (w : List ℕ) (b c : Bool) (eb : b ≡ sound (state_by w)) (e : (b && c) ≡ true) where
  is_sound : sound (state_by w) ≡ true
  is_sound = rw eb at (both_first b c e)

  pub m_most : get_or w 120 0 ≤ 1000000
  m_most = rw (m_by w) (m_small (state_by w) is_sound)

  pub u_most : get_or w 121 0 ≤ 1000000
  u_most = u_bounded w is_sound

-- a step of a busy task: of a state that is not sound, or a job out of range
module _ (t : List ℕ) (st : State) (i : ℕ) (w : Work) (j : Job) (f : Phase) (ew : w ≡ Busy j f) (b : Bool) (eb : b ≡ sound st) (c : Bool) (ec : c ≡ job_fits j) where
  pub damaged_row : (b && c) ≡ false → after t (record { state = st; answer = Damaged }) ≡ step_work t st i w
  unfolding after step_work if_b
  damaged_row e = simp (ew, ← eb, ← ec, e)
