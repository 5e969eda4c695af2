-- Encoding and decoding are inverse to each other.
use mathlib.Core.Path.{◌≡◌, refl, sym, ap, subst, ◌∙◌}
use mathlib.Core.Bool.{true, false}
use mathlib.Core.List.{List, [], ◌∷◌, ◌++◌, append_assoc}
use Prim.Native.Nat.{ℕ, ◌*◌}
use native.Mathlib.Omega.{arith}
use lib.ListN.{length, get_or, length-append}
use lib.Seq.{drop_at, get_or_at}
use Rattle.terms.specs.declared.Operation.TheVariants.{LookUp, PutIn, TakeOut}
use Rattle.terms.specs.declared.Goal.{Goal}
use Rattle.terms.specs.declared.Goal.TheVariants.{Serve, Settle}
use Rattle.terms.specs.declared.PutStage.TheVariants.{PutParent, PutLeaf, PutCommit}
use Rattle.terms.specs.declared.TakeStage.TheVariants.{TakeGrand, TakeParent, TakeLeft, TakeRight, TakeCommit}
use Rattle.terms.specs.declared.SettleStage.TheVariants.{SettleGrand, SettleParent, SettleChoose, SettleRotate, SettleDouble}
use Rattle.terms.specs.declared.Phase.TheVariants.{Start, Walk, PuttingIn, TakingOut, Settling}
use Rattle.terms.specs.declared.Work.{Work}
use Rattle.terms.specs.declared.Work.TheVariants.{Idle, Busy}
use Rattle.terms.specs.declared.Task.{Task}
use Rattle.terms.specs.declared.State.{State}
use Rattle.machine.specs.Choice.{if_b}
use Rattle.std.specs.Prelude.{Some, None}
use Rattle.statecode.specs.Code.{goal_number, goal_by, work_row, rows, encode, put_by, take_by, settle_by, phase_by, task_by, tasks_by, state_by, is_state, decode}
use Rattle.statecode.proofs.Same.{same_self, same-equal}

goal_back : (g : Goal) → goal_by (goal_number g) ≡ g
unfolding goal_by if_b
goal_back (Serve LookUp) = refl
goal_back (Serve PutIn) = refl
goal_back (Serve TakeOut) = refl
goal_back Settle = refl

-- a task's numbers read as the task, whatever follows them
pub task_back : (w : Work) (r : List ℕ) → task_by (work_row w ++ r) ≡ record { work = w }
unfolding task_by phase_by put_by take_by settle_by if_b
task_back Idle r = refl
task_back (Busy j (Start g)) r = simp (goal_back g)
task_back (Busy j (Walk g q)) r = simp (goal_back g)
task_back (Busy j (PuttingIn q PutParent)) r = refl
task_back (Busy j (PuttingIn q (PutLeaf a))) r = refl
task_back (Busy j (PuttingIn q (PutCommit a b))) r = refl
task_back (Busy j (TakingOut q TakeGrand)) r = refl
task_back (Busy j (TakingOut q (TakeParent a))) r = refl
task_back (Busy j (TakingOut q (TakeLeft a b))) r = refl
task_back (Busy j (TakingOut q (TakeRight a b c))) r = refl
task_back (Busy j (TakingOut q (TakeCommit a b c d))) r = refl
task_back (Busy j (Settling q SettleGrand)) r = refl
task_back (Busy j (Settling q (SettleParent a))) r = refl
task_back (Busy j (Settling q (SettleChoose a b))) r = refl
task_back (Busy j (Settling q (SettleRotate a b c))) r = refl
task_back (Busy j (Settling q (SettleDouble a b c d))) r = refl

-- a task has 15 numbers
pub length_row : (w : Work) → length (work_row w) ≡ 15
length_row Idle = refl
length_row (Busy j (Start g)) = refl
length_row (Busy j (Walk g q)) = refl
length_row (Busy j (PuttingIn q PutParent)) = refl
length_row (Busy j (PuttingIn q (PutLeaf a))) = refl
length_row (Busy j (PuttingIn q (PutCommit a b))) = refl
length_row (Busy j (TakingOut q TakeGrand)) = refl
length_row (Busy j (TakingOut q (TakeParent a))) = refl
length_row (Busy j (TakingOut q (TakeLeft a b))) = refl
length_row (Busy j (TakingOut q (TakeRight a b c))) = refl
length_row (Busy j (TakingOut q (TakeCommit a b c d))) = refl
length_row (Busy j (Settling q SettleGrand)) = refl
length_row (Busy j (Settling q (SettleParent a))) = refl
length_row (Busy j (Settling q (SettleChoose a b))) = refl
length_row (Busy j (Settling q (SettleRotate a b c))) = refl
length_row (Busy j (Settling q (SettleDouble a b c d))) = refl

pub length_rows : (ts : List Task) → length (rows ts) ≡ 15 * length ts
unfolding rows
length_rows [] = refl
length_rows (k ∷ ks) = length-append (work_row k.work) (rows ks) ∙ omega (arith, length_row k.work, length_rows ks)

-- the numbers of tasks read as the tasks
pub tasks_back : (ts : List Task) (r : List ℕ) → tasks_by (length ts) (rows ts ++ r) ≡ ts
unfolding tasks_by rows
tasks_back [] r = refl
tasks_back (k ∷ ks) r =
    rw (append_assoc (work_row k.work) (rows ks) r, task_back k.work (rows ks ++ r), drop_at (work_row k.work) (rows ks ++ r) 15 (length_row k.work))
    (ap (λ (l : List Task). k ∷ l) (tasks_back ks r))

module _ (st : State) (h : length st.tasks ≡ 8) where
  first-120 : length (rows st.tasks) ≡ 120
  first-120 = length_rows st.tasks ∙ omega arith

  -- a state has 122 numbers
  pub length_encode : length (encode st) ≡ 122
  unfolding encode
  length_encode = length-append (rows st.tasks) (st.m ∷ st.u ∷ []) ∙ omega (arith, first-120)

  eight-back : tasks_by 8 (encode st) ≡ st.tasks
  unfolding encode
  eight-back = subst (λ (n : ℕ). tasks_by n (rows st.tasks ++ (st.m ∷ st.u ∷ [])) ≡ st.tasks) h (tasks_back st.tasks (st.m ∷ st.u ∷ []))

  m_back : get_or (encode st) 120 0 ≡ st.m
  unfolding encode
  m_back = get_or_at (rows st.tasks) st.m (st.u ∷ []) 0 120 first-120

  u_back : get_or (encode st) 121 0 ≡ st.u
  unfolding encode
  u_back =
      sym (ap (λ (l : List ℕ). get_or l 121 0) (append_assoc (rows st.tasks) (st.m ∷ []) (st.u ∷ [])))
      ∙ get_or_at (rows st.tasks ++ (st.m ∷ [])) st.u [] 0 121 (length-append (rows st.tasks) (st.m ∷ []) ∙ omega (arith, first-120))

  -- what a state is written as reads as this state
  pub state-back : state_by (encode st) ≡ st
  unfolding state_by
  state-back = simp (eight-back, m_back, u_back)

  -- and is a state
  pub state-own : is_state (encode st) ≡ true
  unfolding is_state
  state-own = rw state-back (same_self (encode st))

  -- so it decodes as this state
  pub decode-encode : decode (encode st) ≡ Some st
  unfolding decode is_state if_b
  decode-encode = simp (state-back, same_self (encode st))

-- numbers decode as what they read as where they are a state
pub state_some : (w : List ℕ) → is_state w ≡ true → decode w ≡ Some (state_by w)
unfolding decode if_b
state_some w e = rw e refl

state-length : (w : List ℕ) → is_state w ≡ true → length w ≡ 122
unfolding is_state state_by tasks_by
state-length w e = sym (ap length (same-equal (encode (state_by w)) w e)) ∙ length_encode (state_by w) refl

pub state_none : (w : List ℕ) → is_state w ≡ false → decode w ≡ None
unfolding decode if_b
state_none w e = rw e refl

-- numbers of another length decode as none
pub other_decoded : (w : List ℕ) → (length w ≡ 122 → ⊥) → decode w ≡ None
unfolding decode if_b
other_decoded w h = elim (is_state w) as (λ b. is_state w ≡ b → if_b b (Some (state_by w)) None ≡ None) [ true ↦ (λ e. absurd (h (state-length w e))) | false ↦ (λ e. refl) ] refl

-- what reads as a state is written so, and has eight tasks
module _ (w : List ℕ) (st : State) where
  read_is : decode w ≡ Some st → (is_state w ≡ true) × (state_by w ≡ st)
  unfolding decode if_b
  read_is = elim (is_state w) as (λ b. if_b b (Some (state_by w)) None ≡ Some st → (b ≡ true) × (state_by w ≡ st)) [ true ↦ (λ e. (refl, cc)) | false ↦ (λ e. absurd (cc)) ]

  pub encode-decode : decode w ≡ Some st → encode st ≡ w
  unfolding is_state
  encode-decode e = same-equal (encode st) w (let (t, s) = read_is e in rw (← s) t)

  pub eight-read : decode w ≡ Some st → length st.tasks ≡ 8
  unfolding state_by tasks_by
  eight-read e = rw (← (read_is e).1) refl
