-- A refused step leaves the table, m, u and the other tasks; 15 and 16 make its task idle, every other refusal changes nothing.
use mathlib.Core.Path.{◌≡◌, refl}
use mathlib.Core.Bool.{Bool, false}
use mathlib.Core.List.{List, []}
use mathlib.Core.Logic.{◌⊎◌, inl, inr}
use Prim.Native.Nat.{ℕ, ◌≤◌, ◌<◌}
use native.Mathlib.Nat.{add-zero}
use native.Mathlib.Omega.{arith}
use borrow.Author.Tests.{ne_eqb}
use Rattle.terms.specs.declared.Rec.{Rec}
use Rattle.terms.specs.declared.Links.{Links}
use Rattle.terms.specs.declared.Path.{Path}
use Rattle.terms.specs.declared.Job.{Job}
use Rattle.terms.specs.declared.Around.{Around}
use Rattle.terms.specs.declared.Operation.{Operation}
use Rattle.terms.specs.declared.Operation.TheVariants.{LookUp, PutIn, TakeOut}
use Rattle.terms.specs.declared.Goal.{Goal}
use Rattle.terms.specs.declared.Goal.TheVariants.{Serve, Settle}
use Rattle.terms.specs.declared.Task.{Task}
use Rattle.terms.specs.declared.State.{State}
use Rattle.terms.specs.declared.Work.{Work}
use Rattle.terms.specs.declared.Work.TheVariants.{Idle, Busy}
use Rattle.terms.specs.declared.Answer.{Answer}
use Rattle.terms.specs.declared.Answer.TheVariants.{NoRoom, Limit, PutUnsettled, TaskIdle, TaskNumber, Length, Damaged}
use Rattle.terms.specs.declared.Turn.{Turn}
use Rattle.terms.specs.declared.Turn.TheVariants.{Hurt, Next, Done}
use Rattle.terms.specs.declared.Phase.{Phase}
use Rattle.terms.specs.declared.Phase.TheVariants.{Start, Walk, PuttingIn, TakingOut, Settling}
use Rattle.terms.specs.declared.PutStage.{PutStage}
use Rattle.terms.specs.declared.PutStage.TheVariants.{PutParent, PutLeaf, PutCommit}
use Rattle.terms.specs.declared.TakeStage.{TakeStage}
use Rattle.terms.specs.declared.TakeStage.TheVariants.{TakeGrand, TakeParent, TakeLeft, TakeRight, TakeCommit}
use Rattle.terms.specs.declared.SettleStage.{SettleStage}
use Rattle.terms.specs.declared.SettleStage.TheVariants.{SettleGrand, SettleParent, SettleChoose, SettleRotate, SettleDouble}
use Rattle.terms.specs.declared.ParentRow.{ParentRow}
use Rattle.terms.specs.declared.ParentRow.TheVariants.{Outranked, Promote, Wider}
use Rattle.terms.specs.declared.LevelRow.{LevelRow}
use Rattle.terms.specs.declared.LevelRow.TheVariants.{NoRow, RotateOne, RotateTwo, DoubleRotation}
use Rattle.terms.specs.Task.{idle_task, restarted, no_grand}
use Rattle.terms.specs.Answers.{number_of}
use Rattle.machine.specs.State.{with_task}
use Rattle.machine.specs.Table.{View, view, slots, Write, puts}
use Rattle.machine.specs.Walk.{at_leaf, serve_arrival, settle_arrival, arrival, walk_to, walk_from, walk_on}
use Rattle.machine.specs.Commit.{reading, Did, calm, commit_if}
use Rattle.machine.specs.PutIn.{put_turn, put_room, put_limit, put_commit, read_put_parent, read_put_leaf, put_step}
use Rattle.machine.specs.TakeOut.{take_room, take_commit, read_take_grand, read_take_parent, read_take_left, read_take_right, take_step}
use Rattle.machine.specs.Settling.{read_grand, read_parent, read_on, promote_do, rotate_do, rotate_two_do, double_do, rotate_by, double_by, promote_by, commit_two, commit_three, commit_four, choose_by, choose_step, rotate_on, rotate_turn, rotate_first, rotate_step, double_turn, double_first, double_step, settle_step}
use Rattle.machine.specs.Step.{Left, same, turned, phase_step, carried, step_work, step_of}
use Rattle.machine.proofs.Choice.{if_elim}

-- a turn that writes nothing: if it ends the operation with a refusal, that is 15 or 16
abbrev Told : Turn → Type 0
Told Hurt = Unit {0}
Told (Next k) = Unit {0}
Told (Done a) = 10 ≤ number_of a → (number_of a ≡ 15) ⊎ (number_of a ≡ 16)

-- a turn that is no refusal
abbrev Mild : Turn → Type 0
Mild Hurt = ⊥
Mild (Next k) = Unit {0}
Mild (Done a) = number_of a < 10

-- what a step does: it writes nothing and counts nothing, or it is no refusal
pub data Fair (d : Did) : Type 0 where
  still : d.writes ≡ [] → d.committed ≡ false → Told d.turn → Fair d
  mild : Mild d.turn → Fair d

-- walks
module _ (j : Job) where
  leaf_told : (o : Operation) (q : Path) (r : Rec) → Told (at_leaf o j q r)
  unfolding at_leaf
  leaf_told LookUp q r = if_elim Told _ (λ e h. absurd (omega arith)) (λ e h. absurd (omega arith))
  leaf_told PutIn q r = if_elim Told _ (λ e h. absurd (omega arith)) (λ e. tt)
  leaf_told TakeOut q r = if_elim Told _ (λ e. tt) (λ e h. absurd (omega arith))

  arrival-told : (g : Goal) (q : Path) (p h : Rec) → Told (arrival g j q p h)
  unfolding arrival serve_arrival settle_arrival
  arrival-told (Serve o) q p h = if_elim Told _ (λ e. leaf_told o q h) (λ e. tt)
  arrival-told Settle q p h =
      if_elim Told _ (λ e. tt) (λ e. if_elim Told _ (λ f. tt) (λ f. if_elim Told _ (λ l k. absurd (omega arith)) (λ l. tt)))

  walk_told : (v : View) (n : ℕ) (g : Goal) (grand s : ℕ) → Told (walk_from v n g j grand s)
  unfolding walk_from walk_to
  walk_told v n g grand s = if_elim Told _ (λ e. tt) (λ e. if_elim Told _ (λ f. tt) (λ f. arrival-told g _ _ _))

  walk_on_told : (v : View) (n : ℕ) (g : Goal) (q : Path) → Told (walk_on v n g j q)
  unfolding walk_on
  walk_on_told v n g q = if_elim Told _ (λ e. tt) (λ e. walk_told v n g _ _)

reading-told : (k : Task) (f g : Bool) (r : Rec) → Told (reading k f g r)
unfolding reading
reading-told k f g r = if_elim Told _ (λ e. tt) (λ e. if_elim Told _ (λ h. tt) (λ h. tt))

-- a reading is fair, and so is a turn that writes nothing
quiet : (a : Turn) → Told a → Fair (calm a)
quiet a h = still refl refl h

read-fair : (k : Task) (f g : Bool) (r : Rec) → Fair (calm (reading k f g r))
read-fair k f g r = quiet (reading k f g r) (reading-told k f g r)

commit-fair : (k : Task) (g t : Bool) (d : Did) → Fair d → Fair (commit_if k g t d)
unfolding commit_if
commit-fair k g t d h = if_elim Fair _ (λ e. quiet Hurt tt) (λ e. if_elim Fair _ (λ f. quiet (Next (restarted k)) tt) (λ f. h))

-- put-in and take-out
put-fair : (v : View) (n m : ℕ) (j : Job) (q : Path) (s : PutStage) → Fair (put_step v n m j q s)
unfolding put_step read_put_parent read_put_leaf put_commit put_limit put_room put_turn
put-fair v n m j q PutParent = read-fair _ _ _ _
put-fair v n m j q (PutLeaf a) = read-fair _ _ _ _
put-fair v n m j q (PutCommit a b) =
    commit-fair _ _ _ _
    (if_elim Fair _ (λ e. quiet (Done Limit) (λ h. inr refl))
    (λ e. if_elim Fair _ (λ f. quiet (Done NoRoom) (λ h. inl refl)) (λ f. mild (if_elim Mild _ (λ g. tt) (λ g. omega arith)))))

take_fair : (v : View) (n : ℕ) (j : Job) (q : Path) (s : TakeStage) → Fair (take_step v n j q s)
unfolding take_step read_take_grand read_take_parent read_take_left read_take_right take_commit take_room
take_fair v n j q TakeGrand = read-fair _ _ _ _
take_fair v n j q (TakeParent a) = read-fair _ _ _ _
take_fair v n j q (TakeLeft a b) = read-fair _ _ _ _
take_fair v n j q (TakeRight a b c) = read-fair _ _ _ _
take_fair v n j q (TakeCommit a b c d) = commit-fair _ _ _ _ (if_elim Fair _ (λ e. quiet (Done NoRoom) (λ h. inl refl)) (λ e. mild (omega arith)))

-- settling
module _ (v : View) (n : ℕ) (j : Job) (q : Path) where
  promote-fair : (row : ParentRow) (a b : Links) (z : Rec) → Fair (promote_by row v n j q a b z)
  unfolding promote_by promote_do
  promote-fair Outranked a b z = quiet Hurt tt
  promote-fair Promote a b z =
      if_elim Fair _ (λ e. quiet Hurt tt) (λ e. if_elim Fair _ (λ f. quiet (Done PutUnsettled) (λ h. absurd (omega arith))) (λ f. mild tt))
  promote-fair Wider a b z = quiet Hurt tt

  turn-fair : (o : Around) (z x : Rec) (rx rz : ℕ) → Fair (rotate_do v n j q o z x rx rz)
  unfolding rotate_do
  turn-fair o z x rx rz = if_elim Fair _ (λ f. quiet (Done PutUnsettled) (λ h. absurd (omega arith))) (λ f. mild tt)

  rotate-by_fair : (row : LevelRow) (o : Around) (z x : Rec) → Fair (rotate_by row v n j q o z x)
  unfolding rotate_by rotate_two_do
  rotate-by_fair NoRow o z x = quiet Hurt tt
  rotate-by_fair RotateOne o z x = turn-fair o z x _ _
  rotate-by_fair RotateTwo o z x = if_elim Fair _ (λ e. quiet Hurt tt) (λ e. turn-fair o z x _ _)
  rotate-by_fair DoubleRotation o z x = quiet Hurt tt

  double-by_fair : (row : LevelRow) (o : Around) (d : Links) (z x y : Rec) → Fair (double_by row v n j q o d z x y)
  unfolding double_by double_do
  double-by_fair NoRow o d z x y = quiet Hurt tt
  double-by_fair RotateOne o d z x y = rotate-by_fair RotateOne o z x
  double-by_fair RotateTwo o d z x y = rotate-by_fair RotateTwo o z x
  double-by_fair DoubleRotation o d z x y = if_elim Fair _ (λ f. quiet (Done PutUnsettled) (λ h. absurd (omega arith))) (λ f. mild tt)

  settle-fair : (f : SettleStage) → Fair (settle_step v n j q f)
  unfolding settle_step read_grand read_parent read_on choose_step choose_by commit_two commit_three commit_four rotate_step rotate_first rotate_turn rotate_on double_step double_first double_turn
  settle-fair SettleGrand = read-fair _ _ _ _
  settle-fair (SettleParent a) = read-fair _ _ _ _
  settle-fair (SettleChoose a b) =
      if_elim Fair _ (λ e. quiet Hurt tt)
      (λ e. if_elim Fair _ (λ f. read-fair _ _ _ _) (λ f. commit-fair _ _ _ _ (promote-fair _ a b _)))
  settle-fair (SettleRotate a b c) =
      if_elim Fair _ (λ e. quiet Hurt tt)
      (λ e.
      if_elim Fair _
      (λ f.
      if_elim Fair _ (λ g. quiet Hurt tt)
      (λ g. if_elim Fair _ (λ h. read-fair _ _ _ _) (λ h. commit-fair _ _ _ _ (rotate-by_fair _ _ _ _))))
      (λ f. commit-fair _ _ _ _ (promote-fair _ a b _)))
  settle-fair (SettleDouble a b c d) =
      if_elim Fair _ (λ e. quiet Hurt tt)
      (λ e.
      if_elim Fair _ (λ f. if_elim Fair _ (λ g. quiet Hurt tt) (λ g. commit-fair _ _ _ _ (double-by_fair _ _ d _ _ _)))
      (λ f. commit-fair _ _ _ _ (promote-fair _ a b _)))

phase_fair : (v : View) (n m : ℕ) (j : Job) (f : Phase) → Fair (phase_step v n m j f)
unfolding phase_step
phase_fair v n m j (Start g) = quiet (walk_from v n g j no_grand 0) (walk_told j v n g no_grand 0)
phase_fair v n m j (Walk g q) = quiet (walk_on v n g j q) (walk_on_told j v n g q)
phase_fair v n m j (PuttingIn q s) = put-fair v n m j q s
phase_fair v n m j (TakingOut q s) = take_fair v n j q s
phase_fair v n m j (Settling q s) = settle-fair v n j q s

-- what a refused step leaves: the table; and the state, or the state with task i idle where it answered 15 or 16
pub record Spared (t : List ℕ) (st : State) (i : ℕ) (l : Left) : Type 0 where
  pub table_kept : l.table ≡ t
  pub state-kept : (l.state ≡ st) ⊎ ((l.state ≡ with_task st i idle_task) × ((number_of l.answer ≡ 15) ⊎ (number_of l.answer ≡ 16)))

abbrev pub Spares : List ℕ → State → ℕ → Left → Type 0
Spares t st i l = 10 ≤ number_of l.answer → Spared t st i l

untouched : (t : List ℕ) (st : State) (i : ℕ) (a : Answer) → Spares t st i (same t st a)
untouched t st i a h = record { table_kept = refl; state-kept = inl refl }

-- an operation that ends with a refusal: m and u stay
ended : (st : State) (i : ℕ) (a : Answer) (c : Bool) → c ≡ false → 10 ≤ number_of a → turned st i (Done a) c ≡ with_task st i idle_task
ended st i a c e h = simp (e, ne_eqb (number_of a) 6 (omega arith), add-zero)

module _ (t : List ℕ) (st : State) (i : ℕ) where
  carried-spares : (a : Turn) (c : Bool) (ws : List Write) → Fair (record { turn = a; committed = c; writes = ws }) → Spares t st i (carried t st i (record { turn = a; committed = c; writes = ws }))
  unfolding carried puts
  carried-spares Hurt c ws (still e f g) h = record { table_kept = rw e; state-kept = inl refl }
  carried-spares Hurt c ws (mild x) h = absurd x
  carried-spares (Next k) c ws f h = absurd (omega arith)
  carried-spares (Done a) c ws (still e f g) h = record { table_kept = rw e; state-kept = inr (ended st i a c f h, g h) }
  carried-spares (Done a) c ws (mild x) h = absurd (omega arith)

  work-spares : (w : Work) → Spares t st i (step_work t st i w)
  unfolding step_work
  work-spares Idle = untouched t st i TaskIdle
  work-spares (Busy j f) =
      if_elim (Spares t st i) _ (λ e. untouched t st i Damaged) (λ e. carried-spares _ _ _ (phase_fair (view (slots t) t) (slots t) st.m j f))

  -- EVERY step, on every table and state and for every task number
  pub step-refused : Spares t st i (step_of t st i)
  unfolding step_of
  step-refused = if_elim (Spares t st i) _ (λ e. untouched t st i Length) (λ e. if_elim (Spares t st i) _ (λ f. untouched t st i TaskNumber) (λ f. work-spares _))
