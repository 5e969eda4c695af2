-- THE READINGS OF A TASK: the records that it has read so far, in which slots and with which links noted.
use Rattle.std.specs.Prelude.{ℕ, Bool, false, true, List, [], ◌++◌, ◌∷◌, ◌⊎◌, ◌≡◌}
use Rattle.grounds.specs.Record.{AsNoted}
use Rattle.history.specs.History.{Ask, step}
use Rattle.history.specs.Ledger.{Point, advance, goes}
use Rattle.history.specs.Machine.{real}
use Rattle.machine.specs.PutIn.{put_test}
use Rattle.machine.specs.Rows.{around_of}
use Rattle.machine.specs.Settling.{test_four, test_three, test_two}
use Rattle.machine.specs.State.{task_at}
use Rattle.machine.specs.Table.{View}
use Rattle.machine.specs.TakeOut.{take_test}
use Rattle.structure.specs.Built.{view_of}
use Rattle.terms.specs.Task.{is_busy}
use Rattle.terms.specs.declared.Links.{Links}
use Rattle.terms.specs.declared.Path.{Path}
use Rattle.terms.specs.declared.Phase.{Phase}
use Rattle.terms.specs.declared.Phase.TheVariants.{PuttingIn, Settling, Start, TakingOut, Walk}
use Rattle.terms.specs.declared.PutStage.{PutStage}
use Rattle.terms.specs.declared.PutStage.TheVariants.{PutCommit, PutLeaf, PutParent}
use Rattle.terms.specs.declared.SettleStage.{SettleStage}
use Rattle.terms.specs.declared.SettleStage.TheVariants.{SettleChoose, SettleDouble, SettleGrand, SettleParent, SettleRotate}
use Rattle.terms.specs.declared.TakeStage.{TakeStage}
use Rattle.terms.specs.declared.TakeStage.TheVariants.{TakeCommit, TakeGrand, TakeLeft, TakeParent, TakeRight}
use Rattle.terms.specs.declared.Work.{Work}
use Rattle.terms.specs.declared.Work.TheVariants.{Busy, Idle}

pub record Note : Type 0 where
  pub slot : ℕ
  pub links : Links

abbrev pub note : ℕ → Links → Note
note s l = record { slot = s; links = l }

-- "Put-in: parent, leaf."
abbrev pub put_notes : Path → PutStage → List Note
put_notes q PutParent = []
put_notes q (PutLeaf a) = note q.parent a ∷ []
put_notes q (PutCommit a b) = note q.parent a ∷ note q.here b ∷ []

-- "Take-out: grandparent, parent, parent's left child, its right child."
abbrev pub take_notes : Path → TakeStage → List Note
take_notes q TakeGrand = []
take_notes q (TakeParent a) = note q.grand a ∷ []
take_notes q (TakeLeft a b) = note q.grand a ∷ note q.parent b ∷ []
take_notes q (TakeRight a b c) = note q.grand a ∷ note q.parent b ∷ note b.left c ∷ []
take_notes q (TakeCommit a b c d) = note q.grand a ∷ note q.parent b ∷ note b.left c ∷ note b.right d ∷ []

-- "it reads pz (grandparent), z (parent) and, for a rotation, x (the level record)"; "A double rotation also reads y, last."
abbrev pub settle_notes : Path → SettleStage → List Note
settle_notes q SettleGrand = []
settle_notes q (SettleParent a) = note q.grand a ∷ []
settle_notes q (SettleChoose a b) = note q.grand a ∷ note q.parent b ∷ []
settle_notes q (SettleRotate a b c) = note q.grand a ∷ note q.parent b ∷ note q.here c ∷ []
settle_notes q (SettleDouble a b c d) = note q.grand a ∷ note q.parent b ∷ note q.here c ∷ note (around_of q a b c).y d ∷ []

abbrev pub phase_notes : Phase → List Note
phase_notes (Start g) = []
phase_notes (Walk g q) = []
phase_notes (PuttingIn q s) = put_notes q s
phase_notes (TakingOut q s) = take_notes q s
phase_notes (Settling q s) = settle_notes q s

abbrev pub work_notes : Work → List Note
work_notes Idle = []
work_notes (Busy j f) = phase_notes f

-- what task i has noted
abbrev pub notes_at : Point → ℕ → List Note
notes_at p i = work_notes (task_at p.state i).work

abbrev pub OneOf : Note → List Note → Type 0
OneOf r [] = ⊥
OneOf r (x ∷ xs) = (r ≡ x) ⊎ OneOf r xs

-- every one of them is "still in state 1 with both links as noted"
abbrev pub AllAsNoted : View → List Note → Type 0
AllAsNoted v [] = Unit {0}
AllAsNoted v (r ∷ rs) = AsNoted (v r.slot) r.links × AllAsNoted v rs

-- the test of the commit that a task stands before; where it has yet to read there is none
abbrev pub put_tested : View → Path → PutStage → Bool
put_tested v q PutParent = false
put_tested v q (PutLeaf a) = false
put_tested v q (PutCommit a b) = put_test a b (v q.parent) (v q.here)

abbrev pub take_tested : View → Path → TakeStage → Bool
take_tested v q TakeGrand = false
take_tested v q (TakeParent a) = false
take_tested v q (TakeLeft a b) = false
take_tested v q (TakeRight a b c) = false
take_tested v q (TakeCommit a b c d) = take_test a b c d (v q.grand) (v q.parent) (v b.left) (v b.right)

abbrev pub settle_tested : View → Path → SettleStage → Bool
settle_tested v q SettleGrand = false
settle_tested v q (SettleParent a) = false
settle_tested v q (SettleChoose a b) = test_two a b (v q.grand) (v q.parent)
settle_tested v q (SettleRotate a b c) = test_three a b c (v q.grand) (v q.parent) (v q.here)
settle_tested v q (SettleDouble a b c d) = test_four a b c d (v q.grand) (v q.parent) (v q.here) (v (around_of q a b c).y)

abbrev pub phase_tested : View → Phase → Bool
phase_tested v (Start g) = false
phase_tested v (Walk g q) = false
phase_tested v (PuttingIn q s) = put_tested v q s
phase_tested v (TakingOut q s) = take_tested v q s
phase_tested v (Settling q s) = settle_tested v q s

abbrev pub work_tested : View → Work → Bool
work_tested v Idle = false
work_tested v (Busy j f) = phase_tested v f

-- the test of task i's commit holds
abbrev pub TestHolds : Point → ℕ → Type 0
TestHolds p i = work_tested (view_of p) (task_at p.state i).work ≡ true

-- something holds at a point, and at each later one while these calls are made
abbrev pub Always : (Point → Type 0) → Point → List Ask → Type 0
Always P p [] = P p
Always P p (c ∷ cs) = P p × Always P (advance real p c) cs

-- task i is busy
abbrev pub BusyAt : ℕ → Point → Type 0
BusyAt i p = is_busy (task_at p.state i).work ≡ true

-- the record of a note has been the same at every moment since its reading. The calls are those before the reading, the reading, which is a step of task i, and those after it
pub record Unchanged (start : Point) (calls : List Ask) (i : ℕ) (r : Note) : Type 0 where
  pub before : List Ask
  pub after : List Ask
  pub split : calls ≡ before ++ (step i ∷ after)
  -- this step noted it
  pub reads : notes_at (advance real (goes real start before) (step i)) i ≡ notes_at (goes real start before) i ++ (r ∷ [])
  -- it was in state 1, with the links that were noted
  pub as_noted : AsNoted (view_of (goes real start before) r.slot) r.links
  -- neither a link nor its state, nor anything else of it, was changed at any moment since
  pub never-changed : Always (λ p. view_of p r.slot ≡ view_of (goes real start before) r.slot) (goes real start before) (step i ∷ after)
