-- Which records a step must read, by its phase; and the arrival of a settling walk.
use Rattle.std.specs.Prelude.{ℕ, ◌≤◌, ◌<◌, ◌⊎◌}
use Rattle.terms.specs.declared.Rec.{Rec}
use Rattle.terms.specs.declared.Path.{Path}
use Rattle.terms.specs.declared.Job.{Job}
use Rattle.terms.specs.declared.Goal.TheVariants.{Settle}
use Rattle.terms.specs.declared.Phase.{Phase}
use Rattle.terms.specs.declared.Phase.TheVariants.{Start, Walk, PuttingIn, TakingOut, Settling}
use Rattle.terms.specs.declared.PutStage.{PutStage}
use Rattle.terms.specs.declared.PutStage.TheVariants.{PutParent, PutLeaf, PutCommit}
use Rattle.terms.specs.declared.TakeStage.{TakeStage}
use Rattle.terms.specs.declared.TakeStage.TheVariants.{TakeGrand, TakeParent, TakeLeft, TakeRight, TakeCommit}
use Rattle.terms.specs.declared.SettleStage.{SettleStage}
use Rattle.terms.specs.declared.SettleStage.TheVariants.{SettleGrand, SettleParent, SettleChoose, SettleRotate, SettleDouble}
use Rattle.machine.specs.Table.{View}
use Rattle.grounds.specs.Record.{Unreadable, ChildUnreadable}
use Rattle.grounds.specs.Settle.{LetS, LetSYW, Wide, Double}

-- "A search goes left if the number sought is below the record's number, otherwise right."
pub data SoughtLink (k : ℕ) (r : Rec) : ℕ → Type 0 where
  goes_left : k < r.number → SoughtLink k r r.left
  otherwise-right : r.number ≤ k → SoughtLink k r r.right

-- 17: "a record the step must read is missing, outside the table or not well formed".
-- "Each step reads one link: first the entry's left": the entry and the record arrived at
pub data StartUnreadable (v : View) (n : ℕ) : Type 0 where
  the_entry : Unreadable v n 0 → StartUnreadable v n
  its_left : ChildUnreadable v n (v 0).left → StartUnreadable v n

-- "then the link on the sought side": the record left, which a link has led to, and the one arrived at
pub data WalkUnreadable (v : View) (n k here : ℕ) : Type 0 where
  the_record_left : ChildUnreadable v n here → WalkUnreadable v n k here
  the_record_arrived_at : (s : ℕ) → SoughtLink k (v here) s → ChildUnreadable v n s → WalkUnreadable v n k here

-- "Put-in: parent, leaf.", one a step; its commit reads both again
abbrev pub PutUnreadable : View → ℕ → Path → PutStage → Type 0
PutUnreadable v n q PutParent = Unreadable v n q.parent
PutUnreadable v n q (PutLeaf a) = ChildUnreadable v n q.here
PutUnreadable v n q (PutCommit a b) = Unreadable v n q.parent ⊎ ChildUnreadable v n q.here

-- "Take-out: grandparent, parent, parent's left child, its right child.": the children by the parent's noted links b
abbrev pub TakeUnreadable : View → ℕ → Path → TakeStage → Type 0
TakeUnreadable v n q TakeGrand = Unreadable v n q.grand
TakeUnreadable v n q (TakeParent a) = Unreadable v n q.parent
TakeUnreadable v n q (TakeLeft a b) = ChildUnreadable v n b.left
TakeUnreadable v n q (TakeRight a b c) = ChildUnreadable v n b.right
TakeUnreadable v n q (TakeCommit a b c d) =
    Unreadable v n q.grand ⊎ (Unreadable v n q.parent ⊎ (ChildUnreadable v n b.left ⊎ ChildUnreadable v n b.right))

-- "each step chooses by the links noted so far": pz and z are noted. It chooses by z, s and x; a commit reads pz too
pub data ChooseUnreadable (v : View) (n : ℕ) (q : Path) (s : ℕ) : Type 0 where
  z_to_choose : Unreadable v n q.parent → ChooseUnreadable v n q s
  x_to_choose : ChildUnreadable v n q.here → ChooseUnreadable v n q s
  s_to_choose : ChildUnreadable v n s → ChooseUnreadable v n q s
  pz_to_commit : ¬ (Wide (v q.parent).rank (v s).rank) → Unreadable v n q.grand → ChooseUnreadable v n q s

-- whether the ranks now ask for a double rotation
abbrev pub DoubleNow : View → Path → ℕ → ℕ → ℕ → Type 0
DoubleNow v q s y w = Double (v q.parent).rank (v q.here).rank (v s).rank (v y).rank (v w).rank

-- x is noted too: for a rotation also y and w; unless y is to be read, the step commits
pub data RotateUnreadable (v : View) (n : ℕ) (q : Path) (s y w : ℕ) : Type 0 where
  z_to_choose : Unreadable v n q.parent → RotateUnreadable v n q s y w
  x_to_choose : ChildUnreadable v n q.here → RotateUnreadable v n q s y w
  s_to_choose : ChildUnreadable v n s → RotateUnreadable v n q s y w
  y_to_rotate : Wide (v q.parent).rank (v s).rank → ChildUnreadable v n y → RotateUnreadable v n q s y w
  w_to_rotate : Wide (v q.parent).rank (v s).rank → ChildUnreadable v n w → RotateUnreadable v n q s y w
  pz_to_commit : ¬ (DoubleNow v q s y w) → Unreadable v n q.grand → RotateUnreadable v n q s y w

-- y is noted too: the step commits
pub data DoubleUnreadable (v : View) (n : ℕ) (q : Path) (s y w : ℕ) : Type 0 where
  z_to_choose : Unreadable v n q.parent → DoubleUnreadable v n q s y w
  x_to_choose : ChildUnreadable v n q.here → DoubleUnreadable v n q s y w
  s_to_choose : ChildUnreadable v n s → DoubleUnreadable v n q s y w
  w_to_rotate : Wide (v q.parent).rank (v s).rank → ChildUnreadable v n w → DoubleUnreadable v n q s y w
  pz_to_commit : Unreadable v n q.grand → DoubleUnreadable v n q s y w
  y_to_commit : ChildUnreadable v n y → DoubleUnreadable v n q s y w

-- "it reads pz (grandparent), z (parent) and, for a rotation, x (the level record), each a step in this order, and commits"
abbrev pub SettleUnreadable : View → ℕ → Path → SettleStage → Type 0
SettleUnreadable v n q SettleGrand = Unreadable v n q.grand
SettleUnreadable v n q (SettleParent a) = Unreadable v n q.parent
SettleUnreadable v n q (SettleChoose a b) = LetS b q.here (λ s. ChooseUnreadable v n q s)
SettleUnreadable v n q (SettleRotate a b c) = LetSYW b c q.here (λ s y w. RotateUnreadable v n q s y w)
SettleUnreadable v n q (SettleDouble a b c d) = LetSYW b c q.here (λ s y w. DoubleUnreadable v n q s y w)

-- 17: "a record the step must read is missing, outside the table or not well formed"
abbrev pub RecordUnreadable : View → ℕ → Job → Phase → Type 0
RecordUnreadable v n j (Start g) = StartUnreadable v n
RecordUnreadable v n j (Walk g q) = WalkUnreadable v n j.number q.here
RecordUnreadable v n j (PuttingIn q f) = PutUnreadable v n q f
RecordUnreadable v n j (TakingOut q f) = TakeUnreadable v n q f
RecordUnreadable v n j (Settling q f) = SettleUnreadable v n q f

-- 17: "on a settling walk, the record arrived at outranks its parent"
pub data ArrivalOutranks (v : View) (j : Job) : Phase → Type 0 where
  from_the_entry : (v 0).rank < (v (v 0).left).rank → ArrivalOutranks v j (Start Settle)
  on_the_walk :
      {q : Path} (s : ℕ) → SoughtLink j.number (v q.here) s → (v q.here).rank < (v s).rank → ArrivalOutranks v j (Walk Settle q)
