-- What a busy task remembers and has noted, beside the trail: facts about records in use, which no commit changes.
use Rattle.std.specs.Prelude.{◌≤◌, suc, ℕ, true, ◌⊎◌, ◌≡◌}
use Rattle.machine.specs.Record.{leads, level, other}
use Rattle.machine.specs.Rows.{around_of}
use Rattle.machine.specs.Table.{View}
use Rattle.machine.specs.TakeOut.{take_apart}
use Rattle.terms.specs.Task.{no_grand}
use Rattle.terms.specs.declared.Goal.TheVariants.{Serve, Settle}
use Rattle.terms.specs.declared.Links.{Links}
use Rattle.terms.specs.declared.Path.{Path}
use Rattle.terms.specs.declared.Phase.{Phase}
use Rattle.terms.specs.declared.Phase.TheVariants.{PuttingIn, Settling, Start, TakingOut, Walk}
use Rattle.terms.specs.declared.PutStage.{PutStage}
use Rattle.terms.specs.declared.PutStage.TheVariants.{PutCommit, PutLeaf, PutParent}
use Rattle.terms.specs.declared.SettleStage.{SettleStage}
use Rattle.terms.specs.declared.SettleStage.TheVariants.{SettleChoose, SettleDouble, SettleGrand, SettleParent, SettleRotate}
use Rattle.terms.specs.declared.TakeStage.{TakeStage}
use Rattle.terms.specs.declared.TakeStage.TheVariants.{TakeCommit, TakeGrand, TakeLeft, TakeParent, TakeRight}
use Rattle.terms.specs.declared.Work.{Work}
use Rattle.terms.specs.declared.Work.TheVariants.{Busy, Idle}
use Rattle.trees.specs.Tree.{Tree}
use Rattle.undamaged.specs.Records.{NotLevel, Used}

abbrev pub LeafIs : View → ℕ → Type 0
LeafIs v s = Used v s × ((v s).left ≡ 0) × ((v s).right ≡ 0)

abbrev pub InnerIs : View → ℕ → Type 0
InnerIs v s = Used v s × ((v s).left ≡ 0 → ⊥)

-- grandparent and parent are inner; only under the entry there is no grandparent, and there stands a sentinel
pub record Way (v : View) (q : Path) : Type 0 where
  pub grand_in : (q.grand ≡ no_grand) ⊎ InnerIs v q.grand
  pub parent_in : InnerIs v q.parent
  pub top-none : q.grand ≡ no_grand → q.parent ≡ 0
  pub top_rank : q.parent ≡ 0 → (v q.here).rank ≡ 255
  pub here-used : Used v q.here
  pub here-pos : q.here ≡ 0 → ⊥

-- a settling task: ranks fall along its path, and what it walked past is not level
pub record Slope (v : View) (t : Tree) (q : Path) : Type 0 where
  pub upper : (q.parent ≡ 0) ⊎ ((v q.parent).rank ≤ (v q.grand).rank)
  pub lower : (v q.here).rank ≤ (v q.parent).rank
  pub grand-low : (q.grand ≡ no_grand) ⊎ NotLevel v t q.grand
  pub parent-low : NotLevel v t q.parent

-- the links noted so far lead on
abbrev pub PutNotes : Path → PutStage → Type 0
PutNotes q PutParent = Unit {0}
PutNotes q (PutLeaf a) = leads a q.here ≡ true
PutNotes q (PutCommit a b) = leads a q.here ≡ true

-- the children of a parent that was read, as it was
pub record Children (v : View) (q : Path) (a b : Links) : Type 0 where
  pub to-parent : leads a q.parent ≡ true
  pub to-here : leads b q.here ≡ true
  pub left-used : Used v b.left
  pub right-used : Used v b.right
  pub left-pos : b.left ≡ 0 → ⊥
  pub right-pos : b.right ≡ 0 → ⊥
  pub apart : take_apart q b ≡ true

abbrev pub TakeNotes : View → Path → TakeStage → Type 0
TakeNotes v q TakeGrand = Unit {0}
TakeNotes v q (TakeParent a) = (leads a q.parent ≡ true) × (q.grand ≡ q.parent → ⊥)
TakeNotes v q (TakeLeft a b) = Children v q a b
TakeNotes v q (TakeRight a b c) = Children v q a b
TakeNotes v q (TakeCommit a b c d) = Children v q a b

-- z was read: it led to x, and s is in use
pub record Chosen (v : View) (q : Path) (a b : Links) : Type 0 where
  pub to-z : leads a q.parent ≡ true
  pub to-x : leads b q.here ≡ true
  pub s_used : Used v (other b q.here)
  pub s_pos : other b q.here ≡ 0 → ⊥
  pub z_x : q.parent ≡ q.here → ⊥

-- x was read too: y and w are in use
pub record Turning (v : View) (q : Path) (a b c : Links) : Type 0 where
  pub chosen : Chosen v q a b
  pub y_used : Used v (around_of q a b c).y
  pub y_pos : (around_of q a b c).y ≡ 0 → ⊥
  pub w_used : Used v (around_of q a b c).w
  pub w_pos : (around_of q a b c).w ≡ 0 → ⊥

abbrev pub SettleNotes : View → Path → SettleStage → Type 0
SettleNotes v q SettleGrand = Unit {0}
SettleNotes v q (SettleParent a) = leads a q.parent ≡ true
SettleNotes v q (SettleChoose a b) = Chosen v q a b
SettleNotes v q (SettleRotate a b c) = Turning v q a b c
SettleNotes v q (SettleDouble a b c d) = Turning v q a b c × (suc (v (around_of q a b c).y).rank ≡ (v q.here).rank)

abbrev pub Remembers : View → Tree → ℕ → Phase → Type 0
Remembers v t k (Start g) = Unit {0}
Remembers v t k (Walk (Serve o) q) = Way v q × InnerIs v q.here
Remembers v t k (Walk Settle q) = Way v q × InnerIs v q.here × Slope v t q × NotLevel v t q.here
Remembers v t k (PuttingIn q s) = Way v q × LeafIs v q.here × ((v q.here).number ≡ k → ⊥) × PutNotes q s
Remembers v t k (TakingOut q s) = Way v q × LeafIs v q.here × ((v q.here).number ≡ k) × TakeNotes v q s
Remembers v t k (Settling q s) = Way v q × Slope v t q × (level (v q.parent) (v q.here) ≡ true) × SettleNotes v q s

abbrev pub TaskRemembers : View → Tree → Work → Type 0
TaskRemembers v t Idle = Unit {0}
TaskRemembers v t (Busy j f) = Remembers v t j.number f
