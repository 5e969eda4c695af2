-- SETTLING: the readings, the choice by the links noted so far, and the commits.
use Rattle.std.specs.Prelude.{ℕ, ◌+◌, ◌-◌, Bool, true, false, ◌&&◌, not, List, leb, eqb}
use Rattle.terms.specs.declared.Rec.{Rec}
use Rattle.terms.specs.declared.Links.{Links}
use Rattle.terms.specs.declared.Path.{Path}
use Rattle.terms.specs.declared.Job.{Job}
use Rattle.terms.specs.declared.Goal.TheVariants.{Settle}
use Rattle.terms.specs.declared.SettleStage.{SettleStage}
use Rattle.terms.specs.declared.SettleStage.TheVariants.{SettleGrand, SettleParent, SettleChoose, SettleRotate, SettleDouble}
use Rattle.terms.specs.declared.Phase.TheVariants.{Start, Settling}
use Rattle.terms.specs.declared.Answer.TheVariants.{PutUnsettled}
use Rattle.terms.specs.declared.Turn.{Turn}
use Rattle.terms.specs.declared.Turn.TheVariants.{Hurt, Next, Done}
use Rattle.terms.specs.declared.ParentRow.{ParentRow}
use Rattle.terms.specs.declared.ParentRow.TheVariants.{Outranked, Promote, Wider}
use Rattle.terms.specs.declared.LevelRow.{LevelRow}
use Rattle.terms.specs.declared.LevelRow.TheVariants.{NoRow, RotateOne, RotateTwo, DoubleRotation}
use Rattle.machine.specs.Choice.{if_b}
use Rattle.machine.specs.Record.{well_formed, linked, in_tree, leads, links_of, still, level, other}
use Rattle.machine.specs.Table.{View, Write, slot1, slot2, slot3}
use Rattle.terms.specs.Task.{busy}
use Rattle.machine.specs.Commit.{reading, Did, calm, commit_if}
use Rattle.terms.specs.declared.Around.{Around}
use Rattle.machine.specs.Rows.{parent_row, level_row, around_of, promote_writes, rotate_writes, double_writes}

-- "it reads pz (grandparent), z (parent) and, for a rotation, x (the level record), each a step in this order"; "also reads y, last"
unfoldable pub read_grand : ℕ → Job → Path → Rec → Turn
read_grand n j q pz =
    reading (busy j (Settling q SettleGrand)) (well_formed n q.grand pz) (in_tree pz && leads (links_of pz) q.parent) pz

-- z: its noted links must lead to x
unfoldable pub read_parent : ℕ → Job → Path → Links → Rec → Turn
read_parent n j q a z =
    reading (busy j (Settling q (SettleParent a))) (well_formed n q.parent z) (in_tree z && leads (links_of z) q.here) z

-- x and y have no next remembered record, and the choice has found them well formed
unfoldable pub read_on : Job → Path → SettleStage → Rec → Turn
read_on j q f r = reading (busy j (Settling q f)) true (in_tree r) r

-- 17 before the test, by how many records were read: two the same, links that don't lead on, "isn't level with its parent"
unfoldable pub grounds_two : ℕ → Path → Links → Links → Rec → Rec → Rec → Bool
grounds_two n q a b pz z x =
    well_formed n q.grand pz && (not (eqb q.grand q.parent) && (leads a q.parent && (leads b q.here && level z x)))

-- with x read
unfoldable pub grounds_three : ℕ → Path → Links → Links → Rec → Rec → Rec → Bool
grounds_three n q a b pz z x = grounds_two n q a b pz z x && (not (eqb q.grand q.here) && not (eqb q.parent q.here))

-- with y read, in slot i
unfoldable pub grounds_four : ℕ → Path → Links → Links → ℕ → Rec → Rec → Rec → Rec → Bool
grounds_four n q a b i pz z x y =
    grounds_three n q a b pz z x
    && (linked n i y && (not (eqb q.grand i) && (not (eqb q.parent i) && not (eqb q.here i))))

-- the test, likewise
unfoldable pub test_two : Links → Links → Rec → Rec → Bool
test_two a b pz z = still pz a && still z b

-- with x read
unfoldable pub test_three : Links → Links → Links → Rec → Rec → Rec → Bool
test_three a b c pz z x = test_two a b pz z && still x c

-- with y read
unfoldable pub test_four : Links → Links → Links → Links → Rec → Rec → Rec → Rec → Bool
test_four a b c d pz z x y = test_three a b c pz z x && still y d

-- "After a commit .. it walks again from the entry."
abbrev pub settled : Job → List Write → Did
settled j ws = record { turn = Next (busy j (Start Settle)); committed = false; writes = ws }

-- "Too few slots at a settling commit gives 6." 17: "a new rank would pass 28"
unfoldable pub promote_do : View → ℕ → Job → Path → Bool → Links → Rec → Did
promote_do v n j q e b z =
    if_b (leb 28 z.rank) (calm Hurt)
    (if_b (leb n (slot1 v n)) (calm (Done PutUnsettled))
    (settled j (promote_writes q e b z (slot1 v n))))

-- rotate with the new ranks rx and rz: "2 slots"
unfoldable pub rotate_do : View → ℕ → Job → Path → Around → Rec → Rec → ℕ → ℕ → Did
rotate_do v n j q o z x rx rz =
    if_b (leb n (slot2 v n)) (calm (Done PutUnsettled))
    (settled j (rotate_writes q o z x rx rz (slot1 v n) (slot2 v n)))

-- rotate case 2: "x + 1, z stays"
unfoldable pub rotate_two_do : View → ℕ → Job → Path → Around → Rec → Rec → Did
rotate_two_do v n j q o z x = if_b (leb 28 x.rank) (calm Hurt) (rotate_do v n j q o z x (x.rank + 1) z.rank)

-- "double rotation, 3 slots"
unfoldable pub double_do : View → ℕ → Job → Path → Around → Links → Rec → Rec → Rec → Did
double_do v n j q o d z x y =
    if_b (leb n (slot3 v n)) (calm (Done PutUnsettled))
    (settled j (double_writes q o d z x y (slot1 v n) (slot2 v n) (slot3 v n)))

-- the change by its row, after the test has held; where y was not read yet no double rotation comes here
unfoldable pub rotate_by : LevelRow → View → ℕ → Job → Path → Around → Rec → Rec → Did
rotate_by NoRow v n j q o z x = calm Hurt
rotate_by RotateOne v n j q o z x = rotate_do v n j q o z x x.rank (z.rank - 1)
rotate_by RotateTwo v n j q o z x = rotate_two_do v n j q o z x
rotate_by DoubleRotation v n j q o z x = calm Hurt

-- the same where y was read
unfoldable pub double_by : LevelRow → View → ℕ → Job → Path → Around → Links → Rec → Rec → Rec → Did
double_by NoRow v n j q o d z x y = calm Hurt
double_by RotateOne v n j q o d z x y = rotate_by RotateOne v n j q o z x
double_by RotateTwo v n j q o d z x y = rotate_by RotateTwo v n j q o z x
double_by DoubleRotation v n j q o d z x y = double_do v n j q o d z x y

-- promote, or 17 where s outranks z; a wider z does not come here
unfoldable pub promote_by : ParentRow → View → ℕ → Job → Path → Links → Links → Rec → Did
promote_by Outranked v n j q a b z = calm Hurt
promote_by Promote v n j q a b z = promote_do v n j q (eqb a.left q.parent) b z
promote_by Wider v n j q a b z = calm Hurt

-- the commit with two, three and four records read
unfoldable pub commit_two : View → ℕ → Job → Path → Links → Links → Rec → Rec → Did → Did
commit_two v n j q a b z x change =
    commit_if (busy j (Settling q (SettleChoose a b))) (grounds_two n q a b (v q.grand) z x) (test_two a b (v q.grand) z) change

-- with x read
unfoldable pub commit_three : View → ℕ → Job → Path → Links → Links → Links → Rec → Rec → Did → Did
commit_three v n j q a b c z x change =
    commit_if (busy j (Settling q (SettleRotate a b c))) (grounds_three n q a b (v q.grand) z x) (test_three a b c (v q.grand) z x) change

-- with y read, in slot i
unfoldable pub commit_four : View → ℕ → Job → Path → Links → Links → Links → Links → ℕ → Rec → Rec → Did → Did
commit_four v n j q a b c d i z x change =
    commit_if (busy j (Settling q (SettleDouble a b c d))) (grounds_four n q a b i (v q.grand) z x (v i))
    (test_four a b c d (v q.grand) z x (v i)) change

-- 17: a step that must choose reads z, x and s; with x noted and a rotation to come also y and w
unfoldable pub choose_formed : ℕ → Path → Links → Rec → Rec → Rec → Bool
choose_formed n q b z x s = well_formed n q.parent z && (linked n q.here x && linked n (other b q.here) s)

-- y and w, for a rotation
unfoldable pub turn_formed : ℕ → Around → Rec → Rec → Bool
turn_formed n o y w = linked n o.y y && linked n o.w w

-- "z minus s at least 2"
abbrev pub is_wider : ParentRow → Bool
is_wider Outranked = false
is_wider Promote = false
is_wider Wider = true

-- "A double rotation also reads y, last."
abbrev pub is_double : LevelRow → Bool
is_double NoRow = false
is_double RotateOne = false
is_double RotateTwo = false
is_double DoubleRotation = true

-- "each step chooses by the links noted so far". pz and z noted: promote, or read x
unfoldable pub choose_by : ParentRow → View → ℕ → Job → Path → Links → Links → Rec → Rec → Did
choose_by row v n j q a b z x =
    if_b (is_wider row) (calm (read_on j q (SettleChoose a b) x))
    (commit_two v n j q a b z x (promote_by row v n j q a b z))

-- z, x and s must be there; then the choice
unfoldable pub choose_step : View → ℕ → Job → Path → Links → Links → Rec → Rec → Rec → Did
choose_step v n j q a b z x s =
    if_b (not (choose_formed n q b z x s)) (calm Hurt) (choose_by (parent_row z.rank s.rank) v n j q a b z x)

-- x noted too: promote, rotate, or read y
unfoldable pub rotate_on : LevelRow → View → ℕ → Job → Path → Links → Links → Links → Rec → Rec → Rec → Did
rotate_on row v n j q a b c z x y =
    if_b (is_double row) (calm (read_on j q (SettleRotate a b c) y))
    (commit_three v n j q a b c z x (rotate_by row v n j q (around_of q a b c) z x))

-- y and w must be there; then the choice
unfoldable pub rotate_turn : View → ℕ → Job → Path → Links → Links → Links → Rec → Rec → Rec → Rec → Did
rotate_turn v n j q a b c z x y w =
    if_b (not (turn_formed n (around_of q a b c) y w)) (calm Hurt)
    (rotate_on (level_row x.rank y.rank w.rank) v n j q a b c z x y)

-- a rotation, or a promote whose x was read
unfoldable pub rotate_first : ParentRow → View → ℕ → Job → Path → Links → Links → Links → Rec → Rec → Did
rotate_first row v n j q a b c z x =
    if_b (is_wider row) (rotate_turn v n j q a b c z x (v (around_of q a b c).y) (v (around_of q a b c).w))
    (commit_three v n j q a b c z x (promote_by row v n j q a b z))

-- the step after the reading of x
unfoldable pub rotate_step : View → ℕ → Job → Path → Links → Links → Links → Rec → Rec → Rec → Did
rotate_step v n j q a b c z x s =
    if_b (not (choose_formed n q b z x s)) (calm Hurt) (rotate_first (parent_row z.rank s.rank) v n j q a b c z x)

-- y noted too: a commit by the ranks found now
unfoldable pub double_turn : View → ℕ → Job → Path → Links → Links → Links → Links → Rec → Rec → Rec → Rec → Did
double_turn v n j q a b c d z x y w =
    if_b (not (turn_formed n (around_of q a b c) y w)) (calm Hurt)
    (commit_four v n j q a b c d (around_of q a b c).y z x
    (double_by (level_row x.rank y.rank w.rank) v n j q (around_of q a b c) d z x y))

-- a rotation, or a promote whose x and y were read
unfoldable pub double_first : ParentRow → View → ℕ → Job → Path → Links → Links → Links → Links → Rec → Rec → Did
double_first row v n j q a b c d z x =
    if_b (is_wider row) (double_turn v n j q a b c d z x (v (around_of q a b c).y) (v (around_of q a b c).w))
    (commit_four v n j q a b c d (around_of q a b c).y z x (promote_by row v n j q a b z))

-- the step after the reading of y
unfoldable pub double_step : View → ℕ → Job → Path → Links → Links → Links → Links → Rec → Rec → Rec → Did
double_step v n j q a b c d z x s =
    if_b (not (choose_formed n q b z x s)) (calm Hurt) (double_first (parent_row z.rank s.rank) v n j q a b c d z x)

-- "it reads pz .., z .. and, for a rotation, x .., and commits"
unfoldable pub settle_step : View → ℕ → Job → Path → SettleStage → Did
settle_step v n j q SettleGrand = calm (read_grand n j q (v q.grand))
settle_step v n j q (SettleParent a) = calm (read_parent n j q a (v q.parent))
settle_step v n j q (SettleChoose a b) = choose_step v n j q a b (v q.parent) (v q.here) (v (other b q.here))
settle_step v n j q (SettleRotate a b c) = rotate_step v n j q a b c (v q.parent) (v q.here) (v (other b q.here))
settle_step v n j q (SettleDouble a b c d) = double_step v n j q a b c d (v q.parent) (v q.here) (v (other b q.here))
