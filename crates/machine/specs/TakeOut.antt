-- TAKE-OUT (1 slot).
use Rattle.std.specs.Prelude.{ℕ, Bool, false, ◌&&◌, not, List, [], ◌∷◌, leb, eqb}
use Rattle.terms.specs.declared.Rec.{Rec}
use Rattle.terms.specs.declared.Links.{Links}
use Rattle.terms.specs.declared.Path.{Path}
use Rattle.terms.specs.declared.Job.{Job}
use Rattle.terms.specs.declared.TakeStage.{TakeStage}
use Rattle.terms.specs.declared.TakeStage.TheVariants.{TakeGrand, TakeParent, TakeLeft, TakeRight, TakeCommit}
use Rattle.terms.specs.declared.Phase.TheVariants.{TakingOut}
use Rattle.terms.specs.declared.Answer.TheVariants.{TakenOut, NoRoom}
use Rattle.terms.specs.declared.Turn.{Turn}
use Rattle.terms.specs.declared.Turn.TheVariants.{Done}
use Rattle.machine.specs.Choice.{if_b}
use Rattle.machine.specs.Record.{well_formed, linked, is_leaf, in_tree, leads, links_of, still, other}
use Rattle.machine.specs.Table.{View, Write, fill, lead, off, slot1}
use Rattle.terms.specs.Task.{busy}
use Rattle.machine.specs.Commit.{reading, Did, calm, commit_if}

-- 17: "two of the records read are one and the same"
unfoldable pub take_apart : Path → Links → Bool
take_apart q b =
    not (eqb q.grand q.parent) && (not (eqb q.grand b.left) && (not (eqb q.grand b.right)
    && (not (eqb q.parent b.left) && (not (eqb q.parent b.right) && not (eqb b.left b.right)))))

-- 17: "a take-out doesn't stand on a leaf of its own number"
unfoldable pub take_leaf : Job → Rec → Bool
take_leaf j h = is_leaf h && eqb h.number j.number

-- 17 before the test, of the records of grandparent g, parent p, its left child l and its right child r
unfoldable pub take_grounds : ℕ → Job → Path → Links → Links → Rec → Rec → Rec → Rec → Bool
take_grounds n j q a b g p l r =
    well_formed n q.grand g && (well_formed n q.parent p && (linked n b.left l && (linked n b.right r
    && (take_apart q b && (leads a q.parent && (leads b q.here && take_leaf j (if_b (eqb b.left q.here) l r)))))))

-- "If every record read is still in state 1 with both links as noted"
unfoldable pub take_test : Links → Links → Links → Links → Rec → Rec → Rec → Rec → Bool
take_test a b c d g p l r = still g a && (still p b && (still l c && still r d))

-- "parent, leaf and sibling are taken off; the grandparent now leads to a copy of the sibling (number, price, rank, links kept)"
abbrev pub take_writes : Path → Bool → Rec → ℕ → ℕ → List Write
take_writes q e s sibling x = fill x s ∷ off q.parent ∷ off q.here ∷ off sibling ∷ lead q.grand e x ∷ []

-- 15: "no room, at the commit of a .. take-out". "Answer 5."
unfoldable pub take_room : View → ℕ → Path → Bool → Rec → ℕ → Did
take_room v n q e s sibling =
    if_b (leb n (slot1 v n)) (calm (Done NoRoom))
    (record { turn = Done TakenOut; committed = false; writes = take_writes q e s sibling (slot1 v n) })

-- "3. Commit (SCX), one step.", of a take-out
unfoldable pub take_commit : View → ℕ → Job → Path → Links → Links → Links → Links → Did
take_commit v n j q a b c d =
    commit_if (busy j (TakingOut q (TakeCommit a b c d)))
    (take_grounds n j q a b (v q.grand) (v q.parent) (v b.left) (v b.right))
    (take_test a b c d (v q.grand) (v q.parent) (v b.left) (v b.right))
    (take_room v n q (eqb a.left q.parent) (v (other b q.here)) (other b q.here))

-- "Take-out: grandparent, parent, parent's left child, its right child.": the children by the parent's noted links
unfoldable pub read_take_grand : ℕ → Job → Path → Rec → Turn
read_take_grand n j q g =
    reading (busy j (TakingOut q TakeGrand)) (well_formed n q.grand g) (in_tree g && leads (links_of g) q.parent) g

-- the parent: its noted links must lead to the leaf
unfoldable pub read_take_parent : ℕ → Job → Path → Links → Rec → Turn
read_take_parent n j q a p =
    reading (busy j (TakingOut q (TakeParent a))) (well_formed n q.parent p) (in_tree p && leads (links_of p) q.here) p

-- the parent's left child, by its noted link
unfoldable pub read_take_left : ℕ → Job → Path → Links → Links → Rec → Turn
read_take_left n j q a b l = reading (busy j (TakingOut q (TakeLeft a b))) (linked n b.left l) (in_tree l) l

-- "its right child"
unfoldable pub read_take_right : ℕ → Job → Path → Links → Links → Links → Rec → Turn
read_take_right n j q a b c r = reading (busy j (TakingOut q (TakeRight a b c))) (linked n b.right r) (in_tree r) r

-- the four readings, then the commit
unfoldable pub take_step : View → ℕ → Job → Path → TakeStage → Did
take_step v n j q TakeGrand = calm (read_take_grand n j q (v q.grand))
take_step v n j q (TakeParent a) = calm (read_take_parent n j q a (v q.parent))
take_step v n j q (TakeLeft a b) = calm (read_take_left n j q a b (v b.left))
take_step v n j q (TakeRight a b c) = calm (read_take_right n j q a b c (v b.right))
take_step v n j q (TakeCommit a b c d) = take_commit v n j q a b c d
