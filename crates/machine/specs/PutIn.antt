-- PUT-IN (3 slots).
use Rattle.std.specs.Prelude.{ℕ, Bool, true, ◌&&◌, not, List, [], ◌∷◌, ltb, leb, eqb}
use Rattle.terms.specs.declared.Rec.{Rec}
use Rattle.terms.specs.declared.Links.{Links}
use Rattle.terms.specs.declared.Path.{Path}
use Rattle.terms.specs.declared.Job.{Job}
use Rattle.terms.specs.declared.Goal.TheVariants.{Settle}
use Rattle.terms.specs.declared.PutStage.{PutStage}
use Rattle.terms.specs.declared.PutStage.TheVariants.{PutParent, PutLeaf, PutCommit}
use Rattle.terms.specs.declared.Phase.TheVariants.{Start, PuttingIn}
use Rattle.terms.specs.declared.Answer.TheVariants.{PutSettled, NoRoom, Limit}
use Rattle.terms.specs.declared.Turn.{Turn}
use Rattle.terms.specs.declared.Turn.TheVariants.{Next, Done}
use Rattle.machine.specs.Choice.{if_b}
use Rattle.machine.specs.Record.{well_formed, linked, is_leaf, in_tree, leads, links_of, still, top_number}
use Rattle.machine.specs.Table.{View, Write, fill, lead, off, slot1, slot2, slot3}
use Rattle.terms.specs.Task.{busy}
use Rattle.machine.specs.Commit.{reading, Did, calm, commit_if}

-- "A fare's leaf has rank 0 and its price, a sentinel's rank 255."
unfoldable pub leaf_of : ℕ → ℕ → Rec
leaf_of k p =
    if_b (eqb k top_number)
    (record { state = 1; number = k; price = 0; rank = 255; left = 0; right = 0 })
    (record { state = 1; number = k; price = p; rank = 0; left = 0; right = 0 })

-- a fresh inner record: "Inner records have price 0."
abbrev pub inner_of : ℕ → ℕ → ℕ → ℕ → Rec
inner_of k rk l r = record { state = 1; number = k; price = 0; rank = rk; left = l; right = r }

-- "Inner rank 1, or 255 if the leaf was a sentinel."
unfoldable pub inner_rank : Rec → ℕ
inner_rank h = if_b (eqb h.rank 255) 255 1

-- 17 before the test: two records the same, the parent's noted links don't lead on, not on a leaf of another number
unfoldable pub put_grounds : ℕ → Job → Path → Links → Rec → Rec → Bool
put_grounds n j q a p h =
    well_formed n q.parent p && (linked n q.here h
    && (not (eqb q.parent q.here) && (leads a q.here && (is_leaf h && not (eqb h.number j.number)))))

-- "If every record read is still in state 1 with both links as noted"
unfoldable pub put_test : Links → Links → Rec → Rec → Bool
put_test a b p h = still p a && still h b

-- "the leaf is taken off; in its place an inner record": top, low and high in the slots x, y and z; e: the leaf was the left child
abbrev pub five_writes : Path → Bool → Rec → Rec → Rec → ℕ → ℕ → ℕ → List Write
five_writes q e top low high x y z =
    fill x top ∷ fill y low ∷ fill z high ∷ off q.here ∷ lead q.parent e x ∷ []

-- ".. with the larger of the two numbers, its children the smaller and the larger as fresh leaves"
unfoldable pub put_writes : Job → Path → Bool → Rec → ℕ → ℕ → ℕ → List Write
put_writes j q e h x y z =
    if_b (ltb j.number h.number)
    (five_writes q e (inner_of h.number (inner_rank h) y z) (leaf_of j.number j.price) (leaf_of h.number h.price) x y z)
    (five_writes q e (inner_of j.number (inner_rank h) y z) (leaf_of h.number h.price) (leaf_of j.number j.price) x y z)

-- "If parent and new inner record both have rank 1 the task settles next; otherwise the answer is 3."
unfoldable pub put_turn : Job → Rec → Rec → Turn
put_turn j p h = if_b (eqb p.rank 1 && eqb (inner_rank h) 1) (Next (busy j (Start Settle))) (Done PutSettled)

-- a put-in commits: m is one more
abbrev pub put_done : Turn → List Write → Did
put_done a ws = record { turn = a; committed = true; writes = ws }

-- 15: "no room, at the commit of a put-in"
unfoldable pub put_room : View → ℕ → Job → Path → Bool → Rec → Rec → Did
put_room v n j q e p h =
    if_b (leb n (slot3 v n)) (calm (Done NoRoom))
    (put_done (put_turn j p h) (put_writes j q e h (slot1 v n) (slot2 v n) (slot3 v n)))

-- 16: "1,000,000 put-ins already committed". "Limit and room are looked at only after this test."
unfoldable pub put_limit : View → ℕ → ℕ → Job → Path → Bool → Rec → Rec → Did
put_limit v n m j q e p h = if_b (leb 1000000 m) (calm (Done Limit)) (put_room v n j q e p h)

-- "3. Commit (SCX), one step.", of a put-in
unfoldable pub put_commit : View → ℕ → ℕ → Job → Path → Links → Links → Did
put_commit v n m j q a b =
    commit_if (busy j (PuttingIn q (PutCommit a b)))
    (put_grounds n j q a (v q.parent) (v q.here))
    (put_test a b (v q.parent) (v q.here))
    (put_limit v n m j q (eqb a.left q.here) (v q.parent) (v q.here))

-- "Put-in: parent, leaf."
unfoldable pub read_put_parent : ℕ → Job → Path → Rec → Turn
read_put_parent n j q p =
    reading (busy j (PuttingIn q PutParent)) (well_formed n q.parent p) (in_tree p && leads (links_of p) q.here) p

-- the leaf: it has no next remembered record
unfoldable pub read_put_leaf : ℕ → Job → Path → Links → Rec → Turn
read_put_leaf n j q a h = reading (busy j (PuttingIn q (PutLeaf a))) (linked n q.here h) (in_tree h) h

-- "Put-in: parent, leaf.", then its commit
unfoldable pub put_step : View → ℕ → ℕ → Job → Path → PutStage → Did
put_step v n m j q PutParent = calm (read_put_parent n j q (v q.parent))
put_step v n m j q (PutLeaf a) = calm (read_put_leaf n j q a (v q.here))
put_step v n m j q (PutCommit a b) = put_commit v n m j q a b
