-- HOW ONE STEP GOES, 1: the walk.
use Rattle.std.specs.Prelude.{ℕ, Bool, not, ltb, eqb}
use Rattle.terms.specs.declared.Rec.{Rec}
use Rattle.terms.specs.declared.Path.{Path}
use Rattle.terms.specs.declared.Job.{Job}
use Rattle.terms.specs.declared.Turn.{Turn}
use Rattle.terms.specs.declared.Turn.TheVariants.{Hurt, Next, Done}
use Rattle.terms.specs.declared.Operation.{Operation}
use Rattle.terms.specs.declared.Operation.TheVariants.{LookUp, PutIn, TakeOut}
use Rattle.terms.specs.declared.Goal.{Goal}
use Rattle.terms.specs.declared.Goal.TheVariants.{Serve, Settle}
use Rattle.terms.specs.declared.PutStage.TheVariants.{PutParent}
use Rattle.terms.specs.declared.TakeStage.TheVariants.{TakeGrand}
use Rattle.terms.specs.declared.SettleStage.TheVariants.{SettleGrand}
use Rattle.terms.specs.declared.Phase.TheVariants.{Walk, PuttingIn, TakingOut, Settling}
use Rattle.terms.specs.declared.Answer.TheVariants.{Found, NotHeld, PutSettled, HeldAlready}
use Rattle.machine.specs.Choice.{if_b}
use Rattle.machine.specs.Record.{well_formed, linked, is_leaf, level}
use Rattle.machine.specs.Table.{View}
use Rattle.terms.specs.Task.{busy}

-- "A search goes left if the number sought is below the record's number, otherwise right."
unfoldable pub sought : ℕ → Rec → ℕ
sought k r = if_b (ltb k r.number) r.left r.right

-- "A step that arrives at a leaf ends a look up (1 or 2), a put-in whose number is there (4), a take-out whose number isn't (2)."
unfoldable pub at_leaf : Operation → Job → Path → Rec → Turn
at_leaf LookUp j q r = if_b (eqb r.number j.number) (Done (Found r.price)) (Done NotHeld)
at_leaf PutIn j q r = if_b (eqb r.number j.number) (Done HeldAlready) (Next (busy j (PuttingIn q PutParent)))
at_leaf TakeOut j q r = if_b (eqb r.number j.number) (Next (busy j (TakingOut q TakeGrand))) (Done NotHeld)

-- a record is arrived at for an operation: a leaf, or on with the walk
unfoldable pub serve_arrival : Operation → Job → Path → Rec → Turn
serve_arrival o j q h = if_b (is_leaf h) (at_leaf o j q h) (Next (busy j (Walk (Serve o) q)))

-- 17: "on a settling walk, the record arrived at outranks its parent"
unfoldable pub outranks : Rec → Rec → Bool
outranks h p = ltb p.rank h.rank

-- SETTLING: "If the record arrived at is level, it reads pz .." and "A step that arrives at a leaf gives answer 3."
unfoldable pub settle_arrival : Job → Path → Rec → Rec → Turn
settle_arrival j q p h =
    if_b (outranks h p) Hurt
    (if_b (level p h) (Next (busy j (Settling q SettleGrand)))
    (if_b (is_leaf h) (Done PutSettled) (Next (busy j (Walk Settle q)))))

-- THE arrival rule: parent p, record arrived at h
unfoldable pub arrival : Goal → Job → Path → Rec → Rec → Turn
arrival (Serve o) j q p h = serve_arrival o j q h
arrival Settle j q p h = settle_arrival j q p h

-- the record arrived at must be there and well formed
unfoldable pub walk_to : View → ℕ → Goal → Job → Path → Turn
walk_to v n g j q =
    if_b (not (linked n q.here (v q.here))) Hurt
    (arrival g j q (v q.parent) (v q.here))

-- "Each step reads one link": the walk leaves slot s, whose parent is grand. At the entry the sought side is the left one
unfoldable pub walk_from : View → ℕ → Goal → Job → ℕ → ℕ → Turn
walk_from v n g j grand s =
    if_b (not (well_formed n s (v s))) Hurt
    (walk_to v n g j (record { grand = grand; parent = s; here = sought j.number (v s) }))

-- a walk that goes on: "here" was reached by a link, so at 0 it is missing
unfoldable pub walk_on : View → ℕ → Goal → Job → Path → Turn
walk_on v n g j q = if_b (eqb q.here 0) Hurt (walk_from v n g j q.parent q.here)
