-- WHAT A STEP DOES, once for all theorems: its task moves on and nothing is written, or it commits.
use Rattle.std.specs.Prelude.{◌<◌, ℕ, Bool, false, true, List, ◌⊎◌, ◌≡◌}
use Rattle.commits.proofs.Acts.{settles, takes_out}
use Rattle.commits.proofs.Sight.{Changed, PutChanged}
use Rattle.terms.specs.Answers.{number_of}
use Rattle.machine.specs.Choice.{if_b}
use Rattle.machine.specs.Commit.{Did, calm}
use Rattle.machine.specs.Table.{View, Write}
use Rattle.routes.specs.Route.{lv, next}
use Rattle.steps.specs.Trail.{PhaseOk}
use Rattle.terms.specs.Task.{busy, goal_of}
use Rattle.terms.specs.declared.Answer.{Answer}
use Rattle.terms.specs.declared.Answer.TheVariants.{PutSettled, PutUnsettled, TakenOut}
use Rattle.terms.specs.declared.Goal.TheVariants.{Serve, Settle}
use Rattle.terms.specs.declared.Job.{Job}
use Rattle.terms.specs.declared.Operation.{Operation}
use Rattle.terms.specs.declared.Operation.TheVariants.{LookUp, PutIn, TakeOut}
use Rattle.terms.specs.declared.Phase.{Phase}
use Rattle.terms.specs.declared.Phase.TheVariants.{PuttingIn, Settling, Start, TakingOut, Walk}
use Rattle.terms.specs.declared.Turn.{Turn}
use Rattle.terms.specs.declared.Turn.TheVariants.{Done, Hurt, Next}
use Rattle.trees.specs.Tree.{Tree}
use Rattle.views.specs.Update.{upds}

-- where a task stands that walks; about to walk is at the entry
abbrev pub standing : Phase → ℕ
standing (Start g) = 0
standing (Walk g q) = q.here
standing (PuttingIn q s) = 0
standing (TakingOut q s) = 0
standing (Settling q s) = 0

abbrev pub walks : Phase → Bool
walks (Start g) = true
walks (Walk g q) = true
walks (PuttingIn q s) = false
walks (TakingOut q s) = false
walks (Settling q s) = false

-- the record above the place that a commit changes
abbrev pub above_of : Phase → ℕ
above_of (Start g) = 0
above_of (Walk g q) = 0
above_of (PuttingIn q s) = q.parent
above_of (TakingOut q s) = q.grand
above_of (Settling q s) = q.grand

-- a settling task that walks on goes to the next record, and past no level one
abbrev pub Moves : View → ℕ → Phase → Phase → Type 0
Moves v k f (Start g) = Unit {0}
Moves v k f (Walk (Serve o) q) = Unit {0}
Moves v k f (Walk Settle q) =
    (walks f ≡ true) × (q.here ≡ next v k (standing f)) × (lv (v (standing f)).rank (v q.here).rank ≡ true → ⊥)
Moves v k f (PuttingIn q s) = Unit {0}
Moves v k f (TakingOut q s) = Unit {0}
Moves v k f (Settling q s) = Unit {0}

-- the answers that end an operation without a commit
abbrev pub EndOf : Operation → ℕ → Type 0
EndOf LookUp x = (x ≡ 1) ⊎ (x ≡ 2)
EndOf PutIn x = (x ≡ 4) ⊎ ((x ≡ 15) ⊎ (x ≡ 16))
EndOf TakeOut x = (x ≡ 2) ⊎ (x ≡ 15)

-- a turn without writes: 17, the task goes on with its goal, or it ends
pub data Quiet (v : View) (t : Tree) (j : Job) (f : Phase) : Turn → Type 0 where
  hurts : Quiet v t j f Hurt
  moves-on : (f' : Phase) → goal_of f' ≡ goal_of f → PhaseOk v t j.number f' → Moves v j.number f f' → Quiet v t j f (Next (busy j f'))
  stops : (o : Operation) (a : Answer) → goal_of f ≡ Serve o → EndOf o (number_of a) → Quiet v t j f (Done a)
  settled : goal_of f ≡ Settle → walks f ≡ true → (lv (v (standing f)).rank (v (next v j.number (standing f))).rank ≡ true → ⊥)
      → next v j.number (next v j.number (standing f)) ≡ 0 → Quiet v t j f (Done PutSettled)
  leaves : goal_of f ≡ Settle → Quiet v t j f (Done PutUnsettled)

-- "If parent and new inner record both have rank 1 the task settles next; otherwise the answer is 3."
abbrev pub turn_of_put : Job → Bool → Turn
turn_of_put j b = if_b b (Next (busy j (Start Settle))) (Done PutSettled)

-- the step as a whole, on a tree that the view carries; m put-ins are committed so far
pub data Does (v : View) (t : Tree) (m : ℕ) (j : Job) (f : Phase) : Did → Type 0 where
  rests : (a : Turn) → Quiet v t j f a → Does v t m j f (calm a)
  put-commits : (b : Bool) (ws : List Write) → m < 1000000 → goal_of f ≡ Serve PutIn → PutChanged v j.number j.price t (upds v ws) b
      → Does v t m j f (record { turn = turn_of_put j b; committed = true; writes = ws })
  take-commits : (ws : List Write) → goal_of f ≡ Serve TakeOut → Changed v (takes_out j.number) t (above_of f) (upds v ws)
      → Does v t m j f (record { turn = Done TakenOut; committed = false; writes = ws })
  settle-commits : (ws : List Write) → goal_of f ≡ Settle → Changed v settles t (above_of f) (upds v ws)
      → Does v t m j f (record { turn = Next (busy j (Start Settle)); committed = false; writes = ws })
