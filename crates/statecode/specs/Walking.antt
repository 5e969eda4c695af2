-- A task on its way, read and written without its notes: the first seven numbers of its fifteen.
use Rattle.std.specs.Prelude.{ℕ, Bool, true, false, List, [], ◌∷◌, Some, None}
use Rattle.std.specs.declared.option.Option.{Option}
use Rattle.std.proofs.Math.Seq.{paste}
use Rattle.terms.specs.declared.Path.{Path}
use Rattle.terms.specs.declared.Job.{Job}
use Rattle.terms.specs.declared.Phase.TheVariants.{Start, Walk, PuttingIn, TakingOut, Settling}
use Rattle.terms.specs.declared.Work.{Work}
use Rattle.terms.specs.declared.Work.TheVariants.{Idle, Busy}
use Rattle.statecode.specs.declared.Walker.{Walker}

-- the task as a walker, if it walks
abbrev pub walker_of : Work → Option Walker
walker_of Idle = None
walker_of (Busy j (Start g)) = Some (record { job = j; goal = g; path = None })
walker_of (Busy j (Walk g q)) = Some (record { job = j; goal = g; path = Some q })
walker_of (Busy j (PuttingIn q s)) = None
walker_of (Busy j (TakingOut q s)) = None
walker_of (Busy j (Settling q s)) = None

-- no reading is noted
unfoldable pub no_notes : Work → Bool
no_notes Idle = true
no_notes (Busy j (Start g)) = true
no_notes (Busy j (Walk g q)) = true
no_notes (Busy j (PuttingIn q s)) = false
no_notes (Busy j (TakingOut q s)) = false
no_notes (Busy j (Settling q s)) = false

-- the first seven numbers of a task, from a place on
unfoldable pub put_first : List ℕ → ℕ → ℕ → Job → ℕ → Path → List ℕ
put_first w b f j k q =
    paste w b (f ∷ j.number ∷ j.price ∷ k ∷ q.grand ∷ q.parent ∷ q.here ∷ []) 7
