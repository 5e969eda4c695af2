-- THE SEARCH ARGUMENT: where the records are that a busy task remembers, under any interleaving of the eight tasks.
use Rattle.std.specs.Prelude.{◌<◌, ℕ, ◌⊎◌, ◌≡◌}
use Rattle.commits.proofs.Grounds.{Steady}
use Rattle.machine.specs.Table.{View}
use Rattle.routes.specs.Route.{Good, full}
use Rattle.terms.specs.Task.{no_grand}
use Rattle.terms.specs.declared.Goal.TheVariants.{Serve, Settle}
use Rattle.terms.specs.declared.Path.{Path}
use Rattle.terms.specs.declared.Phase.{Phase}
use Rattle.terms.specs.declared.Phase.TheVariants.{PuttingIn, Settling, Start, TakingOut, Walk}
use Rattle.terms.specs.declared.Task.{Task}
use Rattle.terms.specs.declared.Work.{Work}
use Rattle.terms.specs.declared.Work.TheVariants.{Busy, Idle}
use Rattle.trees.specs.Tree.{Tree}

-- nothing is asked of a leaf that was taken off
abbrev pub Any : ℕ → ℕ → Type 0
Any k p = Unit {0}

-- a remembered record is on the route of k, or was taken off and leads there
abbrev pub Fine : View → Tree → ℕ → ℕ → Type 0
Fine v t k s = Good Any v (full k t) k s

-- grandparent, parent and here; while the parent is the entry there is no grandparent
pub record Trail (v : View) (t : Tree) (k : ℕ) (q : Path) : Type 0 where
  pub grand-fine : (q.grand ≡ no_grand) ⊎ Fine v t k q.grand
  pub parent-fine : Fine v t k q.parent
  pub here-fine : Fine v t k q.here

-- a settling task walks past no level record: the pair that it remembers isn't level; above the entry there is nothing
abbrev pub Upper : View → Path → Type 0
Upper v q = (q.parent ≡ 0) ⊎ Steady v q.grand q.parent

abbrev pub Lower : View → Path → Type 0
Lower v q = Steady v q.parent q.here

-- what holds of a task's phase, for its number
abbrev pub PhaseOk : View → Tree → ℕ → Phase → Type 0
PhaseOk v t k (Start g) = Unit {0}
PhaseOk v t k (Walk (Serve o) q) = Trail v t k q
PhaseOk v t k (Walk Settle q) = Trail v t k q × Upper v q × Lower v q
PhaseOk v t k (PuttingIn q s) = Trail v t k q
PhaseOk v t k (TakingOut q s) = Trail v t k q
PhaseOk v t k (Settling q s) = Trail v t k q × Upper v q

-- and of a task
abbrev pub WorkOk : View → Tree → Work → Type 0
WorkOk v t Idle = Unit {0}
WorkOk v t (Busy j f) = (j.number < 1000000) × (j.price < 100000) × PhaseOk v t j.number f

abbrev pub TaskOk : View → Tree → Task → Type 0
TaskOk v t k = WorkOk v t k.work
