-- A turn that is no 17, and what its task remembers after it.
use Rattle.std.specs.Prelude.{◌≤◌, ℕ, ◌≡◌}
use Rattle.commits.proofs.Shape.{Shape}
use Rattle.fares.proofs.Whole.{Bounded}
use Rattle.machine.specs.Table.{View}
use Rattle.terms.specs.declared.Turn.{Turn}
use Rattle.terms.specs.declared.Turn.TheVariants.{Done, Hurt, Next}
use Rattle.trees.proofs.Held.{Carries}
use Rattle.trees.specs.Rank.{rank}
use Rattle.trees.specs.Tree.{Tree}
use Rattle.undamaged.specs.Calm.{Calm}
use Rattle.undamaged.specs.Memory.{TaskRemembers}
use Rattle.undamaged.specs.Records.{Old}

abbrev pub Safe : View → Tree → Turn → Type 0
Safe v t Hurt = ⊥
Safe v t (Next k) = TaskRemembers v t k.work
Safe v t (Done a) = Unit {0}

-- where a history stands: the table of n slots carries t, its records in use are right, level records have no level children
pub record Ground (n : ℕ) (v : View) (t : Tree) : Type 0 where
  pub carries : Carries v t
  pub shape : Shape t
  pub bounded : Bounded n v
  pub old : Old n v t
  pub calm : Calm 255 t
  pub top : rank t ≡ 255
  pub few : n ≤ 4096
