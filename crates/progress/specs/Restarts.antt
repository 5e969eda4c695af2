-- A TASK STARTS ITS WALK AGAIN only if the table was changed since it left the entry.
use Rattle.std.specs.Prelude.{◌*◌, ◌≤◌, ℕ, length, Bool, false, true, List, [], ◌∷◌, ◌≡◌}
use Rattle.history.specs.History.{Ask, abandon, begin, figures, left, list, reset, step, tidy}
use Rattle.history.specs.Ledger.{Point, advance, goes, history}
use Rattle.history.specs.Machine.{Machine}
use Rattle.machine.specs.State.{task_at}
use Rattle.machine.specs.Step.{Left}
use Rattle.terms.specs.declared.Answer.TheVariants.{Accepted}
use Rattle.terms.specs.declared.Phase.{Phase}
use Rattle.terms.specs.declared.Phase.TheVariants.{PuttingIn, Settling, Start, TakingOut, Walk}
use Rattle.terms.specs.declared.State.{State}
use Rattle.terms.specs.declared.Work.{Work}
use Rattle.terms.specs.declared.Work.TheVariants.{Busy, Idle}

-- a task about to walk from the entry
abbrev pub is_start : Phase → Bool
is_start (Start g) = true
is_start (Walk g q) = false
is_start (PuttingIn q s) = false
is_start (TakingOut q s) = false
is_start (Settling q s) = false

abbrev pub starts_work : Work → Bool
starts_work Idle = false
starts_work (Busy j f) = is_start f

abbrev pub starts_at : Point → ℕ → Bool
starts_at p i = starts_work (task_at p.state i).work

-- a call that does not begin task i: a begin that is refused does not
abbrev pub NotBegin : ℕ → Ask → Left → Type 0
NotBegin i reset l = Unit {0}
NotBegin i (begin k o j) l = k ≡ i → l.answer ≡ Accepted → ⊥
NotBegin i (step k) l = Unit {0}
NotBegin i (abandon k) l = Unit {0}
NotBegin i tidy l = Unit {0}
NotBegin i figures l = Unit {0}
NotBegin i (list room) l = Unit {0}

-- none of these calls begins task i, and each leaves the table as it was: nothing is committed
abbrev pub Untouched : Machine → ℕ → Point → List Ask → Type 0
Untouched M i p [] = Unit {0}
Untouched M i p (c ∷ cs) = NotBegin i c (left M p.table p.state c) × ((advance M p c).table ≡ p.table) × Untouched M i (advance M p c) cs

-- task i leaves the entry at a step; then any calls are made, by any tasks, that leave the table as it was and do not begin task i anew. After them it is not about to walk from the entry
abbrev pub NoRestart : Machine → Type 0
NoRestart M =
    (t : List ℕ) (st : State) (cs : List Ask) (n : ℕ) → length t ≡ 6 * n → 8 ≤ n → n ≤ 4096
    → (i : ℕ) → starts_at (history M t st cs) i ≡ true → (ds : List Ask) → Untouched M i (history M t st cs) (step i ∷ ds)
    → starts_at (goes M (history M t st cs) (step i ∷ ds)) i ≡ false
