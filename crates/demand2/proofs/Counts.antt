-- The tasks of a state: one stored, the rest as before, and how many of them settle or are busy.
use Prim.Native.Nat.{◌+◌, ◌<◌, ◌≤◌, suc, zero, ℕ}
use lib.ListN.{get_or, length, replicate, set}
use lib.Seq.{get_or-set_other, get_or-set_same}
use mathlib.Core.Bool.{Bool, false, true}
use mathlib.Core.List.{List}
use mathlib.Core.Logic.{inl, inr}
use mathlib.Core.Path.{◌≡◌, ap, refl, subst, sym}
use native.Mathlib.Omega.{arith}
use Rattle.machine.specs.State.{busy_tasks, one, settling}
use Rattle.terms.specs.Task.{idle_task, is_busy, work_settles}
use Rattle.terms.specs.declared.Task.{Task}
use Rattle.terms.specs.declared.Work.{Work}
use Rattle.terms.specs.declared.Work.TheVariants.{Busy, Idle}
use Rattle.views.proofs.Law.{same_or}

-- a list of the same thing
pub all_alike : {A : Type 0} (n x : ℕ) (a : A) → get_or (replicate n a) x a ≡ a
all_alike zero x a = refl
all_alike (suc n) zero a = refl
all_alike (suc n) (suc x) a = all_alike n x a

-- task x after task i was stored
pub stored_here : {A : Type 0} (xs : List A) (i : ℕ) (a d : A) → i < length xs → get_or (set xs i a) i d ≡ a
stored_here xs i a d h = get_or-set_same xs i a d h

pub stored_other : {A : Type 0} (xs : List A) (i x : ℕ) (a d : A) → (x ≡ i → ⊥) → get_or (set xs i a) x d ≡ get_or xs x d
stored_other xs i x a d n = get_or-set_other xs i x a d n

-- what holds of the new task and of all others holds of all
pub all_stored : {A : Type 0} (P : ℕ → A → Type 0) (xs : List A) (i : ℕ) (a d : A) → i < length xs → P i a → ((x : ℕ) → (x ≡ i → ⊥) → P x (get_or xs x d)) → (x : ℕ) → P x (get_or (set xs i a) x d)
all_stored P xs i a d h new old x =
    elim (same_or x i) [
      | inl e ↦ subst (λ y. P y (get_or (set xs i a) y d)) (sym e) (subst (P i) (sym (stored_here xs i a d h)) new)
      | inr n ↦ subst (P x) (sym (stored_other xs i x a d n)) (old x n)
    ]

abbrev settles_at_lem : List Task → ℕ → ℕ
settles_at_lem ts i = one (work_settles (get_or ts i idle_task).work)

settling-before : (ts : List Task) (i : ℕ) (k : Task) (n : ℕ) → n ≤ i → settling (set ts i k) n ≡ settling ts n
unfolding settling
settling-before ts i k zero h = refl
settling-before ts i k (suc n) h =
    omega (arith, settling-before ts i k n (omega arith), ap (λ (y : Task). one (work_settles y.work)) (stored_other ts i n k idle_task (λ e. omega arith)))

pub settling-stored : (ts : List Task) (i : ℕ) (k : Task) (n : ℕ) → i < length ts → i < n → settling (set ts i k) n + settles_at_lem ts i ≡ settling ts n + one (work_settles k.work)
unfolding settling
settling-stored ts i k zero h lt = absurd (omega arith)
settling-stored ts i k (suc n) h lt =
    elim (same_or n i) [
      | inl e ↦ omega (
        arith,
        settling-before ts i k n (omega arith),
        subst (λ y. settles_at_lem (set ts i k) y ≡ one (work_settles k.work)) (sym e) (ap (λ (y : Task). one (work_settles y.work)) (stored_here ts i k idle_task h)),
        ap (settles_at_lem ts) e,
      )
      | inr d ↦ omega (
        arith,
        settling-stored ts i k n h (less d),
        ap (λ (y : Task). one (work_settles y.work)) (stored_other ts i n k idle_task d),
      )
    ]
  where
    less : (n ≡ i → ⊥) → i < n
    less d = omega arith

-- no task is busy
pub none-busy_at : (ts : List Task) (n i : ℕ) → busy_tasks ts n ≡ 0 → i < n → is_busy (get_or ts i idle_task).work ≡ false
unfolding busy_tasks
none-busy_at ts zero i e h = absurd (omega arith)
none-busy_at ts (suc n) i e h =
    elim (same_or i n) [
      | inl q ↦ rw q (zero_one (is_busy (get_or ts n idle_task).work) (omega arith))
      | inr d ↦ none-busy_at ts n i (omega arith) (less d)
    ]
  where
    less : (i ≡ n → ⊥) → i < n
    less d = omega arith

    zero_one : (b : Bool) → one b ≡ 0 → b ≡ false
    zero_one true z = absurd (omega arith)
    zero_one false z = refl

pub idle_work : (w : Work) → is_busy w ≡ false → w ≡ Idle
idle_work Idle e = refl
idle_work (Busy j f) e = absurd (let z : ◌≡◌ {A = ℕ} 0 1 = cc in omega arith)
