-- The counts over the tasks, one task more.
use Rattle.std.proofs.Common.{◌≡◌, ◌≤◌, ◌<◌, ◌+◌, refl, sym, ap, ◌∙◌, ℕ, zero, suc, Bool, true, false, List, length, take, count_by, arith, add-one, get_or}
use Rattle.std.proofs.Math.Nat.{add-zero}
use Rattle.std.proofs.lemmas.List.{take_all}
use Rattle.std.proofs.lemmas.List.Sums.{count_by_more_no, count_by_more_yes}
use Rattle.terms.specs.declared.Task.{Task}
use Rattle.terms.specs.Task.{idle_task, work_settles, is_busy}
use Rattle.machine.specs.State.{one, settling, busy_tasks}

none-settling : (ts : List Task) → 0 ≡ settling ts 0
unfolding settling
none-settling ts = refl

one-more_settling : (ts : List Task) (k : ℕ) → settling ts (k + 1) ≡ settling ts k + one (work_settles (get_or ts k idle_task).work)
unfolding settling
one-more_settling ts k = rw (add-one k) refl

none-busy : (ts : List Task) → 0 ≡ busy_tasks ts 0
unfolding busy_tasks
none-busy ts = refl

one-more_busy : (ts : List Task) (k : ℕ) → busy_tasks ts (k + 1) ≡ busy_tasks ts k + one (is_busy (get_or ts k idle_task).work)
unfolding busy_tasks
one-more_busy ts k = rw (add-one k) refl

-- a count that goes up as f does, from none
module _ (ts : List Task) (p : Task → Bool) (f : ℕ → ℕ) (none : 0 ≡ f 0) (more : (k : ℕ) → f (k + 1) ≡ f k + one (p (get_or ts k idle_task))) where
  step : (k : ℕ) (b : Bool) → p (get_or ts k idle_task) ≡ b → k < length ts → count_by p (take k ts) ≡ f k → count_by p (take (k + 1) ts) ≡ f (k + 1)
  step k true e h i = rw (count_by_more_yes p ts k idle_task h e, more k, e, i) refl
  step k false e h i = rw (count_by_more_no p ts k idle_task h e, more k, e, i) (sym (add-zero (f k)))

  counted : (k : ℕ) → k ≤ length ts → count_by p (take k ts) ≡ f k
  counted zero h = none
  counted (suc k) h = rw (← add-one k) (step k _ refl (omega arith) (counted k (omega arith)))

  counted_all : length ts ≡ 8 → count_by p ts ≡ f 8
  counted_all h = ap (count_by p) (sym (take_all 8 ts (omega arith))) ∙ counted 8 (omega arith)

module _ (ts : List Task) (h : length ts ≡ 8) where
  pub settling_counted : count_by (λ k. work_settles k.work) ts ≡ settling ts 8
  settling_counted = counted_all ts (λ k. work_settles k.work) (settling ts) (none-settling ts) (one-more_settling ts) h

  pub busy_counted : count_by (λ k. is_busy k.work) ts ≡ busy_tasks ts 8
  busy_counted = counted_all ts (λ k. is_busy k.work) (busy_tasks ts) (none-busy ts) (one-more_busy ts) h
