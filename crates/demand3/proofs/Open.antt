-- c off the history is u plus the settling tasks.
use Prim.Native.Nat.{◌+◌, suc, zero, ℕ}
use lib.ListN.{get_or, length}
use mathlib.Core.List.{List, [], ◌∷◌}
use mathlib.Core.Path.{◌∙◌, ◌≡◌, ap, refl, sym}
use native.Mathlib.Omega.{arith}
use Rattle.demand2.proofs.Accounts.{agree_settles}
use Rattle.demand2.proofs.Stands.{Stands}
use Rattle.history.specs.Ledger.{Open, Point, count_c, one_unsettled, open_at, shut, still_open}
use Rattle.machine.specs.State.{one, settling, task_at}
use Rattle.terms.specs.Task.{idle_task, work_settles}
use Rattle.terms.specs.declared.Task.{Task}
use Rattle.trees.specs.Count.{sum_to}

sum_shift : (n : ℕ) (f : ℕ → ℕ) → sum_to (suc n) f ≡ f 0 + sum_to n (λ i. f (suc i))
unfolding sum_to
sum_shift zero f = omega arith
sum_shift (suc n) f = omega (arith, sum_shift n f)

sum_same : (n : ℕ) (f g : ℕ → ℕ) → ((i : ℕ) → f i ≡ g i) → sum_to n f ≡ sum_to n g
unfolding sum_to
sum_same zero f g h = refl
sum_same (suc n) f g h = omega (arith, sum_same n f g h, h n)

open_sum : (os : List Open) → still_open os ≡ sum_to (length os) (λ i. one_unsettled (get_or os i shut))
unfolding still_open sum_to
open_sum [] = refl
open_sum (o ∷ os) = ap (λ x. one_unsettled o + x) (open_sum os) ∙ sym (sum_shift (length os) (λ i. one_unsettled (get_or (o ∷ os) i shut)))

settling-sum : (ts : List Task) (n : ℕ) → settling ts n ≡ sum_to n (λ i. one (work_settles (get_or ts i idle_task).work))
unfolding settling sum_to
settling-sum ts zero = refl
settling-sum ts (suc n) = omega (arith, settling-sum ts n)

pub c_is : {p : Point} → Stands p → p.state.u + settling p.state.tasks 8 ≡ count_c p.account
c_is {p} s =
    let e : still_open p.account.tasks ≡ settling p.state.tasks 8 =
    open_sum p.account.tasks ∙ ap (λ n. sum_to n (λ i. one_unsettled (open_at p.account i))) s.eight-open
    ∙ sum_same 8 (λ i. one_unsettled (open_at p.account i)) (λ i. one (work_settles (task_at p.state i).work))
    (λ i. sym (agree_settles (open_at p.account i) (task_at p.state i).work (s.agree i)))
    ∙ sym (settling-sum p.state.tasks 8) in
    omega (arith, s.u-is)
