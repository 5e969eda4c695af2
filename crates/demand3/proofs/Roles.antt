-- What matters of the eight tasks for level records: which of them settle, for which number, and where they walk.
use Prim.Native.Nat.{◌<◌, suc, zero, ℕ}
use borrow.Author.Tests.{eqb-false, eqb-true}
use lib.Dec.{eqb}
use lib.ListN.{get_or, length, set}
use mathlib.Core.Bool.{true}
use mathlib.Core.List.{List}
use mathlib.Core.Path.{◌∙◌, ◌≡◌, ap, fun_ext, refl, sym}
use native.Mathlib.Omega.{arith}
use Rattle.demand2.proofs.Counts.{stored_here, stored_other}
use Rattle.machine.proofs.Choice.{if_elim}
use Rattle.machine.specs.Choice.{if_b}
use Rattle.machine.specs.State.{one, settling, task_at}
use Rattle.owners.specs.Owners.{Role, Where, cast, is_settler, other, reads, settler, settlers, walking}
use Rattle.steps.specs.Does.{standing, walks}
use Rattle.terms.specs.Task.{goal_of, idle_task, work_settles}
use Rattle.terms.specs.declared.Goal.TheVariants.{Serve, Settle}
use Rattle.terms.specs.declared.Operation.{Operation}
use Rattle.terms.specs.declared.Phase.{Phase}
use Rattle.terms.specs.declared.Phase.TheVariants.{PuttingIn, Settling, Start, TakingOut, Walk}
use Rattle.terms.specs.declared.State.{State}
use Rattle.terms.specs.declared.Task.{Task}
use Rattle.terms.specs.declared.Work.{Work}
use Rattle.terms.specs.declared.Work.TheVariants.{Busy, Idle}
use Rattle.trees.specs.Count.{sum_to}

abbrev pub role_of : ℕ → Phase → Role
role_of k (Start (Serve o)) = other
role_of k (Start Settle) = settler k (walking 0)
role_of k (Walk (Serve o) q) = other
role_of k (Walk Settle q) = settler k (walking q.here)
role_of k (PuttingIn q s) = other
role_of k (TakingOut q s) = other
role_of k (Settling q s) = settler k reads

abbrev pub role : Work → Role
role Idle = other
role (Busy j f) = role_of j.number f

abbrev pub roles : State → ℕ → Role
roles st i = role (task_at st i).work

-- a task that serves is no settler
pub serve-role : (k : ℕ) (f : Phase) (o : Operation) → goal_of f ≡ Serve o → role_of k f ≡ other
serve-role k (Start (Serve o')) o e = refl
serve-role k (Start Settle) o e = absurd (let z : ◌≡◌ {A = ℕ} 0 1 = cc in omega arith)
serve-role k (Walk (Serve o') q) o e = refl
serve-role k (Walk Settle q) o e = absurd (let z : ◌≡◌ {A = ℕ} 0 1 = cc in omega arith)
serve-role k (PuttingIn q s) o e = refl
serve-role k (TakingOut q s) o e = refl
serve-role k (Settling q s) o e = absurd (let z : ◌≡◌ {A = ℕ} 0 1 = cc in omega arith)

-- a settling task that walks stands where its phase says
pub walk_role : (k : ℕ) (f : Phase) → goal_of f ≡ Settle → walks f ≡ true → role_of k f ≡ settler k (walking (standing f))
walk_role k (Start (Serve o)) e w = absurd (let z : ◌≡◌ {A = ℕ} 0 1 = cc in omega arith)
walk_role k (Start Settle) e w = refl
walk_role k (Walk (Serve o) q) e w = absurd (let z : ◌≡◌ {A = ℕ} 0 1 = cc in omega arith)
walk_role k (Walk Settle q) e w = refl
walk_role k (PuttingIn q s) e w = absurd (let z : ◌≡◌ {A = ℕ} 0 1 = cc in omega arith)
walk_role k (TakingOut q s) e w = absurd (let z : ◌≡◌ {A = ℕ} 0 1 = cc in omega arith)
walk_role k (Settling q s) e w = absurd (let z : ◌≡◌ {A = ℕ} 0 1 = cc in omega arith)

pub settle-role : (k : ℕ) (f : Phase) → goal_of f ≡ Settle → (p : Where) × (role_of k f ≡ settler k p)
settle-role k (Start (Serve o)) e = absurd (let z : ◌≡◌ {A = ℕ} 0 1 = cc in omega arith)
settle-role k (Start Settle) e = (walking 0, refl)
settle-role k (Walk (Serve o) q) e = absurd (let z : ◌≡◌ {A = ℕ} 0 1 = cc in omega arith)
settle-role k (Walk Settle q) e = (walking q.here, refl)
settle-role k (PuttingIn q s) e = absurd (let z : ◌≡◌ {A = ℕ} 0 1 = cc in omega arith)
settle-role k (TakingOut q s) e = absurd (let z : ◌≡◌ {A = ℕ} 0 1 = cc in omega arith)
settle-role k (Settling q s) e = (reads, refl)

-- one task stored
pub roles-stored : (ts : List Task) (m m' u u' i : ℕ) (k : Task) → i < length ts
    → roles (record { tasks = set ts i k; m = m'; u = u' }) ≡ cast (roles (record { tasks = ts; m = m; u = u })) i (role k.work)
unfolding cast
roles-stored ts m m' u u' i k h = fun_ext each
  where
    each : (x : ℕ) → role (get_or (set ts i k) x idle_task).work ≡ if_b (eqb x i) (role k.work) (role (get_or ts x idle_task).work)
    each x =
        if_elim (λ y. role (get_or (set ts i k) x idle_task).work ≡ y) (eqb x i)
        (λ e. rw (eqb-true x i e) (ap (λ (y : Task). role y.work) (stored_here ts i k idle_task h)))
        (λ e. ap (λ (y : Task). role y.work) (stored_other ts i x k idle_task (eqb-false x i e)))

-- stored with the role that it had: nothing changes
pub cast_same : (T : ℕ → Role) (i : ℕ) (r : Role) → T i ≡ r → cast T i r ≡ T
unfolding cast
cast_same T i r e = fun_ext each
  where
    each : (x : ℕ) → if_b (eqb x i) r (T x) ≡ T x
    each x = if_elim (λ y. y ≡ T x) (eqb x i) (λ q. sym e ∙ ap T (sym (eqb-true x i q))) (λ q. refl)

-- the settling tasks are the settlers
work-settles : (w : Work) → one (work_settles w) ≡ is_settler (role w)
work-settles Idle = refl
work-settles (Busy j (Start (Serve o))) = refl
work-settles (Busy j (Start Settle)) = refl
work-settles (Busy j (Walk (Serve o) q)) = refl
work-settles (Busy j (Walk Settle q)) = refl
work-settles (Busy j (PuttingIn q s)) = refl
work-settles (Busy j (TakingOut q s)) = refl
work-settles (Busy j (Settling q s)) = refl

pub settlers-is : (st : State) (n : ℕ) → settlers n (roles st) ≡ settling st.tasks n
unfolding settlers sum_to settling
settlers-is st zero = refl
settlers-is st (suc n) = omega (arith, settlers-is st n, work-settles (task_at st n).work)
