-- WHERE A HISTORY STANDS: the table carries a tree with its ranks, order and labels right, whose fares are those that the commits give; every task remembers what it
-- should; state and account agree. Every call keeps this.
use Prim.Native.Nat.{◌*◌, ◌+◌, ◌<◌, ◌≤◌, ℕ}
use borrow.Author.Tests.{le-leb}
use lib.ListN.{get_or, length, length-set, set}
use mathlib.Core.Bool.{true}
use mathlib.Core.List.{List}
use mathlib.Core.Logic.{◌⊎◌, inl, inr}
use mathlib.Core.Path.{◌∙◌, ◌≡◌, refl, subst, sym}
use native.Mathlib.Omega.{arith}
use Rattle.commits.proofs.Shape.{Shape}
use Rattle.demand2.proofs.Accounts.{Agree, agree_settles}
use Rattle.demand2.proofs.After.{After}
use Rattle.demand2.proofs.Counts.{all_stored, settling-stored, stored_here, stored_other}
use Rattle.demand2.proofs.Lengths.{fits-of, slots-of}
use Rattle.fares.specs.Fares.{fares}
use Rattle.history.specs.Fares.{Lawful}
use Rattle.history.specs.Ledger.{Account, Commit, Open, Point, given, one_unsettled, open_at, put_ins, shut}
use Rattle.machine.specs.State.{count_open, one, sound, task_at}
use Rattle.machine.specs.Table.{length_fits, slots, view}
use Rattle.steps.specs.Trail.{TaskOk}
use Rattle.terms.specs.Task.{idle_task, work_settles}
use Rattle.terms.specs.declared.State.{State}
use Rattle.terms.specs.declared.Task.{Task}
use Rattle.trees.proofs.Held.{Carries}
use Rattle.trees.specs.Tree.{Tree}
use Rattle.views.proofs.Law.{same_or}

pub record Stands (p : Point) : Type 0 where
  pub n : ℕ
  pub size : length p.table ≡ n * 6
  pub least : 8 ≤ n
  pub most : n ≤ 4096
  pub tree : Tree
  pub carries : Carries (view n p.table) tree
  pub shape : Shape tree
  pub held : fares tree ≡ given p.account.commits
  pub lawful : Lawful p.account.commits
  pub eight : length p.state.tasks ≡ 8
  pub eight-open : length p.account.tasks ≡ 8
  pub ok : (x : ℕ) → TaskOk (view n p.table) tree (task_at p.state x)
  pub agree : (x : ℕ) → Agree (open_at p.account x) (task_at p.state x).work
  pub m-is : p.state.m ≡ put_ins p.account.commits
  pub u-is : p.state.u ≡ p.account.lost
  pub limit : p.state.m ≤ 1000000
  pub few : count_open p.state ≤ p.state.m

-- m and u are in range
pub sound-is : {p : Point} → Stands p → sound p.state ≡ true
unfolding sound
sound-is {p} s = rw (le-leb p.state.m 1000000 s.limit, le-leb (count_open p.state) p.state.m s.few) refl

pub fits-is : {p : Point} → Stands p → length_fits (length p.table) ≡ true
fits-is {p} s = fits-of (length p.table) s.n s.size s.least s.most

pub slots-is : {p : Point} (s : Stands p) → slots p.table ≡ s.n
slots-is {p} s = slots-of (length p.table) s.n s.size

-- task i, and with it perhaps the table, m and u: everything else stays
module _ {p : Point} (s : Stands p) (i : ℕ) (lt : i < 8) (table : List ℕ) (long : length table ≡ length p.table) (k : Task) (then : Open) (new : List Commit) (dm du : ℕ)
    (a : After (view s.n p.table) (view s.n table) s.tree k p.account.commits new) (agrees : Agree then k.work)
    (balance : one_unsettled then + du ≤ one_unsettled (open_at p.account i) + dm) (puts : put_ins new ≡ put_ins p.account.commits + dm)
    (limit : (dm ≡ 0) ⊎ ((dm ≡ 1) × (p.state.m < 1000000))) where
  abbrev state' : State
  state' = record { tasks = set p.state.tasks i k; m = p.state.m + dm; u = p.state.u + du }

  abbrev account' : Account
  account' = record { tasks = set p.account.tasks i then; commits = new; lost = p.account.lost + du }

  settles_old : one (work_settles (task_at p.state i).work) ≡ one_unsettled (open_at p.account i)
  settles_old = agree_settles (open_at p.account i) (task_at p.state i).work (s.agree i)

  open_few : count_open state' ≤ p.state.m + dm
  unfolding count_open
  open_few =
      omega (
        arith,
        s.few,
        settling-stored p.state.tasks i k 8 (omega (arith, s.eight)) lt,
        settles_old,
        agree_settles then k.work agrees,
        balance,
      )

  pub restands : Stands (record { table = table; state = state'; account = account' })
  restands = record {
    n = s.n;
    size = long ∙ s.size;
    least = s.least;
    most = s.most;
    tree = a.tree;
    carries = a.carries;
    shape = a.shape;
    held = a.held;
    lawful = a.lawful;
    eight = length-set p.state.tasks i k ∙ s.eight;
    eight-open = length-set p.account.tasks i then ∙ s.eight-open;
    ok = all_stored (λ x. TaskOk (view s.n table) a.tree) p.state.tasks i k idle_task (omega (arith, s.eight)) a.own-ok (λ x d. a.others (task_at p.state x) (s.ok x));
    agree = λ x. elim (same_or x i) [
      | inl e ↦ subst (λ y. Agree (get_or (set p.account.tasks i then) y shut) (get_or (set p.state.tasks i k) y idle_task).work) (sym e)
          (rw (stored_here p.account.tasks i then shut (omega (arith, s.eight-open)), stored_here p.state.tasks i k idle_task (omega (arith, s.eight))) agrees)
      | inr d ↦ rw (stored_other p.account.tasks i x then shut d, stored_other p.state.tasks i x k idle_task d) (s.agree x)
    ];
    m-is = omega (arith, s.m-is, puts);
    u-is = omega (arith, s.u-is);
    limit = elim limit [ inl e ↦ omega (arith, s.limit) | inr e ↦ omega (arith, e.0, e.1) ];
    few = open_few;
  }

-- nothing of the table changes: what every task remembers stays
pub unchanged : {p : Point} (s : Stands p) (k : Task) → TaskOk (view s.n p.table) s.tree k
    → After (view s.n p.table) (view s.n p.table) s.tree k p.account.commits p.account.commits
unchanged {p} s k ok =
    record { tree = s.tree; carries = s.carries; shape = s.shape; held = s.held; lawful = s.lawful; others = λ x o. o; own-ok = ok }
