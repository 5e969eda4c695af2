-- What the calls over the whole table find where a history stands.
use Prim.Native.Nat.{ℕ}
use lib.ListN.{get_or-eq_default}
use mathlib.Core.List.{List}
use mathlib.Core.Logic.{inl, inr}
use mathlib.Core.Path.{◌∙◌, ◌≡◌, ap}
use native.Mathlib.Omega.{arith}
use Rattle.demand2.proofs.Counts.{idle_work, none-busy_at}
use Rattle.demand2.proofs.Stands.{Stands, slots-is}
use Rattle.fares.proofs.Whole.{Seen, seen, view-bounded}
use Rattle.fares.specs.Read.{read}
use Rattle.history.specs.Ledger.{Account, Point}
use Rattle.machine.specs.Calls.{sweep}
use Rattle.machine.specs.Reach.{reach, reached}
use Rattle.machine.specs.State.{busy_tasks, task_at}
use Rattle.machine.specs.Table.{puts, slots, view}
use Rattle.terms.specs.Task.{idle_task}
use Rattle.terms.specs.declared.State.{State}
use Rattle.terms.specs.declared.Task.{Task}
use Rattle.terms.specs.declared.Work.TheVariants.{Idle}
use Rattle.views.proofs.Law.{in_or_out}

module _ {p : Point} (s : Stands p) where
  abbrev t : List ℕ
  t = p.table

  abbrev st : State
  st = p.state

  abbrev a : Account
  a = p.account

  pub all_idle : busy_tasks st.tasks 8 ≡ 0 → (x : ℕ) → (task_at st x).work ≡ Idle
  all_idle e x =
      elim (in_or_out x 8) [
        | inl h ↦ idle_work (task_at st x).work (none-busy_at st.tasks 8 x e h)
        | inr h ↦ ap (λ (k : Task). k.work) (get_or-eq_default st.tasks idle_task {n = x} (omega (arith, s.eight)))
      ]

  pub the_seen : Seen s.n (view s.n t) s.tree
  the_seen = seen s.n (view s.n t) s.tree s.carries s.shape.marks (view-bounded s.n t)

  -- the entry reaches the tree
  pub reach-is : reach (slots t) (view (slots t) t) ≡ reached (read s.tree) the_seen.marks
  reach-is = ap (λ n. reach n (view n t)) (slots-is s) ∙ the_seen.is

  abbrev pub tidied : List ℕ
  tidied = puts t (sweep the_seen.marks s.n 0)
