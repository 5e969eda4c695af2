-- While a task is busy no slot is freed: so a record that is found as it was has never changed.
use Prim.Native.Nat.{ℕ}
use mathlib.Core.Bool.{Bool, true}
use mathlib.Core.List.{List, [], ◌∷◌}
use mathlib.Core.Path.{◌∙◌, ◌≡◌, ap, subst, sym}
use native.Mathlib.Omega.{arith}
use Rattle.demand2.proofs.Seen.{all_idle}
use Rattle.demand2.proofs.Carried.{goes-both}
use Rattle.demand2.proofs.Counts.{all_alike}
use Rattle.demand2.proofs.Demand2.{keeps, keeps-all}
use Rattle.demand2.proofs.Passes.{Looks, Passes, abandons, begins, looks, passing, refused, resets, steps, tidies}
use Rattle.demand2.proofs.Stands.{Stands}
use Rattle.grounds.specs.Record.{AsNoted}
use Rattle.grounds.specs.Ways.{link_on}
use Rattle.history.specs.History.{Ask, abandon, begin, figures, list, reset, step, tidy}
use Rattle.history.specs.Ledger.{Account, Point, advance, goes}
use Rattle.history.specs.Machine.{real}
use Rattle.terms.specs.Answers.{number_of}
use Rattle.machine.specs.Record.{links_of}
use Rattle.machine.specs.State.{task_at}
use Rattle.machine.specs.Step.{Left}
use Rattle.machine.specs.Table.{View}
use Rattle.structure.proofs.Built.{built_at}
use Rattle.structure.proofs.Changes.{one-call_at}
use Rattle.structure.proofs.Grows.{grows-over, grows_same, grows_then, links-in_use, never-changed}
use Rattle.structure.proofs.Since.{SinceRead, always-head}
use Rattle.structure.specs.Built.{view_of}
use Rattle.structure.specs.Changes.{FreedBy, Frees, Grows, NoneFrees}
use Rattle.structure.specs.Readings.{Always, BusyAt, Note, Unchanged}
use Rattle.terms.specs.Task.{idle_task, is_busy}
use Rattle.terms.specs.declared.Answer.TheVariants.{Accepted}
use Rattle.terms.specs.declared.Task.{Task}
use Rattle.terms.specs.declared.Work.{Work}
use Rattle.terms.specs.declared.Work.TheVariants.{Idle}
use Rattle.trees.specs.Tree.{Tree}

-- ---- while a task is busy no slot is freed

freed_answer : (c : Ask) (l : Left) → FreedBy c l → l.answer ≡ Accepted
freed_answer reset l e = e
freed_answer (begin i o j) l e = absurd e
freed_answer (step i) l e = absurd e
freed_answer (abandon i) l e = absurd e
freed_answer tidy l e = e
freed_answer figures l e = absurd e
freed_answer (list room) l e = absurd e

looks_free : (c : Ask) (l : Left) → Looks c → FreedBy c l → ⊥
looks_free reset l h e = h
looks_free (begin i o j) l h e = h
looks_free (step i) l h e = h
looks_free (abandon i) l h e = h
looks_free tidy l h e = h
looks_free figures l h e = e
looks_free (list room) l h e = e

idle_not_busy : (w : Work) → w ≡ Idle → is_busy w ≡ true → ⊥
idle_not_busy w e b = let q : is_busy Idle ≡ true = rw e at b in let z : ◌≡◌ {A = ℕ} 0 1 = cc in omega arith

module _ {p : Point} (s : Stands p) (i : ℕ) where
  busy-keeps : {c : Ask} {l : Left} {a : Account} {t' : Tree} → Passes s c l a t' → BusyAt i p → is_busy (task_at l.state i).work ≡ true → FreedBy c l → ⊥
  busy-keeps (refused {c = c} y h) b b' f = omega (arith, h, ap number_of (freed_answer c _ f))
  busy-keeps (looks {c = c} y h) b b' f = looks_free c _ h f
  busy-keeps resets b b' f = idle_not_busy _ (ap (λ (y : Task). y.work) (all_alike 8 i idle_task)) b'
  busy-keeps (begins i' o j lt idle g) b b' f = f
  busy-keeps (steps i' j g d lt at e h does k) b b' f = f
  busy-keeps (abandons i' du y lt k e h) b b' f = f
  busy-keeps (tidies e) b b' f = idle_not_busy _ (all_idle s e i) b

  none-frees : (c : Ask) → BusyAt i p → BusyAt i (advance real p c) → Frees p c → ⊥
  unfolding advance
  none-frees c b b' f = busy-keeps (passing s c).passes b b' f

pub busy-none_frees : {p : Point} (s : Stands p) (i : ℕ) (cs : List Ask) → Always (BusyAt i) p cs → NoneFrees p cs
busy-none_frees s i [] h = tt
busy-none_frees {p} s i (c ∷ cs) h =
    (none-frees s i c h.0 (always-head (BusyAt i) _ cs h.1), busy-none_frees {p = advance real p c} (keeps s c) i cs h.1)

-- ---- the record at every moment between

module _ (u : View) (x : ℕ) (one : (u x).state ≡ 1) (in_use : (side : Bool) → (u (link_on side (u x))).state ≡ 0 → ⊥) where
  pub always-same : {q : Point} (s : Stands q) (cs : List Ask) → Grows u (view_of q) → NoneFrees q cs → AsNoted (view_of (goes real q cs) x) (links_of (u x)) → Always (λ y. view_of y x ≡ u x) q cs
  unfolding goes
  always-same s [] g f still = never-changed g (grows_same _) x one in_use still
  always-same {q} s (c ∷ cs) g f still = (
    never-changed g (grows_then (one-call_at s c f.0).grows (grows-over (keeps s c) cs f.1)) x one in_use still,
    always-same {q = advance real q c} (keeps s c) cs (grows_then g (one-call_at s c f.0).grows) f.1 still,
  )

-- while some task is busy: a record of the tree that is found in state 1 with both links as they were has been the same all the time
pub same-while_busy : {p : Point} (s : Stands p) (i x : ℕ) (cs : List Ask) → Always (BusyAt i) p cs → (view_of p x).state ≡ 1 → AsNoted (view_of (goes real p cs) x) (links_of (view_of p x))
    → Always (λ q. view_of q x ≡ view_of p x) p cs
same-while_busy {p} s i x cs b one still =
    always-same (view_of p) x one (λ side z. omega (arith, z, links-in_use (built_at s) x one side)) s cs (grows_same (view_of p)) (busy-none_frees s i cs b) still

-- so a note whose record is as noted tells that the record was never changed since its reading
pub since_read : {start : Point} (s₀ : Stands start) (calls : List Ask) (i : ℕ) (r : Note) → SinceRead start calls i r → AsNoted (view_of (goes real start calls) r.slot) r.links
    → Unchanged start calls i r
since_read {start} s₀ calls i r h still =
    let p = goes real start h.before in
    let at : goes real start calls ≡ goes real p (step i ∷ h.after) = ap (goes real start) h.split ∙ goes-both start h.before (step i ∷ h.after) in
    let now = subst (λ y. AsNoted (view_of y r.slot) r.links) at still in
    record {
      before = h.before;
      after = h.after;
      split = h.split;
      reads = h.reads;
      as_noted = h.as_noted;
      never-changed =
          same-while_busy (keeps-all s₀ h.before) i r.slot (step i ∷ h.after) h.busy-since h.as_noted.state-1
          (record { state-1 = now.state-1; left_as_noted = now.left_as_noted ∙ sym h.as_noted.left_as_noted; right_as_noted = now.right_as_noted ∙ sym h.as_noted.right_as_noted });
    }
