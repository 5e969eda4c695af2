-- What each call makes of the notes of a task: they stay, go, or get one more, of a record in state 1.
use Prim.Native.Nat.{◌<◌, ℕ}
use lib.ListN.{get_or, set}
use mathlib.Core.Bool.{true}
use mathlib.Core.List.{List, [], ◌++◌, ◌∷◌}
use mathlib.Core.Logic.{◌⊎◌, inl, inr}
use mathlib.Core.Path.{◌∙◌, ◌≡◌, ap, refl, subst, sym}
use native.Mathlib.Omega.{arith}
use Rattle.demand2.proofs.After.{task_after}
use Rattle.demand2.proofs.Counts.{all_alike, stored_here, stored_other}
use Rattle.demand2.proofs.Passes.{Passes, abandons, begins, looks, passing, refused, resets, steps, tidies, view_at}
use Rattle.demand2.proofs.Stands.{Stands}
use Rattle.grounds.specs.Record.{AsNoted}
use Rattle.history.specs.History.{Ask, reset, step}
use Rattle.history.specs.Ledger.{Account, Point, advance}
use Rattle.history.specs.Machine.{real}
use Rattle.machine.specs.State.{task_at}
use Rattle.machine.specs.Step.{Left}
use Rattle.machine.specs.Table.{View}
use Rattle.structure.proofs.Changes.{this_view}
use Rattle.structure.proofs.Sees.{NotesGo, Sees, dropped, kept, one_more, sees, step-sees}
use Rattle.structure.specs.Built.{view_of}
use Rattle.structure.specs.Readings.{BusyAt, Note, OneOf, notes_at, phase_notes, work_notes}
use Rattle.terms.specs.Task.{busy, idle_task, is_busy}
use Rattle.terms.specs.declared.Job.{Job}
use Rattle.terms.specs.declared.Phase.{Phase}
use Rattle.terms.specs.declared.Task.{Task}
use Rattle.terms.specs.declared.Turn.{Turn}
use Rattle.terms.specs.declared.Work.{Work}
use Rattle.terms.specs.declared.Work.TheVariants.{Busy, Idle}
use Rattle.trees.specs.Tree.{Tree}
use Rattle.views.proofs.Law.{same_or}
use Rattle.terms.specs.Task.{begun as taskBegun}

-- ---- what a call makes of the notes of task x

pub data NotesCall {p : Point} (s : Stands p) (x : ℕ) : Ask → List Note → Type 0 where
  gone : {c : Ask} → NotesCall s x c []
  stay : {c : Ask} → NotesCall s x c (notes_at p x)
  read : (r : Note) → BusyAt x p → AsNoted (view_of p r.slot) r.links → NotesCall s x (step x) (notes_at p x ++ (r ∷ []))

module _ {p : Point} (s : Stands p) (x : ℕ) where
  -- task i stored: notes of that task, or as before
  stored : {c : Ask} (i : ℕ) (k : Task) → i < 8 → (x ≡ i → NotesCall s x c (work_notes k.work)) → NotesCall s x c (work_notes (get_or (set p.state.tasks i k) x idle_task).work)
  stored {c} i k lt here =
      elim (same_or x i) [
        | inl e ↦ subst (λ (y : Task). NotesCall s x c (work_notes y.work)) (sym (ap (λ z. get_or (set p.state.tasks i k) z idle_task) e ∙ stored_here p.state.tasks i k idle_task (omega (arith, s.eight)))) (here e)
        | inr d ↦ subst (λ (y : Task). NotesCall s x c (work_notes y.work)) (sym (stored_other p.state.tasks i x k idle_task d)) stay
      ]

  by_step : (i : ℕ) (j : Job) (f : Phase) (a : Turn) → x ≡ i → (task_at p.state i).work ≡ Busy j f → {new : List Note} → NotesGo (view_at s) (phase_notes f) new → NotesCall s x (step i) new
  by_step i j f a e at dropped = gone
  by_step i j f a e at kept = subst (NotesCall s x (step i)) (ap (λ y. work_notes (task_at p.state y).work) e ∙ ap work_notes at) stay
  by_step i j f a e at (one_more r h) =
      subst (λ old. NotesCall s x (step i) (old ++ (r ∷ []))) (ap (λ y. work_notes (task_at p.state y).work) e ∙ ap work_notes at)
      (subst (λ y. NotesCall s x (step y) (notes_at p x ++ (r ∷ []))) e
      (read r (ap (λ y. is_busy (task_at p.state y).work) e ∙ ap is_busy at) (subst (λ (v : View). AsNoted (v r.slot) r.links) (sym (this_view s)) h)))

  call_notes : {c : Ask} {l : Left} {a : Account} {t' : Tree} → Passes s c l a t' → NotesCall s x c (work_notes (task_at l.state x).work)
  call_notes (refused y h) = stay
  call_notes (looks y h) = stay
  call_notes resets = subst (λ (y : Task). NotesCall s x reset (work_notes y.work)) (sym (all_alike 8 x idle_task)) gone
  call_notes (begins i o j lt idle f) = stored i (taskBegun o j) lt (λ e. gone)
  call_notes (steps i j f d lt at e h does b) =
      stored i (task_after d.turn (busy j f)) lt (λ q. seen-notes q (subst (Sees (view_at s) j f) (sym e) (step-sees (view_at s) s.n p.state.m j f)))
    where
      seen-notes : x ≡ i → Sees (view_at s) j f d → NotesCall s x (step i) (work_notes (task_after d.turn (busy j f)).work)
      seen-notes q (sees n c w) = by_step i j f d.turn q at n
  call_notes (abandons i du y lt b e h) = stored i idle_task lt (λ q. gone)
  call_notes (tidies e) = stay

  pub next-notes : (c : Ask) → NotesCall s x c (notes_at (advance real p c) x)
  unfolding advance
  next-notes c = call_notes (passing s c).passes

-- a task with a note is busy
pub noted-busy : (r : Note) (w : Work) → OneOf r (work_notes w) → is_busy w ≡ true
noted-busy r Idle o = absurd o
noted-busy r (Busy j f) o = refl

pub one-of_both : (r : Note) (xs ys : List Note) → OneOf r (xs ++ ys) → OneOf r xs ⊎ OneOf r ys
one-of_both r [] ys o = inr o
one-of_both r (x ∷ xs) ys (inl e) = inl (inl e)
one-of_both r (x ∷ xs) ys (inr o) = elim (one-of_both r xs ys o) [ inl h ↦ inl (inr h) | inr h ↦ inr h ]
