-- Every note was read at some step of its task, and the task is busy since.
use Prim.Native.Nat.{ℕ}
use mathlib.Core.List.{List, [], ◌++◌, ◌∷◌}
use mathlib.Core.Logic.{inl, inr}
use mathlib.Core.Path.{◌∙◌, ◌≡◌, ap, refl, subst, sym}
use Rattle.demand2.proofs.Carried.{goes-both}
use Rattle.demand2.proofs.Demand2.{keeps-all}
use Rattle.demand2.proofs.Stands.{Stands}
use Rattle.grounds.specs.Record.{AsNoted}
use Rattle.history.specs.History.{Ask, step}
use Rattle.history.specs.Ledger.{Point, advance, goes}
use Rattle.history.specs.Machine.{real}
use Rattle.machine.specs.State.{task_at}
use Rattle.structure.proofs.Notes.{NotesCall, gone, next-notes, noted-busy, one-of_both, read, stay}
use Rattle.structure.specs.Built.{view_of}
use Rattle.structure.specs.Readings.{Always, BusyAt, Note, OneOf, notes_at}

-- ---- lists of calls

append_nil : (xs : List Ask) → xs ++ [] ≡ xs
append_nil [] = refl
append_nil (x ∷ xs) = ap (λ r. x ∷ r) (append_nil xs)

append_assoc : (xs ys zs : List Ask) → (xs ++ ys) ++ zs ≡ xs ++ (ys ++ zs)
append_assoc [] ys zs = refl
append_assoc (x ∷ xs) ys zs = ap (λ r. x ∷ r) (append_assoc xs ys zs)

goes-snoc : (p : Point) (cs : List Ask) (c : Ask) → goes real p (cs ++ (c ∷ [])) ≡ advance real (goes real p cs) c
unfolding goes
goes-snoc p cs c = goes-both p cs (c ∷ [])

always-snoc : (P : Point → Type 0) (p : Point) (cs : List Ask) (c : Ask) → Always P p cs → P (advance real (goes real p cs) c) → Always P p (cs ++ (c ∷ []))
unfolding goes
always-snoc P p [] c h e = (h, e)
always-snoc P p (d ∷ cs) c h e = (h.0, always-snoc P (advance real p d) cs c h.1 e)

pub always-head : (P : Point → Type 0) (p : Point) (cs : List Ask) → Always P p cs → P p
always-head P p [] h = h
always-head P p (c ∷ cs) h = h.0

-- ---- a note was read at some step, and its task is busy since

pub record SinceRead (start : Point) (calls : List Ask) (i : ℕ) (r : Note) : Type 0 where
  pub before : List Ask
  pub after : List Ask
  pub split : calls ≡ before ++ (step i ∷ after)
  pub reads : notes_at (advance real (goes real start before) (step i)) i ≡ notes_at (goes real start before) i ++ (r ∷ [])
  pub as_noted : AsNoted (view_of (goes real start before) r.slot) r.links
  pub busy-since : Always (BusyAt i) (goes real start before) (step i ∷ after)

abbrev pub AllRead : Point → List Ask → Type 0
AllRead start calls = (i : ℕ) (r : Note) → OneOf r (notes_at (goes real start calls) i) → SinceRead start calls i r

module _ {start : Point} (s₀ : Stands start) (calls : List Ask) (c : Ask) where
  abbrev here : Point
  here = goes real start calls

  abbrev then : Point
  then = advance real here c

  -- one call more, and the task is still busy
  longer : (i : ℕ) (r : Note) → SinceRead start calls i r → BusyAt i then → SinceRead start (calls ++ (c ∷ [])) i r
  longer i r h b =
      let at : goes real (goes real start h.before) (step i ∷ h.after) ≡ here = sym (ap (goes real start) h.split ∙ goes-both start h.before (step i ∷ h.after)) in
      record {
        before = h.before;
        after = h.after ++ (c ∷ []);
        split = ap (λ x. x ++ (c ∷ [])) h.split ∙ append_assoc h.before (step i ∷ h.after) (c ∷ []);
        reads = h.reads;
        as_noted = h.as_noted;
        busy-since = always-snoc (BusyAt i) (goes real start h.before) (step i ∷ h.after) c h.busy-since (subst (λ y. BusyAt i (advance real y c)) (sym at) b);
      }

  pub one-call_more : AllRead start calls → AllRead start (calls ++ (c ∷ []))
  one-call_more all i r o =
      let o' : OneOf r (notes_at then i) = subst (λ y. OneOf r (notes_at y i)) (goes-snoc start calls c) o in
      go c refl (notes_at then i) refl (next-notes (keeps-all s₀ calls) i c) o' (noted-busy r (task_at then.state i).work o')
    where
      newly-read : (r' : Note) → c ≡ step i → BusyAt i here → AsNoted (view_of here r'.slot) r'.links → notes_at then i ≡ notes_at here i ++ (r' ∷ []) → BusyAt i then → r ≡ r' → SinceRead start (calls ++ (c ∷ [])) i r
      newly-read r' ec b a e b' er =
          record {
            before = calls;
            after = [];
            split = ap (λ y. calls ++ (y ∷ [])) ec;
            reads = subst (λ y. notes_at (advance real here y) i ≡ notes_at here i ++ (r ∷ [])) ec (subst (λ y. notes_at then i ≡ notes_at here i ++ (y ∷ [])) (sym er) e);
            as_noted = subst (λ y. AsNoted (view_of here y.slot) y.links) (sym er) a;
            busy-since = (b, subst (λ y. BusyAt i (advance real here y)) ec b');
          }

      go : (c' : Ask) → c ≡ c' → (new : List Note) → notes_at then i ≡ new → NotesCall (keeps-all s₀ calls) i c' new → OneOf r new → BusyAt i then → SinceRead start (calls ++ (c ∷ [])) i r
      go _ ec _ e gone o b = absurd o
      go _ ec _ e stay o b = longer i r (all i r o) b
      go _ ec _ e (read r' b' a) o b =
          elim (one-of_both r (notes_at here i) (r' ∷ []) o) [
            | inl h ↦ longer i r (all i r h) b
            | inr (inl q) ↦ newly-read r' ec b' a e b q
            | inr (inr z) ↦ absurd z
          ]

pub all_read : {start : Point} (s₀ : Stands start) (calls cs : List Ask) → AllRead start calls → AllRead start (calls ++ cs)
all_read {start} s₀ calls [] all = subst (AllRead start) (sym (append_nil calls)) all
all_read {start} s₀ calls (c ∷ cs) all = subst (AllRead start) (append_assoc calls (c ∷ []) cs) (all_read s₀ (calls ++ (c ∷ [])) cs (one-call_more s₀ calls c all))
