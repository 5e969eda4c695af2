-- A step writes only where its test holds, which tells that every record noted is as noted; and it changes no other record in use.
use Prim.Native.Nat.{ℕ}
use mathlib.Core.Bool.{true}
use mathlib.Core.List.{List, [], ◌∷◌}
use mathlib.Core.Logic.{◌⊎◌, inl, inr}
use mathlib.Core.Path.{◌∙◌, ◌≡◌, ap, refl, subst, sym}
use native.Mathlib.Omega.{arith}
use Rattle.demand2.proofs.Passes.{Passes, abandons, begins, looks, passing, refused, resets, steps, tidies, view_at}
use Rattle.demand2.proofs.Stands.{Stands}
use Rattle.grounds.specs.Record.{AsNoted}
use Rattle.history.specs.History.{Ask, step}
use Rattle.history.specs.Ledger.{Account, Point, advance}
use Rattle.history.specs.Machine.{real}
use Rattle.machine.specs.Commit.{Did}
use Rattle.machine.specs.State.{task_at}
use Rattle.machine.specs.Step.{Left}
use Rattle.machine.specs.Table.{View, Write, fill, lead, off, puts, view}
use Rattle.structure.proofs.Changes.{next-view, this_view}
use Rattle.structure.proofs.Sees.{Covered, Sees, SlotOf, sees, step-sees}
use Rattle.structure.proofs.Tests.{work-noted}
use Rattle.structure.specs.Built.{view_of}
use Rattle.structure.specs.Readings.{AllAsNoted, Note, OneOf, TestHolds, notes_at, phase_notes, work_notes, work_tested}
use Rattle.terms.specs.declared.Job.{Job}
use Rattle.terms.specs.declared.Phase.{Phase}
use Rattle.terms.specs.declared.Work.TheVariants.{Busy}
use Rattle.trees.specs.Tree.{Tree}
use Rattle.views.proofs.Law.{same_or, upd-miss, view-law}
use Rattle.views.specs.Update.{Within, upd, upds}

-- ---- where a step writes its test holds

all_noted : (v : View) (r : Note) (rs : List Note) → AllAsNoted v rs → OneOf r rs → AsNoted (v r.slot) r.links
all_noted v r (x ∷ rs) h (inl e) = subst (λ y. AsNoted (v y.slot) y.links) (sym e) h.0
all_noted v r (x ∷ rs) h (inr o) = all_noted v r rs h.1 o
all_noted v r [] h e = elim e [ ]

module _ {p : Point} (s : Stands p) (i : ℕ) where
  by_sees : (i' : ℕ) (j : Job) (f : Phase) (d : Did) → i' ≡ i → (task_at p.state i').work ≡ Busy j f → Sees (view_at s) j f d → (puts p.table d.writes ≡ p.table → ⊥)
      → work_tested (view_at s) (task_at p.state i).work ≡ true
  unfolding puts
  by_sees i' j f d e at (sees n c (inl z)) w = absurd (w (ap (puts p.table) z))
  by_sees i' j f d e at (sees n c (inr t)) w =
      subst (λ y. work_tested (view_at s) (task_at p.state y).work ≡ true) e (subst (λ y. work_tested (view_at s) y ≡ true) (sym at) t)

  call_tested : {c : Ask} {l : Left} {a : Account} {t' : Tree} → Passes s c l a t' → c ≡ step i → (l.table ≡ p.table → ⊥) → work_tested (view_at s) (task_at p.state i).work ≡ true
  call_tested (refused y h) e w = absurd (w refl)
  call_tested (looks y h) e w = absurd (w refl)
  call_tested resets e w = absurd (let z : ◌≡◌ {A = ℕ} 0 1 = cc in omega arith)
  call_tested (begins i' o j lt idle f) e w = absurd (w refl)
  call_tested (steps i' j f d lt at q h does b) e w =
      let same : i' ≡ i = cc in
      by_sees i' j f d same at (subst (Sees (view_at s) j f) (sym q) (step-sees (view_at s) s.n p.state.m j f)) w
  call_tested (abandons i' du y lt b q h) e w = absurd (w refl)
  call_tested (tidies q) e w = absurd (let z : ◌≡◌ {A = ℕ} 0 1 = cc in omega arith)

  -- a step that writes: its test holds
  pub step-tested : ((advance real p (step i)).table ≡ p.table → ⊥) → TestHolds p i
  unfolding advance
  step-tested w = subst (λ v. work_tested v (task_at p.state i).work ≡ true) (sym (this_view s)) (call_tested (passing s (step i)).passes refl w)

-- where the test holds each record is as noted
pub test_noted : (p : Point) (i : ℕ) → TestHolds p i → (r : Note) → OneOf r (notes_at p i) → AsNoted (view_of p r.slot) r.links
test_noted p i t r o = all_noted (view_of p) r (notes_at p i) (work-noted (view_of p) (task_at p.state i).work t) o

-- ---- and it changes only records that it has read

covered_or_same : (u v : View) (rs : List Note) (x : ℕ) → ((v x).state ≡ 0 → ⊥) → (ws : List Write) → Covered v rs ws → SlotOf x rs ⊎ (upds u ws x ≡ u x)
covered_or_same u v rs x used [] c = inr refl
covered_or_same u v rs x used (fill y r ∷ ws) c =
    elim (same_or x y) [
      | inl e ↦ absurd (used (ap (λ z. (v z).state) e ∙ c.0))
      | inr d ↦ (elim (covered_or_same (upd u (fill y r)) v rs x used ws c.1) [ inl h ↦ inl h | inr q ↦ inr (q ∙ upd-miss u (fill y r) x d) ])
    ]
covered_or_same u v rs x used (lead y b a ∷ ws) c =
    elim (same_or x y) [
      | inl e ↦ inl (subst (λ z. SlotOf z rs) (sym e) c.0)
      | inr d ↦ (elim (covered_or_same (upd u (lead y b a)) v rs x used ws c.1) [ inl h ↦ inl h | inr q ↦ inr (q ∙ upd-miss u (lead y b a) x d) ])
    ]
covered_or_same u v rs x used (off y ∷ ws) c =
    elim (same_or x y) [
      | inl e ↦ inl (subst (λ z. SlotOf z rs) (sym e) c.0)
      | inr d ↦ (elim (covered_or_same (upd u (off y)) v rs x used ws c.1) [ inl h ↦ inl h | inr q ↦ inr (q ∙ upd-miss u (off y) x d) ])
    ]

slot_note : (x : ℕ) (rs : List Note) → SlotOf x rs → (r : Note) × OneOf r rs × (r.slot ≡ x)
slot_note x (r ∷ rs) (inl e) = (r, inl refl, sym e)
slot_note x (r ∷ rs) (inr o) = let h = slot_note x rs o in (h.0, inr h.1, h.2)
slot_note x [] h = elim h [ ]

module _ {p : Point} (s : Stands p) (i x : ℕ) where
  abbrev Read : Type 0
  Read = (r : Note) × OneOf r (notes_at p i) × (r.slot ≡ x)

  by_covered : (i' : ℕ) (j : Job) (f : Phase) (d : Did) → i' ≡ i → (task_at p.state i').work ≡ Busy j f → Within s.n d.writes → Sees (view_at s) j f d → ((view_at s x).state ≡ 0 → ⊥)
      → (view s.n (puts p.table d.writes) x ≡ view_at s x → ⊥) → Read
  by_covered i' j f d e at h (sees n c w) used differs =
      elim (covered_or_same (view_at s) (view_at s) (phase_notes f) x used d.writes c) [
        | inl o ↦ slot_note x (notes_at p i) (subst (λ y. SlotOf x (notes_at p y)) e (subst (λ y. SlotOf x (work_notes y)) (sym at) o))
        | inr q ↦ absurd (differs (ap (λ v. v x) (view-law s.n p.table d.writes s.size h) ∙ q))
      ]

  call_covered : {c : Ask} {l : Left} {a : Account} {t' : Tree} → Passes s c l a t' → c ≡ step i → ((view_at s x).state ≡ 0 → ⊥) → (view s.n l.table x ≡ view_at s x → ⊥) → Read
  call_covered (refused y h) e used differs = absurd (differs refl)
  call_covered (looks y h) e used differs = absurd (differs refl)
  call_covered resets e used differs = absurd (let z : ◌≡◌ {A = ℕ} 0 1 = cc in omega arith)
  call_covered (begins i' o j lt idle f) e used differs = absurd (differs refl)
  call_covered (steps i' j f d lt at q h does b) e used differs =
      let same : i' ≡ i = cc in
      by_covered i' j f d same at h (subst (Sees (view_at s) j f) (sym q) (step-sees (view_at s) s.n p.state.m j f)) used differs
  call_covered (abandons i' du y lt b q h) e used differs = absurd (differs refl)
  call_covered (tidies q) e used differs = absurd (let z : ◌≡◌ {A = ℕ} 0 1 = cc in omega arith)

  pub step-covered : ((view_of p x).state ≡ 0 → ⊥) → (view_of (advance real p (step i)) x ≡ view_of p x → ⊥) → (r : Note) × OneOf r (notes_at p i) × (r.slot ≡ x)
  step-covered used differs =
      call_covered (passing s (step i)).passes refl (subst (λ (v : View). (v x).state ≡ 0 → ⊥) (this_view s) used)
      (λ q. differs (ap (λ v. v x) (next-view s (step i)) ∙ q ∙ ap (λ v. v x) (sym (this_view s))))
