-- What holds over each call holds over any list of calls.
use Prim.Native.Nat.{ℕ}
use mathlib.Core.Bool.{Bool, false, true}
use mathlib.Core.List.{List, [], ◌++◌, ◌∷◌}
use mathlib.Core.Logic.{◌⊎◌, inl, inr}
use mathlib.Core.Path.{◌∙◌, ◌≡◌, ap, refl, subst, sym}
use native.Mathlib.Omega.{arith}
use Rattle.demand2.proofs.Demand2.{keeps}
use Rattle.demand2.proofs.Stands.{Stands}
use Rattle.grounds.specs.Record.{AsNoted}
use Rattle.grounds.specs.Ways.{Goes, Way, link_on}
use Rattle.history.specs.History.{Ask}
use Rattle.history.specs.Ledger.{Point, advance, goes}
use Rattle.history.specs.Machine.{real}
use Rattle.machine.specs.Record.{links_of}
use Rattle.machine.specs.Table.{View}
use Rattle.structure.proofs.Changes.{one-call_at}
use Rattle.structure.specs.Built.{Built, view_of}
use Rattle.structure.specs.Changes.{Grows, NoneFrees, SameLabels}
use Rattle.terms.specs.declared.Rec.{Rec}
use Rattle.views.proofs.Law.{same_or}

pub grows_same : (v : View) → Grows v v
grows_same v = record {
  used = λ x n. n;
  frozen = λ x e. refl;
  one-or_two = λ x e. inl e;
  labels = λ x n. record { number = refl; price = refl; rank = refl };
  fresh-links = λ x side e. inl refl;
}

-- what is free now was free before
pub free-before : {u v : View} → Grows u v → (x : ℕ) → (v x).state ≡ 0 → (u x).state ≡ 0
free-before {u} g x z = elim (same_or (u x).state 0) [ inl e ↦ e | inr n ↦ absurd (g.used x n z) ]

module _ {u v w : View} (g : Grows u v) (h : Grows v w) where
  one_then : (x : ℕ) → (u x).state ≡ 1 → ((w x).state ≡ 1) ⊎ ((w x).state ≡ 2)
  one_then x e = elim (g.one-or_two x e) [ inl one ↦ h.one-or_two x one | inr two ↦ inr (ap (λ r. r.state) (h.frozen x two) ∙ two) ]

  frozen_then : (x : ℕ) → (u x).state ≡ 2 → w x ≡ u x
  frozen_then x e = let q = g.frozen x e in h.frozen x (ap (λ r. r.state) q ∙ e) ∙ q

  links-then : (x : ℕ) (side : Bool) → (u x).state ≡ 1 → (link_on side (w x) ≡ link_on side (u x)) ⊎ ((u (link_on side (w x))).state ≡ 0)
  links-then x side e =
      elim (g.one-or_two x e) [
        | inl one ↦ (elim (h.fresh-links x side one) [
          | inl q ↦ first q
          | inr z ↦ inr (free-before g (link_on side (w x)) z)
        ])
        | inr two ↦ first (ap (link_on side) (h.frozen x two))
      ]
    where
      first : link_on side (w x) ≡ link_on side (v x) → (link_on side (w x) ≡ link_on side (u x)) ⊎ ((u (link_on side (w x))).state ≡ 0)
      first q = elim (g.fresh-links x side e) [ inl a ↦ inl (q ∙ a) | inr z ↦ inr (subst (λ y. (u y).state ≡ 0) (sym q) z) ]

  labels_then : (x : ℕ) → ((u x).state ≡ 0 → ⊥) → SameLabels (u x) (w x)
  labels_then x n =
      let a = g.labels x n in
      let b = h.labels x (g.used x n) in
      record { number = b.number ∙ a.number; price = b.price ∙ a.price; rank = b.rank ∙ a.rank }

  pub grows_then : Grows u w
  grows_then = record { used = λ x n. h.used x (g.used x n); frozen = frozen_then; one-or_two = one_then; labels = labels_then; fresh-links = links-then }

pub grows-over : {p : Point} (s : Stands p) (cs : List Ask) → NoneFrees p cs → Grows (view_of p) (view_of (goes real p cs))
unfolding goes
grows-over {p} s [] f = grows_same (view_of p)
grows-over {p} s (c ∷ cs) f = grows_then (one-call_at s c f.0).grows (grows-over {p = advance real p c} (keeps s c) cs f.1)

-- ---- a record that is found as it was noted was never changed between

six : {s s' n n' p p' k k' l l' r r' : ℕ} → s ≡ s' → n ≡ n' → p ≡ p' → k ≡ k' → l ≡ l' → r ≡ r'
    → ◌≡◌ {A = Rec} (record { state = s; number = n; price = p; rank = k; left = l; right = r }) (record { state = s'; number = n'; price = p'; rank = k'; left = l'; right = r' })
six a b c d e f = rw (a, b, c, d, e, f) refl

same-rec : (r r' : Rec) → r.state ≡ r'.state → SameLabels r' r → r.left ≡ r'.left → r.right ≡ r'.right → r ≡ r'
same-rec r r' e l a b = six e l.number l.price l.rank a b

-- the links of record x in u lead to slots in use; the record is in state 1 in u, and in w with both links as in u: so it is the same in v, between
module _ {u v w : View} (g : Grows u v) (h : Grows v w) (x : ℕ) (one : (u x).state ≡ 1) (in_use : (side : Bool) → (u (link_on side (u x))).state ≡ 0 → ⊥)
    (still : AsNoted (w x) (links_of (u x))) where
  still_one : (v x).state ≡ 1
  still_one = elim (g.one-or_two x one) [ inl e ↦ e | inr two ↦ absurd (omega (arith, two, ap (λ r. r.state) (h.frozen x two), still.state-1)) ]

  back-link : (side : Bool) → link_on side (w x) ≡ link_on side (u x) → link_on side (v x) ≡ link_on side (u x)
  back-link side e =
      elim (h.fresh-links x side still_one) [
        | inl q ↦ sym q ∙ e
        | inr z ↦ absurd (g.used (link_on side (u x)) (in_use side) (subst (λ y. (v y).state ≡ 0) e z))
      ]

  pub never-changed : v x ≡ u x
  never-changed =
      same-rec (v x) (u x) (still_one ∙ sym one) (g.labels x (λ z. omega (arith, z, one))) (back-link true still.left_as_noted) (back-link false still.right_as_noted)

-- the links of a record of the tree lead to records of the tree, or to none: 0 is the entry's slot
way_on : (v : View) (a : ℕ) (w : Way) (b : ℕ) (side : Bool) → Goes v a w b → (link_on side (v b) ≡ 0 → ⊥) → Goes v a (w ++ (side ∷ [])) (link_on side (v b))
way_on v a [] b side g n = (rw g n, ap (λ y. link_on side (v y)) g)
way_on v a (d ∷ w) b side g n = (g.0, way_on v (link_on d (v a)) w b side g.1 n)

pub links-in_use : {n : ℕ} {v : View} → Built n v → (x : ℕ) → (v x).state ≡ 1 → (side : Bool) → (v (link_on side (v x))).state ≡ 1
links-in_use {v = v} b x one side =
    elim (same_or (link_on side (v x)) 0) [
      | inl e ↦ subst (λ y. (v y).state ≡ 1) (sym e) ((b.in_tree 0).1 ([], refl))
      | inr n ↦ (let g = (b.in_tree x).0 one in (b.in_tree (link_on side (v x))).1 (g.0 ++ (side ∷ []), way_on v 0 g.0 x side g.1 n))
    ]
