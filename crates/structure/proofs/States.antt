-- "State 0 free (all six are zero), 1 in the tree, 2 taken off": there is no other slot.
use Prim.Native.Nat.{◌*◌, ◌≤◌, ℕ}
use lib.ListN.{length}
use mathlib.Core.List.{List}
use mathlib.Core.Logic.{inl, inr}
use mathlib.Core.Path.{◌∙◌, ◌≡◌, ap, subst, sym}
use Rattle.demand2.proofs.Fresh.{at_entry, at_leaf_lem, elsewhere, fresh-size}
use Rattle.demand2.proofs.Seen.{the_seen}
use Rattle.demand2.proofs.Carried.{after-long, carried}
use Rattle.demand2.proofs.Lengths.{slots-of}
use Rattle.demand2.proofs.Passes.{Passes, abandons, begins, looks, refused, resets, steps, tidies, view_at}
use Rattle.demand2.proofs.Stands.{Stands}
use Rattle.fares.proofs.Tidied.{swept}
use Rattle.history.specs.History.{Ask}
use Rattle.history.specs.Ledger.{Account, Point, history}
use Rattle.history.specs.Machine.{real}
use Rattle.machine.specs.Calls.{empty_table}
use Rattle.machine.specs.Step.{Left}
use Rattle.machine.specs.Table.{View, slots, view}
use Rattle.routes.proofs.Kept.{Fate, alike, relinked, taken, unused, with_same}
use Rattle.structure.proofs.Changes.{step-fate, this_view}
use Rattle.structure.specs.Built.{view_of}
use Rattle.structure.specs.Changes.{Stated}
use Rattle.terms.specs.declared.Rec.{Rec}
use Rattle.terms.specs.declared.State.{State}
use Rattle.trees.specs.Tree.{Tree}
use Rattle.views.proofs.Law.{same_or}

fate_stated : {v : View} {r r' : Rec} → Fate v r r' → Stated r → Stated r'
fate_stated (unused z f) s = inr (inl f)
fate_stated (alike e) s = subst Stated (sym e) s
fate_stated (taken o e) s = inr (inr (ap (λ r. r.state) e))
fate_stated {r = r} (relinked o b a z nz had e) s = inr (inl (ap (λ r. r.state) e ∙ (with_same b a r).0 ∙ o))

fresh-stated : (l n : ℕ) → l ≡ n * 6 → 8 ≤ n → n ≤ 4096 → (x : ℕ) → Stated (view n (empty_table l) x)
fresh-stated l n e least most x =
    elim (same_or x 0) [
      | inl a ↦ inr (inl (ap (λ y. (view n (empty_table l) y).state) a ∙ ap (λ r. r.state) (at_entry l n e least most)))
      | inr a ↦ (elim (same_or x 1) [
        | inl b ↦ inr (inl (ap (λ y. (view n (empty_table l) y).state) b ∙ ap (λ r. r.state) (at_leaf_lem l n e least most)))
        | inr b ↦ inl (elsewhere l n e least most x a b)
      ])
    ]

module _ {p : Point} (s : Stands p) (all : (x : ℕ) → Stated (view_at s x)) (x : ℕ) where
  call_stated : {c : Ask} {l : Left} {a : Account} {t' : Tree} → Passes s c l a t' → Stated (view s.n l.table x)
  call_stated (refused y h) = all x
  call_stated (looks y h) = all x
  call_stated resets = fresh-stated (length p.table) s.n s.size s.least s.most x
  call_stated (begins i o j lt idle f) = all x
  call_stated (steps i j f d lt at e h does b) = fate_stated (step-fate s does h x) (all x)
  call_stated (abandons i du y lt b e h) = all x
  call_stated (tidies e) =
      let w = swept s.n p.table s.tree (the_seen s) s.size in
      elim (same_or (view_at s x).state 1) [
        | inl one ↦ inr (inl (ap (λ r. r.state) (w.stays x one) ∙ one))
        | inr n ↦ inl (w.freed x n)
      ]

abbrev AllStated : Point → Tree → Type 0
AllStated p t = (x : ℕ) → Stated (view_of p x)

pub all_stated : (t : List ℕ) (st : State) (cs : List Ask) (n : ℕ) → length t ≡ 6 * n → 8 ≤ n → n ≤ 4096 → (s : Stands (history real t st cs)) → (x : ℕ) → Stated (view_of (history real t st cs) x)
all_stated = carried AllStated at-reset kept_by
  where
    at-reset : (l n : ℕ) → l ≡ n * 6 → 8 ≤ n → n ≤ 4096 → (x : ℕ) → Stated (view (slots (empty_table l)) (empty_table l) x)
    at-reset l n e least most x =
        subst (λ k. Stated (view k (empty_table l) x)) (sym (slots-of (length (empty_table l)) n (fresh-size l n e least most))) (fresh-stated l n e least most x)

    kept_by : (p : Point) (s : Stands p) (c : Ask) (l : Left) (a : Account) (t' : Tree) → Passes s c l a t' → ((x : ℕ) → Stated (view_of p x)) → (x : ℕ) → Stated (view (slots l.table) l.table x)
    kept_by p s c l a t' h all x =
        subst (λ k. Stated (view k l.table x)) (sym (slots-of (length l.table) s.n (after-long s h)))
        (call_stated s (λ y. subst (λ (v : View). Stated (v y)) (this_view s) (all y)) x h)
