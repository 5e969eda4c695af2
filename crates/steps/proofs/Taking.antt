-- The steps of a take-out: four readings, then the commit.
use Prim.Native.Nat.{◌<◌, ℕ}
use borrow.Author.Tests.{eqb-true, leb-false}
use lib.Dec.{eqb}
use mathlib.Core.Bool.{Bool, ◌||◌, false, not, true}
use mathlib.Core.List.{[], ◌∷◌}
use mathlib.Core.Logic.{inr}
use mathlib.Core.Path.{◌∙◌, ◌≡◌, ap, refl, sym}
use Rattle.commits.proofs.Acts.{takes_out}
use Rattle.commits.proofs.Sight.{Changed, take_seen}
use Rattle.machine.proofs.Choice.{if_elim}
use Rattle.machine.proofs.Tests.{both-second}
use Rattle.machine.specs.Choice.{if_b}
use Rattle.machine.specs.Record.{is_leaf, leads, linked, links_of, other, still, well_formed}
use Rattle.machine.specs.Table.{View, fill, lead, off, slot1}
use Rattle.machine.specs.TakeOut.{read_take_grand, read_take_left, read_take_parent, read_take_right, take_apart, take_commit, take_grounds, take_leaf, take_room, take_step, take_test, take_writes}
use Rattle.steps.proofs.Facts.{both, formed-plain, inner-by, leads-to, leaf_links, other-link, still-facts}
use Rattle.steps.proofs.Putting.{commit-does}
use Rattle.steps.proofs.Rooms.{one_free}
use Rattle.steps.proofs.Walking.{read-quiet}
use Rattle.steps.specs.Does.{Does, rests, stops, take-commits}
use Rattle.steps.specs.Trail.{Trail}
use Rattle.terms.specs.declared.Answer.TheVariants.{NoRoom}
use Rattle.terms.specs.declared.Job.{Job}
use Rattle.terms.specs.declared.Links.{Links}
use Rattle.terms.specs.declared.Operation.TheVariants.{TakeOut}
use Rattle.terms.specs.declared.Path.{Path}
use Rattle.terms.specs.declared.Phase.TheVariants.{TakingOut}
use Rattle.terms.specs.declared.Rec.{Rec}
use Rattle.terms.specs.declared.TakeStage.{TakeStage}
use Rattle.terms.specs.declared.TakeStage.TheVariants.{TakeCommit, TakeGrand, TakeLeft, TakeParent, TakeRight}
use Rattle.trees.proofs.Held.{Carries}
use Rattle.trees.specs.Tree.{Tree}
use Rattle.views.specs.Update.{link, upds}

-- the child that is remembered, among the two by the noted links
pub child-here : (v : View) (b : Links) (s : ℕ) → leads b s ≡ true → if_b (eqb b.left s) (v b.left) (v b.right) ≡ v s
unfolding leads if_b
child-here v b s h = go (eqb b.left s) refl (both-second (not (eqb s 0)) _ h)
  where
    go : (d : Bool) → eqb b.left s ≡ d → (d || eqb b.right s) ≡ true → if_b d (v b.left) (v b.right) ≡ v s
    go true e o = ap v (eqb-true _ _ e)
    go false e o = ap v (eqb-true _ _ o)

-- the commit, over plain slots: the leaf h on side b of p, the sibling o on the other
seen_at : (v : View) (t : Tree) → Carries v t → (k g p h o x : ℕ) (e b : Bool) → k < 1000000 → (v g).state ≡ 1 → link e (v g) ≡ p → (p ≡ 0 → ⊥) → ((v p).left ≡ 0 → ⊥)
    → link b (v p) ≡ h → o ≡ link (not b) (v p) → (v h).left ≡ 0 → (v h).number ≡ k → (v x).state ≡ 0
    → Changed v (takes_out k) t g (upds v (fill x (v o) ∷ off p ∷ off h ∷ off o ∷ lead g e x ∷ []))
seen_at v t i k g p h o x e b lt one to nz inner on beside end is free =
    rw (beside, ← is, ← on) (take_seen v t i g p x e b one to nz inner (ap (λ y. (v y).left) on ∙ end) (rw (on, is) lt) free)

module _ (v : View) (t : Tree) (i : Carries v t) (n m : ℕ) (j : Job) (lt : j.number < 1000000) (q : Path) (tr : Trail v t j.number q) where
  abbrev gr : Rec
  gr = v q.grand

  abbrev par : Rec
  par = v q.parent

  module _ (a b c d : Links) (one : gr.state ≡ 1) (to-par : link (eqb a.left q.parent) gr ≡ q.parent) (nz : q.parent ≡ 0 → ⊥) (inner : par.left ≡ 0 → ⊥)
      (to-leaf : link (eqb b.left q.here) par ≡ q.here) (beside : other b q.here ≡ link (not (eqb b.left q.here)) par)
      (end : (v q.here).left ≡ 0) (is : (v q.here).number ≡ j.number) where
    seen : slot1 v n < n → Changed v (takes_out j.number) t q.grand (upds v (take_writes q (eqb a.left q.parent) (v (other b q.here)) (other b q.here) (slot1 v n)))
    seen room =
        seen_at v t i j.number q.grand q.parent q.here (other b q.here) (slot1 v n) (eqb a.left q.parent) (eqb b.left q.here) lt one to-par nz inner
        to-leaf beside end is (one_free v n room)

    changed : Does v t m j (TakingOut q (TakeCommit a b c d)) (take_room v n q (eqb a.left q.parent) (v (other b q.here)) (other b q.here))
    unfolding take_room
    changed =
        if_elim (Does v t m j (TakingOut q (TakeCommit a b c d))) _ (λ e. rests _ (stops TakeOut NoRoom refl (inr refl)))
        (λ e. take-commits _ refl (seen (leb-false n _ e)))

  commit : (a b c d : Links) → Does v t m j (TakingOut q (TakeCommit a b c d)) (take_commit v n j q a b c d)
  unfolding take_commit take_grounds take_test take_leaf
  commit a b c d =
      commit-does v t m j (TakingOut q (TakeCommit a b c d)) _ _ _ (λ g e.
      let g₁ = both (well_formed n q.grand gr) _ g in
      let g₂ = both (well_formed n q.parent par) _ g₁.1 in
      let g₃ = both (linked n b.left (v b.left)) _ g₂.1 in
      let g₄ = both (linked n b.right (v b.right)) _ g₃.1 in
      let g₅ = both (take_apart q b) _ g₄.1 in
      let g₆ = both (leads a q.parent) _ g₅.1 in
      let g₇ = both (leads b q.here) _ g₆.1 in
      let e₁ = both (still gr a) _ e in
      let e₂ = both (still par b) _ e₁.1 in
      let to = leads-to gr a q.parent e₁.0 g₆.0 in
      let on = leads-to par b q.here e₂.0 g₇.0 in
      let ch = child-here v b q.here g₇.0 in
      let leaf_test = both (is_leaf (v q.here)) (eqb (v q.here).number j.number) (rw ch at g₇.1) in
      changed a b c d (still-facts gr a e₁.0).0 to.1 to.0
      (inner-by n par (eqb b.left q.here) (formed-plain n q.parent par g₂.0 to.0) (λ z. on.0 (sym on.1 ∙ z)))
      on.1 (other-link par b q.here e₂.0) (leaf_links (v q.here) leaf_test.0).0 (eqb-true _ _ leaf_test.1))

  pub take_does : (s : TakeStage) → Does v t m j (TakingOut q s) (take_step v n j q s)
  unfolding take_step read_take_grand read_take_parent read_take_left read_take_right
  take_does TakeGrand = rests _ (read-quiet v t j (TakingOut q TakeGrand) (TakingOut q (TakeParent (links_of gr))) _ _ gr refl refl tr tt)
  take_does (TakeParent a) = rests _ (read-quiet v t j (TakingOut q (TakeParent a)) (TakingOut q (TakeLeft a (links_of par))) _ _ par refl refl tr tt)
  take_does (TakeLeft a b) = rests _ (read-quiet v t j (TakingOut q (TakeLeft a b)) (TakingOut q (TakeRight a b (links_of (v b.left)))) _ _ (v b.left) refl refl tr tt)
  take_does (TakeRight a b c) =
      rests _ (read-quiet v t j (TakingOut q (TakeRight a b c)) (TakingOut q (TakeCommit a b c (links_of (v b.right)))) _ _ (v b.right) refl refl tr tt)
  take_does (TakeCommit a b c d) = commit a b c d
