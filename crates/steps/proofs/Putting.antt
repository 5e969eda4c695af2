-- The steps of a put-in: two readings, then the commit.
use Prim.Native.Nat.{◌<◌, ◌≤◌, ℕ}
use borrow.Author.Tests.{eq-eqb, leb-false, ltb-false, ltb-true, ne_eqb, not-false}
use lib.Dec.{eqb}
use mathlib.Core.Bool.{Bool, ◌&&◌, false, not, true}
use mathlib.Core.Logic.{inl, inr}
use mathlib.Core.Path.{◌≡◌, refl}
use native.Mathlib.Omega.{arith}
use Rattle.commits.proofs.Grounds.{InnerRank, above, below}
use Rattle.commits.proofs.Shape.{Shape}
use Rattle.commits.proofs.Sight.{PutChanged, put-seen}
use Rattle.machine.proofs.Choice.{if_elim}
use Rattle.machine.specs.Choice.{if_b}
use Rattle.machine.specs.Commit.{Did, commit_if}
use Rattle.machine.specs.PutIn.{inner_rank, leaf_of, put_commit, put_grounds, put_limit, put_room, put_step, put_test, put_turn, put_writes, read_put_leaf, read_put_parent}
use Rattle.machine.specs.Record.{is_leaf, leads, linked, links_of, still, top_number, well_formed}
use Rattle.machine.specs.Table.{View, slot1, slot2, slot3}
use Rattle.routes.proofs.Kept.{good-now}
use Rattle.routes.specs.Route.{Has, full, lv, route}
use Rattle.steps.proofs.Facts.{Plain, both, differ, formed-plain, leads-to, leaf_links, linked-formed, still-facts}
use Rattle.steps.proofs.Rooms.{three-free}
use Rattle.steps.proofs.Walking.{read-quiet}
use Rattle.steps.specs.Does.{Does, hurts, moves-on, put-commits, rests, stops}
use Rattle.steps.specs.Trail.{Fine, Trail}
use Rattle.terms.specs.Task.{busy, goal_of}
use Rattle.terms.specs.declared.Answer.TheVariants.{Limit, NoRoom}
use Rattle.terms.specs.declared.Job.{Job}
use Rattle.terms.specs.declared.Links.{Links}
use Rattle.terms.specs.declared.Operation.TheVariants.{PutIn}
use Rattle.terms.specs.declared.Path.{Path}
use Rattle.terms.specs.declared.Phase.{Phase}
use Rattle.terms.specs.declared.Phase.TheVariants.{PuttingIn, Start}
use Rattle.terms.specs.declared.PutStage.{PutStage}
use Rattle.terms.specs.declared.PutStage.TheVariants.{PutCommit, PutLeaf, PutParent}
use Rattle.terms.specs.declared.Rec.{Rec}
use Rattle.terms.specs.declared.Turn.TheVariants.{Hurt}
use Rattle.trees.proofs.Held.{Carries}
use Rattle.trees.specs.Marks.{LeafMarks}
use Rattle.trees.specs.Tree.{Tree, leaf_rec}
use Rattle.views.specs.Update.{link, upds}

-- a commit: 17 before its test, a test that fails, or the change
pub commit-does : (v : View) (t : Tree) (m : ℕ) (j : Job) (f : Phase) (grounds test : Bool) (change : Did) → (grounds ≡ true → test ≡ true → Does v t m j f change)
    → Does v t m j f (commit_if (busy j f) grounds test change)
unfolding commit_if
commit-does v t m j f grounds test change h =
    if_elim (Does v t m j f) _ (λ e. rests Hurt hurts)
    (λ e. if_elim (Does v t m j f) _ (λ d. rests _ (moves-on (Start (goal_of f)) refl tt tt)) (λ d. h (not-false grounds e) (not-false test d)))

-- a remembered record that is in state 1 is on the route
pub on-route : (v : View) (t : Tree) (k s : ℕ) → (s ≡ 0 → ⊥) → (v s).state ≡ 1 → Fine v t k s → Has s (route k t)
on-route v t k s nz one g = elim (good-now v k (full k t) s one g) [ inl e ↦ absurd (nz e) | inr h ↦ h ]

-- "A fare's leaf has rank 0 and its price, a sentinel's rank 255."
new_leaf : (k p : ℕ) → k < 1000000 → leaf_of k p ≡ leaf_rec k p 0
unfolding leaf_of if_b
new_leaf k p h = rw (ne_eqb k top_number (λ e. omega arith))

old_leaf : (k p rk : ℕ) → LeafMarks k p rk → leaf_of k p ≡ leaf_rec k p rk
unfolding leaf_of if_b
old_leaf k p rk (inl h) = rw (eq-eqb k top_number h.0, h.1, h.2)
old_leaf k p rk (inr h) = rw (ne_eqb k top_number (λ e. omega arith), h.2)

inner-rank : (h : Rec) → LeafMarks h.number h.price h.rank → InnerRank h.rank (inner_rank h)
unfolding inner_rank if_b
inner-rank h (inl m) = inl (m.2, rw (eq-eqb h.rank 255 m.2))
inner-rank h (inr m) = inr (m.2, rw (ne_eqb h.rank 255 (λ e. omega (arith, m.2))))

-- "both have rank 1", and level
put-level : (q rh RK : ℕ) → InnerRank rh RK → (eqb q 1 && eqb RK 1) ≡ lv q RK
unfolding lv
put-level q rh RK (inl h) = rw h.1 (neither (eqb q 1) (eqb q 255))
  where
    neither : (a b : Bool) → (a && eqb 255 1) ≡ (b && not (eqb 255 255))
    neither true true = refl
    neither true false = refl
    neither false true = refl
    neither false false = refl
put-level q rh RK (inr h) = rw h.1 refl

-- a leaf of the view, by its links
pub leaf_marks : (n : ℕ) (r : Rec) → Plain n r → r.left ≡ 0 → LeafMarks r.number r.price r.rank
leaf_marks n r (inl h) z = h.2
leaf_marks n r (inr h) z = absurd (h.0 z)

module _ (v : View) (t : Tree) (i : Carries v t) (f : Shape t) (n m : ℕ) (j : Job) (lt : j.number < 1000000) (lp : j.price < 100000) (q : Path) (tr : Trail v t j.number q) where
  abbrev k : ℕ
  k = j.number

  abbrev par : Rec
  par = v q.parent

  abbrev leaf_rec_lem : Rec
  leaf_rec_lem = v q.here

  -- the commit's grounds and test, as facts
  module _ (a b : Links) (marks : LeafMarks leaf_rec_lem.number leaf_rec_lem.price leaf_rec_lem.rank) (other : leaf_rec_lem.number ≡ k → ⊥) (par-one : par.state ≡ 1)
      (to-leaf : link (eqb a.left q.here) par ≡ q.here) (nz : q.here ≡ 0 → ⊥) (end : leaf_rec_lem.left ≡ 0) (leaf-one : leaf_rec_lem.state ≡ 1) where
    abbrev side : Bool
    side = eqb a.left q.here

    seen : slot3 v n < n → PutChanged v k j.price t (upds v (put_writes j q side leaf_rec_lem (slot1 v n) (slot2 v n) (slot3 v n))) (lv par.rank (inner_rank leaf_rec_lem))
    unfolding put_writes
    seen room =
        let s = three-free v n room in
        let on = on-route v t k q.here nz leaf-one tr.here-fine in
        let new = new_leaf k j.price lt in
        let old = old_leaf leaf_rec_lem.number leaf_rec_lem.price leaf_rec_lem.rank marks in
        if_elim (λ ws. PutChanged v k j.price t (upds v ws) (lv par.rank (inner_rank leaf_rec_lem))) _
        (λ e. rw (new, old)
        (put-seen v t i f k j.price q.parent q.here (slot1 v n) (slot2 v n) (slot3 v n) (inner_rank leaf_rec_lem) k j.price 0 leaf_rec_lem.number leaf_rec_lem.price leaf_rec_lem.rank side lt lp on
        (inner-rank leaf_rec_lem marks) (below (ltb-true _ _ e)) s.first s.second s.third s.low s.high par-one to-leaf nz end))
        (λ e. rw (new, old)
        (put-seen v t i f k j.price q.parent q.here (slot1 v n) (slot2 v n) (slot3 v n) (inner_rank leaf_rec_lem) leaf_rec_lem.number leaf_rec_lem.price leaf_rec_lem.rank k j.price 0 side lt lp on
        (inner-rank leaf_rec_lem marks) (above (strict (ltb-false _ _ e) other)) s.first s.second s.third s.low s.high par-one to-leaf nz end))
      where
        strict : leaf_rec_lem.number ≤ k → (leaf_rec_lem.number ≡ k → ⊥) → leaf_rec_lem.number < k
        strict h d = omega arith

    changed : Does v t m j (PuttingIn q (PutCommit a b)) (put_limit v n m j q side par leaf_rec_lem)
    unfolding put_limit put_room put_turn
    changed =
        if_elim (Does v t m j (PuttingIn q (PutCommit a b))) _ (λ e. rests _ (stops PutIn Limit refl (inr (inr refl))))
        (λ e. if_elim (Does v t m j (PuttingIn q (PutCommit a b))) _ (λ d. rests _ (stops PutIn NoRoom refl (inr (inl refl))))
        (λ d. rw (put-level par.rank leaf_rec_lem.rank (inner_rank leaf_rec_lem) (inner-rank leaf_rec_lem marks)) (put-commits _ _ (leb-false 1000000 m e) refl (seen (leb-false n _ d)))))

  commit : (a b : Links) → Does v t m j (PuttingIn q (PutCommit a b)) (put_commit v n m j q a b)
  unfolding put_commit put_grounds put_test
  commit a b =
      commit-does v t m j (PuttingIn q (PutCommit a b)) _ _ _ (λ g e.
      let g₁ = both (well_formed n q.parent par) _ g in
      let g₂ = both (linked n q.here leaf_rec_lem) _ g₁.1 in
      let g₃ = both (not (eqb q.parent q.here)) _ g₂.1 in
      let g₄ = both (leads a q.here) _ g₃.1 in
      let g₅ = both (is_leaf leaf_rec_lem) _ g₄.1 in
      let e₁ = both (still par a) (still leaf_rec_lem b) e in
      let l = linked-formed n q.here leaf_rec_lem g₂.0 in
      let to = leads-to par a q.here e₁.0 g₄.0 in
      let end = (leaf_links leaf_rec_lem g₅.0).0 in
      changed a b (leaf_marks n leaf_rec_lem (formed-plain n q.here leaf_rec_lem l.1 l.0) end) (differ _ _ g₅.1) (still-facts par a e₁.0).0
      to.1 l.0 end (still-facts leaf_rec_lem b e₁.1).0)

  pub put-does : (s : PutStage) → Does v t m j (PuttingIn q s) (put_step v n m j q s)
  unfolding put_step read_put_parent read_put_leaf
  put-does PutParent = rests _ (read-quiet v t j (PuttingIn q PutParent) (PuttingIn q (PutLeaf (links_of par))) _ _ par refl refl tr tt)
  put-does (PutLeaf a) = rests _ (read-quiet v t j (PuttingIn q (PutLeaf a)) (PuttingIn q (PutCommit a (links_of leaf_rec_lem))) _ _ leaf_rec_lem refl refl tr tt)
  put-does (PutCommit a b) = commit a b
