-- A WALK IN THE TREE AS IT IS goes down one link a step and never finds damage.
use Prim.Native.Nat.{◌+◌, ◌<◌, ◌≤◌, max, suc, ℕ}
use borrow.Author.Tests.{eqb-true, lt-ltb, ltb-true, ne_eqb, not-true}
use lib.Dec.{eqb, ltb}
use mathlib.Core.Bool.{Bool, false, true}
use mathlib.Core.Logic.{inl, inr}
use mathlib.Core.Path.{◌∙◌, ◌≡◌, ap, refl, subst, sym}
use native.Mathlib.Omega.{arith}
use Rattle.commits.proofs.Forms.{root-join}
use Rattle.commits.proofs.Shape.{Shape}
use Rattle.fares.proofs.Whole.{Bounded}
use Rattle.machine.proofs.Choice.{if_elim, if_false, if_true}
use Rattle.machine.specs.Choice.{if_b}
use Rattle.machine.specs.PutIn.{inner_of}
use Rattle.machine.specs.Record.{is_leaf, level, linked, sentinel, top_number, well_formed}
use Rattle.machine.specs.Table.{View}
use Rattle.machine.specs.Walk.{arrival, at_leaf, outranks, serve_arrival, settle_arrival, sought, walk_from, walk_on, walk_to}
use Rattle.progress.proofs.Sees.{At, Onward, Sees, Three, after_walk, held, leaf_is, place-pos, three-at, two_at, up_facts}
use Rattle.steps.proofs.Facts.{level-ranks}
use Rattle.terms.specs.Task.{busy, no_grand}
use Rattle.terms.specs.declared.Goal.{Goal}
use Rattle.terms.specs.declared.Goal.TheVariants.{Serve, Settle}
use Rattle.terms.specs.declared.Job.{Job}
use Rattle.terms.specs.declared.Operation.{Operation}
use Rattle.terms.specs.declared.Operation.TheVariants.{LookUp, PutIn, TakeOut}
use Rattle.terms.specs.declared.Path.{Path}
use Rattle.terms.specs.declared.Phase.{Phase}
use Rattle.terms.specs.declared.Phase.TheVariants.{PuttingIn, Settling, Start, TakingOut, Walk}
use Rattle.terms.specs.declared.PutStage.TheVariants.{PutParent}
use Rattle.terms.specs.declared.SettleStage.TheVariants.{SettleGrand}
use Rattle.terms.specs.declared.TakeStage.TheVariants.{TakeGrand}
use Rattle.terms.specs.declared.Turn.TheVariants.{Next}
use Rattle.trees.proofs.Held.{Carries}
use Rattle.trees.specs.Marks.{Marked}
use Rattle.trees.specs.Rank.{height, rank}
use Rattle.trees.specs.Tree.{Ctx, Holds, Tree, hole, join, leaf, node, parent, plug, pside, root, top}
use Rattle.undamaged.proofs.Records.{below-facts, tree_formed}
use Rattle.undamaged.proofs.Walks.{true_false}

-- ---- the top is a sentinel

top_number_lem : (v : View) (t : Tree) → Holds v t → Marked t → rank t ≡ 255 → ((v (root t)).number ≡ top_number) × (sentinel (v (root t)) ≡ true)
unfolding sentinel
top_number_lem v (leaf s k pr rk) h m e = elim m [ inl q ↦ (ap (λ r. r.number) h ∙ q.0, rw (h, q.0, q.1, q.2) refl) | inr q ↦ absurd (omega (arith, q.2)) ]
top_number_lem v (node s k rk l r) h m e = elim m.0 [ inl q ↦ (ap (λ r. r.number) h.0 ∙ q.0, rw (h.0, q.0, q.1) refl) | inr q ↦ absurd (omega (arith, q.2)) ]

module _ (n : ℕ) (v : View) (t : Tree) (i : Carries v t) (sh : Shape t) (b : Bounded n v) (top_is : rank t ≡ 255) (j : Job) (lt : j.number < 1000000) where
  abbrev k : ℕ
  k = j.number

  formed : (a : ℕ) → (v a).state ≡ 1 → well_formed n a (v a) ≡ true
  formed a one = tree_formed n v t i sh b a one

  linked-at : (a : ℕ) → (v a).state ≡ 1 → (a ≡ 0 → ⊥) → linked n a (v a) ≡ true
  unfolding linked
  linked-at a one nz = rw (ne_eqb a 0 nz) (formed a one)

  here-pos : (q : Path) (u : Tree) → At t q u → q.here ≡ 0 → ⊥
  here-pos q u a e = place-pos v a.c u (subst (Carries v) a.whole i) (sym a.here ∙ e)

  -- right under the entry stands the top
  at_top : (q : Path) (u : Tree) → At t q u → q.parent ≡ 0 → ((v q.here).number ≡ top_number) × (sentinel (v q.here) ≡ true)
  at_top q u a e = go a.c a.whole a.up
    where
      go : (c : Ctx) → t ≡ plug c u → q.parent ≡ parent c → ((v q.here).number ≡ top_number) × (sentinel (v q.here) ≡ true)
      go top w up =
          let m = top_number_lem v t i.holds sh.marks top_is in
          rw (a.here, ← w) m
      go (hole d s key rk x c) w up =
          absurd (place-pos v c (join d s key rk u x) (subst (Carries v) w i) (root-join d s key rk u x ∙ sym up ∙ e))

  not_top : (q : Path) (u : Tree) → At t q u → eqb (v q.here).number k ≡ true → q.parent ≡ 0 → ⊥
  not_top q u a e z = omega (arith, (at_top q u a z).0, eqb-true (v q.here).number k e)

  -- nothing outranks its parent
  falls : (q : Path) (u : Tree) → At t q u → (v q.here).rank ≤ (v q.parent).rank
  falls q u a =
      let h = held v t i a.c u a.whole in
      let f = up_facts v a.c (root u) h.0 in
      let w = below-facts n v t i sh b (parent a.c) (root u) (pside a.c) f.0 f.1 (place-pos v a.c u (subst (Carries v) a.whole i)) in
      rw (a.here, a.up) w.lower

  -- ---- the record arrived at

  module _ (f : Phase) (q : Path) (u : Tree) (a : At t q u) (D : ℕ) where
    further : (g : Goal) → suc (height u + after_walk g) ≤ D → is_leaf (v q.here) ≡ false → Onward v t j f D (Next (busy j (Walk g q)))
    further g le e =
        let h = held v t i a.c u a.whole in
        (Walk g q, height u + after_walk g, refl, refl, (u, a, leaf_is v u h.1 (subst (λ y. is_leaf (v y) ≡ false) a.here e), refl), le)

    leaf_turn : (o : Operation) → suc (height u + after_walk (Serve o)) ≤ D → Onward v t j f D (at_leaf o j q (v q.here))
    unfolding at_leaf
    leaf_turn LookUp le = if_elim (Onward v t j f D) _ (λ e. tt) (λ e. tt)
    leaf_turn PutIn le = if_elim (Onward v t j f D) _ (λ e. tt) (λ e. (PuttingIn q PutParent, 3, refl, refl, (two_at v t i q u a, tt, refl), omega arith))
    leaf_turn TakeOut le =
        if_elim (Onward v t j f D) _ (λ e. (TakingOut q TakeGrand, 5, refl, refl, (three-at v t i q u a (not_top q u a e), tt, refl), omega arith)) (λ e. tt)

    level-three : level (v q.parent) (v q.here) ≡ true → Three v q
    level-three e = three-at v t i q u a (λ z. true_false (sentinel (v q.here)) (at_top q u a z).1 (level-ranks (v q.parent) (v q.here) e).0)

    arrives : (g : Goal) → suc (height u + after_walk g) ≤ D → Onward v t j f D (arrival g j q (v q.parent) (v q.here))
    unfolding arrival serve_arrival settle_arrival outranks
    arrives (Serve o) le = if_elim (Onward v t j f D) _ (λ e. leaf_turn o le) (λ e. further (Serve o) le e)
    arrives Settle le =
        if_elim (Onward v t j f D) _ (λ e. absurd (let h = ltb-true (v q.parent).rank (v q.here).rank e in omega (arith, falls q u a)))
        (λ e. if_elim (Onward v t j f D) _ (λ l. (Settling q SettleGrand, 5, refl, refl, (level-three l, tt, refl), omega arith))
        (λ l. if_elim (Onward v t j f D) _ (λ h. tt) (λ h. further Settle le h)))

  -- ---- one link

  leaves_slot : (f : Phase) (g : Goal) (grand s : ℕ) → (v s).state ≡ 1 → (u : Tree) → At t (record { grand = grand; parent = s; here = sought k (v s) }) u → (D : ℕ) → suc (height u + after_walk g) ≤ D
      → Onward v t j f D (walk_from v n g j grand s)
  unfolding walk_from walk_to
  leaves_slot f g grand s one u a D le =
      let h = two_at v t i _ u a in
      if_elim (Onward v t j f D) _ (λ e. true_false (well_formed n s (v s)) (formed s one) (not-true _ e))
      (λ e. if_elim (Onward v t j f D) _ (λ y. true_false (linked n _ _) (linked-at _ h.1 (here-pos _ u a)) (not-true _ y)) (λ y. arrives f _ u a D g le))

  -- the entry leads to the top
  entry_at : At t (record { grand = no_grand; parent = 0; here = sought k (v 0) }) t
  unfolding sought
  entry_at = record {
    c = top;
    whole = refl;
    here = rw (i.entry, lt-ltb k top_number (omega arith)) (if_true (root t) 0);
    up = refl;
    grand = refl;
  }

  pub start-on : (g : Goal) → Onward v t j (Start g) (suc (height t) + after_walk g) (walk_from v n g j no_grand 0)
  start-on g = leaves_slot (Start g) g no_grand 0 (ap (λ r. r.state) i.entry) t entry_at (suc (height t) + after_walk g) (omega arith)

  -- an inner record leads to the child on the sought side
  child-at : (q : Path) (s key rk : ℕ) (l r : Tree) → At t q (node s key rk l r)
      → (x : Tree) × At t (record { grand = q.parent; parent = q.here; here = sought k (v q.here) }) x × (suc (height x) ≤ suc (max (height l) (height r)))
  unfolding sought
  child-at q s key rk l r a =
      let h = (held v t i a.c (node s key rk l r) a.whole).1.0 in
      let y : v q.here ≡ inner_of key rk (root l) (root r) = ap v a.here ∙ h in
      go (ltb k key) refl y
    where
      go : (d : Bool) → ltb k key ≡ d → v q.here ≡ inner_of key rk (root l) (root r)
          → (x : Tree) × At t (record { grand = q.parent; parent = q.here; here = if_b (ltb k (v q.here).number) (v q.here).left (v q.here).right }) x
          × (suc (height x) ≤ suc (max (height l) (height r)))
      go true e y = (l, record { c = hole true s key rk r a.c; whole = a.whole; here = rw (y, e) (if_true (root l) (root r)); up = a.here; grand = a.up }, omega arith)
      go false e y = (r, record { c = hole false s key rk l a.c; whole = a.whole; here = rw (y, e) (if_false (root l) (root r)); up = a.here; grand = a.up }, omega arith)

  pub walk_on_lem : (g : Goal) (q : Path) (D : ℕ) → Sees v t (Walk g q) D → Onward v t j (Walk g q) D (walk_on v n g j q)
  unfolding walk_on
  walk_on_lem g q D (leaf s key pr rk, a, h, e) = absurd (omega arith)
  walk_on_lem g q D (node s key rk l r, a, h, e) =
      let x = child-at q s key rk l r a in
      let w = two_at v t i q (node s key rk l r) a in
      if_elim (Onward v t j (Walk g q) D) _ (λ z. absurd (here-pos q _ a (eqb-true _ _ z)))
      (λ z. leaves_slot (Walk g q) g q.parent q.here w.1 x.0 x.1 D (omega (arith, x.2)))
