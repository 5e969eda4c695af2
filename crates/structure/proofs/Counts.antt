-- With n fares 2n + 2 slots are in state 1, and after a tidy no others are in use.
use Prim.Native.Nat.{◌*◌, ◌+◌, suc, zero, ℕ}
use borrow.Author.Tests.{eq-eqb, ne_eqb}
use lib.Dec.{eqb}
use lib.ListN.{length}
use mathlib.Core.Bool.{Bool, false, true}
use mathlib.Core.List.{List}
use mathlib.Core.Logic.{inl, inr}
use mathlib.Core.Path.{◌∙◌, ◌≡◌, ap, refl, subst, sym}
use native.Mathlib.Omega.{arith}
use Rattle.demand2.proofs.Seen.{reach-is, the_seen}
use Rattle.demand2.proofs.Carried.{after-long}
use Rattle.demand2.proofs.Demand2.{keeps}
use Rattle.demand2.proofs.Lengths.{slots-of}
use Rattle.demand2.proofs.Passes.{passing, view_at}
use Rattle.demand2.proofs.Stands.{Stands, fits-is, slots-is, sound-is}
use Rattle.demand2.specs.Demand2.{held_at}
use Rattle.fares.proofs.Whole.{Bounded, fare-count, slots-below, view-bounded}
use Rattle.fares.specs.Fares.{fares}
use Rattle.fares.specs.Read.{read}
use Rattle.history.specs.History.{left, tidy}
use Rattle.history.specs.Ledger.{Fare, Point, advance, entered}
use Rattle.history.specs.Machine.{real}
use Rattle.machine.specs.Calls.{figures_of, figures_reached}
use Rattle.machine.specs.Choice.{if_b}
use Rattle.machine.specs.Reach.{reached}
use Rattle.machine.specs.Table.{View, count_free, slots, view}
use Rattle.structure.proofs.Changes.{tidied-at}
use Rattle.structure.specs.Built.{view_of}
use Rattle.structure.specs.Changes.{Frees, Tidied}
use Rattle.structure.specs.Counts.{InUse, figures_at, in_tree_of, in_use_of}
use Rattle.terms.specs.declared.Answer.TheVariants.{Accepted}
use Rattle.terms.specs.declared.Report.{Report}
use Rattle.trees.proofs.Counting.{size-sum, sum_add, sum_one}
use Rattle.trees.proofs.Held.{Carries}
use Rattle.trees.proofs.Plug.{ind-cases}
use Rattle.trees.specs.Count.{size, sum_to}
use Rattle.trees.specs.Marks.{Marked}
use Rattle.trees.specs.Tree.{Tree, ind, occ}
use Rattle.views.proofs.Law.{same_or}

test_ind : (a b : ℕ) → if_b (eqb a b) 1 0 ≡ ind a b
unfolding if_b
test_ind a b = elim (ind-cases a b) [ inl q ↦ rw (eq-eqb a b q.0) refl | inr q ↦ rw (ne_eqb a b q.0) refl ]

ones_sum : (v : View) (t : Tree) → Carries v t → (k : ℕ) → in_tree_of v k ≡ sum_to k (λ x. ind x 0 + occ x t)
unfolding in_tree_of sum_to
ones_sum v t i zero = refl
ones_sum v t i (suc k) = omega (arith, ones_sum v t i k, test_ind (v k).state 1, i.ones k)

in_tree_is : (n : ℕ) (v : View) (t : Tree) → Carries v t → Marked t → Bounded n v → in_tree_of v n ≡ 1 + size t
in_tree_is n v t i m b =
    omega (
      arith,
      ones_sum v t i n,
      sum_add n (λ x. ind x 0) (λ x. occ x t),
      sum_one n 0 (b 0 (ap (λ r. r.state) i.entry)),
      size-sum n t (slots-below n v t i m b),
    )

one_of : (b : Bool) → if_b {A = ℕ} b 1 0 + if_b {A = ℕ} b 0 1 ≡ 1
unfolding if_b
one_of true = refl
one_of false = refl

free-or_used : (v : View) (k : ℕ) → count_free v k + in_use_of v k ≡ k
unfolding count_free in_use_of
free-or_used v zero = refl
free-or_used v (suc k) = omega (arith, free-or_used v k, one_of (eqb (v k).state 0))

-- after a tidy what is in use is in the tree, and that is what was in it
tidied-slot : (v w : View) → Tidied v w → (k : ℕ) → if_b {A = ℕ} (eqb (w k).state 0) 0 1 ≡ if_b {A = ℕ} (eqb (v k).state 1) 1 0
unfolding if_b
tidied-slot v w t k =
    elim (same_or (v k).state 1) [
      | inl e ↦ rw (t.stays k e, e) refl
      | inr n ↦ rw (t.freed k n, ne_eqb (v k).state 1 n) refl
    ]

tidied-use : (v w : View) → Tidied v w → (k : ℕ) → in_use_of w k ≡ in_tree_of v k
unfolding in_use_of in_tree_of
tidied-use v w t zero = refl
tidied-use v w t (suc k) = omega (arith, tidied-use v w t k, tidied-slot v w t k)

-- ---- figures where a history stands

module _ {p : Point} (s : Stands p) where
  figures-reached : figures_at p ≡ figures_reached p.table p.state (reached (read s.tree) (the_seen s).marks)
  unfolding figures_of if_b
  figures-reached = rw (fits-is s, sound-is s) (ap (figures_reached p.table p.state) (reach-is s))

  pub figures-answers : (figures_at p).answer ≡ Accepted
  unfolding figures_reached
  figures-answers = ap (λ (r : Report). r.answer) figures-reached

  pub figures-count : (figures_at p).figures.fares ≡ length (held_at p)
  unfolding figures_reached
  figures-count = ap (λ (r : Report). r.figures.fares) figures-reached ∙ fare-count s.tree s.shape.marks ∙ ap (λ (x : List Fare). length x) s.held

  pub figures-frees : (figures_at p).figures.free ≡ count_free (view_of p) (slots p.table)
  unfolding figures_reached
  figures-frees = ap (λ (r : Report). r.figures.free) figures-reached

-- ---- where a history stands, and after a tidy there

module _ {p : Point} (s : Stands p) (sized : size s.tree ≡ 2 * length (fares s.tree) + 1) where
  pub in_tree_at : in_tree_of (view_of p) (slots p.table) ≡ 2 * length (held_at p) + 2
  in_tree_at =
      let e = in_tree_is s.n (view_at s) s.tree s.carries s.shape.marks (view-bounded s.n p.table) in
      subst (λ n. in_tree_of (view n p.table) n ≡ 2 * length (held_at p) + 2) (sym (slots-is s)) (omega (arith, e, sized, ap (λ (x : List Fare). length x) s.held))

  same-held : held_at (advance real p tidy) ≡ held_at p
  unfolding advance entered
  same-held = refl

  same-long : slots (advance real p tidy).table ≡ slots p.table
  unfolding advance
  same-long = slots-of (length (left real p.table p.state tidy).table) s.n (after-long s (passing s tidy).passes) ∙ sym (slots-is s)

  pub in_use_at : Frees p tidy → InUse p (advance real p tidy)
  in_use_at ok =
      let q = keeps s tidy in
      let count : in_use_of (view_of (advance real p tidy)) (slots (advance real p tidy).table) ≡ 2 * length (held_at (advance real p tidy)) + 2 =
      rw (same-held) (ap (in_use_of (view_of (advance real p tidy))) same-long ∙ tidied-use (view_of p) (view_of (advance real p tidy)) (tidied-at s ok) (slots p.table) ∙ in_tree_at) in
      record {
        same-fares = same-held;
        in_use = count;
        figures-answer = figures-answers q;
        figures-fares = figures-count q;
        figures-free = omega (arith, figures-frees q, figures-count q, count, free-or_used (view_of (advance real p tidy)) (slots (advance real p tidy).table));
      }
