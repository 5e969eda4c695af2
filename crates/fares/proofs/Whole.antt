-- What figures, list and tidy see of a table that carries a tree with right labels.
use Prim.Native.Nat.{◌*◌, ◌<◌, ◌≤◌, ℕ}
use borrow.Author.Tests.{ne_eqb}
use lib.Dec.{eqb}
use lib.ListN.{get_or-eq_default, get_or, get_or-replicate, length, length-append, length-replicate, length-set, replicate, set}
use lib.Seq.{get_or-set_other, get_or-set_same}
use mathlib.Core.Bool.{Bool, ◌&&◌, false, not, true}
use mathlib.Core.List.{List, [], ◌++◌, ◌∷◌}
use mathlib.Core.Logic.{◌⊎◌, inl, inr}
use mathlib.Core.Path.{◌∙◌, ◌≡◌, ap, ap₂, refl, subst, sym}
use native.Mathlib.Omega.{arith}
use Rattle.fares.proofs.Formed.{entry-formed}
use Rattle.fares.proofs.Reached.{Reaches, reaches}
use Rattle.fares.specs.Fares.{fares, leaf_fares}
use Rattle.fares.specs.Read.{read}
use Rattle.history.specs.Ledger.{Fare, written}
use Rattle.machine.specs.Choice.{if_b}
use Rattle.machine.specs.Reach.{count_fares, fare_line, fare_list, reach, reach_from, reached}
use Rattle.machine.specs.Record.{in_tree, is_fare, is_leaf, sentinel, top_number, well_formed}
use Rattle.machine.specs.State.{one}
use Rattle.machine.specs.Table.{View, view}
use Rattle.routes.proofs.Surgery.{at_most, in_tree_lem}
use Rattle.trees.proofs.Counting.{height-below}
use Rattle.trees.proofs.Held.{Carries, root-occ, zero_out}
use Rattle.trees.proofs.Plug.{ind-cases, ind-eq, pos-cases}
use Rattle.trees.specs.Marks.{LeafMarks, Marked}
use Rattle.trees.specs.Tree.{Tree, leaf, leaf_rec, node, occ, root}
use Rattle.views.proofs.Law.{in_or_out, outside}

-- no slot beyond the table is in state 1
abbrev pub Bounded : ℕ → View → Type 0
Bounded n v = (x : ℕ) → (v x).state ≡ 1 → x < n

pub view-bounded : (n : ℕ) (t : List ℕ) → Bounded n (view n t)
view-bounded n t x is =
    elim (in_or_out x n) [
      | inl h ↦ h
      | inr h ↦ absurd (let z : (view n t x).state ≡ 0 = ap (λ r. r.state) (outside n t x h) in omega arith)
    ]

pub record Seen (n : ℕ) (v : View) (t : Tree) : Type 0 where
  pub marks : List ℕ
  pub is : reach n v ≡ reached (read t) marks
  pub marked : (x : ℕ) → (v x).state ≡ 1 → get_or marks x 0 ≡ 1
  pub unmarked : (x : ℕ) → ((v x).state ≡ 1 → ⊥) → get_or marks x 0 ≡ 0

module _ (n : ℕ) (v : View) (t : Tree) (i : Carries v t) (m : Marked t) (b : Bounded n v) where
  in_tree_slot : (x : ℕ) → 1 ≤ occ x t → (x ≡ 0 → ⊥) × (x < n)
  in_tree_slot x o = (λ e. omega (arith, zero_out v t i, subst (λ y. 1 ≤ occ y t) e o), b x (in_tree_lem v t x i o))

  pub slots-below : (x : ℕ) → 0 < occ x t → x < n
  slots-below x o = (in_tree_slot x o).1

  pub once : (x : ℕ) → occ x t ≤ 1
  once x = at_most v t x i

  entry_in : 0 < n
  entry_in = b 0 (ap (λ r. r.state) i.entry)

  zeros : List ℕ
  zeros = replicate n 0

  start : List ℕ
  unfolding zeros
  start = set zeros 0 1

  zeros-long : length zeros ≡ n
  unfolding zeros
  zeros-long = length-replicate n 0

  start-long : length start ≡ n
  unfolding start
  start-long = length-set zeros 0 1 ∙ zeros-long

  start-free : (x : ℕ) → (x ≡ 0 → ⊥) → get_or start x 0 ≡ 0
  unfolding start zeros
  start-free x d = get_or-set_other zeros 0 x 1 0 d ∙ none (in_or_out x n)
    where
      none : (x < n) ⊎ (n ≤ x) → get_or zeros x 0 ≡ 0
      none (inl h) = get_or-replicate n x 0 0 h
      none (inr h) = get_or-eq_default zeros 0 (omega (arith, zeros-long))

  start-entry : get_or start 0 0 ≡ 1
  unfolding start
  start-entry = get_or-set_same zeros 0 1 0 (omega (arith, zeros-long, entry_in))

  down : Reaches n n v t start
  down =
      reaches n v n t start i.holds m in_tree_slot once (height-below n t slots-below once) start-long
      (λ x o. start-free x (in_tree_slot x o).0)

  root-link : (root t ≡ 0 → ⊥) × (root t < n)
  root-link = in_tree_slot (root t) (root-occ t)

  formed : (well_formed n 0 (v 0) && in_tree (v 0)) ≡ true
  unfolding in_tree
  formed = rw (i.entry, entry-formed n (root t) root-link.0 root-link.1) refl

  whole : reach n v ≡ reached (read t) down.after
  unfolding reach start zeros if_b
  whole = rw formed (ap (λ r. reach_from n n v start r.left) i.entry ∙ down.is)

  -- a slot in state 1 is the entry or in the tree
  which : (x : ℕ) → (v x).state ≡ 1 → (x ≡ 0) ⊎ (1 ≤ occ x t)
  which x is = elim (ind-cases x 0) [ inl q ↦ inl q.0 | inr q ↦ inr (omega (arith, i.ones x, q.1, ind-eq (v x).state 1 is)) ]

  pub seen : Seen n v t
  seen = record {
    marks = down.after;
    is = whole;
    marked = λ x is. elim (which x is) [
      | inl e ↦ rw e (down.says.off 0 (zero_out v t i) ∙ start-entry)
      | inr o ↦ down.says.on x o
    ];
    unmarked = λ x d. down.says.off x (out x d) ∙ start-free x (λ e. d (rw e (ap (λ r. r.state) i.entry)));
  }
    where
      out : (x : ℕ) → ((v x).state ≡ 1 → ⊥) → occ x t ≡ 0
      out x d = elim (pos-cases (occ x t)) [ inl o ↦ absurd (d (in_tree_lem v t x i o)) | inr z ↦ z ]

-- ---- the fares

pub written-append : (xs ys : List Fare) → written (xs ++ ys) ≡ written xs ++ written ys
written-append [] ys = refl
written-append (x ∷ xs) ys = ap (λ r. x.number ∷ (x.price ∷ r)) (written-append xs ys)

pub written-long : (xs : List Fare) → length (written xs) ≡ 2 * length xs
written-long [] = refl
written-long (x ∷ xs) = omega (arith, written-long xs)

-- a leaf is a fare where it is no sentinel
pub fare-test : (k pr rk : ℕ) → LeafMarks k pr rk → is_fare (leaf_rec k pr rk) ≡ not (eqb rk 255)
unfolding is_fare is_leaf sentinel
fare-test k pr rk (inl m) = rw (m.0, m.1, m.2) refl
fare-test k pr rk (inr m) = rw (ne_eqb k top_number (λ e. omega (arith, m.0)), m.2) refl

leaf_line : (k pr rk : ℕ) → LeafMarks k pr rk → fare_line (is_fare (leaf_rec k pr rk)) (leaf_rec k pr rk) ≡ written (leaf_fares k pr rk)
unfolding leaf_fares if_b
leaf_line k pr rk m = rw (fare-test k pr rk m) (go (eqb rk 255))
  where
    go : (b : Bool) → fare_line (not b) (leaf_rec k pr rk) ≡ written (if_b b [] (record { number = k; price = pr } ∷ []))
    go true = refl
    go false = refl

leaf_count : (k pr rk : ℕ) → LeafMarks k pr rk → one (is_fare (leaf_rec k pr rk)) ≡ length (leaf_fares k pr rk)
unfolding leaf_fares if_b
leaf_count k pr rk m = rw (fare-test k pr rk m) (go (eqb rk 255))
  where
    go : (b : Bool) → one (not b) ≡ length {A = Fare} (if_b b [] (record { number = k; price = pr } ∷ []))
    go true = refl
    go false = refl

pub fare-list : (t : Tree) → Marked t → fare_list (read t) ≡ written (fares t)
fare-list (leaf s k pr rk) m = leaf_line k pr rk m
fare-list (node s k rk l r) m = ap₂ (λ x y. x ++ y) (fare-list l m.1) (fare-list r m.2) ∙ sym (written-append (fares l) (fares r))

pub fare-count : (t : Tree) → Marked t → count_fares (read t) ≡ length (fares t)
fare-count (leaf s k pr rk) m = leaf_count k pr rk m
fare-count (node s k rk l r) m = omega (arith, fare-count l m.1, fare-count r m.2, length-append (fares l) (fares r))
