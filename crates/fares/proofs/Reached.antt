-- The tree that a table carries is the one that the entry reaches, and its slots are just the marked ones.
use Prim.Native.Nat.{◌+◌, ◌<◌, ◌≤◌, suc, zero, ℕ}
use borrow.Author.Tests.{ne_eqb}
use lib.ListN.{get_or, length, length-set, set}
use lib.Seq.{get_or-set_other, get_or-set_same}
use mathlib.Core.Bool.{false, true}
use mathlib.Core.List.{List}
use mathlib.Core.Logic.{inl, inr}
use mathlib.Core.Path.{◌∙◌, ◌≡◌, ap, refl, subst, sym}
use native.Mathlib.Omega.{arith}
use Rattle.fares.proofs.Formed.{leaf_linked, node_linked}
use Rattle.fares.specs.Read.{read}
use Rattle.machine.proofs.Reach.{reach-inner, reach-leaf}
use Rattle.machine.specs.PutIn.{inner_of}
use Rattle.machine.specs.Reach.{leaf as reached-leaf}
use Rattle.machine.specs.Reach.{reach_from, reachable, reached}
use Rattle.machine.specs.Record.{in_tree, is_leaf, linked}
use Rattle.machine.specs.Table.{View}
use Rattle.trees.proofs.Held.{root-occ}
use Rattle.trees.proofs.Plug.{ind-cases, ind-eq, ind-same, pos-cases}
use Rattle.trees.specs.Marks.{Marked}
use Rattle.trees.specs.Rank.{height}
use Rattle.trees.specs.Tree.{Holds, Tree, ind, leaf, leaf_rec, node, occ, root}

-- the marks after a tree was reached: its slots, and no others
pub record Marks (n : ℕ) (t : Tree) (marks marks' : List ℕ) : Type 0 where
  pub long : length marks' ≡ n
  pub on : (x : ℕ) → 1 ≤ occ x t → get_or marks' x 0 ≡ 1
  pub off : (x : ℕ) → occ x t ≡ 0 → get_or marks' x 0 ≡ get_or marks x 0

pub record Reaches (g n : ℕ) (v : View) (t : Tree) (marks : List ℕ) : Type 0 where
  pub after : List ℕ
  pub is : reach_from g n v marks (root t) ≡ reached (read t) after
  pub says : Marks n t marks after

-- a mark set
mark_one : (marks : List ℕ) (s : ℕ) → s < length marks → get_or (set marks s 1) s 0 ≡ 1
mark_one marks s h = get_or-set_same marks s 1 0 h

mark_other : (marks : List ℕ) (s x : ℕ) → (x ≡ s → ⊥) → get_or (set marks s 1) x 0 ≡ get_or marks x 0
mark_other marks s x d = get_or-set_other marks s x 1 0 d

leaf_is : (k pr rk : ℕ) → is_leaf (leaf_rec k pr rk) ≡ true
unfolding is_leaf
leaf_is k pr rk = refl

node_is : (k rk l r : ℕ) → (l ≡ 0 → ⊥) → is_leaf (inner_of k rk l r) ≡ false
unfolding is_leaf
node_is k rk l r nz = rw (ne_eqb l 0 nz) refl

reachable-by : (n : ℕ) (v : View) (marks : List ℕ) (s : ℕ) → linked n s (v s) ≡ true → (v s).state ≡ 1 → get_or marks s 0 ≡ 0 → reachable n v marks s ≡ true
unfolding reachable in_tree
reachable-by n v marks s e one z = rw (e, one, z) refl

-- the slots of a tree differ, so its top is in none of its parts, and its parts are apart
module _ (n : ℕ) (v : View) where
  pub reaches : (g : ℕ) (t : Tree) (marks : List ℕ) → Holds v t → Marked t → ((x : ℕ) → 1 ≤ occ x t → (x ≡ 0 → ⊥) × (x < n)) → ((x : ℕ) → occ x t ≤ 1) → height t < g → length marks ≡ n
      → ((x : ℕ) → 1 ≤ occ x t → get_or marks x 0 ≡ 0) → Reaches g n v t marks
  reaches zero t marks h m in_table once low long free = absurd (omega arith)
  reaches (suc g) (leaf s k pr rk) marks h m in_table once low long free =
      let at-s = in_table s (omega (arith, ind-same s)) in
      let ok = reachable-by n v marks s (rw h (leaf_linked n s k pr rk at-s.0 m)) (ap (λ r. r.state) h) (free s (omega (arith, ind-same s))) in
      record {
        after = set marks s 1;
        is = reach-leaf n v marks s ok (rw h (leaf_is k pr rk)) g ∙ ap (λ r. reached (reached-leaf s r) (set marks s 1)) h;
        says = record {
          long = length-set marks s 1 ∙ long;
          on = λ x o. elim (ind-cases x s) [
            | inl q ↦ rw q.0 (mark_one marks s (omega arith))
            | inr q ↦ absurd (omega (arith, q.1))
          ];
          off = λ x z. elim (ind-cases x s) [ inl q ↦ absurd (omega (arith, q.1)) | inr q ↦ mark_other marks s x q.0 ];
        };
      }
  reaches (suc g) (node s k rk l r) marks h m in_table once low long free =
      join-both (reaches g l (set marks s 1) h.1 m.1 (λ x o. in_table x (omega arith)) (λ x. omega (arith, once x)) (omega arith) (length-set marks s 1 ∙ long)
      (λ x o. mark_other marks s x (apart-s x (omega arith)) ∙ free x (omega arith)))
      (λ a. reaches g r a.after h.2 m.2 (λ x o. in_table x (omega arith)) (λ x. omega (arith, once x)) (omega arith) a.says.long
      (λ x o. a.says.off x (omega (arith, once x)) ∙ mark_other marks s x (apart-s x (omega arith)) ∙ free x (omega arith)))
    where
      apart-s : (x : ℕ) → 1 ≤ occ x l + occ x r → x ≡ s → ⊥
      apart-s x o e = omega (arith, once x, ind-eq x s e)

      root-l : (root l ≡ 0 → ⊥) × (root l < n)
      root-l = in_table (root l) (omega (arith, root-occ l))

      root-r : (root r ≡ 0 → ⊥) × (root r < n)
      root-r = in_table (root r) (omega (arith, root-occ r))

      differ : root l ≡ root r → ⊥
      differ e = let z : 1 ≤ occ (root l) r = subst (λ y. 1 ≤ occ y r) (sym e) (root-occ r) in omega (arith, once (root l), root-occ l)

      at-s : (s ≡ 0 → ⊥) × (s < n)
      at-s = in_table s (omega (arith, ind-same s))

      ok : reachable n v marks s ≡ true
      ok = reachable-by n v marks s (rw h.0 (node_linked n s k rk (root l) (root r) at-s.0 m.0 root-l.0 root-l.1 root-r.0 root-r.1 differ))
          (ap (λ q. q.state) h.0) (free s (omega (arith, ind-same s)))

      join-both : (a : Reaches g n v l (set marks s 1)) → ((b : Reaches g n v l (set marks s 1)) → Reaches g n v r b.after) → Reaches (suc g) n v (node s k rk l r) marks
      join-both a f = put_right (f a)
        where
          put_right : Reaches g n v r a.after → Reaches (suc g) n v (node s k rk l r) marks
          put_right b = record {
            after = b.after;
            is = reach-inner n v marks s ok (rw h.0 (node_is k rk (root l) (root r) root-l.0)) g ∙ rw (h.0, a.is, b.is) refl;
            says = record {
              long = b.says.long;
              on = λ x o. marked x a.says b.says o;
              off = λ x z. b.says.off x (omega arith) ∙ a.says.off x (omega arith) ∙ mark_other marks s x (λ e. omega (arith, ind-eq x s e));
            };
          }
            where
              marked : (x : ℕ) → Marks n l (set marks s 1) a.after → Marks n r a.after b.after → 1 ≤ ind x s + occ x l + occ x r → get_or b.after x 0 ≡ 1
              marked x p q o =
                  elim (pos-cases (occ x r)) [
                    | inl d ↦ q.on x d
                    | inr z ↦ q.off x z ∙ (elim (pos-cases (occ x l)) [
                      | inl d ↦ p.on x d
                      | inr y ↦ p.off x y ∙ (elim (ind-cases x s) [
                        | inl e ↦ rw e.0 (mark_one marks s (omega (arith, at-s.1)))
                        | inr e ↦ absurd (omega (arith, e.1))
                      ])
                    ])
                  ]
