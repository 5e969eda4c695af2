-- A view carries one tree.
use Prim.Native.Nat.{◌≤◌, ℕ}
use mathlib.Core.Path.{◌∙◌, ◌≡◌, ap, refl, sym}
use native.Mathlib.Omega.{arith}
use Rattle.machine.specs.PutIn.{inner_of}
use Rattle.machine.specs.Table.{View}
use Rattle.trees.proofs.Held.{Carries, root-occ, zero_out}
use Rattle.trees.specs.Tree.{Holds, Tree, leaf, leaf_rec, node, occ, root}

pub same-node : {s s' k k' rk rk' : ℕ} {l l' r r' : Tree} → s ≡ s' → k ≡ k' → rk ≡ rk' → l ≡ l' → r ≡ r' → node s k rk l r ≡ node s' k' rk' l' r'
same-node a b c d e = rw (a, b, c, d, e) refl

same-top : (v : View) (t u : Tree) → Holds v t → Holds v u → occ 0 t ≡ 0 → occ 0 u ≡ 0 → root t ≡ root u → t ≡ u
same-top v (leaf s k pr rk) (leaf s' k' pr' rk') h g a b e =
    let q : leaf_rec k pr rk ≡ leaf_rec k' pr' rk' = sym h ∙ ap v e ∙ g in
    rw (e, ap (λ r. r.number) q, ap (λ r. r.price) q, ap (λ r. r.rank) q) refl
same-top v (leaf s k pr rk) (node s' k' rk' l r) h g a b e =
    let z : root l ≡ 0 = sym (ap (λ q. q.left) g.0) ∙ sym (ap (λ y. (v y).left) e) ∙ ap (λ q. q.left) h in
    absurd (let y : 1 ≤ occ 0 l = rw z at (root-occ l) in omega arith)
same-top v (node s k rk l r) (leaf s' k' pr' rk') h g a b e =
    let z : root l ≡ 0 = sym (ap (λ q. q.left) h.0) ∙ ap (λ y. (v y).left) e ∙ ap (λ q. q.left) g in
    absurd (let y : 1 ≤ occ 0 l = rw z at (root-occ l) in omega arith)
same-top v (node s k rk l r) (node s' k' rk' l' r') h g a b e =
    let q : inner_of k rk (root l) (root r) ≡ inner_of k' rk' (root l') (root r') = sym h.0 ∙ ap v e ∙ g.0 in
    let el = same-top v l l' h.1 g.1 (omega arith) (omega arith) (ap (λ x. x.left) q) in
    let er = same-top v r r' h.2 g.2 (omega arith) (omega arith) (ap (λ x. x.right) q) in
    same-node e (ap (λ x. x.number) q) (ap (λ x. x.rank) q) el er

pub one-tree : (v : View) (t u : Tree) → Carries v t → Carries v u → t ≡ u
one-tree v t u i j =
    same-top v t u i.holds j.holds (zero_out v t i) (zero_out v u j) (sym (ap (λ r. r.left) i.entry) ∙ ap (λ r. r.left) j.entry)
