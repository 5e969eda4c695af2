-- Every record in use is well formed, and no link leads to a record of higher rank: in the tree, taken off, and after every commit.
use Prim.Native.Nat.{◌+◌, ◌<◌, ◌≤◌, ℕ}
use lib.Dec.{eqb}
use mathlib.Core.Bool.{Bool, ◌||◌, false, true}
use mathlib.Core.Logic.{◌⊎◌, inl, inr}
use mathlib.Core.Path.{◌∙◌, ◌≡◌, ap, refl, subst, sym}
use native.Mathlib.Omega.{arith}
use Rattle.commits.proofs.Grounds.{parent-rank, root-rank}
use Rattle.commits.proofs.Place.{lev_c-le}
use Rattle.commits.proofs.Shape.{Shape, shape_at}
use Rattle.commits.proofs.Writes.{entry_in}
use Rattle.fares.proofs.Formed.{entry-formed, leaf_linked, node_linked}
use Rattle.fares.proofs.Whole.{Bounded}
use Rattle.machine.proofs.Tests.{both-second}
use Rattle.machine.specs.Record.{entry_form, fare_marks, inner_marks, is_inner, is_leaf, linked, plain_form, sentinel, well_formed}
use Rattle.machine.specs.Table.{View}
use Rattle.routes.proofs.Kept.{Fate, alike, relinked, taken, unused, with_same}
use Rattle.routes.proofs.Level.{lev_at-plug, lev_at-root, lvs-not, lvs-yes}
use Rattle.routes.proofs.Surgery.{Surgery, at_most, in_tree_lem}
use Rattle.routes.specs.Route.{lev_at, lv, lvs, rank_c}
use Rattle.steps.proofs.Facts.{linked-formed}
use Rattle.terms.specs.declared.Rec.{Rec}
use Rattle.trees.proofs.Held.{Carries, Child, child-of, occ_c-parent, root-occ, zero_out}
use Rattle.trees.proofs.Plug.{Found, find, ind-cases, ind-eq, ind-other, ind-same, occ-plug, take_apart_lem}
use Rattle.trees.specs.Rank.{rank}
use Rattle.trees.specs.Tree.{Ctx, Tree, ind, leaf, node, occ, occ_c, parent, plug, root}
use Rattle.undamaged.specs.Records.{Down, NotLevel, Old, Used}
use Rattle.views.specs.Update.{link, taken_off, with_link}

-- ---- in the tree

module _ (n : ℕ) (v : View) (t : Tree) (i : Carries v t) (f : Shape t) (b : Bounded n v) where
  in_range : (x : ℕ) → 1 ≤ occ x t → (x ≡ 0 → ⊥) × (x < n)
  in_range x o = (λ e. omega (arith, zero_out v t i, subst (λ y. 1 ≤ occ y t) e o), b x (in_tree_lem v t x i o))

  -- at a place of the tree
  sub_formed : (c : Ctx) (u : Tree) → t ≡ plug c u → linked n (root u) (v (root u)) ≡ true
  sub_formed c (leaf s k pr rk) w =
      let h = (take_apart_lem v c (leaf s k pr rk) (rw w at i.entry) (rw w at i.holds)).1 in
      let m = (shape_at c (leaf s k pr rk) (rw w at f)).labels in
      rw h (leaf_linked n s k pr rk (in_range s (part s (ind-same s))).0 m)
    where
      part : (x : ℕ) → ind x s ≡ 1 → 1 ≤ occ x t
      part x e = rw w (omega (arith, occ-plug x c (leaf s k pr rk), entry_in c x))
  sub_formed c (node s k rk l r) w =
      let h = (take_apart_lem v c (node s k rk l r) (rw w at i.entry) (rw w at i.holds)).1 in
      let m = (shape_at c (node s k rk l r) (rw w at f)).labels in
      rw h.0 (node_linked n s k rk (root l) (root r) (in_range s (part s (omega (arith, ind-same s)))).0 m.0
      (in_range (root l) (part (root l) (omega (arith, root-occ l)))).0 (in_range (root l) (part (root l) (omega (arith, root-occ l)))).1
      (in_range (root r) (part (root r) (omega (arith, root-occ r)))).0 (in_range (root r) (part (root r) (omega (arith, root-occ r)))).1 differ)
    where
      part : (x : ℕ) → 1 ≤ ind x s + occ x l + occ x r → 1 ≤ occ x t
      part x e = rw w (omega (arith, occ-plug x c (node s k rk l r), entry_in c x))

      differ : root l ≡ root r → ⊥
      differ e =
          let z : 1 ≤ occ (root l) r = subst (λ y. 1 ≤ occ y r) (sym e) (root-occ r) in
          let o : occ (root l) (plug c (node s k rk l r)) ≤ 1 = subst (λ y. occ (root l) y ≤ 1) w (at_most v t (root l) i) in
          omega (arith, occ-plug (root l) c (node s k rk l r), root-occ l, entry_in c (root l))

  pub tree_formed : (a : ℕ) → (v a).state ≡ 1 → well_formed n a (v a) ≡ true
  tree_formed a one =
      elim (ind-cases a 0) [
        | inl q ↦ rw (q.0, i.entry) (entry-formed n (root t) (in_range (root t) (root-occ t)).0 (in_range (root t) (root-occ t)).1)
        | inr q ↦ at (find a t (omega (arith, i.ones a, q.1, ind-eq (v a).state 1 one)))
      ]
    where
      at : Found a t → well_formed n a (v a) ≡ true
      at w = subst (λ y. well_formed n y (v y) ≡ true) w.at (linked-formed n (root w.sub) (v (root w.sub)) (sub_formed w.ctx w.sub w.whole)).1

  -- a child of a record in the tree
  pub record Below (a h : ℕ) : Type 0 where
    pub one : (v h).state ≡ 1
    pub lower : (v h).rank ≤ (v a).rank
    pub apart : a ≡ h → ⊥
    pub unlevel : (lv (v a).rank (v h).rank ≡ true → ⊥) → lev_at 255 h t ≡ 0
    pub level : lv (v a).rank (v h).rank ≡ true → 1 ≤ lev_at 255 h t

  pub below-facts : (a h : ℕ) (d : Bool) → (v a).state ≡ 1 → link d (v a) ≡ h → (h ≡ 0 → ⊥) → Below a h
  below-facts a h d one e nz = go (child-of v t i a h d one e nz)
    where
      here : (c : Ctx) (u : Tree) → t ≡ plug c u → root u ≡ h → parent c ≡ a → Below a h
      here c u w at-u under =
          let g = take_apart_lem v c u (rw w at i.entry) (rw w at i.holds) in
          let ra : (v a).rank ≡ rank_c c = ap (λ y. (v y).rank) (sym under) ∙ parent-rank v c (root u) g.0 in
          let rh : (v h).rank ≡ rank u = ap (λ y. (v y).rank) (sym at-u) ∙ root-rank v u g.1 in
          let s = shape_at c u (rw w at f) in
          let oh : 1 ≤ occ h u = subst (λ y. 1 ≤ occ y u) at-u (root-occ u) in
          let ot : occ h (plug c u) ≤ 1 = subst (λ y. occ h y ≤ 1) w (at_most v t h i) in
          let z : occ_c h c ≡ 0 = omega (arith, occ-plug h c u, ind-other h 0 nz) in
          let lt : lev_at 255 h t ≡ lvs (rank_c c) (rank u) 1 =
          ap (lev_at 255 h) w ∙ omega (arith, lev_at-plug h c u, lev_c-le h c, subst (λ y. lev_at (rank_c c) y u ≡ lvs (rank_c c) (rank u) 1) at-u (lev_at-root (rank_c c) u (rw at-u (omega (arith, occ-plug h c u, z, ind-other h 0 nz))))) in
          record {
            one = in_tree_lem v t h i (rw w (omega (arith, occ-plug h c u, ind-other h 0 nz)));
            lower = omega (arith, ra, rh, s.under);
            apart = λ q. (let p : 1 ≤ occ_c h c = subst (λ y. 1 ≤ occ_c y c) (under ∙ q) (occ_c-parent c) in omega arith);
            unlevel = λ n. lt ∙ lvs-not (rank_c c) (rank u) 1 (rw (ra, rh) at n);
            level = λ l. omega (arith, lt, lvs-yes (rank_c c) (rank u) 1 (rw (ra, rh) at l));
          }

      go : Child a h d t → Below a h
      go ch = here ch.ctx ch.sub ch.whole ch.at ch.under

  pub tree_down : (a : ℕ) → (v a).state ≡ 1 → Down v t a
  tree_down a one d nz =
      let q = below-facts a (link d (v a)) d one refl nz in
      (λ z. omega (arith, q.one), q.lower, λ n s. q.unlevel n)

  -- ---- every record in use

  module _ (o : Old n v t) where
    pub used_formed : (a : ℕ) → Used v a → well_formed n a (v a) ≡ true
    used_formed a u =
        elim (o.states a) [
          | inl z ↦ absurd (u z)
          | inr s ↦ (elim s [ inl one ↦ tree_formed a one | inr two ↦ o.formed a two ])
        ]

    pub used_down : (a : ℕ) → Used v a → Down v t a
    used_down a u =
        elim (o.states a) [
          | inl z ↦ absurd (u z)
          | inr s ↦ (elim s [ inl one ↦ tree_down a one | inr two ↦ o.down a two ])
        ]

-- ---- every commit

formed-off : (n s : ℕ) (r : Rec) → well_formed n s r ≡ true → well_formed n s (taken_off r) ≡ true
unfolding well_formed plain_form entry_form is_leaf is_inner sentinel fare_marks inner_marks
formed-off n s r e = both-second (eqb r.state 1 || eqb r.state 2) _ e

-- a record that was in use: number, price and rank stay
pub record Same (r r' : Rec) : Type 0 where
  pub number : r'.number ≡ r.number
  pub price : r'.price ≡ r.price
  pub rank : r'.rank ≡ r.rank
  pub used : r'.state ≡ 0 → ⊥
  pub leaf : r.left ≡ 0 → r.right ≡ 0 → (r'.left ≡ 0) × (r'.right ≡ 0)
  pub inner : (r.left ≡ 0 → ⊥) → r'.left ≡ 0 → ⊥

with_labels : (b : Bool) (a : ℕ) (r : Rec) → ((with_link b a r).number ≡ r.number) × ((with_link b a r).price ≡ r.price)
with_labels true a r = (refl, refl)
with_labels false a r = (refl, refl)

pub fate_same : {v : View} {r r' : Rec} → Fate v r r' → (r.state ≡ 0 → ⊥) → Same r r'
fate_same (unused z f) u = absurd (u z)
fate_same {r = r} (alike q) u = record {
  number = ap (λ x. x.number) q;
  price = ap (λ x. x.price) q;
  rank = ap (λ x. x.rank) q;
  used = λ z. u (sym (ap (λ x. x.state) q) ∙ z);
  leaf = λ l m. (ap (λ x. x.left) q ∙ l, ap (λ x. x.right) q ∙ m);
  inner = λ n z. n (sym (ap (λ x. x.left) q) ∙ z);
}
fate_same (taken o q) u = record {
  number = ap (λ x. x.number) q;
  price = ap (λ x. x.price) q;
  rank = ap (λ x. x.rank) q;
  used = λ z. omega (arith, sym (ap (λ x. x.state) q) ∙ z);
  leaf = λ l m. (ap (λ x. x.left) q ∙ l, ap (λ x. x.right) q ∙ m);
  inner = λ n z. n (sym (ap (λ x. x.left) q) ∙ z);
}
fate_same {r = r} (relinked o b a z nz h q) u =
    let s = with_same b a r in
    let t = with_labels b a r in
    record {
      number = ap (λ x. x.number) q ∙ t.0;
      price = ap (λ x. x.price) q ∙ t.1;
      rank = ap (λ x. x.rank) q ∙ s.1;
      used = λ y. u (sym (ap (λ x. x.state) q ∙ s.0) ∙ y);
      leaf = λ l m. absurd (h (no-link b l m));
      inner = λ n y. inner-link b n (sym (ap (λ x. x.left) q) ∙ y);
    }
  where
    no-link : (b : Bool) → r.left ≡ 0 → r.right ≡ 0 → link b r ≡ 0
    no-link true l m = l
    no-link false l m = m

    inner-link : (b : Bool) → (r.left ≡ 0 → ⊥) → (with_link b a r).left ≡ 0 → ⊥
    inner-link true n y = nz y
    inner-link false n y = n y

module _ {v w : View} {t t' : Tree} {x y : ℕ} (g : Surgery v w t t' x y) (free : (v x).state ≡ 0) where
  -- a record that is in the tree after it and was in use was in the tree
  pub one-before : (s : ℕ) → Used v s → (w s).state ≡ 1 → (v s).state ≡ 1
  one-before s u one = go (g.fate s)
    where
      go : Fate v (v s) (w s) → (v s).state ≡ 1
      go (unused z f) = absurd (u z)
      go (alike q) = sym (ap (λ r. r.state) q) ∙ one
      go (taken o q) = o
      go (relinked o b a z nz h q) = o

  -- what is not level stays so
  pub low-kept : (s : ℕ) → Used v s → NotLevel v t s → NotLevel w t' s
  low-kept s u n one =
      let z = n (one-before s u one) in
      let h = g.others s (λ e. u (subst (λ q. (v q).state ≡ 0) (sym e) free)) in
      omega arith

  same : (s : ℕ) → Used v s → Same (v s) (w s)
  same s u = fate_same (g.fate s) u

  -- what the links of slot a lead to, where they stay
  down-kept : (a : ℕ) → ((b : Bool) → link b (w a) ≡ link b (v a)) → (w a).rank ≡ (v a).rank → Down v t a → Down w t' a
  down-kept a links ranks d b nz =
      let e = links b in
      let q = d b (λ z. nz (e ∙ z)) in
      let s = same (link b (v a)) q.0 in
      rw (e, s.rank, ranks) (s.used, q.1, (λ n. low-kept (link b (v a)) q.0 (q.2 n)))

  pub old_kept : (n : ℕ) → Bounded n v → Shape t → Old n v t → Old n w t'
  old_kept n bd sh o = record { states = λ a. state a (g.fate a); inside = λ a two. inside a two (g.fate a); formed = λ a two. formed a two (g.fate a); down = λ a two. down a two (g.fate a) }
    where
      state : (a : ℕ) → Fate v (v a) (w a) → ((w a).state ≡ 0) ⊎ (((w a).state ≡ 1) ⊎ ((w a).state ≡ 2))
      state a (unused z f) = inr (inl f)
      state a (alike q) = rw (ap (λ r. r.state) q) (o.states a)
      state a (taken k q) = inr (inr (ap (λ r. r.state) q))
      state a (relinked k b c z nz h q) = inr (inl (ap (λ r. r.state) q ∙ (with_same b c (v a)).0 ∙ k))

      inside : (a : ℕ) → (w a).state ≡ 2 → Fate v (v a) (w a) → a < n
      inside a two (unused z f) = absurd (omega arith)
      inside a two (alike q) = o.inside a (sym (ap (λ r. r.state) q) ∙ two)
      inside a two (taken k q) = bd a k
      inside a two (relinked k b c z nz h q) = absurd (omega (arith, ap (λ r. r.state) q ∙ (with_same b c (v a)).0 ∙ k))

      off_links : (a : ℕ) → w a ≡ taken_off (v a) → (b : Bool) → link b (w a) ≡ link b (v a)
      off_links a q true = ap (λ r. r.left) q
      off_links a q false = ap (λ r. r.right) q

      formed : (a : ℕ) → (w a).state ≡ 2 → Fate v (v a) (w a) → well_formed n a (w a) ≡ true
      formed a two (unused z f) = absurd (omega arith)
      formed a two (alike q) = rw q (o.formed a (sym (ap (λ r. r.state) q) ∙ two))
      formed a two (taken k q) = rw q (formed-off n a (v a) (tree_formed n v t g.before sh bd a k))
      formed a two (relinked k b c z nz h q) = absurd (omega (arith, ap (λ r. r.state) q ∙ (with_same b c (v a)).0 ∙ k))

      down : (a : ℕ) → (w a).state ≡ 2 → Fate v (v a) (w a) → Down w t' a
      down a two (unused z f) = absurd (omega arith)
      down a two (alike q) = down-kept a (λ b. ap (link b) q) (ap (λ r. r.rank) q) (o.down a (sym (ap (λ r. r.state) q) ∙ two))
      down a two (taken k q) = down-kept a (off_links a q) (ap (λ r. r.rank) q) (tree_down n v t g.before sh bd a k)
      down a two (relinked k b c z nz h q) = absurd (omega (arith, ap (λ r. r.state) q ∙ (with_same b c (v a)).0 ∙ k))
