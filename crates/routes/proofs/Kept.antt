-- What tasks remember is kept by every commit: Meets (owners) and Good (answers), from four facts about views and routes.
use Prim.Native.Nat.{◌<◌, ℕ}
use borrow.Author.Tests.{lt-ltb}
use lib.Dec.{ltb}
use mathlib.Core.Bool.{Bool, false, true}
use mathlib.Core.Logic.{◌⊎◌, inl, inr}
use mathlib.Core.Path.{◌∙◌, ◌≡◌, ap, refl, subst, sym}
use native.Mathlib.Omega.{arith}
use Rattle.machine.proofs.Choice.{if_elim}
use Rattle.machine.specs.PutIn.{inner_of}
use Rattle.machine.specs.Table.{View}
use Rattle.routes.specs.Route.{Below, Good, Has, Level, Meets, Route, first, full, gone, here, last, led, lv, next, pair, route, stop, tree, via}
use Rattle.terms.specs.declared.Rec.{Rec}
use Rattle.trees.proofs.Held.{Carries, zero_out}
use Rattle.trees.proofs.Plug.{ind-eq}
use Rattle.trees.specs.Tree.{Holds, Tree, leaf, leaf_rec, node, occ, root}
use Rattle.views.specs.Update.{link, taken_off, with_link}

-- ---- a view follows a route

abbrev pub Pos : Route → Type 0
Pos stop = Unit {0}
Pos (via s rk l) = s ≡ 0 → ⊥

abbrev pub Follows : View → ℕ → Route → Type 0
Follows v k stop = Unit {0}
Follows v k (via s rk l) = ((v s).state ≡ 1) × ((v s).rank ≡ rk) × (next v k s ≡ first l) × Pos l × Follows v k l

pub next-is : (v : View) (k x : ℕ) (r : Rec) → v x ≡ r → next v k x ≡ link (ltb k r.number) r
unfolding next
next-is v k x r e = ap (λ (y : Rec). link (ltb k y.number) y) e

no-link : (b : Bool) (k pr rk : ℕ) → link b (leaf_rec k pr rk) ≡ 0
no-link true k pr rk = refl
no-link false k pr rk = refl

first-route : (k : ℕ) (t : Tree) → first (route k t) ≡ root t
first-route k (leaf s key pr rk) = refl
first-route k (node s key rk l r) = refl

pos-route : (k : ℕ) (t : Tree) → occ 0 t ≡ 0 → Pos (route k t)
pos-route k (leaf s key pr rk) z = λ e. omega (arith, ind-eq 0 s (sym e))
pos-route k (node s key rk l r) z = λ e. omega (arith, ind-eq 0 s (sym e))

walk_tree : (v : View) (k : ℕ) (t : Tree) → Holds v t → occ 0 t ≡ 0 → Follows v k (route k t)
walk_tree v k (leaf s key pr rk) h z = (ap (λ r. r.state) h, ap (λ r. r.rank) h, next-is v k s (leaf_rec key pr rk) h ∙ no-link (ltb k key) key pr rk, tt, tt)
walk_tree v k (node s key rk l r) h z =
    let e = next-is v k s (inner_of key rk (root l) (root r)) h.0 in
    if_elim (λ L. Follows v k (via s rk L)) (ltb k key)
    (λ q. (ap (λ r. r.state) h.0, ap (λ r. r.rank) h.0, e ∙ rw q (sym (first-route k l)), pos-route k l (omega arith), walk_tree v k l h.1 (omega arith)))
    (λ q. (ap (λ r. r.state) h.0, ap (λ r. r.rank) h.0, e ∙ rw q (sym (first-route k r)), pos-route k r (omega arith), walk_tree v k r h.2 (omega arith)))

pub walk_full : (v : View) (k : ℕ) (t : Tree) → k < 4294967295 → Carries v t → Follows v k (full k t)
walk_full v k t lt i = (
  ap (λ r. r.state) i.entry,
  ap (λ r. r.rank) i.entry,
  next-is v k 0 (inner_of 4294967295 255 (root t) 0) i.entry ∙ rw (lt-ltb k 4294967295 lt) (sym (first-route k t)),
  pos-route k t (zero_out v t i),
  walk_tree v k t i.holds (zero_out v t i),
)

pub walk_one : (v : View) (k : ℕ) (L : Route) (b : ℕ) → Follows v k L → Has b L → (v b).state ≡ 1
walk_one v k (via s rk l) b w (inl e) = rw e w.0
walk_one v k (via s rk l) b w (inr h) = walk_one v k l b w.4 h
walk_one v k stop b w h = elim h [ ]

-- ---- what a commit does to one record

-- a free slot is taken for a record of the tree; a link is only ever led to a slot that was free in v, and only where there was a link
pub data Fate (v : View) (r r' : Rec) : Type 0 where
  unused : r.state ≡ 0 → r'.state ≡ 1 → Fate v r r'
  alike : r' ≡ r → Fate v r r'
  taken : r.state ≡ 1 → r' ≡ taken_off r → Fate v r r'
  relinked : r.state ≡ 1 → (b : Bool) (a : ℕ) → (v a).state ≡ 0 → (a ≡ 0 → ⊥) → (link b r ≡ 0 → ⊥) → r' ≡ with_link b a r → Fate v r r'

-- one link changed: state and rank stay
pub with_same : (b : Bool) (a : ℕ) (r : Rec) → ((with_link b a r).state ≡ r.state) × ((with_link b a r).rank ≡ r.rank)
with_same true a r = (refl, refl)
with_same false a r = (refl, refl)

pub frozen : {v : View} {r r' : Rec} → Fate v r r' → r.state ≡ 2 → r' ≡ r
frozen (unused z f) e = absurd (omega (arith, z, e))
frozen (alike q) e = q
frozen (taken o q) e = absurd (omega (arith, o, e))
frozen (relinked o b a z y l q) e = absurd (omega (arith, o, e))

pub stays_used : {v : View} {r r' : Rec} → Fate v r r' → (r.state ≡ 0 → ⊥) → (r'.rank ≡ r.rank) × (r'.state ≡ 0 → ⊥)
stays_used (unused z f) n = absurd (n z)
stays_used (alike q) n = (ap (λ r. r.rank) q, λ z. n (sym (ap (λ r. r.state) q) ∙ z))
stays_used (taken o q) n = (ap (λ r. r.rank) q, λ z. omega (arith, sym (ap (λ r. r.state) q) ∙ z))
stays_used {r = r} (relinked o b a f y l q) n =
    let s = with_same b a r in
    (ap (λ r. r.rank) q ∙ s.1, λ z. n (sym (ap (λ r. r.state) q ∙ s.0) ∙ z))

pub one-or_off : {v : View} {r r' : Rec} → Fate v r r' → r.state ≡ 1 → (r'.state ≡ 1) ⊎ (r' ≡ taken_off r)
one-or_off (unused z f) e = absurd (omega (arith, z, e))
one-or_off (alike q) e = inl (ap (λ r. r.state) q ∙ e)
one-or_off (taken o q) e = inr q
one-or_off {r = r} (relinked o b a f y l q) e = inl (ap (λ r. r.state) q ∙ (with_same b a r).0 ∙ e)

module _ (v w : View) (fate : (y : ℕ) → Fate v (v y) (w y)) (k : ℕ) where
  -- a record that is taken off, or was, leads where it led
  next-same : (a : ℕ) → w a ≡ v a → next w k a ≡ next v k a
  unfolding next
  next-same a e = next-is w k a (v a) e

  next-off : (a : ℕ) → w a ≡ taken_off (v a) → next w k a ≡ next v k a
  unfolding next
  next-off a e = next-is w k a (taken_off (v a)) e ∙ either (ltb k (v a).number)
    where
      either : (d : Bool) → link d (taken_off (v a)) ≡ link d (v a)
      either true = refl
      either false = refl

  -- the frozen pair that a commit leaves: s was above s', level, and is taken off
  new_pair : (s s' : ℕ) → w s ≡ taken_off (v s) → next v k s ≡ s' → (v s').state ≡ 1 → lv (v s).rank (v s').rank ≡ true → lv (w s).rank (w (next w k s)).rank ≡ true
  new_pair s s' off n one e =
      let u = stays_used (fate s') (λ z. omega (arith, one, z)) in
      rw (next-off s off ∙ n, u.0, off) e

  module _ (b b' : ℕ) (L' : Route) where
    -- from a record above b down to the first that is kept
    descend : (l : Route) → Follows v k l → ((a : ℕ) → (w a).state ≡ 1 → Below a b l → Below a b' L') → (a : ℕ) → Below a b l → Meets w L' k b' a
    descend (via s rk l) wk kp a (inr h) = descend l wk.4 (λ y o g. kp y o (inr g)) a h
    descend (via s rk stop) wk kp a (inl h) = absurd h.1
    descend (via s rk (via s' rk' l)) wk kp a (inl h) =
        subst (Meets w L' k b') (sym h.0)
        (elim (one-or_off (fate s) wk.0) [
          | inl one ↦ tree (kp s one (inl (refl, h.1)))
          | inr off ↦ below off h.1 (λ g. descend (via s' rk' l) wk.4 (λ y o f. kp y o (inr f)) s' (inl (refl, g)))
        ])
      where
        nz : w s ≡ taken_off (v s) → next w k s ≡ 0 → ⊥
        nz off z = wk.3 (sym (next-off s off ∙ wk.2) ∙ z)

        below : w s ≡ taken_off (v s) → ((b ≡ s') × (lv rk rk' ≡ true)) ⊎ Level rk' b l → (Level rk' b l → Meets w L' k b' s') → Meets w L' k b' s
        below off (inl q) ih =
            pair (ap (λ r. r.state) off) (nz off) (rw (next-off s off ∙ wk.2) (stays_used (fate s') (λ z. omega (arith, wk.4.0, z))).1)
            (new_pair s s' off wk.2 wk.4.0 (rw (wk.1, wk.4.1) q.1))
        below off (inr g) ih = gone (ap (λ r. r.state) off) (nz off) (rw (next-off s off ∙ wk.2) (ih g))
    descend stop wk kp a h = elim h [ ]

    -- MM
    pub meets_kept : (L : Route) → Follows v k L → ((a : ℕ) → (w a).state ≡ 1 → Below a b L → Below a b' L') → (a : ℕ) → Meets v L k b a → Meets w L' k b' a
    meets_kept L wk kp a (tree h) = descend L wk kp a h
    meets_kept L wk kp a (pair e nz used p) =
        let q = frozen (fate a) e in
        let n = next-same a q in
        let u = stays_used (fate (next v k a)) used in
        pair (ap (λ r. r.state) q ∙ e) (rw n nz) (rw n u.1) (rw (n, u.0, q) p)
    meets_kept L wk kp a (gone e nz m) =
        let q = frozen (fate a) e in
        let n = next-same a q in
        gone (ap (λ r. r.state) q ∙ e) (rw n nz) (rw n (meets_kept L wk kp (next v k a) m))

  module _ (W W' : ℕ → ℕ → Type 0) (up : (y p : ℕ) → W y p → W' y p) (L' : Route) where
    settle : (l : Route) → Follows v k l → ((a : ℕ) → (w a).state ≡ 1 → Has a l → Has a L') → ((a : ℕ) → Has a l → next v k a ≡ 0 → W' (v a).number (v a).price) → (a : ℕ) → Has a l → Good W' w L' k a
    settle (via s rk l) wk kp now a (inr h) = settle l wk.4 (λ y o g. kp y o (inr g)) (λ y g. now y (inr g)) a h
    settle (via s rk stop) wk kp now a (inl e) =
        subst (Good W' w L' k) (sym e)
        (elim (one-or_off (fate s) wk.0) [
          | inl one ↦ here (kp s one (inl refl))
          | inr off ↦ last (ap (λ r. r.state) off) (next-off s off ∙ wk.2) (subst (λ (r : Rec). W' r.number r.price) (sym off) (now s (inl refl) wk.2))
        ])
    settle (via s rk (via s' rk' l)) wk kp now a (inl e) =
        subst (Good W' w L' k) (sym e)
        (elim (one-or_off (fate s) wk.0) [
          | inl one ↦ here (kp s one (inl refl))
          | inr off ↦ led (ap (λ r. r.state) off) (λ z. wk.3 (sym (next-off s off ∙ wk.2) ∙ z))
              (rw (next-off s off ∙ wk.2) (settle (via s' rk' l) wk.4 (λ y o g. kp y o (inr g)) (λ y g. now y (inr g)) s' (inl refl)))
        ])
    settle stop wk kp now a h = elim h [ ]

    -- GM
    pub good-kept : (L : Route) → Follows v k L → ((a : ℕ) → (w a).state ≡ 1 → Has a L → Has a L') → ((a : ℕ) → Has a L → next v k a ≡ 0 → W' (v a).number (v a).price) → (a : ℕ) → Good W v L k a → Good W' w L' k a
    good-kept L wk kp now a (here h) = settle L wk kp now a h
    good-kept L wk kp now a (last e z m) =
        let q = frozen (fate a) e in
        last (ap (λ r. r.state) q ∙ e) (next-same a q ∙ z) (subst (λ (r : Rec). W' r.number r.price) (sym q) (up _ _ m))
    good-kept L wk kp now a (led e nz m) =
        let q = frozen (fate a) e in
        led (ap (λ r. r.state) q ∙ e) (rw (next-same a q) nz) (rw (next-same a q) (good-kept L wk kp now (next v k a) m))

-- ---- a walking step, and the moment of a commit

next-has : (v : View) (k : ℕ) (L : Route) → Follows v k L → (a : ℕ) → (next v k a ≡ 0 → ⊥) → Has a L → Has (next v k a) L
next-has v k (via s rk l) w a n (inr h) = inr (next-has v k l w.4 a n h)
next-has v k (via s rk stop) w a n (inl e) = absurd (n (ap (next v k) e ∙ w.2))
next-has v k (via s rk (via s' rk' l)) w a n (inl e) = inr (inl (ap (next v k) e ∙ w.2))
next-has v k stop w a n h = elim h [ ]

pub good-next : {W : ℕ → ℕ → Type 0} (v : View) (k : ℕ) (L : Route) → Follows v k L → (a : ℕ) → (next v k a ≡ 0 → ⊥) → Good W v L k a → Good W v L k (next v k a)
good-next v k L w a n (here h) = here (next-has v k L w a n h)
good-next v k L w a n (last e z m) = absurd (n z)
good-next v k L w a n (led e nz m) = m

pub good-now : {W : ℕ → ℕ → Type 0} (v : View) (k : ℕ) (L : Route) (a : ℕ) → (v a).state ≡ 1 → Good W v L k a → Has a L
good-now v k L a one (here h) = h
good-now v k L a one (last e z m) = absurd (omega (arith, one, e))
good-now v k L a one (led e nz m) = absurd (omega (arith, one, e))

-- a slot that is remembered is in use
pub good-used : {W : ℕ → ℕ → Type 0} (v : View) (k : ℕ) (L : Route) → Follows v k L → (a : ℕ) → Good W v L k a → (v a).state ≡ 0 → ⊥
good-used v k L w a (here h) z = omega (arith, walk_one v k L a w h, z)
good-used v k L w a (last e n m) z = omega (arith, e, z)
good-used v k L w a (led e n m) z = omega (arith, e, z)

-- what an arrival at a leaf tells: what was told when the leaf was taken off, or what the tree says now
pub good-leaf : {W : ℕ → ℕ → Type 0} (v : View) (k : ℕ) (L : Route) (a : ℕ) → next v k a ≡ 0 → Good W v L k a → Has a L ⊎ W (v a).number (v a).price
good-leaf v k L a z (here h) = inl h
good-leaf v k L a z (last e z' m) = inr m
good-leaf v k L a z (led e nz m) = absurd (nz z)
