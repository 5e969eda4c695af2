-- What the tests of document 01 say of a record, as facts.
use Prim.Native.Nat.{◌<◌, ◌≤◌, ℕ}
use borrow.Author.Tests.{eq-eqb, eqb-false, eqb-true, leb-true, ltb-true, not-true}
use lib.Dec.{eqb, leb, ltb}
use mathlib.Core.Bool.{Bool, ◌&&◌, ◌||◌, false, not, true}
use mathlib.Core.Logic.{◌⊎◌, inl, inr}
use mathlib.Core.Path.{◌∙◌, ◌≡◌, refl, sym}
use native.Mathlib.Omega.{arith}
use Rattle.machine.proofs.Tests.{both_first, both-second}
use Rattle.machine.specs.Choice.{if_b}
use Rattle.machine.specs.Record.{entry_form, fare_marks, in_tree, inner_marks, is_inner, is_leaf, is_link, leads, level, linked, number_fits, other, plain_form, price_fits, sentinel, still, top_number, well_formed}
use Rattle.machine.specs.Rows.{link_at}
use Rattle.routes.specs.Route.{lv}
use Rattle.terms.specs.declared.Links.{Links}
use Rattle.terms.specs.declared.Rec.{Rec}
use Rattle.trees.specs.Marks.{LeafMarks, NodeMarks}
use Rattle.views.specs.Update.{link}

-- two tests at once, one of two tests
pub both : (a b : Bool) → (a && b) ≡ true → (a ≡ true) × (b ≡ true)
both a b e = (both_first a b e, both-second a b e)

pub one_of : (a b : Bool) → (a || b) ≡ true → (a ≡ true) ⊎ (b ≡ true)
one_of true b e = inl refl
one_of false b e = inr e

pub differ : (a b : ℕ) → not (eqb a b) ≡ true → a ≡ b → ⊥
differ a b e = eqb-false a b (not-true (eqb a b) e)

pub leaf_links : (r : Rec) → is_leaf r ≡ true → (r.left ≡ 0) × (r.right ≡ 0)
unfolding is_leaf
leaf_links r e = let h = both (eqb r.left 0) (eqb r.right 0) e in (eqb-true _ _ h.0, eqb-true _ _ h.1)

pub sentinel-marks : (r : Rec) → sentinel r ≡ true → (r.number ≡ top_number) × (r.rank ≡ 255) × (r.price ≡ 0)
unfolding sentinel
sentinel-marks r e =
    let h = both (eqb r.number top_number) (eqb r.rank 255 && eqb r.price 0) e in
    let g = both (eqb r.rank 255) (eqb r.price 0) h.1 in
    (eqb-true _ _ h.0, eqb-true _ _ g.0, eqb-true _ _ g.1)

fare-marks : (r : Rec) → fare_marks r ≡ true → (r.number < 1000000) × (r.price < 100000) × (r.rank ≡ 0)
unfolding fare_marks number_fits price_fits
fare-marks r e =
    let h = both (ltb r.number 1000000) (ltb r.price 100000 && eqb r.rank 0) e in
    let g = both (ltb r.price 100000) (eqb r.rank 0) h.1 in
    (ltb-true _ _ h.0, ltb-true _ _ g.0, eqb-true _ _ g.1)

inner-marks : (r : Rec) → inner_marks r ≡ true → (r.number < 1000000) × (r.price ≡ 0) × (1 ≤ r.rank) × (r.rank ≤ 28)
unfolding inner_marks number_fits
inner-marks r e =
    let h = both (ltb r.number 1000000) (eqb r.price 0 && (leb 1 r.rank && leb r.rank 28)) e in
    let g = both (eqb r.price 0) (leb 1 r.rank && leb r.rank 28) h.1 in
    let f = both (leb 1 r.rank) (leb r.rank 28) g.1 in
    (ltb-true _ _ h.0, eqb-true _ _ g.0, leb-true _ _ f.0, leb-true _ _ f.1)

link-pos : (n s : ℕ) → is_link n s ≡ true → (s ≡ 0 → ⊥) × (s < n)
unfolding is_link
link-pos n s e = let h = both (leb 1 s) (ltb s n) e in let p = leb-true 1 s h.0 in (λ z. omega arith, ltb-true s n h.1)

-- a well-formed record that is not the entry: a leaf, or inner
abbrev pub Plain : ℕ → Rec → Type 0
Plain n r = ((r.left ≡ 0) × (r.right ≡ 0) × LeafMarks r.number r.price r.rank)
    ⊎ ((r.left ≡ 0 → ⊥) × (r.right ≡ 0 → ⊥) × (r.price ≡ 0) × NodeMarks r.number r.rank)

plain_form_lem : (n : ℕ) (r : Rec) → plain_form n r ≡ true → Plain n r
unfolding plain_form is_inner
plain_form_lem n r e =
    elim (one_of (is_leaf r && (sentinel r || fare_marks r)) ((is_link n r.left && (is_link n r.right && not (eqb r.left r.right))) && (sentinel r || inner_marks r)) e) [
      | inl h ↦ leafy (both (is_leaf r) (sentinel r || fare_marks r) h)
      | inr h ↦ inner (both (is_link n r.left && (is_link n r.right && not (eqb r.left r.right))) (sentinel r || inner_marks r) h)
    ]
  where
    leafy : (is_leaf r ≡ true) × ((sentinel r || fare_marks r) ≡ true) → Plain n r
    leafy h =
        let l = leaf_links r h.0 in
        inl (
          l.0,
          l.1,
          elim (one_of (sentinel r) (fare_marks r) h.1) [
            | inl s ↦ (let q = sentinel-marks r s in inl (q.0, q.2, q.1))
            | inr s ↦ inr (fare-marks r s)
          ],
        )

    inner : ((is_link n r.left && (is_link n r.right && not (eqb r.left r.right))) ≡ true) × ((sentinel r || inner_marks r) ≡ true) → Plain n r
    inner h =
        let l = both (is_link n r.left) (is_link n r.right && not (eqb r.left r.right)) h.0 in
        let k = both (is_link n r.right) (not (eqb r.left r.right)) l.1 in
        elim (one_of (sentinel r) (inner_marks r) h.1) [
          | inl s ↦ (let q = sentinel-marks r s in inr ((link-pos n _ l.0).0, (link-pos n _ k.0).0, q.2, inl (q.0, q.1)))
          | inr s ↦ (let q = inner-marks r s in inr ((link-pos n _ l.0).0, (link-pos n _ k.0).0, q.1, inr (q.0, q.2, q.3)))
        ]

pub formed-state : (n s : ℕ) (r : Rec) → well_formed n s r ≡ true → (r.state ≡ 1) ⊎ (r.state ≡ 2)
unfolding well_formed
formed-state n s r e =
    elim (one_of (eqb r.state 1) (eqb r.state 2) (both_first (eqb r.state 1 || eqb r.state 2) _ e)) [
      | inl h ↦ inl (eqb-true _ _ h)
      | inr h ↦ inr (eqb-true _ _ h)
    ]

pub formed-used : (n s : ℕ) (r : Rec) → well_formed n s r ≡ true → r.state ≡ 0 → ⊥
formed-used n s r e z = elim (formed-state n s r e) [ inl h ↦ omega arith | inr h ↦ omega arith ]

pub formed-plain : (n s : ℕ) (r : Rec) → well_formed n s r ≡ true → (s ≡ 0 → ⊥) → Plain n r
unfolding well_formed
formed-plain n s r e nz =
    elim (one_of (eqb s 0 && entry_form n r) (not (eqb s 0) && plain_form n r) (both-second (eqb r.state 1 || eqb r.state 2) _ e)) [
      | inl h ↦ absurd (nz (eqb-true s 0 (both_first (eqb s 0) _ h)))
      | inr h ↦ plain_form_lem n r (both-second (not (eqb s 0)) _ h)
    ]

-- a record that a link leads to
pub linked-formed : (n s : ℕ) (r : Rec) → linked n s r ≡ true → (s ≡ 0 → ⊥) × (well_formed n s r ≡ true)
unfolding linked
linked-formed n s r e = let h = both (not (eqb s 0)) (well_formed n s r) e in (differ s 0 h.0, h.1)

-- one link is enough to know an inner record
pub inner-by : (n : ℕ) (r : Rec) (d : Bool) → Plain n r → (link d r ≡ 0 → ⊥) → r.left ≡ 0 → ⊥
inner-by n r true (inl h) nz z = nz z
inner-by n r false (inl h) nz z = nz h.1
inner-by n r d (inr h) nz z = h.0 z

-- "still in state 1 with both links as noted"
pub still-facts : (r : Rec) (a : Links) → still r a ≡ true → (r.state ≡ 1) × (r.left ≡ a.left) × (r.right ≡ a.right)
unfolding still in_tree
still-facts r a e =
    let h = both (eqb r.state 1) (eqb r.left a.left && eqb r.right a.right) e in
    let g = both (eqb r.left a.left) (eqb r.right a.right) h.1 in
    (eqb-true _ _ h.0, eqb-true _ _ g.0, eqb-true _ _ g.1)

-- a noted link leads to s, and the record is as noted: its link on that side leads there
pub leads-to : (r : Rec) (a : Links) (s : ℕ) → still r a ≡ true → leads a s ≡ true → (s ≡ 0 → ⊥) × (link (eqb a.left s) r ≡ s)
unfolding leads
leads-to r a s e h =
    let f = still-facts r a e in
    let g = both (not (eqb s 0)) (eqb a.left s || eqb a.right s) h in
    (differ s 0 g.0, go (eqb a.left s) refl f.1 f.2 g.1)
  where
    go : (d : Bool) → eqb a.left s ≡ d → r.left ≡ a.left → r.right ≡ a.right → (d || eqb a.right s) ≡ true → link d r ≡ s
    go true q l m o = l ∙ eqb-true _ _ q
    go false q l m o = m ∙ eqb-true _ _ o

-- the other link
pub other-link : (r : Rec) (b : Links) (s : ℕ) → still r b ≡ true → other b s ≡ link (not (eqb b.left s)) r
unfolding other if_b
other-link r b s e = let f = still-facts r b e in go (eqb b.left s) f.1 f.2
  where
    go : (d : Bool) → r.left ≡ b.left → r.right ≡ b.right → if_b d b.right b.left ≡ link (not d) r
    go true l m = sym m
    go false l m = sym l

-- the link on a side
pub side-link : (r : Rec) (c : Links) (d : Bool) → still r c ≡ true → link_at d c ≡ link d r
unfolding link_at if_b
side-link r c d e = let f = still-facts r c e in go d f.1 f.2
  where
    go : (d : Bool) → r.left ≡ c.left → r.right ≡ c.right → if_b d c.left c.right ≡ link d r
    go true l m = sym l
    go false l m = sym m

-- "level": the test, and the pair of ranks
pub level-ranks : (p r : Rec) → level p r ≡ true → (sentinel r ≡ false) × (p.rank ≡ r.rank)
unfolding level
level-ranks p r e = let h = both (not (sentinel r)) (eqb r.rank p.rank) e in (not-true (sentinel r) h.0, sym (eqb-true _ _ h.1))

pub not_level : (p r : Rec) → level p r ≡ false → lv p.rank r.rank ≡ true → ⊥
unfolding level lv
not_level p r e h =
    let g = both (eqb p.rank r.rank) (not (eqb r.rank 255)) h in
    let q : p.rank ≡ r.rank = eqb-true _ _ g.0 in
    let d : r.rank ≡ 255 → ⊥ = differ r.rank 255 g.1 in
    clash (sentinel r) (eqb r.rank p.rank) refl (eq-eqb _ _ (sym q)) d e
  where
    clash : (a b : Bool) → sentinel r ≡ a → b ≡ true → (r.rank ≡ 255 → ⊥) → (not a && b) ≡ false → ⊥
    clash true b s f d o = d (sentinel-marks r s).1
    clash false true s f d o = let z : ◌≡◌ {A = ℕ} 0 1 = cc in omega arith
    clash false false s f d o = let z : ◌≡◌ {A = ℕ} 0 1 = cc in omega arith
