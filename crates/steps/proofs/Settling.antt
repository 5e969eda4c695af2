-- The steps of a settling task: its readings, its choice by the links noted so far, and its commits.
use Prim.Native.Nat.{◌+◌, ◌<◌, ◌≤◌, suc, ℕ}
use mathlib.Core.Bool.{Bool, false, not, true}
use mathlib.Core.List.{List, [], ◌∷◌}
use mathlib.Core.Logic.{inl, inr}
use mathlib.Core.Path.{◌≡◌, refl}
use native.Mathlib.Omega.{arith}
use Rattle.commits.proofs.Acts.{settles}
use Rattle.commits.proofs.Grounds.{Steady}
use Rattle.commits.proofs.Shape.{Shape}
use Rattle.commits.proofs.Sight.{Changed, double-seen, promote-seen, rotate1-seen, rotate2-seen}
use Rattle.machine.specs.Choice.{if_b}
use Rattle.machine.specs.PutIn.{inner_of}
use Rattle.machine.specs.Record.{level, sentinel, top_number}
use Rattle.machine.specs.Rows.{sided}
use Rattle.machine.specs.Table.{View, Write, fill, lead, off}
use Rattle.routes.proofs.Level.{lv-yes}
use Rattle.routes.specs.Route.{lv}
use Rattle.steps.proofs.Facts.{Plain, level-ranks}
use Rattle.terms.specs.declared.Rec.{Rec}
use Rattle.trees.proofs.Held.{Carries}
use Rattle.trees.specs.Tree.{Tree, side_rec}
use Rattle.views.specs.Update.{link, upds}

sentinel-is : (r : Rec) → r.number ≡ top_number → r.rank ≡ 255 → r.price ≡ 0 → sentinel r ≡ true
unfolding sentinel
sentinel-is r a b c = rw (a, b, c)

-- a level record's rank
pub level-small : (n : ℕ) (p r : Rec) → Plain n r → level p r ≡ true → (p.rank ≡ r.rank) × (r.rank ≤ 28) × (lv p.rank r.rank ≡ true)
level-small n p r pl e =
    let h = level-ranks p r e in
    let s : r.rank ≤ 28 = small pl h.0 in
    (h.1, s, lv-yes p.rank r.rank h.1 (omega arith))
  where
    clash : sentinel r ≡ true → sentinel r ≡ false → r.rank ≤ 28
    clash a b = absurd (let z : ◌≡◌ {A = ℕ} 0 1 = cc in omega arith)

    small : Plain n r → sentinel r ≡ false → r.rank ≤ 28
    small (inl h) plain = elim h.2 [ inl m ↦ clash (sentinel-is r m.0 m.2 m.1) plain | inr m ↦ omega (arith, m.2) ]
    small (inr h) plain = elim h.3 [ inl m ↦ clash (sentinel-is r m.0 m.1 h.2) plain | inr m ↦ m.2 ]

-- "an inner record that leads to `near` on x's side and to `far` on the other"
sided-is : (b : Bool) (k r near far : ℕ) → sided b k r near far ≡ side_rec b k r near far
unfolding sided if_b
sided-is true k r near far = refl
sided-is false k r near far = refl

side-both : (b : Bool) (k r : ℕ) (z : Rec) → side_rec b k r (link b z) (link (not b) z) ≡ inner_of k r z.left z.right
side-both true k r z = refl
side-both false k r z = refl

-- pz leads to z, z to x, which is level: what grounds and test of every settling commit give. e and b are the sides of z and x, o is z's other child
pub record Pair (v : View) (g z x o : ℕ) (e b : Bool) : Type 0 where
  pub above : (v g).state ≡ 1
  pub to-z : link e (v g) ≡ z
  pub z_pos : z ≡ 0 → ⊥
  pub inner : (v z).left ≡ 0 → ⊥
  pub to-x : link b (v z) ≡ x
  pub x_pos : x ≡ 0 → ⊥
  pub to-o : o ≡ link (not b) (v z)
  pub ranks : (v z).rank ≡ (v x).rank
  pub small : (v x).rank ≤ 28
  pub levels : lv (v z).rank (v x).rank ≡ true
  pub steady : Steady v g z

-- ---- promote

pub promote-pair : (v : View) (t : Tree) → Carries v t → Shape t → (g z x o i l r : ℕ) (e b : Bool) → Pair v g z x o e b → l ≡ (v z).left → r ≡ (v z).right
    → (v z).rank ≤ suc (v o).rank → (v z).rank < 28 → (v i).state ≡ 0 → Changed v settles t g (upds v (fill i (inner_of (v z).number ((v z).rank + 1) l r) ∷ off z ∷ lead g e i ∷ []))
promote-pair v t c f g z x o i l r e b p el er near lim free =
    let more : (v z).rank + 1 ≡ suc (v z).rank = omega arith in
    rw (el, er, more, ← (side-both b (v z).number (suc (v z).rank) (v z)))
    (promote-seen v t c f g z i e b p.above p.to-z p.z_pos p.inner (omega arith) (rw p.to-x p.levels) (rw (← p.to-o) near) p.steady free)

-- ---- rotations: y and w are the children of x

module _ (v : View) (t : Tree) (c : Carries v t) (f : Shape t) (g z x o y w i k j : ℕ) (e b : Bool) (p : Pair v g z x o e b) (to-w : w ≡ link b (v x)) (to-y : y ≡ link (not b) (v x))
    (inner-x : (v x).left ≡ 0 → ⊥) (is : (v z).rank ≡ suc j) (far : suc (v o).rank ≤ j) (fi : (v i).state ≡ 0) (fk : (v k).state ≡ 0) (up : i < k) where
  abbrev rotating : ℕ → ℕ → List Write
  rotating rx rz = fill i (sided b (v x).number rx w k) ∷ fill k (sided b (v z).number rz y o) ∷ off z ∷ off x ∷ lead g e i ∷ []

  pub rotate1-pair : suc (v y).rank ≤ j → (rz : ℕ) → rz ≡ j → Changed v settles t g (upds v (rotating (v x).rank rz))
  rotate1-pair hy rz ez =
      rw (ez, sided-is b (v x).number (v x).rank w k, sided-is b (v z).number j y o, to-w, to-y, p.to-o, ← p.to-x)
      (rotate1-seen v t c g z i k j e b p.above p.to-z p.z_pos p.inner (rw p.to-x inner-x) is (rw p.to-x p.levels) fi fk up
      (omega (arith, p.ranks, p.small)) (rw (p.to-x, ← to-y) hy) (rw (← p.to-o) far))

  pub rotate2-pair : (v x).rank < 28 → (v y).rank ≡ j → (v w).rank ≡ j → (rx : ℕ) → rx ≡ suc (v x).rank → Changed v settles t g (upds v (rotating rx (v z).rank))
  rotate2-pair lim hy hw rx er =
      rw (er, is, sided-is b (v x).number (suc (v x).rank) w k, sided-is b (v z).number (suc j) y o, to-w, to-y, p.to-o, ← p.to-x)
      (rotate2-seen v t c g z i k j e b p.above p.to-z p.z_pos p.inner (rw p.to-x inner-x) is (rw p.to-x p.levels) fi fk up
      f p.steady (omega (arith, p.ranks)) (rw (p.to-x, ← to-y) hy) (rw (p.to-x, ← to-w) hw) (rw (← p.to-o) far))

-- ---- double rotation: a and d are the children of y on x's side and on the other

module _ (v : View) (t : Tree) (c : Carries v t) (g z x o y w a d i k l j : ℕ) (e : Bool) where
  abbrev doubling : Bool → ℕ → ℕ → ℕ → List Write
  doubling b ry rx rz =
      if_b b
      (fill i (inner_of (v y).number ry k l) ∷ fill k (sided b (v x).number rx w a) ∷ fill l (sided b (v z).number rz d o) ∷ off z ∷ off x ∷ off y ∷ lead g e i ∷ [])
      (fill i (inner_of (v y).number ry k l) ∷ fill k (sided b (v z).number rz d o) ∷ fill l (sided b (v x).number rx w a) ∷ off z ∷ off x ∷ off y ∷ lead g e i ∷ [])

  pub double-pair : (b : Bool) → Pair v g z x o e b → w ≡ link b (v x) → y ≡ link (not b) (v x) → a ≡ link b (v y) → d ≡ link (not b) (v y)
      → ((v x).left ≡ 0 → ⊥) → ((v y).left ≡ 0 → ⊥) → (v z).rank ≡ suc j → suc (v o).rank ≤ j → (v y).rank ≡ j → suc (v w).rank ≤ j
      → (v i).state ≡ 0 → (v k).state ≡ 0 → (v l).state ≡ 0 → i < k → k < l
      → (ry rx rz : ℕ) → ry ≡ suc j → rx ≡ j → rz ≡ j → Changed v settles t g (upds v (doubling b ry rx rz))
  unfolding if_b
  double-pair true p to-w to-y to-a to-d inner-x inner-y is far hy hw fi fk fl ik kl ry rx rz er ex ez =
      rw (er, ex, ez, sided-is true (v x).number j w a, sided-is true (v z).number j d o, to-a, to-d, to-w, to-y, p.to-o, ← p.to-x)
      (double-seen v t c g z i k l j e true p.above p.to-z p.z_pos p.inner (rw p.to-x inner-x) (rw (p.to-x, ← to-y) inner-y) is (rw p.to-x p.levels)
      (rw (p.to-x, ← to-y) hy) (rw (p.to-x, ← to-w) hw) (rw (← p.to-o) far) (omega (arith, p.ranks, p.small)) fi fk fl (ik, kl))
  double-pair false p to-w to-y to-a to-d inner-x inner-y is far hy hw fi fk fl ik kl ry rx rz er ex ez =
      rw (er, ex, ez, sided-is false (v x).number j w a, sided-is false (v z).number j d o, to-a, to-d, to-w, to-y, p.to-o, ← p.to-x)
      (double-seen v t c g z i l k j e false p.above p.to-z p.z_pos p.inner (rw p.to-x inner-x) (rw (p.to-x, ← to-y) inner-y) is (rw p.to-x p.levels)
      (rw (p.to-x, ← to-y) hy) (rw (p.to-x, ← to-w) hw) (rw (← p.to-o) far) (omega (arith, p.ranks, p.small)) fi fl fk (ik, kl))
