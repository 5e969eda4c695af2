-- What a commit does to a route: nothing, or from one place on the records that are taken off leave it and fresh ones come, the first of them x.
-- The token of y, and of no other record, goes to x.
use Prim.Native.Nat.{ℕ}
use lib.Dec.{ltb}
use mathlib.Core.Bool.{Bool, false, true}
use mathlib.Core.Logic.{inl, inr}
use mathlib.Core.Path.{◌∙◌, ◌≡◌, refl, sym}
use native.Mathlib.Omega.{arith}
use Rattle.machine.specs.Choice.{if_b}
use Rattle.routes.proofs.Level.{above_has, has_occ}
use Rattle.routes.specs.Route.{Above, Has, Route, route, stop, via}
use Rattle.trees.proofs.Plug.{ind-eq}
use Rattle.trees.specs.Tree.{Ctx, Tree, hole, node, occ, occ_c, plug, top}

-- from the place on: taken-off records go, any records come, and the rest, which has nothing above y, stays as it was; or the old route ends there
pub data Patch (Off : ℕ → Type 0) (y : ℕ) : Route → Route → Type 0 where
  rest : {L : Route} → ((a : ℕ) → Above a y L → ⊥) → Patch Off y L L
  drop : {s r : ℕ} {L M : Route} → Off s → Patch Off y L M → Patch Off y (via s r L) M
  add : {s r : ℕ} {L M : Route} → Patch Off y L M → Patch Off y L (via s r M)
  done : {M : Route} → Patch Off y stop M

pub data Swap (Off : ℕ → Type 0) (x y : ℕ) : Route → Route → Type 0 where
  same : {L : Route} → (Has y L → ⊥) → Swap Off x y L L
  keep : {s r : ℕ} {L M : Route} → (y ≡ s → ⊥) → Swap Off x y L M → Swap Off x y (via s r L) (via s r M)
  patch : {r : ℕ} {L M : Route} → Patch Off y L (via x r M) → Swap Off x y L (via x r M)

-- where the token of b goes
pub data Moved (Off : ℕ → Type 0) (x y b : ℕ) : ℕ → Type 0 where
  stays : (Off b → ⊥) → Moved Off x y b b
  goes : b ≡ y → Moved Off x y b x

patch_has : {Off : ℕ → Type 0} {y : ℕ} {L M : Route} (b : ℕ) → Patch Off y L M → (Off b → ⊥) → Has b L → Has b M
patch_has b (rest z) n h = h
patch_has b (drop o p) n (inl e) = absurd (n (rw e o))
patch_has b (drop o p) n (inr h) = patch_has b p n h
patch_has b (add p) n h = inr (patch_has b p n h)
patch_has b done n h = absurd h

-- what stands below a record that stays, stays below it; and y does not
patch_above : {Off : ℕ → Type 0} {y : ℕ} {L M : Route} (a b : ℕ) → Patch Off y L M → (Off a → ⊥) → Above a b L → Above a b M
patch_above a b (rest z) n h = h
patch_above a b (drop o p) n (inl h) = absurd (n (rw h.0 o))
patch_above a b (drop o p) n (inr h) = patch_above a b p n h
patch_above a b (add p) n h = inr (patch_above a b p n h)
patch_above a b done n h = absurd h

patch_top : {Off : ℕ → Type 0} {y : ℕ} {L M : Route} (a : ℕ) → Patch Off y L M → (Off a → ⊥) → Above a y L → ⊥
patch_top a (rest z) n h = z a h
patch_top a (drop o p) n (inl h) = n (rw h.0 o)
patch_top a (drop o p) n (inr h) = patch_top a p n h
patch_top a (add p) n h = patch_top a p n h
patch_top a done n h = h

pub swap_has : {Off : ℕ → Type 0} {x y b b' : ℕ} {L M : Route} → Swap Off x y L M → Moved Off x y b b' → Has b L → Has b' M
swap_has (same z) (stays n) h = h
swap_has {y = y} {L = L} (same z) (goes e) h = absurd (z (rw e at h))
swap_has (keep z w) (stays n) (inl e) = inl e
swap_has (keep z w) (goes q) (inl e) = absurd (z (sym q ∙ e))
swap_has (keep z w) (stays n) (inr h) = inr (swap_has w (stays n) h)
swap_has (keep z w) (goes q) (inr h) = inr (swap_has w (goes q) h)
swap_has {b = b} (patch p) (stays n) h = patch_has b p n h
swap_has (patch p) (goes q) h = inl refl

pub swap_above : {Off : ℕ → Type 0} {x y b b' : ℕ} {L M : Route} (a : ℕ) → Swap Off x y L M → Moved Off x y b b' → (Off a → ⊥) → Above a b L → Above a b' M
swap_above a (same z) (stays n) na h = h
swap_above {b = b} {L = L} a (same z) (goes e) na h = absurd (z (rw e at (above_has a b L h)))
swap_above a (keep z w) m na (inl h) = inl (h.0, swap_has w m h.1)
swap_above a (keep z w) m na (inr h) = inr (swap_above a w m na h)
swap_above {b = b} a (patch p) (stays n) na h = patch_above a b p na h
swap_above a (patch p) (goes e) na h = absurd (patch_top a p na (rw e at h))

-- a change at one place of the tree, outside of which y does not stand
swap_if : {Off : ℕ → Type 0} {x y : ℕ} {L M N O : Route} (d : Bool) → Swap Off x y L M → Swap Off x y N O → Swap Off x y (if_b d L N) (if_b d M O)
unfolding if_b
swap_if true w u = w
swap_if false w u = u

pub has_not : (k y : ℕ) (t : Tree) → occ y t ≡ 0 → Has y (route k t) → ⊥
has_not k y t z h = omega (arith, has_occ k y t h)

pub swap_plug : {Off : ℕ → Type 0} {x y : ℕ} (k : ℕ) (c : Ctx) (t u : Tree) → occ_c y c ≡ 0 → Swap Off x y (route k t) (route k u) → Swap Off x y (route k (plug c t)) (route k (plug c u))
swap_plug k top t u z w = w
swap_plug {y = y} k (hole true s key rk o c) t u z w =
    swap_plug k c (node s key rk t o) (node s key rk u o) (omega arith) (keep (λ e. omega (arith, ind-eq y s e)) (swap_if (ltb k key) w (same (has_not k y o (omega arith)))))
swap_plug {y = y} k (hole false s key rk o c) t u z w =
    swap_plug k c (node s key rk o t) (node s key rk o u) (omega arith) (keep (λ e. omega (arith, ind-eq y s e)) (swap_if (ltb k key) (same (has_not k y o (omega arith))) w))
