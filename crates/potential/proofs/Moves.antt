-- What each commit makes of the potential of the whole tree: a put-in raises it by 2 at most, and no other commit raises it.
use Prim.Native.Nat.{◌+◌, ◌-◌, ◌<◌, ◌≤◌, suc, ℕ}
use borrow.Author.Tests.{ne_eqb}
use lib.Dec.{eqb}
use mathlib.Core.Bool.{Bool, false, true}
use mathlib.Core.Logic.{inl, inr}
use mathlib.Core.Path.{◌∙◌, ◌≡◌, refl}
use native.Mathlib.Omega.{arith}
use Rattle.commits.proofs.Forms.{deep, flat, lean, rank-join, turn}
use Rattle.machine.specs.Allowed.{fib}
use Rattle.machine.specs.Choice.{if_b}
use Rattle.potential.proofs.Weights.{dbl, farther-by, fib-far, fib-step, nearer, promoted, rot1, weight-sym}
use Rattle.potential.specs.Potential.{owes, phi, phi_c, root_share, weight}
use Rattle.routes.specs.Route.{rank_c}
use Rattle.trees.specs.Rank.{rank}
use Rattle.trees.specs.Tree.{Ctx, Tree, hole, join, plug, top}
use Rattle.views.proofs.Law.{in_or_out}

-- ---- what a record owes

pub owes-plain : (rk q p : ℕ) → rk < 255 → owes rk q p ≡ weight rk (rk - q) (rk - p)
unfolding owes if_b
owes-plain rk q p h = rw (ne_eqb rk 255 (λ e. omega arith)) refl

pub owes-sentinel : (q p : ℕ) → owes 255 q p ≡ root_share q + root_share p
unfolding owes if_b
owes-sentinel q p = refl

pub share_plain : (q : ℕ) → q < 255 → root_share q ≡ fib (suc (suc (suc q)))
unfolding root_share if_b
share_plain q h = rw (ne_eqb q 255 (λ e. omega arith)) refl

pub share_sentinel : root_share 255 ≡ 0
unfolding root_share if_b
share_sentinel = refl

owes-sym : (rk q p : ℕ) → owes rk q p ≡ owes rk p q
unfolding owes if_b
owes-sym rk q p = go (eqb rk 255)
  where
    go : (b : Bool) → if_b b (root_share q + root_share p) (weight rk (rk - q) (rk - p)) ≡ if_b b (root_share p + root_share q) (weight rk (rk - p) (rk - q))
    go true = omega arith
    go false = weight-sym rk (rk - q) (rk - p)

pub phi-join : (b : Bool) (s k rk : ℕ) (t u : Tree) → phi (join b s k rk t u) ≡ owes rk (rank t) (rank u) + phi t + phi u
phi-join true s k rk t u = refl
phi-join false s k rk t u = omega (arith, owes-sym rk (rank u) (rank t))

pub phi-plug : (c : Ctx) (t : Tree) → phi (plug c t) ≡ phi_c (rank t) c + phi t
phi-plug top t = omega arith
phi-plug (hole b s k rk u c) t =
    phi-plug c (join b s k rk t u) ∙ rw (rank-join b s k rk t u, phi-join b s k rk t u) (omega arith)

-- ---- the record above

-- the rank in the hole rises by one
raise-owes : (rk q p : ℕ) → suc q ≤ rk → rk ≤ 255 → suc q < 255 → owes rk (suc q) p ≤ owes rk q p + fib (suc (suc q))
raise-owes rk q p h lim b =
    elim (in_or_out rk 255) [
      | inl small ↦ (
          let e₁ : suc q + (rk - suc q) ≡ rk = omega arith in
          let e₂ : suc (rk - suc q) ≡ rk - q = omega arith in
          let n = rw (e₁, e₂) at (nearer q (rk - suc q) (rk - p)) in
          rw (owes-plain rk (suc q) p small, owes-plain rk q p small) n
          )
      | inr big ↦ (
          let e : rk ≡ 255 = omega arith in
          rw (e, owes-sentinel (suc q) p, owes-sentinel q p) (omega (arith, share_plain (suc q) b, share_plain q (omega arith), fib-step (suc (suc q))))
          )
    ]

pub raise : (c : Ctx) (q : ℕ) → suc q ≤ rank_c c → rank_c c ≤ 255 → suc q < 255 → phi_c (suc q) c ≤ phi_c q c + fib (suc (suc q))
raise top q h lim b = omega arith
raise (hole d s k rk u c) q h lim b = omega (arith, raise-owes rk q (rank u) h lim b)

-- it falls
lower-plain : (rk q p r : ℕ) → q ≤ p → p ≤ rk → rk ≤ 255 → p < 255 → owes rk q r ≤ owes rk p r
lower-plain rk q p r h l lim b =
    elim (in_or_out rk 255) [
      | inl small ↦ (
          let z : (p - q) + (rk - p) ≡ rk - q = omega arith in
          let n = rw z at (farther-by rk (rk - p) (rk - r) (p - q)) in
          rw (owes-plain rk q r small, owes-plain rk p r small) n
          )
      | inr big ↦ (
          let e : rk ≡ 255 = omega arith in
          let z : (p - q) + suc (suc (suc q)) ≡ suc (suc (suc p)) = omega arith in
          let n : fib (suc (suc (suc q))) ≤ fib (suc (suc (suc p))) = rw z at (fib-far (suc (suc (suc q))) (p - q)) in
          rw (e, owes-sentinel q r, owes-sentinel p r, share_plain q (omega arith), share_plain p b) (omega arith)
          )
    ]

pub lower : (c : Ctx) (q p : ℕ) → q ≤ p → p ≤ rank_c c → rank_c c ≤ 255 → p < 255 → phi_c q c ≤ phi_c p c
lower top q p h l lim b = omega arith
lower (hole d s k rk u c) q p h l lim b = omega (arith, lower-plain rk q p (rank u) h l lim b)

-- under a sentinel, in the place of a sentinel
pub lower-sentinel : (c : Ctx) (q : ℕ) → rank_c c ≡ 255 → phi_c q c ≤ phi_c 255 c + root_share q
lower-sentinel top q e = omega arith
lower-sentinel (hole d s k rk u c) q e = rw (e, owes-sentinel q (rank u), owes-sentinel 255 (rank u), share_sentinel) (omega arith)

-- ---- the moves, each at its place

-- the sums, apart from the differences
sum₁ : (S A B C D p q r : ℕ) → A + B ≤ C + D → S + (A + p + (B + q + r)) ≤ S + (C + (D + p + q) + r)
sum₁ S A B C D p q r h = omega arith

sum₂ : (S A B C D E F p q₁ q₂ r : ℕ) → A + B + C ≤ D + E + F → S + (A + (B + p + q₁) + (C + q₂ + r)) ≤ S + (D + (E + p + (F + q₁ + q₂)) + r)
sum₂ S A B C D E F p q₁ q₂ r h = omega arith

d0 : (j : ℕ) → j - j ≡ 0
d0 j = omega arith

d1 : (j : ℕ) → suc j - j ≡ 1
d1 j = omega arith

d2 : (j : ℕ) → suc (suc j) - j ≡ 2
d2 j = omega arith

below1 : (j a : ℕ) → suc a ≤ j → j - a ≡ suc (j - suc a)
below1 j a h = omega arith

below2 : (j a : ℕ) → suc a ≤ j → suc j - a ≡ suc (suc (j - suc a))
below2 j a h = omega arith

pub promote-phi : (b : Bool) (c : Ctx) (z z' k r : ℕ) (x s : Tree) → suc r ≤ rank_c c → rank_c c ≤ 255 → suc r ≤ 28 → rank x ≡ r → rank s ≤ r → r ≤ suc (rank s)
    → phi (plug c (join b z' k (suc r) x s)) ≤ phi (plug c (join b z k r x s))
promote-phi b c z z' k r x s u lim small ex hs hs' =
    let e : suc r - rank s ≡ suc (r - rank s) = omega arith in
    let was : owes r (rank x) (rank s) ≡ weight r 0 (r - rank s) = owes-plain r (rank x) (rank s) (omega arith) ∙ rw (ex, d0 r) refl in
    let is : owes (suc r) (rank x) (rank s) ≡ weight (suc r) 1 (suc (r - rank s)) = owes-plain (suc r) (rank x) (rank s) (omega arith) ∙ rw (ex, d1 r, e) refl in
    let own = promoted r (r - rank s) (omega arith) in
    let up = raise c r u lim (omega arith) in
    simp (phi-plug, rank-join, phi-join) (add _ _ _ _ _ _ _ _ _ was is own up)
  where
    add : (A B W U P Q F x₁ s₁ : ℕ) → A ≡ W → B ≡ U → U + F ≤ W → P ≤ Q + F → P + (B + x₁ + s₁) ≤ Q + (A + x₁ + s₁)
    add A B W U P Q F x₁ s₁ a b h g = omega arith

pub rotate1-phi : (b : Bool) (c : Ctx) (z x x' z' kx kz j : ℕ) (w y s : Tree) → suc j ≤ 28 → suc (rank y) ≤ j → suc (rank s) ≤ j
    → phi (plug c (turn b x' z' kx kz (suc j) j w y s)) ≤ phi (plug c (lean b z x kx kz (suc j) (suc j) w y s))
rotate1-phi b c z x x' z' kx kz j w y s small hy hs =
    let lt : suc j < 255 = omega arith in
    let lt' : j < 255 = omega arith in
    simp (phi-plug, rank-join, phi-join, owes-plain (suc j) (rank w) j lt, owes-plain j (rank y) (rank s) lt', owes-plain (suc j) (suc j) (rank s) lt, owes-plain (suc j) (rank w) (rank y) lt, d0, d1, below1 j (rank y) hy, below2 j (rank y) hy, below1 j (rank s) hs, below2 j (rank s) hs)
    (sum₁ _ _ _ _ _ _ _ _ (rot1 j (suc j - rank w) (j - suc (rank y)) (j - suc (rank s))))

pub rotate2-phi : (b : Bool) (c : Ctx) (z x x' z' kx kz j : ℕ) (w y s : Tree) → suc (suc j) ≤ rank_c c → rank_c c ≤ 255 → suc (suc j) ≤ 28 → rank y ≡ j → rank w ≡ j → suc (rank s) ≤ j
    → phi (plug c (turn b x' z' kx kz (suc (suc j)) (suc j) w y s)) ≤ phi (plug c (lean b z x kx kz (suc j) (suc j) w y s))
rotate2-phi b c z x x' z' kx kz j w y s u lim small hy hw hs =
    let lt : suc (suc j) < 255 = omega arith in
    let lt' : suc j < 255 = omega arith in
    simp (phi-plug, rank-join, phi-join, hy, hw, owes-plain (suc (suc j)) j (suc j) lt, owes-plain (suc j) j (rank s) lt', owes-plain (suc j) (suc j) (rank s) lt', owes-plain (suc j) j j lt', d0, d1, d2, below2 j (rank s) hs)
    (omega (arith, raise c (suc j) u lim lt, fib-step (suc j)))

pub double-phi : (b : Bool) (c : Ctx) (z x y x' y' z' kx ky kz j : ℕ) (w y₁ y₂ s : Tree) → suc j ≤ 28 → suc (rank w) ≤ j → suc (rank s) ≤ j
    → phi (plug c (flat b y' x' z' kx ky kz (suc j) j j w y₁ y₂ s)) ≤ phi (plug c (deep b z x y kx ky kz (suc j) (suc j) j w y₁ y₂ s))
double-phi b c z x y x' y' z' kx ky kz j w y₁ y₂ s small hw hs =
    let lt : suc j < 255 = omega arith in
    let lt' : j < 255 = omega arith in
    simp (phi-plug, rank-join, phi-join, owes-plain (suc j) j j lt, owes-plain j (rank w) (rank y₁) lt', owes-plain j (rank y₂) (rank s) lt', owes-plain (suc j) (suc j) (rank s) lt, owes-plain (suc j) (rank w) j lt, owes-plain j (rank y₁) (rank y₂) lt', d0, d1, below1 j (rank w) hw, below2 j (rank w) hw, below1 j (rank s) hs, below2 j (rank s) hs)
    (sum₂ _ _ _ _ _ _ _ _ _ _ _ (dbl j (j - suc (rank w)) (j - suc (rank s)) (j - rank y₁) (j - rank y₂)))
