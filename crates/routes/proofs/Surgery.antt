-- One record for every commit, and what follows from it: where tokens go, what tasks remember, which level records are new.
use Prim.Native.Nat.{◌<◌, ◌≤◌, ℕ}
use borrow.Author.Tests.{eq-eqb, eqb-true, ne_eqb}
use lib.Dec.{eqb}
use mathlib.Core.Logic.{◌⊎◌, inl, inr}
use mathlib.Core.Path.{◌≡◌, refl, subst, sym}
use native.Mathlib.Omega.{arith}
use Rattle.machine.proofs.Choice.{if_elim, if_false, if_true}
use Rattle.machine.specs.Choice.{if_b}
use Rattle.machine.specs.Table.{View}
use Rattle.routes.proofs.Kept.{Fate, good-kept, meets_kept, walk_full}
use Rattle.routes.proofs.Level.{below-here, lev_at-le, level-above}
use Rattle.routes.proofs.Swap.{Moved, Swap, goes, keep, stays, swap_above, swap_has}
use Rattle.routes.specs.Route.{Good, Has, Meets, full, lev_at, next, route}
use Rattle.trees.proofs.Held.{Carries, ind-le, zero_out}
use Rattle.trees.proofs.Plug.{ind-other}
use Rattle.trees.specs.Tree.{Tree, occ}
use Rattle.views.proofs.Law.{same_or}

-- taken off, as a view says
abbrev pub Off : View → ℕ → Type 0
Off w y = (w y).state ≡ 2

-- a commit: the view v of tree t becomes the view w of tree t'; x is the fresh record at the changed place, and y the record whose token goes to x
pub record Surgery (v w : View) (t t' : Tree) (x y : ℕ) : Type 0 where
  pub before : Carries v t
  pub after : Carries w t'
  pub fate : (s : ℕ) → Fate v (v s) (w s)
  pub routes : (k : ℕ) → Swap (Off w) x y (route k t) (route k t')
  pub inside : 1 ≤ occ y t
  pub lost : lev_at 255 y t' ≡ 0
  pub others : (b : ℕ) → (b ≡ x → ⊥) → lev_at 255 b t' ≤ lev_at 255 b t

-- its new top is level only if y was
abbrev pub From : Tree → Tree → ℕ → ℕ → Type 0
From t t' x y = 1 ≤ lev_at 255 x t' → 1 ≤ lev_at 255 y t

-- where a token goes
unfoldable pub moves : ℕ → ℕ → ℕ → ℕ
moves x y b = if_b (eqb b y) x b

pub moves-hit : (x y : ℕ) → moves x y y ≡ x
unfolding moves
moves-hit x y = rw (eq-eqb y y refl) (if_true x y)

pub moves-miss : (x y b : ℕ) → (b ≡ y → ⊥) → moves x y b ≡ b
unfolding moves
moves-miss x y b d = rw (ne_eqb b y d) (if_false x b)

pub in_tree_lem : (v : View) (t : Tree) (b : ℕ) → Carries v t → 1 ≤ occ b t → (v b).state ≡ 1
in_tree_lem v t b i o = elim (same_or (v b).state 1) [ inl e ↦ e | inr n ↦ absurd (omega (arith, i.ones b, ind-other (v b).state 1 n)) ]

pub at_most : (v : View) (t : Tree) (b : ℕ) → Carries v t → occ b t ≤ 1
at_most v t b i = omega (arith, i.ones b, ind-le (v b).state 1)

module _ {v w : View} {t t' : Tree} {x y : ℕ} (g : Surgery v w t t' x y) where
  -- the record that a token goes to is in the tree if it is level
  moved : (b : ℕ) → 1 ≤ lev_at 255 (moves x y b) t' → Moved (Off w) x y b (moves x y b)
  unfolding moves
  moved b =
      if_elim (λ b'. 1 ≤ lev_at 255 b' t' → Moved (Off w) x y b b') (eqb b y)
      (λ q is. goes (eqb-true b y q)) (λ q is. stays (λ o. omega (arith, o, in_tree_lem w t' b g.after (omega (arith, lev_at-le 255 b t')))))

  y_pos : y ≡ 0 → ⊥
  y_pos e = let z : 1 ≤ occ 0 t = subst (λ s. 1 ≤ occ s t) e g.inside in omega (arith, zero_out v t g.before)

  pub moves-zero : moves x y 0 ≡ 0
  moves-zero = moves-miss x y 0 (λ e. y_pos (sym e))

  -- COV: a level record after the commit is the new top, or was level before and keeps its token
  pub surgery_cover : (b : ℕ) → 1 ≤ lev_at 255 b t' → (b ≡ x) ⊎ ((1 ≤ lev_at 255 b t) × (moves x y b ≡ b))
  surgery_cover b h =
      elim (same_or b x) [
        | inl e ↦ inl e
        | inr n ↦ inr (omega (arith, g.others b n), moves-miss x y b (λ e. lost-too e))
      ]
    where
      lost-too : b ≡ y → ⊥
      lost-too e = let z : 1 ≤ lev_at 255 y t' = subst (λ s. 1 ≤ lev_at 255 s t') e h in omega (arith, g.lost)

  module _ (k : ℕ) (lt : k < 4294967295) where
    kept : (a : ℕ) → (w a).state ≡ 1 → Off w a → ⊥
    kept a one o = omega (arith, one, o)

    whole : Swap (Off w) x y (full k t) (full k t')
    whole = keep y_pos (g.routes k)

    -- LP
    pub surgery_has : (b : ℕ) → 1 ≤ lev_at 255 (moves x y b) t' → Has b (route k t) → Has (moves x y b) (route k t')
    surgery_has b is h = swap_has (g.routes k) (moved b is) h

    -- MM
    pub surgery_meets : (b a : ℕ) → 1 ≤ lev_at 255 (moves x y b) t' → Meets v (full k t) k b a → Meets w (full k t') k (moves x y b) a
    surgery_meets b a is m =
        meets_kept v w g.fate k b (moves x y b) (full k t') (full k t) (walk_full v k t lt g.before)
        (λ s one h. below-here s k (moves x y b) t' (at_most w t' _ g.after) is
        (swap_above s whole (moved b is) (kept s one) (level-above s b (full k t) h)))
        a m

    -- GM
    pub surgery_good : (W W' : ℕ → ℕ → Type 0) → ((s p : ℕ) → W s p → W' s p) → ((a : ℕ) → Has a (full k t) → next v k a ≡ 0 → W' (v a).number (v a).price) → (a : ℕ) → Good W v (full k t) k a → Good W' w (full k t') k a
    surgery_good W W' up now a m =
        good-kept v w g.fate k W W' up (full k t') (full k t) (walk_full v k t lt g.before)
        (λ s one h. swap_has whole (stays (kept s one)) h) now a m
