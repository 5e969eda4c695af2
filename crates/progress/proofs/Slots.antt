-- NO WALK IS LONGER than the table has slots, whatever the table holds: a way that comes to an end passes no slot twice.
use Prim.Native.Nat.{◌<◌, ◌≤◌, suc, zero, ℕ}
use lib.ListN.{get_or, length, length-replicate, length-set, replicate, set}
use lib.Seq.{get_or-set_other}
use mathlib.Core.List.{List}
use mathlib.Core.Logic.{◌⊎◌, inl, inr}
use mathlib.Core.Path.{◌≡◌, ◌∙◌, ap, refl, sym, subst}
use native.Mathlib.Omega.{arith}
use Rattle.demand2.proofs.Counts.{all_alike}
use Rattle.machine.proofs.Marks.{unmarked, unmarked-all, unmarked-set}
use Rattle.machine.specs.Table.{View, view}
use Rattle.routes.specs.Route.{next}
use Rattle.machine.specs.Record.{free_rec}
use Rattle.terms.specs.declared.Rec.{Rec}
use Rattle.views.proofs.Law.{in_or_out, outside}
use Rattle.views.specs.Update.{link}
use lib.Dec.{ltb}
use mathlib.Core.Bool.{Bool, false, true}
use Rattle.progress.specs.Stale.{Walked}

module _ (v : View) (k : ℕ) where
  -- b is one of the first l slots from a on
  abbrev On : ℕ → ℕ → ℕ → Type 0
  On a zero b = ⊥
  On a (suc l) b = (b ≡ a) ⊎ On (next v k a) l b

  one-length : (a l W : ℕ) → Walked v k a l → Walked v k a W → l ≡ W
  one-length a zero zero x y = refl
  one-length a zero (suc W) x y = absurd (y.0 x)
  one-length a (suc l) zero x y = absurd (x.0 y)
  one-length a (suc l) (suc W) x y = let q = one-length (next v k a) l W x.1 y.1 in omega arith

  -- from there on the way is no longer
  on-walked : (a l b : ℕ) → Walked v k a l → On a l b → (W : ℕ) × (W ≤ l) × Walked v k b W
  on-walked a (suc l) b w (inl e) = (suc l, omega arith, subst (λ x. Walked v k x (suc l)) (sym e) w)
  on-walked a (suc l) b w (inr o) = let r = on-walked (next v k a) l b w.1 o in (r.0, omega (arith, r.1), r.2)
  on-walked a zero b w h = elim h [ ]

  not_again : (a l : ℕ) → Walked v k a (suc l) → On (next v k a) l a → ⊥
  not_again a l w o = let r = on-walked (next v k a) l a w.1 o in omega (arith, r.1, one-length a (suc l) r.0 w r.2)

  module _ (n : ℕ) (inside : (x : ℕ) → (next v k x ≡ 0 → ⊥) → x < n) where
    by_marks : (l a : ℕ) (m : List ℕ) → length m ≡ n → Walked v k a l → ((b : ℕ) → On a l b → get_or m b 0 ≡ 0) → l ≤ unmarked m
    by_marks zero a m e w clear = omega arith
    by_marks (suc l) a m e w clear =
        let lt : a < length m = omega (arith, inside a w.0) in
        let q = by_marks l (next v k a) (set m a 1) (length-set m a 1 ∙ e) w.1 (λ b o. still b o) in
        omega (arith, unmarked-set m a lt (clear a (inl refl)))
      where
        still : (b : ℕ) → On (next v k a) l b → get_or (set m a 1) b 0 ≡ 0
        still b o = get_or-set_other m a b 1 0 (λ x. not_again a l w (subst (On (next v k a) l) x o)) ∙ clear b (inr o)

    walked_slots : (l a : ℕ) → Walked v k a l → l ≤ n
    walked_slots l a w = omega (arith, by_marks l a zeros long w (λ b o. all_alike n b 0), unmarked-all n)
      where
        zeros : List ℕ
        zeros = replicate n 0

        long : length zeros ≡ n
        long = length-replicate n 0

-- a slot with a link is in the table
linked-inside : (n : ℕ) (t : List ℕ) (k x : ℕ) → (next (view n t) k x ≡ 0 → ⊥) → x < n
unfolding next
linked-inside n t k x h =
    elim (in_or_out x n) [
      | inl lt ↦ lt
      | inr ge ↦ absurd (h (ap (λ (r : Rec). link (ltb k r.number) r) (outside n t x ge) ∙ free (ltb k 0)))
    ]
  where
    free : (b : Bool) → link b free_rec ≡ 0
    free true = refl
    free false = refl

-- THE LAW
pub walk_fits : (n : ℕ) (t : List ℕ) (k a l : ℕ) → Walked (view n t) k a l → l ≤ n
walk_fits n t k a l w = walked_slots (view n t) k n (linked-inside n t k) l a w
