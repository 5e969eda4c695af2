-- Lists of numbers without one that stands twice.
use Prim.Native.Nat.{ℕ, suc, ◌≤◌}
use mathlib.Core.Path.{◌≡◌, refl, sym, ◌∙◌}
use mathlib.Core.List.{List, [], ◌∷◌, ◌++◌}
use mathlib.Core.Logic.{◌⊎◌, inl, inr, ◌≢◌}
use native.Mathlib.Omega.{arith}
use lib.ListN.{length}
use Rattle.grounds.specs.Order.{Among, Twice}

pub among_as : (xs : List ℕ) (a b : ℕ) → a ≡ b → Among xs a → Among xs b
among_as xs a b e h = rw e at h

pub among_left : (xs ys : List ℕ) (a : ℕ) → Among xs a → Among (xs ++ ys) a
among_left (x ∷ xs) ys a (inl h) = inl h
among_left (x ∷ xs) ys a (inr h) = inr (among_left xs ys a h)
among_left [] ys a h = elim h [ ]

pub among_right : (xs ys : List ℕ) (a : ℕ) → Among ys a → Among (xs ++ ys) a
among_right [] ys a h = h
among_right (x ∷ xs) ys a h = inr (among_right xs ys a h)

pub among_either : (xs ys : List ℕ) (a : ℕ) → Among (xs ++ ys) a → Among xs a ⊎ Among ys a
among_either [] ys a h = inr h
among_either (x ∷ xs) ys a (inl h) = inl (inl h)
among_either (x ∷ xs) ys a (inr h) = elim (among_either xs ys a h) [ inl i ↦ inl (inr i) | inr i ↦ inr i ]

-- two lists that have nothing in common
pub twice_append : (xs ys : List ℕ) → ¬ (Twice xs) → ¬ (Twice ys) → ((a : ℕ) → Among xs a → Among ys a → ⊥) → ¬ (Twice (xs ++ ys))
twice_append [] ys f g d h = g h
twice_append (x ∷ xs) ys f g d (inl h) =
    elim (among_either xs ys x h) [ inl i ↦ f (inl i) | inr i ↦ d x (inl refl) i ]
twice_append (x ∷ xs) ys f g d (inr h) = twice_append xs ys (λ i. f (inr i)) g (λ a i. d a (inr i)) h

-- a list without its number x
record Cut (x : ℕ) (ys : List ℕ) : Type 0 where
  rest : List ℕ
  shorter : length ys ≡ suc (length rest)
  others : (a : ℕ) → a ≢ x → Among ys a → Among rest a

cut : (x : ℕ) (ys : List ℕ) → Among ys x → Cut x ys
cut x (y ∷ ys) (inl h) =
    record { rest = ys; shorter = refl; others = λ a d i. elim i [ inl e ↦ absurd (d (e ∙ sym h)) | inr j ↦ j ] }
cut x (y ∷ ys) (inr h) =
    let c = cut x ys h in
    record {
      rest = y ∷ c.rest;
      shorter = let e = c.shorter in omega arith;
      others = λ a d i. elim i [ inl e ↦ inl e | inr j ↦ inr (c.others a d j) ];
    }
cut x [] h = elim h [ ]

-- what is in the second list, each once, is no more than the second list
pub no_longer : (xs ys : List ℕ) → ¬ (Twice xs) → ((a : ℕ) → Among xs a → Among ys a) → length xs ≤ length ys
no_longer [] ys f g = omega arith
no_longer (x ∷ xs) ys f g =
    let c = cut x ys (g x (inl refl)) in
    let e = c.shorter in
    let r = no_longer xs c.rest (λ h. f (inr h)) (λ a i. c.others a (λ q. f (inl (among_as xs a x q i))) (g a (inr i))) in
    omega arith
