-- The numbers of a task by phase and count are those of the task that they read as.
use mathlib.Core.Path.{◌≡◌, refl, sym, ◌∙◌}
use mathlib.Core.Bool.{Bool, true, false, ◌&&◌}
use mathlib.Core.List.{List, [], ◌∷◌, ◌++◌}
use Prim.Native.Nat.{ℕ, zero, suc, ◌+◌, ◌-◌, ◌≤◌}
use native.Mathlib.Omega.{arith}
use lib.Dec.{eqb, leb}
use lib.ListN.{length, get_or, take, drop, length-drop}
use lib.Seq.{take-suc}
use Rattle.std.proofs.lemmas.List.{get_or-drop}
use Rattle.std.specs.List.{fold}
use Rattle.std.proofs.lemmas.Bool.{lt-leb}
use Rattle.std.proofs.lemmas.Bool.Decides.{nat_tests}
use borrow.Author.Tests.{eq-eqb, eqb-true}
use Rattle.terms.specs.declared.Job.{Job}
use Rattle.terms.specs.declared.Path.{Path}
use Rattle.terms.specs.declared.SettleStage.{SettleStage}
use Rattle.terms.specs.declared.SettleStage.TheVariants.{SettleGrand, SettleParent, SettleChoose, SettleRotate, SettleDouble}
use Rattle.machine.specs.Choice.{if_b}
use Rattle.statecode.specs.Code.{work_row, settle_row, goal_number, goal_by, put_by, take_by, settle_by, phase_by, task_by}
use Rattle.statecode.specs.Own.{clear_from, own_goal, own_noted, own_row, own_by}
use Rattle.statecode.proofs.Inverse.{length_row}
use Rattle.statecode.proofs.Own.{up_to, same-fifteen}

by_test : (P : Type 0) (b : Bool) → (b ≡ true → P) → (b ≡ false → P) → P
by_test P true t f = t refl
by_test P false t f = f refl

-- by whether a number is this one
is_or_not : (P : Type 0) (x n : ℕ) → (x ≡ n → P) → ((eqb x n ≡ false) × (eqb n x ≡ false) → P) → P
is_or_not P x n t f =
    by_test P (eqb x n) (λ e. t (eqb-true x n e))
    (λ e. f (e, by_test (eqb n x ≡ false) (eqb n x) (λ z. absurd (let y : eqb x n ≡ true = eq-eqb x n (sym (eqb-true n x z)) in let q : true ≡ false = sym y ∙ e in let r : ◌≡◌ {A = ℕ} 0 1 = cc in omega arith)) (λ z. z)))

self : (x : ℕ) → eqb x x ≡ true
self x = eq-eqb x x refl

above-two : (x : ℕ) → eqb x 0 ≡ false → eqb x 1 ≡ false → eqb x 2 ≡ false → leb x 2 ≡ false
above-two zero a b c = cc
above-two (suc zero) a b c = cc
above-two (suc (suc zero)) a b c = cc
above-two (suc (suc (suc x))) a b c = lt-leb (suc (suc (suc x))) 2 (omega arith)

first-settle : (j : Job) (q : Path) (s : SettleStage) → get_or (settle_row j q s) 0 0 ≡ 5
first-settle j q SettleGrand = refl
first-settle j q (SettleParent a) = refl
first-settle j q (SettleChoose a b) = refl
first-settle j q (SettleRotate a b c) = refl
first-settle j q (SettleDouble a b c d) = refl

fold_last : (f : Bool → ℕ → Bool) (a : Bool) (xs : List ℕ) (y : ℕ) → fold f a (xs ++ y ∷ []) ≡ f (fold f a xs) y
fold_last f a [] y = refl
fold_last f a (x ∷ xs) y = fold_last f (f a x) xs y

eqb_turned : (x : ℕ) → eqb x 0 ≡ eqb 0 x
eqb_turned x = grind (arith, nat_tests)

-- so many places from one on are 0, one after another
unfoldable clear_steps : ℕ → ℕ → List ℕ → Bool
clear_steps from zero w = true
clear_steps from (suc n) w = clear_steps from n w && eqb 0 (get_or w (from + n) 0)

clear_all : (w : List ℕ) (from n : ℕ) → from + n ≤ length w → fold (λ clear x. clear && eqb x 0) true (take n (drop from w)) ≡ clear_steps from n w
unfolding clear_steps
clear_all w from zero h = refl
clear_all w from (suc n) h =
    rw (
      take-suc (drop from w) n 0 (omega (arith, length-drop from w)),
      fold_last (λ clear x. clear && eqb x 0) true (take n (drop from w)) (get_or (drop from w) n 0),
      clear_all w from n (omega arith),
      get_or-drop from w n 0,
      eqb_turned (get_or w (from + n) 0),
    )
    refl

module _ (w : List ℕ) (h : 15 ≤ length w) where
  abbrev f : ℕ
  f = get_or w 0 0

  abbrev k : ℕ
  k = get_or w 3 0

  abbrev Own : Type 0
  Own = up_to 15 (work_row (task_by w).work) w ≡ own_by f k w

  clears : (from n : ℕ) → from + n ≡ 15 → clear_from from w ≡ clear_steps from n w
  unfolding clear_from
  clears from n e = let z : 15 - from ≡ n = omega arith in rw z (clear_all w from n (omega arith))

  c0 : clear_from 0 w ≡ clear_steps 0 15 w
  c0 = clears 0 15 refl

  c4 : clear_from 4 w ≡ clear_steps 4 11 w
  c4 = clears 4 11 refl

  c7 : clear_from 7 w ≡ clear_steps 7 8 w
  c7 = clears 7 8 refl

  c9 : clear_from 9 w ≡ clear_steps 9 6 w
  c9 = clears 9 6 refl

  c11 : clear_from 11 w ≡ clear_steps 11 4 w
  c11 = clears 11 4 refl

  c13 : clear_from 13 w ≡ clear_steps 13 2 w
  c13 = clears 13 2 refl

  at-idle : f ≡ 0 → Own
  unfolding up_to task_by if_b own_by clear_steps
  at-idle e = simp (e, c0)

  at-start : f ≡ 1 → Own
  unfolding up_to task_by phase_by if_b own_by own_goal clear_steps
  at-start e = by_test Own (eqb (goal_number (goal_by k)) k) (λ g. simp (e, self, g, c4)) (λ g. simp (e, self, g, c4))

  at-walk : f ≡ 2 → Own
  unfolding up_to task_by phase_by if_b own_by own_goal clear_steps
  at-walk e = by_test Own (eqb (goal_number (goal_by k)) k) (λ g. simp (e, self, g, c7)) (λ g. simp (e, self, g, c7))

  at-put : f ≡ 3 → Own
  unfolding up_to task_by phase_by put_by if_b own_by own_noted clear_steps
  at-put e =
      is_or_not Own k 0 (λ g. simp (e, self, g, c7, c9, c11, c13)) (λ (n0 : (eqb k 0 ≡ false) × (eqb 0 k ≡ false)).
      is_or_not Own k 1 (λ g. simp (e, self, g, c7, c9, c11, c13)) (λ (n1 : (eqb k 1 ≡ false) × (eqb 1 k ≡ false)).
      is_or_not Own k 2 (λ g. simp (e, self, g, c7, c9, c11, c13)) (λ (n2 : (eqb k 2 ≡ false) × (eqb 2 k ≡ false)).
      let z : leb k 2 ≡ false = above-two k n0.0 n1.0 n2.0 in simp (e, self, c7, c9, c11, c13, z, n0.0, n1.0, n2.0, n2.1))))

  at_take : f ≡ 4 → Own
  unfolding up_to task_by phase_by take_by if_b own_by own_noted clear_steps
  at_take e =
      is_or_not Own k 0 (λ g. simp (e, self, g, c7, c9, c11, c13)) (λ (n0 : (eqb k 0 ≡ false) × (eqb 0 k ≡ false)).
      is_or_not Own k 1 (λ g. simp (e, self, g, c7, c9, c11, c13)) (λ (n1 : (eqb k 1 ≡ false) × (eqb 1 k ≡ false)).
      is_or_not Own k 2 (λ g. simp (e, self, g, c7, c9, c11, c13)) (λ (n2 : (eqb k 2 ≡ false) × (eqb 2 k ≡ false)).
      is_or_not Own k 3 (λ g. simp (e, self, g, c7, c9, c11, c13)) (λ (n3 : (eqb k 3 ≡ false) × (eqb 3 k ≡ false)).
      is_or_not Own k 4 (λ g. simp (e, self, g, c7, c9, c11, c13)) (λ (n4 : (eqb k 4 ≡ false) × (eqb 4 k ≡ false)).
      simp (e, self, c7, c9, c11, c13, n0.0, n1.0, n2.0, n3.0, n4.0, n4.1))))))

  at-settle : f ≡ 5 → Own
  unfolding up_to task_by phase_by settle_by if_b own_by own_noted clear_steps
  at-settle e =
      is_or_not Own k 0 (λ g. simp (e, self, g, c7, c9, c11, c13)) (λ (n0 : (eqb k 0 ≡ false) × (eqb 0 k ≡ false)).
      is_or_not Own k 1 (λ g. simp (e, self, g, c7, c9, c11, c13)) (λ (n1 : (eqb k 1 ≡ false) × (eqb 1 k ≡ false)).
      is_or_not Own k 2 (λ g. simp (e, self, g, c7, c9, c11, c13)) (λ (n2 : (eqb k 2 ≡ false) × (eqb 2 k ≡ false)).
      is_or_not Own k 3 (λ g. simp (e, self, g, c7, c9, c11, c13)) (λ (n3 : (eqb k 3 ≡ false) × (eqb 3 k ≡ false)).
      is_or_not Own k 4 (λ g. simp (e, self, g, c7, c9, c11, c13)) (λ (n4 : (eqb k 4 ≡ false) × (eqb 4 k ≡ false)).
      simp (e, self, c7, c9, c11, c13, n0.0, n1.0, n2.0, n3.0, n4.0, n4.1))))))

  at_none : eqb f 0 ≡ false → eqb f 1 ≡ false → eqb f 2 ≡ false → eqb f 3 ≡ false → eqb f 4 ≡ false → (eqb f 5 ≡ false) × (eqb 5 f ≡ false) → Own
  unfolding up_to task_by phase_by if_b own_by
  at_none a b c d e g = simp (a, b, c, d, e, g.0, first-settle, g.1)

  all_rows : Own
  all_rows =
      is_or_not Own f 0 at-idle (λ a.
      is_or_not Own f 1 at-start (λ b.
      is_or_not Own f 2 at-walk (λ c.
      is_or_not Own f 3 at-put (λ d.
      is_or_not Own f 4 at_take (λ e.
      is_or_not Own f 5 at-settle (λ g. at_none a.0 b.0 c.0 d.0 e.0 g))))))

  -- the rule by phase and count
  pub row-rule : own_by f k w ≡ own_row w
  unfolding own_row
  row-rule = sym all_rows ∙ same-fifteen (work_row (task_by w).work) w (length_row (task_by w).work) h
