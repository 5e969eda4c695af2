-- What the rows of the settling table say of the ranks.
use Prim.Native.Nat.{◌-◌, ◌<◌, ◌≤◌, suc, ℕ}
use borrow.Author.Tests.{eqb-false, eqb-true, leb-false, leb-true, ltb-false, ltb-true}
use mathlib.Core.Bool.{true}
use mathlib.Core.Path.{◌≡◌, refl}
use native.Mathlib.Omega.{arith}
use Rattle.machine.proofs.Choice.{if_elim}
use Rattle.machine.specs.Rows.{level_row, parent_row}
use Rattle.machine.specs.Settling.{is_wider}
use Rattle.terms.specs.declared.LevelRow.{LevelRow}
use Rattle.terms.specs.declared.LevelRow.TheVariants.{DoubleRotation, NoRow, RotateOne, RotateTwo}
use Rattle.terms.specs.declared.ParentRow.{ParentRow}
use Rattle.terms.specs.declared.ParentRow.TheVariants.{Outranked, Promote, Wider}

abbrev pub ParentFacts : ℕ → ℕ → ParentRow → Type 0
ParentFacts z s Outranked = z < s
ParentFacts z s Promote = (s ≤ z) × (z ≤ suc s)
ParentFacts z s Wider = suc (suc s) ≤ z

pub parent_row_lem : (z s : ℕ) → ParentFacts z s (parent_row z s)
unfolding parent_row
parent_row_lem z s =
    if_elim (ParentFacts z s) _ (λ e. ltb-true z s e)
    (λ e. let le : s ≤ z = ltb-false z s e in
    if_elim (ParentFacts z s) _ (λ d. (le, (let h : z - s ≤ 1 = leb-true (z - s) 1 d in omega arith)))
    (λ d. let h : 1 < z - s = leb-false (z - s) 1 d in omega arith))

-- "at least 2"
pub wide_row : (z s : ℕ) (row : ParentRow) → ParentFacts z s row → is_wider row ≡ true → suc (suc s) ≤ z
wide_row z s Outranked f e = absurd (let y : ◌≡◌ {A = ℕ} 0 1 = cc in omega arith)
wide_row z s Promote f e = absurd (let y : ◌≡◌ {A = ℕ} 0 1 = cc in omega arith)
wide_row z s Wider f e = f

abbrev pub LevelFacts : ℕ → ℕ → ℕ → LevelRow → Type 0
LevelFacts x y w NoRow = Unit {0}
LevelFacts x y w RotateOne = (suc (suc y) ≤ x) × (w ≤ x)
LevelFacts x y w RotateTwo = (suc y ≡ x) × (suc w ≡ x)
LevelFacts x y w DoubleRotation = (suc y ≡ x) × (suc (suc w) ≤ x)

pub level-row : (x y w : ℕ) → LevelFacts x y w (level_row x y w)
unfolding level_row
level-row x y w =
    if_elim (LevelFacts x y w) _ (λ e. tt)
    (λ e. let a : y ≤ x = ltb-false x y e in
    if_elim (LevelFacts x y w) _ (λ d. tt)
    (λ d. let b : w ≤ x = ltb-false x w d in
    if_elim (LevelFacts x y w) _ (λ c. (let h : 2 ≤ x - y = leb-true 2 (x - y) c in omega arith, b))
    (λ c. let h : x - y < 2 = leb-false 2 (x - y) c in
    if_elim (LevelFacts x y w) _ (λ g. tt)
    (λ g. let p : suc y ≡ x = one_below (x - y) refl h (eqb-false (x - y) 0 g) a in
    if_elim (LevelFacts x y w) _ (λ k. tt)
    (λ k. if_elim (LevelFacts x y w) _ (λ m. (p, (let o : x - w ≡ 1 = eqb-true (x - w) 1 m in omega arith)))
    (λ m. (p, two-below (x - w) refl (eqb-false (x - w) 0 k) (eqb-false (x - w) 1 m) b)))))))
  where
    one_below : (d : ℕ) → d ≡ x - y → x - y < 2 → (x - y ≡ 0 → ⊥) → y ≤ x → suc y ≡ x
    one_below d e h n a = omega arith

    two-below : (d : ℕ) → d ≡ x - w → (x - w ≡ 0 → ⊥) → (x - w ≡ 1 → ⊥) → w ≤ x → suc (suc w) ≤ x
    two-below d e n o b = omega arith
