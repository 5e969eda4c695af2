-- The settling table: the row that the definition finds, its damage and its slots, by ranks alone.
use Prim.Native.Nat.{ℕ, ◌+◌, ◌-◌, ◌≤◌, ◌<◌}
use mathlib.Core.Path.{◌≡◌, refl}
use mathlib.Core.Bool.{Bool, true, false}
use mathlib.Core.List.{List}
use mathlib.Core.Logic.{◌⊎◌, inl, inr, ◌↔◌}
use native.Mathlib.Omega.{arith}
use lib.Dec.{eqb}
use Rattle.terms.specs.declared.ParentRow.{ParentRow}
use Rattle.terms.specs.declared.ParentRow.TheVariants.{Outranked, Promote, Wider}
use Rattle.terms.specs.declared.LevelRow.{LevelRow}
use Rattle.terms.specs.declared.LevelRow.TheVariants.{NoRow, RotateOne, RotateTwo, DoubleRotation}
use Rattle.machine.specs.Rows.{parent_row, level_row}
use Rattle.machine.proofs.Choice.{if_elim}
use Rattle.grounds.specs.Settle.{Close, Wide, Double, Row, promote, rotate_case_1, rotate_case_2, double-rotation, Passes28, RowDamaged, s_outranks_z, y_outranks_x, w_outranks_x, a_new_rank_would_pass_28, no_row_fits, PromoteDamaged, s_outranks_z_alone, promote_would_pass_28, no_row}
use Rattle.grounds.proofs.Says.{says_eq, says_lt, says_le}

-- which row z and s ask for
abbrev pub ParentIs : ℕ → ℕ → ParentRow → Type 0
ParentIs z s Outranked = z < s
ParentIs z s Promote = Close z s
ParentIs z s Wider = Wide z s

close_by : (z s : ℕ) → s ≤ z → z ≤ s + 1 → Close z s
close_by z s a b = go (eqb z s) refl
  where
    go : (c : Bool) → eqb z s ≡ c → Close z s
    go true e = inl ((says_eq z s).holds e)
    go false e = inr (let k = (says_eq z s).fails e in omega arith)

pub parent_is : (z s : ℕ) → ParentIs z s (parent_row z s)
unfolding parent_row
parent_is z s =
    if_elim (ParentIs z s) _ (λ e. (says_lt z s).holds e)
    (λ e.
    let h = (says_lt z s).fails e in
    if_elim (ParentIs z s) _ (λ f. let k = (says_le (z - s) 1).holds f in close_by z s (omega arith) (omega arith))
    (λ f. let k = (says_le (z - s) 1).fails f in omega arith))

-- which row x, y and w ask for
abbrev pub LevelIs : ℕ → ℕ → ℕ → LevelRow → Type 0
LevelIs x y w NoRow = (x < y) ⊎ ((x < w) ⊎ ((x ≡ y) ⊎ ((x ≡ y + 1) × (x ≡ w))))
LevelIs x y w RotateOne = (y + 2 ≤ x) × (w ≤ x)
LevelIs x y w RotateTwo = (x ≡ y + 1) × (x ≡ w + 1)
LevelIs x y w DoubleRotation = (x ≡ y + 1) × (w + 2 ≤ x)

pub level-is : (x y w : ℕ) → LevelIs x y w (level_row x y w)
unfolding level_row
level-is x y w =
    if_elim (LevelIs x y w) _ (λ e. inl ((says_lt x y).holds e))
    (λ e.
    let a = (says_lt x y).fails e in
    if_elim (LevelIs x y w) _ (λ e. inr (inl ((says_lt x w).holds e)))
    (λ e.
    let b = (says_lt x w).fails e in
    if_elim (LevelIs x y w) _ (λ e. let c = (says_le 2 (x - y)).holds e in (omega arith, omega arith))
    (λ e.
    let c = (says_le 2 (x - y)).fails e in
    if_elim (LevelIs x y w) _ (λ e. let d = (says_eq (x - y) 0).holds e in inr (inr (inl (omega arith))))
    (λ e.
    let d = (says_eq (x - y) 0).fails e in
    if_elim (LevelIs x y w) _ (λ e. let f = (says_eq (x - w) 0).holds e in inr (inr (inr (omega arith, omega arith))))
    (λ e.
    let f = (says_eq (x - w) 0).fails e in
    if_elim (LevelIs x y w) _ (λ e. let g = (says_eq (x - w) 1).holds e in (omega arith, omega arith))
    (λ e. let g = (says_eq (x - w) 1).fails e in (omega arith, omega arith)))))))

pub close_wide : (z s : ℕ) → Close z s → Wide z s → ⊥
close_wide z s (inl e) h = omega arith
close_wide z s (inr e) h = omega arith

-- before x is read
module _ (z s : ℕ) where
  pub promote-fine : Close z s → z < 28 → ¬ (PromoteDamaged z s)
  promote-fine (inl e) h (s_outranks_z_alone x) = omega arith
  promote-fine (inr e) h (s_outranks_z_alone x) = omega arith
  promote-fine c h (promote_would_pass_28 d x) = omega arith
  promote-fine c h (no_row f g) = f c

  pub wide_fine : Wide z s → ¬ (PromoteDamaged z s)
  wide_fine h (s_outranks_z_alone x) = omega arith
  wide_fine h (promote_would_pass_28 c x) = close_wide z s c h
  wide_fine h (no_row f g) = g h

-- a row that fits: how many slots, and what its new ranks tell
module _ (z x s y w : ℕ) where
  abbrev Only : ℕ → Type 0 → Type 0
  Only i P = (k : ℕ) (ranks : List ℕ) → Row z x s y w k ranks → (k ≡ i) × (Passes28 ranks → P)

  only_promote : Close z s → Only 1 (28 ≤ z)
  only_promote c k ranks (promote d) = (refl, λ p. elim p [ inl h ↦ omega arith | inr h ↦ absurd h ])
  only_promote c k ranks (rotate_case_1 h a) = absurd (close_wide z s c h)
  only_promote c k ranks (rotate_case_2 h a b) = absurd (close_wide z s c h)
  only_promote c k ranks (double-rotation h) = absurd (close_wide z s c h.0)

  only_one : Wide z s → y + 2 ≤ x → x ≤ 28 → z ≡ x → Only 2 ⊥
  only_one h a m e k ranks (promote d) = absurd (close_wide z s d h)
  only_one h a m e k ranks (rotate_case_1 i b) =
      (refl, λ p. elim p [ inl o ↦ omega arith | inr o ↦ elim o [ inl r ↦ omega arith | inr r ↦ absurd r ] ])
  only_one h a m e k ranks (rotate_case_2 i b c) = absurd (omega arith)
  only_one h a m e k ranks (double-rotation i) = absurd (let b = i.1 in omega arith)

  only_two : Wide z s → x ≡ y + 1 → x ≡ w + 1 → z ≡ x → Only 2 (28 ≤ x)
  only_two h a b e k ranks (promote d) = absurd (close_wide z s d h)
  only_two h a b e k ranks (rotate_case_1 i c) = absurd (omega arith)
  only_two h a b e k ranks (rotate_case_2 i c d) =
      (refl, λ p. elim p [ inl o ↦ omega arith | inr o ↦ elim o [ inl r ↦ omega arith | inr r ↦ absurd r ] ])
  only_two h a b e k ranks (double-rotation i) = absurd (let c = i.2 in omega arith)

  only_double : Double z x s y w → x ≤ 28 → z ≡ x → Only 3 ⊥
  only_double h m e k ranks (promote d) = absurd (close_wide z s d h.0)
  only_double h m e k ranks (rotate_case_1 i c) = absurd (let a = h.1 in omega arith)
  only_double h m e k ranks (rotate_case_2 i c d) = absurd (let a = h.2 in omega arith)
  only_double h m e k ranks (double-rotation i) = (
    refl,
    λ p.
        let a = i.1 in
        elim p [
          | inl o ↦ omega arith
          | inr o ↦ elim o [ inl r ↦ omega arith | inr r ↦ elim r [ inl l ↦ omega arith | inr l ↦ absurd l ] ]
        ],
  )

  -- what is damaged where a row fits and neither y nor w outranks x
  damaged_by : (i : ℕ) (P : Type 0) (ranks : List ℕ) → Only i P → Row z x s y w i ranks → ¬ (z < s) → (Wide z s → ¬ (x < y)) → (Wide z s → ¬ (x < w)) → RowDamaged z x s y w → P
  damaged_by i P ranks o r a b c (s_outranks_z h) = absurd (a h)
  damaged_by i P ranks o r a b c (y_outranks_x h e) = absurd (b h e)
  damaged_by i P ranks o r a b c (w_outranks_x h e) = absurd (c h e)
  damaged_by i P ranks o r a b c (a_new_rank_would_pass_28 k rs f p) = (o k rs f).1 p
  damaged_by i P ranks o r a b c (no_row_fits f) = absurd (f i ranks r)

  pub damaged_promote : Close z s → RowDamaged z x s y w → 28 ≤ z
  damaged_promote c = damaged_by 1 (28 ≤ z) _ (only_promote c) (promote c) (λ h. below c h) (λ h. absurd (close_wide z s c h)) (λ h. absurd (close_wide z s c h))
    where
      below : Close z s → z < s → ⊥
      below (inl e) h = omega arith
      below (inr e) h = omega arith

  pub damaged_one : Wide z s → y + 2 ≤ x → w ≤ x → x ≤ 28 → z ≡ x → ¬ (RowDamaged z x s y w)
  damaged_one h a b m e = damaged_by 2 ⊥ _ (only_one h a m e) (rotate_case_1 h a) (λ i. omega arith) (λ i k. omega arith) (λ i k. omega arith)

  pub damaged_two : Wide z s → x ≡ y + 1 → x ≡ w + 1 → z ≡ x → RowDamaged z x s y w → 28 ≤ x
  damaged_two h a b e = damaged_by 2 (28 ≤ x) _ (only_two h a b e) (rotate_case_2 h a b) (λ i. omega arith) (λ i k. omega arith) (λ i k. omega arith)

  pub damaged_double : Double z x s y w → x ≤ 28 → z ≡ x → ¬ (RowDamaged z x s y w)
  damaged_double h m e =
      let a = h.0 in
      let b = h.1 in
      let c = h.2 in damaged_by 3 ⊥ _ (only_double h m e) (double-rotation h) (λ i. omega arith) (λ i k. omega arith) (λ i k. omega arith)

  -- where no row comes out, the table is damaged
  pub damaged_none : Wide z s → LevelIs x y w NoRow → RowDamaged z x s y w
  damaged_none h (inl e) = y_outranks_x h e
  damaged_none h (inr (inl e)) = w_outranks_x h e
  damaged_none h (inr (inr (inl e))) = no_row_fits unfit
    where
      unfit : (k : ℕ) (ranks : List ℕ) → ¬ (Row z x s y w k ranks)
      unfit k ranks (promote c) = close_wide z s c h
      unfit k ranks (rotate_case_1 i a) = omega arith
      unfit k ranks (rotate_case_2 i a b) = omega arith
      unfit k ranks (double-rotation i) = let a = i.1 in omega arith
  damaged_none h (inr (inr (inr (d, e)))) = no_row_fits unfit
    where
      unfit : (k : ℕ) (ranks : List ℕ) → ¬ (Row z x s y w k ranks)
      unfit k ranks (promote c) = close_wide z s c h
      unfit k ranks (rotate_case_1 i a) = omega arith
      unfit k ranks (rotate_case_2 i a b) = omega arith
      unfit k ranks (double-rotation i) = let a = i.2 in omega arith

  -- how many slots: R k says that there are k
  module _ (R : ℕ → Type 0) where
    abbrev Short : Type 0
    Short = (k : ℕ) × (ranks : List ℕ) × Row z x s y w k ranks × (¬ (R k))

    short_by : (i : ℕ) (P : Type 0) (ranks : List ℕ) → Only i P → Row z x s y w i ranks → (¬ (R i)) ↔ Short
    short_by i P ranks o r = (λ h. (i, ranks, r, h), λ h. let e = (o h.0 h.1 h.2).0 in rw e at h.3)

    pub short_promote : Close z s → (¬ (R 1)) ↔ Short
    short_promote c = short_by 1 (28 ≤ z) _ (only_promote c) (promote c)

    pub short_one : Wide z s → y + 2 ≤ x → x ≤ 28 → z ≡ x → (¬ (R 2)) ↔ Short
    short_one h a m e = short_by 2 ⊥ _ (only_one h a m e) (rotate_case_1 h a)

    pub short_two : Wide z s → x ≡ y + 1 → x ≡ w + 1 → z ≡ x → (¬ (R 2)) ↔ Short
    short_two h a b e = short_by 2 (28 ≤ x) _ (only_two h a b e) (rotate_case_2 h a b)

    pub short_double : Double z x s y w → x ≤ 28 → z ≡ x → (¬ (R 3)) ↔ Short
    short_double h m e = short_by 3 ⊥ _ (only_double h m e) (double-rotation h)
