-- SETTLING: s, y and w, and the settling table.
use Rattle.std.specs.Prelude.{ℕ, ◌+◌, ◌-◌, ◌≤◌, ◌<◌, ◌≡◌, List, [], ◌∷◌, ◌⊎◌, ◌≢◌}
use Rattle.terms.specs.declared.Links.{Links}

-- "Let s be z's other child": by z's noted links b; where neither leads to x it is the left one
pub data Other (b : Links) (x : ℕ) : ℕ → Type 0 where
  x_is_left : b.left ≡ x → Other b x b.right
  x_is_not_left : b.left ≢ x → Other b x b.left

-- "Let s be z's other child, y the child of x on the side of s, w the other child of x.": by the noted links b of z and c of x
pub data Named (b c : Links) (x : ℕ) : ℕ → ℕ → ℕ → Type 0 where
  s_is_right : b.left ≡ x → Named b c x b.right c.right c.left
  s_is_left : b.left ≢ x → Named b c x b.left c.left c.right

-- what is said of s, once it is let so
abbrev pub LetS : Links → ℕ → (ℕ → Type 0) → Type 0
LetS b x G = (s : ℕ) × Other b x s × G s

-- what is said of s, y and w
abbrev pub LetSYW : Links → Links → ℕ → (ℕ → ℕ → ℕ → Type 0) → Type 0
LetSYW b c x G = (s : ℕ) × (y : ℕ) × (w : ℕ) × Named b c x s y w × G s y w

-- "z minus s is 0 or 1"
abbrev pub Close : ℕ → ℕ → Type 0
Close z s = (z ≡ s) ⊎ (z ≡ s + 1)

-- "z minus s at least 2"
abbrev pub Wide : ℕ → ℕ → Type 0
Wide z s = s + 2 ≤ z

-- "z minus s at least 2, x minus y = 1, x minus w at least 2"
abbrev pub Double : ℕ → ℕ → ℕ → ℕ → ℕ → Type 0
Double z x s y w = Wide z s × (x ≡ y + 1) × (w + 2 ≤ x)

-- THE SETTLING TABLE, by the ranks of z, x, s, y and w: which ground fits, how many slots it takes, and the new ranks
pub data Row (z x s y w : ℕ) : ℕ → List ℕ → Type 0 where
  promote : Close z s → Row z x s y w 1 ((z + 1) ∷ [])
  rotate_case_1 : Wide z s → y + 2 ≤ x → Row z x s y w 2 (x ∷ (z - 1) ∷ [])
  rotate_case_2 : Wide z s → x ≡ y + 1 → x ≡ w + 1 → Row z x s y w 2 ((x + 1) ∷ z ∷ [])
  double-rotation : Double z x s y w → Row z x s y w 3 ((x - 1) ∷ (y + 1) ∷ (z - 1) ∷ [])

-- one of the ranks is above 28
abbrev pub Passes28 : List ℕ → Type 0
Passes28 [] = ⊥
Passes28 (r ∷ rs) = (28 < r) ⊎ Passes28 rs

-- "Settling commit only, after its test has held: s outranks z, y or w outranks x, a new rank would pass 28, or no row of the
-- settling table fits." y and w are looked at for a rotation only
pub data RowDamaged (z x s y w : ℕ) : Type 0 where
  s_outranks_z : z < s → RowDamaged z x s y w
  y_outranks_x : Wide z s → x < y → RowDamaged z x s y w
  w_outranks_x : Wide z s → x < w → RowDamaged z x s y w
  a_new_rank_would_pass_28 : (k : ℕ) (ranks : List ℕ) → Row z x s y w k ranks → Passes28 ranks → RowDamaged z x s y w
  no_row_fits : ((k : ℕ) (ranks : List ℕ) → ¬ (Row z x s y w k ranks)) → RowDamaged z x s y w

-- the same before x is read: the step commits only where z minus s is not at least 2, and then no y and w are known
pub data PromoteDamaged (z s : ℕ) : Type 0 where
  s_outranks_z_alone : z < s → PromoteDamaged z s
  promote_would_pass_28 : Close z s → 28 < z + 1 → PromoteDamaged z s
  no_row : ¬ (Close z s) → ¬ (Wide z s) → PromoteDamaged z s
