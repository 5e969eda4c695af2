-- The numbers of a state, written row by row.
use mathlib.Core.Path.{◌≡◌, refl, sym, ap, ◌∙◌}
use mathlib.Core.List.{List, [], ◌∷◌, ◌++◌, map, append_assoc, append-nil}
use Prim.Native.Nat.{ℕ, ◌+◌, ◌-◌, ◌*◌, ◌≤◌, ◌<◌}
use native.Mathlib.Numerals.{add-one}
use native.Mathlib.Omega.{arith}
use lib.ListN.{length, get_or, take, drop, set, length-append, length-drop, length-map, drop_of_length-le}
use lib.Seq.{take_at, drop_at, take-suc, take_all, drop-drop, length-take-le, drop-cons, append_snoc, set_at, paste, paste-suc}
use Rattle.terms.specs.declared.Task.{Task}
use Rattle.terms.specs.declared.State.{State}
use Rattle.terms.specs.Task.{idle_task}
use Rattle.statecode.specs.Code.{work_row, rows, encode}
use Rattle.statecode.proofs.Inverse.{length_row, length_rows}

pub rows_append : (a b : List Task) → rows (a ++ b) ≡ rows a ++ rows b
unfolding rows
rows_append [] b = refl
rows_append (k ∷ ks) b = rw (rows_append ks b) (sym (append_assoc (work_row k.work) (rows ks) (rows b)))

-- one task more
rows_more : (ts : List Task) (i : ℕ) → i < length ts → rows (take (i + 1) ts) ≡ rows (take i ts) ++ work_row (get_or ts i idle_task).work
unfolding rows
rows_more ts i h =
    rw (add-one i, take-suc ts i idle_task h)
    (rows_append (take i ts) (get_or ts i idle_task ∷ []) ∙ ap (λ (r : List ℕ). rows (take i ts) ++ r) (append-nil (work_row (get_or ts i idle_task).work)))

-- the first i tasks written over the front of a row of numbers
unfoldable pub written : List Task → ℕ → List ℕ → List ℕ
written ts i w = rows (take i ts) ++ drop (15 * i) w

module _ (ts : List Task) (i : ℕ) (w : List ℕ) where
  written_is : (n : ℕ) → rows (take n ts) ++ drop (15 * n) w ≡ written ts n w
  unfolding written
  written_is n = refl

  length_first : i ≤ length ts → length (rows (take i ts)) ≡ 15 * i
  length_first h = length_rows (take i ts) ∙ omega (arith, length-take-le i ts h)

  behind_first : i ≤ length ts → drop (15 * i + 15) (written ts i w) ≡ drop (15 * (i + 1)) w
  unfolding written
  behind_first h =
      let e : 15 * i + 15 ≡ 15 * (i + 1) = omega arith in
      sym (drop-drop 15 (15 * i) (rows (take i ts) ++ drop (15 * i) w))
      ∙ ap (drop 15) (drop_at (rows (take i ts)) (drop (15 * i) w) (15 * i) (length_first h))
      ∙ drop-drop 15 (15 * i) w
      ∙ ap (λ (n : ℕ). drop n w) e

  before-first : i ≤ length ts → take (15 * i) (written ts i w) ≡ rows (take i ts)
  unfolding written
  before-first h = take_at (rows (take i ts)) (drop (15 * i) w) (15 * i) (length_first h)

  whole_row : take 15 (work_row (get_or ts i idle_task).work) ≡ work_row (get_or ts i idle_task).work
  whole_row = take_all 15 (work_row (get_or ts i idle_task).work) (omega (arith, length_row (get_or ts i idle_task).work))

  -- the row of the next task is written behind them
  pub written-more :
      i < length ts → (now r later : List ℕ) → now ≡ written ts i w → r ≡ work_row (get_or ts i idle_task).work → later ≡ paste now (15 * i) r 15
      → later ≡ written ts (i + 1) w
  written-more h now r later en er el =
      rw (el, en, er, before-first (omega arith), whole_row, behind_first (omega arith))
      (ap (λ (l : List ℕ). l ++ drop (15 * (i + 1)) w) (sym (rows_more ts i h)) ∙ written_is (i + 1))

-- none is written at first
pub written_none : (ts : List Task) (w : List ℕ) → w ≡ written ts 0 w
unfolding written rows
written_none ts w = refl

-- all are written in the end
pub written_all : (ts : List Task) (i : ℕ) (w : List ℕ) → length ts ≡ 8 → i ≡ 8 → written ts i w ≡ rows ts ++ drop 120 w
unfolding written
written_all ts i w h e = rw (e, take_all 8 ts (omega arith)) refl

-- m and u behind the tasks
pub written-state :
    (st : State) (w : List ℕ) → length st.tasks ≡ 8 → length w ≡ 122
    → set (set (rows st.tasks ++ drop 120 w) 120 st.m) 121 st.u ≡ encode st
unfolding encode
written-state st w h l =
    let f : length (rows st.tasks) ≡ 120 = length_rows st.tasks ∙ omega arith in
    let g : length (rows st.tasks ++ (st.m ∷ [])) ≡ 121 = length-append (rows st.tasks) (st.m ∷ []) ∙ omega (arith, f) in
    rw (
      drop-cons w 120 0 (omega arith),
      set_at (rows st.tasks) (get_or w 120 0) (drop 121 w) st.m 120 f,
      drop-cons w 121 0 (omega arith),
      drop_of_length-le w {i = 122} (omega arith),
      ← append_snoc (rows st.tasks) st.m (get_or w 121 0 ∷ []),
    )
    (set_at (rows st.tasks ++ (st.m ∷ [])) (get_or w 121 0) [] st.u 121 g ∙ append_snoc (rows st.tasks) st.m (st.u ∷ []))

-- a part of a slice to its end
pub part_all : (w : List ℕ) (a : ℕ) → take (length w - a) (drop a w) ≡ drop a w
part_all w a = take_all (length w - a) (drop a w) (omega (arith, length-drop a w))

-- a row written number by number
pub copy_more :
    (w w₀ r : List ℕ) (from i : ℕ) → w ≡ paste w₀ from r i → from + i < length w₀ → i < length r
    → set w (from + i) (get_or r i 0) ≡ paste w₀ from r (i + 1)
copy_more w w₀ r from i e h g = rw (e, add-one i) (paste-suc w₀ from r i 0 h g)

pub length_mapped : (X Y : Type 0) (f : X → Y) (l : List X) (n : ℕ) → length (map f l) ≡ n → length l ≡ n
length_mapped X Y f l n e = sym (length-map l f) ∙ e
