-- Numbers are a state where those of each task are its own; and one task of a state read or written by itself.
use mathlib.Core.Path.{◌≡◌, refl, sym, ap, ◌∙◌}
use mathlib.Core.Bool.{Bool, true, false, ◌&&◌}
use mathlib.Core.List.{List, [], ◌∷◌, ◌++◌, map, append_assoc}
use Prim.Native.Nat.{ℕ, zero, suc, ◌+◌, ◌*◌, ◌≤◌, ◌<◌}
use native.Mathlib.Omega.{arith}
use lib.Dec.{eqb, leb}
use lib.ListN.{length, get_or, take, drop, set, length-append, length-drop, length-set, drop_of_length-le}
use lib.Seq.{drop-cons, drop-drop, drop_at, take_at, take_all, set_at, set_split, split_at, paste, append_snoc, length-take-le}
use borrow.Author.Tests.{le-leb}
use Rattle.std.specs.List.{list_all, count_by}
use Rattle.std.specs.Simd.{first_chunks}
use Rattle.std.proofs.lemmas.List.{get_or-take, length-take}
use Rattle.std.proofs.lemmas.List.Folds.{fold-map}
use Rattle.std.proofs.Common.{lit<, cond}
use Rattle.std.specs.Prelude.{MatchOption, Some, None}
use Rattle.std.specs.declared.option.Option.{Option}
use Rattle.std.specs.Borrow.{MutBor}
use Rattle.std.specs.Array.{IsWholeChunk}
use Rattle.terms.specs.declared.Task.{Task}
use Rattle.terms.specs.declared.State.{State}
use Rattle.terms.specs.Task.{idle_task, work_settles}
use Rattle.machine.specs.State.{one, settling, count_open, sound, task_at}
use Rattle.machine.proofs.Count.{settling_counted}
use Rattle.statecode.specs.Code.{work_row, rows, encode, phase_by, put_by, take_by, settle_by, task_by, tasks_by, state_by, same_numbers, is_state, decode}
use Rattle.statecode.specs.Own.{own_row, own_rows, storing}
use Rattle.statecode.proofs.Writing.{rows_append}
use Rattle.statecode.proofs.Same.{same_self, same-equal}
use Rattle.statecode.proofs.Inverse.{length_row, length_rows, length_encode, state-back, state-own}

one-most : (b : Bool) → one b ≤ 1
one-most true = omega arith
one-most false = omega arith

both_true : (a : Bool) → (a && true) ≡ a
both_true true = refl
both_true false = refl

both-assoc : (a b c : Bool) → ((a && b) && c) ≡ (a && (b && c))
both-assoc true b c = refl
both-assoc false b c = refl

-- rows of numbers compared in two parts
same-split :
    (a b w : List ℕ) → length a ≤ length w
    → same_numbers (a ++ b) w ≡ (same_numbers a (take (length a) w) && same_numbers b (drop (length a) w))
unfolding same_numbers
same-split [] b w h = refl
same-split (x ∷ xs) b [] h = absurd (omega arith)
same-split (x ∷ xs) b (y ∷ ys) h =
    rw (same-split xs b ys (omega arith))
    (sym (both-assoc (eqb x y) (same_numbers xs (take (length xs) ys)) (same_numbers b (drop (length xs) ys))))

-- one number more
same_more :
    (a w : List ℕ) (j : ℕ) → j < length a → j < length w
    → same_numbers (take (suc j) a) (take (suc j) w) ≡ (same_numbers (take j a) (take j w) && eqb (get_or a j 0) (get_or w j 0))
unfolding same_numbers
same_more (x ∷ a) (y ∷ w) zero ha hw = both_true (eqb x y)
same_more (x ∷ a) (y ∷ w) (suc j) ha hw =
    rw (same_more a w j (omega arith) (omega arith)) (sym (both-assoc (eqb x y) (same_numbers (take j a) (take j w)) (eqb (get_or a j 0) (get_or w j 0))))
same_more [] w j ha hw = absurd (omega arith)
same_more (x ∷ a) [] j ha hw = absurd (omega arith)

-- the first numbers, one after another
unfoldable pub up_to : ℕ → List ℕ → List ℕ → Bool
up_to zero a w = true
up_to (suc j) a w = up_to j a w && eqb (get_or a j 0) (get_or w j 0)

same_up : (n : ℕ) (a w : List ℕ) → n ≤ length a → n ≤ length w → same_numbers (take n a) (take n w) ≡ up_to n a w
unfolding same_numbers up_to
same_up zero a w ha hw = refl
same_up (suc n) a w ha hw = same_more a w n (omega arith) (omega arith) ∙ rw (same_up n a w (omega arith) (omega arith)) refl

pub same-fifteen : (a w : List ℕ) → length a ≡ 15 → 15 ≤ length w → up_to 15 a w ≡ same_numbers a (take 15 w)
same-fifteen a w ha hw = sym (same_up 15 a w (omega arith) hw) ∙ rw (take_all 15 a (omega arith)) refl

-- so many tasks, and what follows them as it is
own_first : (c : ℕ) (w : List ℕ) → 15 * c ≤ length w → same_numbers (rows (tasks_by c w) ++ drop (15 * c) w) w ≡ own_rows c w
unfolding rows tasks_by own_rows own_row
own_first zero w h = same_self w
own_first (suc c) w h =
    let l : length (work_row (task_by w).work) ≡ 15 = length_row (task_by w).work in
    let e : 15 + 15 * c ≡ 15 * suc c = omega arith in
    let d : drop (15 * suc c) w ≡ drop (15 * c) (drop 15 w) = sym (drop-drop (15 * c) 15 w ∙ ap (λ (n : ℕ). drop n w) e) in
    rw (append_assoc (work_row (task_by w).work) (rows (tasks_by c (drop 15 w))) (drop (15 * suc c) w), d)
    (same-split (work_row (task_by w).work) (rows (tasks_by c (drop 15 w)) ++ drop (15 * c) (drop 15 w)) w (omega arith)
    ∙ rw (l, own_first c (drop 15 w) (omega (arith, length-drop 15 w))) refl)

module _ (w : List ℕ) (h : length w ≡ 122) where
  last_two : drop 120 w ≡ get_or w 120 0 ∷ get_or w 121 0 ∷ []
  last_two = rw (drop-cons w 120 0 (omega arith), drop-cons w 121 0 (omega arith), drop_of_length-le w {i = 122} (omega arith)) refl

  -- the state's rows are its tasks' rows
  pub own-all : is_state w ≡ own_rows 8 w
  unfolding is_state encode state_by
  own-all = rw (← last_two) (own_first 8 w (omega arith))

unless-true : (b : Bool) → (b ≡ true → ⊥) → b ≡ false
unless-true true h = absurd (h refl)
unless-true false h = refl

eight-read : (w : List ℕ) → length (tasks_by 8 w) ≡ 8
unfolding tasks_by
eight-read w = refl

pub eight : (w : List ℕ) → length (state_by w).tasks ≡ 8
unfolding state_by
eight w = eight-read w

-- what is a state is what it is written as
pub own-encode : (w : List ℕ) → is_state w ≡ true → encode (state_by w) ≡ w
unfolding is_state
own-encode w e = same-equal (encode (state_by w)) w e

pub own-length : (w : List ℕ) → is_state w ≡ true → length w ≡ 122
own-length w e = sym (ap length (own-encode w e)) ∙ length_encode (state_by w) (eight w)

-- as many numbers as a state has, lent as an array
pub lent-whole :
    (w : List ℕ) → is_state w ≡ true → (r : Option (MutBor (List ℕ))) → MatchOption r (length w ≡ 122 → ⊥) (λ y. IsWholeChunk w y.now 122)
    → MatchOption r (decode w ≡ None) (λ y. (is_state y.now ≡ true) × (y.now ≡ w))
lent-whole w e None h = absurd (h (own-length w e))
lent-whole w e (Some y) h = (ap is_state h.same ∙ e, h.same)

-- numbers of another length are no state
pub other_none : (w : List ℕ) → (length w ≡ 122 → ⊥) → false ≡ is_state w
other_none w h = sym (unless-true (is_state w) (λ e. h (own-length w e)))

-- task i by itself
pub task_alone : (c : ℕ) (w : List ℕ) (i : ℕ) → i < c → get_or (tasks_by c w) i idle_task ≡ task_by (drop (15 * i) w)
unfolding tasks_by
task_alone zero w i h = absurd (omega arith)
task_alone (suc c) w zero h = refl
task_alone (suc c) w (suc i) h =
    let e : 15 + 15 * i ≡ 15 * suc i = omega arith in
    task_alone c (drop 15 w) i (omega arith) ∙ rw (drop-drop (15 * i) 15 w, e) refl

pub eight-settling : (ts : List Task) (k : ℕ) → settling ts k ≤ k
unfolding settling
eight-settling ts zero = omega arith
eight-settling ts (suc k) = let h = eight-settling ts k in let z = one-most (work_settles (get_or ts k idle_task).work) in omega arith

-- task i of eight
module _ (st : State) (i : ℕ) (h : length st.tasks ≡ 8) (g : i < 8) where
  -- before task i, its own, behind it
  abbrev pub front : List ℕ
  front = rows (take i st.tasks)

  abbrev pub own : List ℕ
  own = work_row (get_or st.tasks i idle_task).work

  abbrev pub later : List ℕ
  later = rows (drop (suc i) st.tasks)

  abbrev pub ends : List ℕ
  ends = st.m ∷ st.u ∷ []

  pub length_front : length front ≡ 15 * i
  length_front = length_rows (take i st.tasks) ∙ omega (arith, length-take-le i st.tasks (omega arith))

  parts : rows st.tasks ≡ front ++ (own ++ later)
  unfolding rows
  parts = ap rows (split_at st.tasks i idle_task (omega arith)) ∙ rows_append (take i st.tasks) (get_or st.tasks i idle_task ∷ drop (suc i) st.tasks)

  pub whole : encode st ≡ front ++ (own ++ (later ++ ends))
  unfolding encode
  whole = ap (λ (l : List ℕ). l ++ ends) parts ∙ append_assoc front (own ++ later) ends ∙ ap (λ (l : List ℕ). front ++ l) (append_assoc own later ends)

  first_part : take (15 * i) (encode st) ≡ front
  first_part = ap (take (15 * i)) whole ∙ take_at front (own ++ (later ++ ends)) (15 * i) length_front

  last_part : drop (15 * i + 15) (encode st) ≡ later ++ ends
  last_part =
      ap (drop (15 * i + 15)) (whole ∙ sym (append_assoc front own (later ++ ends)))
      ∙ drop_at (front ++ own) (later ++ ends) (15 * i + 15) (length-append front own ∙ omega (arith, length_front, length_row (get_or st.tasks i idle_task).work))

  -- another task in its place
  module _ (k : Task) where
    set_rows : rows (set st.tasks i k) ≡ front ++ (work_row k.work ++ later)
    unfolding rows
    set_rows = ap rows (set_split st.tasks i k (omega arith)) ∙ rows_append (take i st.tasks) (k ∷ drop (suc i) st.tasks)

    pub set_whole : front ++ (work_row k.work ++ (later ++ ends)) ≡ rows (set st.tasks i k) ++ ends
    set_whole =
        ap (λ (l : List ℕ). front ++ l) (sym (append_assoc (work_row k.work) later ends))
        ∙ sym (append_assoc front (work_row k.work ++ later) ends)
        ∙ ap (λ (l : List ℕ). l ++ ends) (sym set_rows)

    pasted : paste (encode st) (15 * i) (work_row k.work) 15 ≡ rows (set st.tasks i k) ++ ends
    pasted =
        rw (first_part, last_part, take_all 15 (work_row k.work) (omega (arith, length_row k.work)))
        (append_assoc front (work_row k.work) (later ++ ends) ∙ set_whole)

    length_stored : length (rows (set st.tasks i k)) ≡ 120
    length_stored = length_rows (set st.tasks i k) ∙ omega (arith, length-set st.tasks i k)

    -- a task's row, m and u written over a state's numbers
    pub stored : (m u : ℕ) → set (set (paste (encode st) (15 * i) (work_row k.work) 15) 120 m) 121 u ≡ encode (storing st i k m u)
    unfolding encode
    stored m u =
        let s : List ℕ = rows (set st.tasks i k) in
        let l : length (s ++ (m ∷ [])) ≡ 121 = length-append s (m ∷ []) ∙ omega (arith, length_stored) in
        rw (pasted, set_at s st.m (st.u ∷ []) m 120 length_stored, ← append_snoc s m (st.u ∷ []))
        (set_at (s ++ (m ∷ [])) st.u [] u 121 l ∙ append_snoc s m (u ∷ []))

-- the numbers of a state with a task stored are a state again
module _ (w last : List ℕ) (i : ℕ) (k : Task) (m u : ℕ) (e : last ≡ encode (storing (state_by w) i k m u)) where
  still-eight : length (storing (state_by w) i k m u).tasks ≡ 8
  still-eight = length-set (state_by w).tasks i k ∙ eight w

  pub as_stored : state_by last ≡ storing (state_by w) i k m u
  as_stored = rw e (state-back (storing (state_by w) i k m u) still-eight)

  pub own-stored : is_state last ≡ true
  own-stored = rw e (state-own (storing (state_by w) i k m u) still-eight)

-- a task's row, m and u written over them
module _ (w now last : List ℕ) (i : ℕ) (k : Task) (m u : ℕ) (r : List ℕ) (e : is_state w ≡ true) (h : i < 8) (er : r ≡ work_row k.work) (en : now ≡ paste w (15 * i) r 15) (el : last ≡ set (set now 120 m) 121 u) where
  stored-in : last ≡ encode (storing (state_by w) i k m u)
  stored-in =
      let z : now ≡ paste (encode (state_by w)) (15 * i) (work_row k.work) 15 = rw (own-encode w e, ← er) en in
      rw (el, z) (stored (state_by w) i (eight w) h k m u)

  pub stored-by : state_by last ≡ storing (state_by w) i k m u
  stored-by = as_stored w last i k m u stored-in

  pub stored-own : is_state last ≡ true
  stored-own = own-stored w last i k m u stored-in

-- whether m and u are in range, with and without a count of the tasks
module _ (w : List ℕ) (m u : ℕ) (em : m ≡ get_or w 120 0) (eu : u ≡ get_or w 121 0) where
  pub sound-counted : (n : ℕ) → n ≡ settling (state_by w).tasks 8 → (leb m 1000000 && leb (u + n) m) ≡ sound (state_by w)
  unfolding sound count_open state_by
  sound-counted n en = rw (en, em, eu) refl

  pub sound-few : u + 8 ≤ m → leb m 1000000 ≡ sound (state_by w)
  sound-few h =
      let n : ℕ = settling (state_by w).tasks 8 in
      let z : leb (u + n) m ≡ true = le-leb (u + n) m (omega (arith, eight-settling (state_by w).tasks 8)) in
      sym (rw z (both_true (leb m 1000000))) ∙ sound-counted n refl

-- the first 15 numbers say all of a task
module _ (w : List ℕ) where
  task_first : task_by (take 15 w) ≡ task_by w
  unfolding task_by phase_by put_by take_by settle_by
  task_first =
      simp (
        get_or-take 15 w 0 0 (lit< tt),
        get_or-take 15 w 1 0 (lit< tt),
        get_or-take 15 w 2 0 (lit< tt),
        get_or-take 15 w 3 0 (lit< tt),
        get_or-take 15 w 4 0 (lit< tt),
        get_or-take 15 w 5 0 (lit< tt),
        get_or-take 15 w 6 0 (lit< tt),
        get_or-take 15 w 7 0 (lit< tt),
        get_or-take 15 w 8 0 (lit< tt),
        get_or-take 15 w 9 0 (lit< tt),
        get_or-take 15 w 10 0 (lit< tt),
        get_or-take 15 w 11 0 (lit< tt),
        get_or-take 15 w 12 0 (lit< tt),
        get_or-take 15 w 13 0 (lit< tt),
        get_or-take 15 w 14 0 (lit< tt),
      )

  own_first_row : own_row (take 15 w) ≡ own_row w
  unfolding own_row
  own_first_row = rw (task_first, take_all 15 (take 15 w) (omega (arith, length-take 15 w))) refl

-- the parts of 15 numbers, one after another
rows_own : (c : ℕ) (w : List ℕ) → list_all own_row (first_chunks 15 c w) ≡ own_rows c w
unfolding own_rows
rows_own zero w = refl
rows_own (suc c) w = rw (own_first_row w, rows_own c (drop 15 w)) refl

rows_tasks : (c : ℕ) (w : List ℕ) → map task_by (first_chunks 15 c w) ≡ tasks_by c w
unfolding tasks_by
rows_tasks zero w = refl
rows_tasks (suc c) w = rw (task_first w, rows_tasks c (drop 15 w)) refl

pub row_part : (c i : ℕ) (w d : List ℕ) → i < c → get_or (first_chunks 15 c w) i d ≡ take 15 (drop (15 * i) w)
row_part zero i w d h = absurd (omega arith)
row_part (suc c) zero w d h = refl
row_part (suc c) (suc i) w d h =
    let e : 15 + 15 * i ≡ 15 * suc i = omega arith in
    row_part c i (drop 15 w) d (omega arith) ∙ rw (drop-drop (15 * i) 15 w, e) refl

-- all parts of a state's numbers
pub all_own : (w : List ℕ) → length w ≡ 122 → list_all own_row (first_chunks 15 8 w) ≡ is_state w
all_own w h = rows_own 8 w ∙ sym (own-all w h)

-- task i by its part
pub task_part : (w : List ℕ) (i : ℕ) → i < 8 → task_by (take 15 (drop (15 * i) w)) ≡ task_at (state_by w) i
unfolding state_by
task_part w i h = task_first (drop (15 * i) w) ∙ sym (task_alone 8 w i h)

-- the tasks that settle, counted part by part
pub rows_settling : (w : List ℕ) → count_by (λ r. work_settles (task_by r).work) (first_chunks 15 8 w) ≡ settling (state_by w).tasks 8
unfolding state_by
rows_settling w =
    sym (fold-map (λ n k. n + cond (work_settles k.work) 1 0) task_by 0 (first_chunks 15 8 w))
    ∙ ap (count_by (λ k. work_settles k.work)) (rows_tasks 8 w) ∙ settling_counted (tasks_by 8 w) (eight-read w)
