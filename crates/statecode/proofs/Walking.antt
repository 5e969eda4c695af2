-- A walker's numbers: the first seven written store the task, since the rest of its fifteen are 0.
use mathlib.Core.Path.{◌≡◌, refl, sym, ap, ◌∙◌}
use mathlib.Core.Bool.{true}
use mathlib.Core.List.{List, ◌++◌, append_assoc}
use Prim.Native.Nat.{ℕ, ◌*◌, ◌<◌}
use native.Mathlib.Omega.{arith}
use lib.ListN.{length, get_or, drop}
use lib.Seq.{take_at, drop_at, drop-drop}
use Rattle.terms.specs.declared.Path.{Path}
use Rattle.terms.specs.declared.Job.{Job}
use Rattle.terms.specs.declared.Phase.TheVariants.{Start, Walk, PuttingIn, TakingOut, Settling}
use Rattle.terms.specs.declared.Work.{Work}
use Rattle.terms.specs.declared.Work.TheVariants.{Idle, Busy}
use Rattle.terms.specs.declared.Task.{Task}
use Rattle.terms.specs.declared.State.{State}
use Rattle.terms.specs.Task.{idle_task}
use Rattle.statecode.specs.Code.{no_links, places, work_row, encode, task_by, state_by, is_state}
use Rattle.machine.specs.State.{task_at}
use Rattle.statecode.specs.Own.{storing}
use Rattle.statecode.specs.Walking.{no_notes, put_first}
use Rattle.statecode.proofs.Own.{own-encode, eight, task_alone, front, own, later, ends, length_front, whole, set_whole, as_stored, own-stored}

-- seven numbers behind a front
first-behind :
    (a l : List ℕ) (n f : ℕ) (j : Job) (k : ℕ) (q : Path) → length a ≡ n → put_first (a ++ l) n f j k q ≡ a ++ put_first l 0 f j k q
unfolding put_first
first-behind a l n f j k q h = rw (take_at a l n h, ← drop-drop 7 n (a ++ l), drop_at a l n h) (append_assoc a _ _)

-- over the row of a task without notes they are all of a row
first-row :
    (w : Work) → no_notes w ≡ true → (l : List ℕ) (f : ℕ) (j : Job) (k : ℕ) (q : Path)
    → put_first (work_row w ++ l) 0 f j k q ≡ places f j k q no_links no_links no_links no_links ++ l
unfolding no_notes put_first
first-row Idle e l f j k q = refl
first-row (Busy i (Start g)) e l f j k q = refl
first-row (Busy i (Walk g p)) e l f j k q = refl
first-row (Busy i (PuttingIn p s)) e l f j k q = absurd (let r : ◌≡◌ {A = ℕ} 0 1 = cc in omega arith)
first-row (Busy i (TakingOut p s)) e l f j k q = absurd (let r : ◌≡◌ {A = ℕ} 0 1 = cc in omega arith)
first-row (Busy i (Settling p s)) e l f j k q = absurd (let r : ◌≡◌ {A = ℕ} 0 1 = cc in omega arith)

-- task i is what its numbers read as
pub task_row : (w : List ℕ) (i : ℕ) → i < 8 → task_at (state_by w) i ≡ task_by (drop (15 * i) w)
unfolding state_by
task_row w i h = task_alone 8 w i h

module _ (w : List ℕ) (i : ℕ) (e : is_state w ≡ true) (h : i < 8) where
  abbrev st : State
  st = state_by w

  in_parts : w ≡ front st i (eight w) h ++ (own st i (eight w) h ++ (later st i (eight w) h ++ ends st i (eight w) h))
  in_parts = sym (own-encode w e) ∙ whole st i (eight w) h

  -- the numbers from task i on begin with its own
  pub row_at : drop (15 * i) w ≡ work_row (get_or st.tasks i idle_task).work ++ (later st i (eight w) h ++ ends st i (eight w) h)
  row_at = ap (drop (15 * i)) in_parts ∙ drop_at (front st i (eight w) h) (own st i (eight w) h ++ (later st i (eight w) h ++ ends st i (eight w) h)) (15 * i) (length_front st i (eight w) h)

  -- seven numbers written over a task without notes
  module _ (n : no_notes (get_or st.tasks i idle_task).work ≡ true) (k : Task) (f : ℕ) (j : Job) (x : ℕ) (q : Path) (er : places f j x q no_links no_links no_links no_links ≡ work_row k.work) (last : List ℕ) (el : last ≡ put_first w (15 * i) f j x q) where
    in_place : last ≡ encode (storing st i k st.m st.u)
    unfolding encode
    in_place =
        el
        ∙ ap (λ (z : List ℕ). put_first z (15 * i) f j x q) in_parts
        ∙ first-behind (front st i (eight w) h) (own st i (eight w) h ++ (later st i (eight w) h ++ ends st i (eight w) h)) (15 * i) f j x q (length_front st i (eight w) h)
        ∙ ap (λ (z : List ℕ). front st i (eight w) h ++ z) (first-row (get_or st.tasks i idle_task).work n (later st i (eight w) h ++ ends st i (eight w) h) f j x q)
        ∙ ap (λ (z : List ℕ). front st i (eight w) h ++ (z ++ (later st i (eight w) h ++ ends st i (eight w) h))) er
        ∙ set_whole st i (eight w) h k

    pub walker-stored : state_by last ≡ storing st i k st.m st.u
    walker-stored = as_stored w last i k st.m st.u in_place

    pub walker-own : is_state last ≡ true
    walker-own = own-stored w last i k st.m st.u in_place
