-- Begin, abandon and tidy on a state that stays in its numbers.
use mathlib.Core.Path.{◌≡◌, refl, sym, ap, ◌∙◌}
use mathlib.Core.Bool.{Bool, true, false}
use mathlib.Core.List.{List}
use Prim.Native.Nat.{ℕ, ◌+◌, ◌*◌, ◌≤◌, ◌<◌}
use native.Mathlib.Nat.{add-zero}
use lib.ListN.{get_or}
use Rattle.terms.specs.declared.Path.{Path}
use Rattle.terms.specs.declared.Job.{Job}
use Rattle.terms.specs.declared.Operation.{Operation}
use Rattle.terms.specs.declared.Goal.TheVariants.{Serve}
use Rattle.terms.specs.declared.Phase.TheVariants.{Start}
use Rattle.terms.specs.declared.Task.{Task}
use Rattle.terms.specs.declared.State.{State}
use Rattle.terms.specs.declared.Out.{Out}
use Rattle.terms.specs.declared.Answer.TheVariants.{Accepted, PutUnsettled}
use Rattle.terms.specs.Task.{idle_task, begun, abandoned, is_busy, work_settles}
use Rattle.machine.specs.Choice.{if_b}
use Rattle.machine.specs.State.{task_at, with_task, sound}
use Rattle.machine.specs.Contract.{after}
use Rattle.machine.specs.Step.{Left}
use Rattle.machine.specs.Reach.{Reached, hurt, reached}
use Rattle.machine.specs.Calls.{abandoned_out, tidy_reached, tidy_of}
use Rattle.machine.proofs.Choice.{if_elim}
use Rattle.std.specs.Prelude.{Some}
use Rattle.terms.specs.declared.Work.{Work}
use Rattle.terms.specs.declared.Work.TheVariants.{Idle, Busy}
use Rattle.statecode.specs.Code.{goal_number, no_path, no_links, places, phase_row, encode, state_by, is_state, decode}
use Rattle.statecode.specs.Own.{storing}
use Rattle.statecode.specs.Walking.{no_notes, put_first}
use Rattle.statecode.proofs.Inverse.{encode-decode}
use Rattle.statecode.proofs.Walking.{walker-stored, walker-own}
use Rattle.tiebeamer.proofs.ByNumbers.{m_by, u_by, u_bounded}

-- a task that is not busy
idle_is : (k : Task) → is_busy k.work ≡ false → k ≡ idle_task
idle_is k e = by_work k.work e
  where
    by_work : (x : Work) → is_busy x ≡ false → record { work = x } ≡ idle_task
    by_work Idle e = refl
    by_work (Busy j f) e = absurd (cc)

-- a path with nothing in it
pub none_path : (q : Path) → (q.grand ≡ 0) × ((q.parent ≡ 0) × (q.here ≡ 0)) → q ≡ no_path
none_path q (a, b) = let f : record { grand = q.grand; parent = q.parent; here = q.here } ≡ no_path = rw (a, b.0, b.1) refl in f

-- an operation begun over an idle task
module _ (w : List ℕ) (i : ℕ) (own : is_state w ≡ true) (h : i < 8) (b : Bool) (eb : b ≡ is_busy (task_at (state_by w) i).work) (e : b ≡ false) (o : Operation) (j : Job) (x : ℕ) (ex : x ≡ goal_number (Serve o)) (q : Path) (eq : q ≡ no_path) (last : List ℕ) (el : last ≡ put_first w (15 * i) 1 j x q) where
  idle_notes : no_notes (task_at (state_by w) i).work ≡ true
  unfolding no_notes
  idle_notes = ap (λ (z : Task). no_notes z.work) (idle_is (task_at (state_by w) i) (sym eb ∙ e))

  begun-row : places 1 j x q no_links no_links no_links no_links ≡ phase_row j (Start (Serve o))
  begun-row = rw (ex, eq) refl

  pub begun-stored : state_by last ≡ with_task (state_by w) i (begun o j)
  begun-stored = walker-stored w i own h idle_notes (begun o j) 1 j x q begun-row last el

  pub begun-own : is_state last ≡ true
  begun-own = walker-own w i own h idle_notes (begun o j) 1 j x q begun-row last el

-- a task given up
module _ (w : List ℕ) (i : ℕ) (k : Task) (b : Bool) (eb : b ≡ work_settles k.work) (x : Task) (ex : x ≡ abandoned k) (s : State) where
  pub given-up : b ≡ true → s ≡ storing (state_by w) i x (get_or w 120 0) (get_or w 121 0 + 1) → record { state = s; answer = PutUnsettled } ≡ abandoned_out (state_by w) i k
  unfolding abandoned_out if_b
  given-up e es = simp (← eb, e) (rw (es, ex, m_by w, u_by w, add-zero (state_by w).m) refl)

  pub let_go : b ≡ false → s ≡ storing (state_by w) i x (get_or w 120 0) (get_or w 121 0) → record { state = s; answer = Accepted } ≡ abandoned_out (state_by w) i k
  unfolding abandoned_out if_b
  let_go e es = simp (← eb, e) (rw (es, ex, m_by w, u_by w) refl)

pub room_for_one : (w : List ℕ) (b : Bool) → b ≡ sound (state_by w) → b ≡ true → get_or w 121 0 ≤ 1000000
room_for_one w b eb e = u_bounded w (sym eb ∙ e)

-- tidy leaves the state as it is
tidied-state : (t : List ℕ) (st : State) (r : Reached) → (tidy_reached t st r).state ≡ st
unfolding tidy_reached
tidied-state t st hurt = refl
tidied-state t st (reached r marks) = refl

tidy-state : (t : List ℕ) (st : State) → (tidy_of t st).state ≡ st
unfolding tidy_of
tidy-state t st =
    let P : Left → Type 0 = (λ l. l.state ≡ st) in
    if_elim P _ (λ e. refl) (λ e. if_elim P _ (λ e. refl) (λ e. if_elim P _ (λ e. refl) (λ e. tidied-state t st _)))

pub tidy-kept :
    (t w : List ℕ) (st : State) → decode w ≡ Some st → (t' : List ℕ) (o : Out) → after t' o ≡ tidy_of t st → w ≡ encode o.state
unfolding after
tidy-kept t w st e t' o eo =
    let z : o.state ≡ st = ap (λ (l : Left). l.state) eo ∙ tidy-state t st in
    rw z (sym (encode-decode w st e))
