-- A step of a task that walks, by its first seven numbers.
use mathlib.Core.Path.{◌≡◌, refl, sym, ap, ◌∙◌}
use mathlib.Core.Bool.{Bool, true, false, ◌&&◌}
use mathlib.Core.List.{List, ◌++◌}
use Prim.Native.Nat.{ℕ, ◌+◌, ◌*◌}
use native.Mathlib.Nat.{add-zero}
use lib.Dec.{eqb}
use lib.ListN.{get_or}
use Rattle.std.proofs.lemmas.List.{get_or-drop}
use Rattle.std.specs.Prelude.{Some, None, Ok, Err}
use Rattle.std.specs.declared.option.Option.{Option}
use Rattle.std.specs.declared.result.Result.{Result}
use Rattle.terms.specs.declared.Path.{Path}
use Rattle.terms.specs.declared.Job.{Job}
use Rattle.terms.specs.declared.Goal.{Goal}
use Rattle.terms.specs.declared.Phase.{Phase}
use Rattle.terms.specs.declared.Phase.TheVariants.{Start, Walk, PuttingIn, TakingOut, Settling}
use Rattle.terms.specs.declared.PutStage.TheVariants.{PutParent}
use Rattle.terms.specs.declared.TakeStage.TheVariants.{TakeGrand}
use Rattle.terms.specs.declared.SettleStage.TheVariants.{SettleGrand}
use Rattle.terms.specs.declared.Work.{Work}
use Rattle.terms.specs.declared.Work.TheVariants.{Idle, Busy}
use Rattle.terms.specs.declared.Task.{Task}
use Rattle.terms.specs.declared.Answer.{Answer}
use Rattle.terms.specs.declared.Answer.TheVariants.{Accepted, Damaged}
use Rattle.terms.specs.declared.Refusal.{Refusal}
use Rattle.terms.specs.declared.Refusal.TheVariants as R
use Rattle.terms.specs.declared.Turn.{Turn}
use Rattle.terms.specs.declared.Turn.TheVariants.{Hurt, Next, Done}
use Rattle.terms.specs.declared.Out.{Out}
use Rattle.terms.specs.Answers.{answer_of}
use Rattle.terms.specs.Task.{busy, no_grand}
use Rattle.machine.specs.Choice.{if_b}
use Rattle.machine.specs.State.{task_at, sound, job_fits}
use Rattle.machine.specs.Table.{view, slots}
use Rattle.machine.specs.Walk.{walk_from, walk_on}
use Rattle.machine.specs.Commit.{calm}
use Rattle.machine.specs.Contract.{after, turned_out}
use Rattle.machine.specs.Step.{phase_step, step_work}
use Rattle.machine.proofs.Writes.{calmly, quiet}
use Rattle.walk.specs.declared.Arrival.{Arrival}
use Rattle.walk.specs.declared.Arrival.TheVariants.{Lost, On, Puts, Takes, Settles, Ends}
use Rattle.walk.specs.Arrived.{turn_at}
use Rattle.statecode.specs.declared.Walker.{Walker}
use Rattle.statecode.specs.Code.{no_links, places, phase_row, work_row, goal_number, state_by, is_state}
use Rattle.statecode.specs.Own.{storing}
use Rattle.statecode.specs.Walking.{walker_of, no_notes, put_first}
use Rattle.statecode.proofs.Own.{eight, later, ends}
use Rattle.statecode.proofs.Walking.{row_at, walker-stored, walker-own}
use Rattle.tiebeamer.specs.Numbers.{out_by, left_by, Walks}
use Rattle.stepping.proofs.Carrying.{goes_row}
use Rattle.tiebeamer.proofs.ByNumbers.{hurt-turn, next-turn, damaged_row}

by_test : (P : Type 0) (b : Bool) → (b ≡ true → P) → (b ≡ false → P) → P
by_test P true f g = f refl
by_test P false f g = g refl

walker : Job → Goal → Option Path → Walker
walker j g p = record { job = j; goal = g; path = p }

-- a walker is about to walk, or walks
on_way :
    (x : Work) (k : Walker) → walker_of x ≡ Some k → (P : Type 0) → (x ≡ Busy k.job (Start k.goal) → k.path ≡ None → P)
    → ((q : Path) → x ≡ Busy k.job (Walk k.goal q) → k.path ≡ Some q → P) → P
unfolding walker
on_way Idle k e P f g = absurd (cc)
on_way (Busy j (Start h)) k e P f g =
    let z : walker j h None ≡ k = cc in f (ap (λ (y : Walker). Busy y.job (Start y.goal)) z) (sym (ap (λ (y : Walker). y.path) z))
on_way (Busy j (Walk h q)) k e P f g =
    let z : walker j h (Some q) ≡ k = cc in g q (ap (λ (y : Walker). Busy y.job (Walk y.goal q)) z) (sym (ap (λ (y : Walker). y.path) z))
on_way (Busy j (PuttingIn q s)) k e P f g = absurd (cc)
on_way (Busy j (TakingOut q s)) k e P f g = absurd (cc)
on_way (Busy j (Settling q s)) k e P f g = absurd (cc)

module _ (w : List ℕ) (own : is_state w ≡ true) (i : ℕ) (k : Walker) (walks : Walks w i k) where
  abbrev does : Work
  does = (task_at (state_by w) i).work

  no-notes : no_notes does ≡ true
  unfolding no_notes
  no-notes = on_way does k walks.1 (no_notes does ≡ true) (λ e p. rw e refl) (λ q e p. rw e refl)

  -- its place 3 is the number of its goal
  pub detail_is : get_or w (15 * i + 3) 0 ≡ goal_number k.goal
  detail_is =
      let rest : List ℕ = later (state_by w) i (eight w) walks.0 ++ ends (state_by w) i (eight w) walks.0 in
      sym (get_or-drop (15 * i) w 3 0)
      ∙ ap (λ (z : List ℕ). get_or z 3 0) (row_at w i own walks.0)
      ∙ on_way does k walks.1 (get_or (work_row does ++ rest) 3 0 ≡ goal_number k.goal) (λ e p. rw e refl) (λ q e p. rw e refl)

  -- the walker's next phase is stored
  module _ (f x : ℕ) (q : Path) (p : Phase) (er : places f k.job x q no_links no_links no_links no_links ≡ phase_row k.job p) (last : List ℕ) (el : last ≡ put_first w (15 * i) f k.job x q) where
    abbrev next : Task
    next = busy k.job p

    next-state : state_by last ≡ storing (state_by w) i next ((state_by w).m + 0) (state_by w).u
    next-state = walker-stored w i own walks.0 no-notes next f k.job x q er last el ∙ rw (add-zero (state_by w).m) refl

    pub next-stored : (a : Turn) → a ≡ Next next → out_by last Accepted ≡ turned_out (state_by w) i a false
    next-stored a ea = next-turn (state_by w) i a false (state_by w).m (state_by w).u 0 refl refl refl (state_by last) next ea next-state

    pub next-own : is_state last ≡ true
    next-own = walker-own w i own walks.0 no-notes next f k.job x q er last el

  pub on-own : (q : Path) (x : ℕ) → x ≡ goal_number k.goal → (last : List ℕ) → last ≡ put_first w (15 * i) 2 k.job x q → is_state last ≡ true
  on-own q x ex last el = next-own 2 x q (Walk k.goal q) (ap (λ (z : ℕ). places 2 k.job z q no_links no_links no_links no_links) ex) last el

  module _ (q : Path) (a : Arrival) where
    abbrev Stored : List ℕ → Answer → Type 0
    Stored last r = out_by last r ≡ turned_out (state_by w) i (turn_at k.goal k.job q a) false

    pub lost-stored : a ≡ Lost → Stored w Damaged
    unfolding turn_at
    lost-stored e = hurt-turn (state_by w) i _ false (rw e refl)

    pub on-stored : a ≡ On → (x : ℕ) → x ≡ goal_number k.goal → (last : List ℕ) → last ≡ put_first w (15 * i) 2 k.job x q → Stored last Accepted
    unfolding turn_at
    on-stored e x ex last el =
        next-stored 2 x q (Walk k.goal q) (ap (λ (z : ℕ). places 2 k.job z q no_links no_links no_links no_links) ex) last el _ (rw e refl)

    pub puts-stored : a ≡ Puts → (last : List ℕ) → last ≡ put_first w (15 * i) 3 k.job 0 q → Stored last Accepted
    unfolding turn_at
    puts-stored e last el = next-stored 3 0 q (PuttingIn q PutParent) refl last el _ (rw e refl)

    pub takes_stored : a ≡ Takes → (last : List ℕ) → last ≡ put_first w (15 * i) 4 k.job 0 q → Stored last Accepted
    unfolding turn_at
    takes_stored e last el = next-stored 4 0 q (TakingOut q TakeGrand) refl last el _ (rw e refl)

    pub settles_stored : a ≡ Settles → (last : List ℕ) → last ≡ put_first w (15 * i) 5 k.job 0 q → Stored last Accepted
    unfolding turn_at
    settles_stored e last el = next-stored 5 0 q (Settling q SettleGrand) refl last el _ (rw e refl)

    pub ends-stored :
        (b : Answer) → a ≡ Ends b → (last : List ℕ) (r : Answer) → out_by last r ≡ turned_out (state_by w) i (Done b) false
        → Stored last r
    unfolding turn_at
    ends-stored b e last r er = rw e er

  -- the step itself, of a sound state and a job in range or not
  module _ (t : List ℕ) (b : Bool) (eb : b ≡ sound (state_by w)) (c : Bool) (ec : c ≡ job_fits k.job) where
    abbrev Stepped : Out → Type 0
    Stepped r = after t r ≡ step_work t (state_by w) i does

    pub damaged_walk : (b && c) ≡ false → Stepped (out_by w Damaged)
    damaged_walk h =
        on_way does k walks.1 (Stepped (out_by w Damaged))
        (λ e p. damaged_row t (state_by w) i _ k.job _ e b eb c ec h)
        (λ q e p. damaged_row t (state_by w) i _ k.job _ e b eb c ec h)

    module _ (h : (b && c) ≡ true) (n : ℕ) (en : n ≡ slots t) where
      abbrev Does : Phase → Turn → Type 0
      Does f x = phase_step (view n t) n (state_by w).m k.job f ≡ calm x

      by_turn : (f : Phase) → does ≡ Busy k.job f → (x : Turn) → Does f x → (r : Out) → r ≡ turned_out (state_by w) i x false → Stepped r
      by_turn f ef x ex r er =
          goes_row t (state_by w) i _ k.job f ef b eb c ec h n en t (calmly x) (quiet t (calmly x) x _ refl ex) r er

      abbrev Left : Result (ℕ × ℕ) Refusal → Type 0
      Left r = left_by k ≡ r

      at-start : k.path ≡ None → Left (Ok (no_grand, 0))
      at-start p = rw p refl

      at-entry : (q : Path) → k.path ≡ Some q → eqb q.here 0 ≡ true → Left (Err R.Damaged)
      unfolding if_b
      at-entry q p z = rw (p, z) refl

      below-entry : (q : Path) → k.path ≡ Some q → eqb q.here 0 ≡ false → Left (Ok (q.parent, q.here))
      unfolding if_b
      below-entry q p z = rw (p, z) refl

      start-does : (x : Turn) → x ≡ walk_from (view n t) n k.goal k.job no_grand 0 → Does (Start k.goal) x
      unfolding phase_step
      start-does x ex = ap calm (sym ex)

      lost-does : (q : Path) → eqb q.here 0 ≡ true → Does (Walk k.goal q) Hurt
      unfolding phase_step walk_on if_b
      lost-does q z = rw z refl

      walk_does : (q : Path) → eqb q.here 0 ≡ false → (x : Turn) → x ≡ walk_from (view n t) n k.goal k.job q.parent q.here → Does (Walk k.goal q) x
      unfolding phase_step walk_on if_b
      walk_does q z x ex = rw (z, ex) refl

      pub lost-walk : (e : Refusal) → Left (Err e) → Stepped (out_by w (answer_of e))
      lost-walk e l =
          on_way does k walks.1 (Stepped (out_by w (answer_of e)))
          (λ x p. absurd (let z : Ok (no_grand, 0) ≡ Err e = sym (at-start p) ∙ l in cc))
          (λ q x p.
          by_test (Stepped (out_by w (answer_of e))) (eqb q.here 0)
          (λ z.
          let d : Err R.Damaged ≡ Err e = sym (at-entry q p z) ∙ l in
          let y : R.Damaged ≡ e = cc in
          by_turn _ x Hurt (lost-does q z) (out_by w (answer_of e)) (rw (← y) (hurt-turn (state_by w) i Hurt false refl)))
          (λ z. absurd (let d : Ok (q.parent, q.here) ≡ Err e = sym (below-entry q p z) ∙ l in cc)))

      pub gone-walk :
          (p : ℕ × ℕ) → Left (Ok p) → (x : Turn) → x ≡ walk_from (view n t) n k.goal k.job p.0 p.1
          → (r : Out) → r ≡ turned_out (state_by w) i x false → Stepped r
      gone-walk s l x ex r er =
          on_way does k walks.1 (Stepped r)
          (λ d p.
          let y : Ok (no_grand, 0) ≡ Ok s = sym (at-start p) ∙ l in
          let u : (no_grand, 0) ≡ s = cc in
          by_turn _ d x (start-does x (ex ∙ ap (λ (v : ℕ × ℕ). walk_from (view n t) n k.goal k.job v.0 v.1) (sym u))) r er)
          (λ q d p.
          by_test (Stepped r) (eqb q.here 0)
          (λ z. absurd (let y : Err R.Damaged ≡ Ok s = sym (at-entry q p z) ∙ l in cc))
          (λ z.
          let y : Ok (q.parent, q.here) ≡ Ok s = sym (below-entry q p z) ∙ l in
          let u : (q.parent, q.here) ≡ s = cc in
          by_turn _ d x (walk_does q z x (ex ∙ ap (λ (v : ℕ × ℕ). walk_from (view n t) n k.goal k.job v.0 v.1) (sym u))) r er))
