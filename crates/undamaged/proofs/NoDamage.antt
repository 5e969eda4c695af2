-- NO 17: on every history, of every call.
use Prim.Native.Nat.{◌*◌, ◌<◌, ◌≤◌, ℕ}
use borrow.Author.Tests.{lt-ltb, not-true}
use borrow.Fn.PlainCycle.{is}
use lib.ListN.{length}
use mathlib.Core.Bool.{Bool, ◌&&◌, false, not, true}
use mathlib.Core.List.{List, [], ◌∷◌}
use mathlib.Core.Logic.{inl, inr}
use mathlib.Core.Path.{◌∙◌, ◌≡◌, ap, refl, subst, sym}
use native.Mathlib.Omega.{arith}
use Rattle.demand2.proofs.Carried.{same-slots, same-tree}
use Rattle.demand2.proofs.Demand2.{kept}
use Rattle.demand2.proofs.Fresh.{fresh-size, fresh-tree, reset-is, stands-fresh}
use Rattle.demand2.proofs.Lengths.{fits-of}
use Rattle.demand2.proofs.Passes.{first_tree, passing, view_at}
use Rattle.demand2.proofs.Seen.{reach-is}
use Rattle.demand2.proofs.Stands.{Stands, fits-is, slots-is, sound-is}
use Rattle.demand2.specs.Demand2.{held_at}
use Rattle.demand3.proofs.Demand3.{low, rich-on}
use Rattle.demand3.proofs.Rich.{Rich, extra_at, extra_fresh}
use Rattle.history.specs.History.{Ask, abandon, begin, figures, left, list, reset, step, tidy}
use Rattle.history.specs.Ledger.{Point, advance, goes, history, opening, started}
use Rattle.history.specs.Machine.{real}
use Rattle.machine.proofs.Choice.{if_elim}
use Rattle.terms.specs.Answers.{number_of}
use Rattle.machine.specs.Calls.{Listed, abandon_of, abandoned_out, begin_of, empty_table, figures_of, list_of, reset_of, tidy_of, tidy_reached}
use Rattle.machine.specs.Choice.{if_b}
use Rattle.machine.specs.Commit.{Did}
use Rattle.machine.specs.Contract.{after}
use Rattle.machine.specs.Record.{number_fits, price_fits}
use Rattle.machine.specs.State.{fresh_state, job_fits, sound, task_at}
use Rattle.machine.specs.Step.{Left, answered, carried, step_of, step_work}
use Rattle.steps.proofs.Steps.{step-does}
use Rattle.steps.specs.Does.{Does, EndOf, Quiet, hurts, leaves, moves-on, put-commits, rests, settle-commits, settled, stops, take-commits, turn_of_put}
use Rattle.steps.specs.Trail.{WorkOk}
use Rattle.terms.specs.declared.Job.{Job}
use Rattle.terms.specs.declared.Operation.{Operation}
use Rattle.terms.specs.declared.Operation.TheVariants.{LookUp, PutIn, TakeOut}
use Rattle.terms.specs.declared.Out.{Out}
use Rattle.terms.specs.declared.Phase.{Phase}
use Rattle.terms.specs.declared.State.{State}
use Rattle.terms.specs.declared.Turn.{Turn}
use Rattle.terms.specs.declared.Work.{Work}
use Rattle.terms.specs.declared.Work.TheVariants.{Busy, Idle}
use Rattle.undamaged.proofs.Facts.{Facts, Hale, facts-on, fresh-facts, step-safe}
use Rattle.undamaged.proofs.Walks.{true_false}
use Rattle.undamaged.specs.NoDamage.{No17}
use Rattle.undamaged.specs.Safe.{Safe}
use Rattle.views.proofs.Law.{in_or_out}

-- ---- every call keeps what is needed

hale-on : {p : Point} → Hale p → (c : Ask) → Hale (advance real p c)
unfolding advance
hale-on {p} h c =
    let s = h.rich.stands in
    let ps = (passing s c).passes in
    let r = rich-on h.rich c in
    let fs = facts-on s (extra_at h.rich) h.facts ps in
    record {
      rich = r;
      facts = subst (λ n. Facts n r.stands.tree (advance real p c)) (sym (same-slots s ps r.stands)) (subst (λ t. Facts s.n t (advance real p c)) (sym (same-tree s ps r.stands)) fs);
    }

hale-all : {p : Point} → Hale p → (cs : List Ask) → Hale (goes real p cs)
unfolding goes
hale-all h [] = h
hale-all {p} h (c ∷ cs) = hale-all {p = advance real p c} (hale-on h c) cs

hale-fresh : (l n : ℕ) → l ≡ n * 6 → 8 ≤ n → n ≤ 4096 → Hale (record { table = empty_table l; state = fresh_state; account = opening })
hale-fresh l n six least most =
    let s = stands-fresh l n six least most in
    let r : Rich (record { table = empty_table l; state = fresh_state; account = opening }) = record { stands = s; n = n; tree = first_tree; extra = extra_fresh l n six least most } in
    record {
      rich = r;
      facts = subst (λ k. Facts k s.tree (record { table = empty_table l; state = fresh_state; account = opening })) (same n s.n (length (empty_table l)) (fresh-size l n six least most) s.size)
          (subst (λ u. Facts n u (record { table = empty_table l; state = fresh_state; account = opening })) (sym (fresh-tree l n six least most)) (fresh-facts l n six least most));
    }
  where
    same : (a b l : ℕ) → l ≡ a * 6 → l ≡ b * 6 → a ≡ b
    same a b l e f = omega arith

pub hale : (t : List ℕ) (st : State) (cs : List Ask) (n : ℕ) → length t ≡ 6 * n → 8 ≤ n → n ≤ 4096 → Hale (history real t st cs)
unfolding history started
hale t st cs n e least most =
    let six : length t ≡ n * 6 = omega arith in
    hale-all (subst (λ l. Hale (record { table = l.table; state = l.state; account = opening })) (sym (reset-is t st (fits-of (length t) n six least most))) (hale-fresh (length t) n six least most)) cs

-- ---- no call answers 17

abbrev Fine17 : Left → Type 0
Fine17 l = number_of l.answer ≡ 17 → ⊥

-- a number and a price in their limits pass the step's test of them
pub fits-job : (j : Job) → j.number < 1000000 → j.price < 100000 → job_fits j ≡ true
unfolding job_fits number_fits price_fits
fits-job j a b = rw (lt-ltb j.number 1000000 a, lt-ltb j.price 100000 b) refl

module _ {p : Point} (h : Hale p) where
  abbrev s : Stands p
  s = h.rich.stands

  abbrev t : List ℕ
  t = p.table

  abbrev st : State
  st = p.state

  no : {A : Type 0} (b : Bool) → b ≡ true → not b ≡ true → A
  no b e f = true_false b e (not-true b f)

  reset-fine : Fine17 (reset_of t st)
  reset-fine = rw (reset-is t st (fits-is s)) (λ e. omega arith)

  begin-fine : (i : ℕ) (o : Operation) (j : Job) → Fine17 (begin_of t st i o j)
  unfolding begin_of
  begin-fine i o j =
      if_elim Fine17 _ (λ e q. omega arith)
      (λ e. if_elim Fine17 _ (λ b q. omega arith)
      (λ b. if_elim Fine17 _ (λ c q. omega arith)
      (λ c. if_elim Fine17 _ (λ d q. omega arith)
      (λ d. if_elim Fine17 _ (λ f. no (sound st) (sound-is s) f) (λ f q. omega arith)))))

  abandon-fine : (i : ℕ) → Fine17 (abandon_of t st i)
  unfolding abandon_of abandoned_out after
  abandon-fine i =
      if_elim Fine17 _ (λ e q. omega arith)
      (λ e. if_elim Fine17 _ (λ b q. omega arith)
      (λ b. if_elim Fine17 _ (λ c q. omega arith)
      (λ c. if_elim Fine17 _ (λ f. no (sound st) (sound-is s) f) (λ f. if_elim (λ (o : Out). number_of o.answer ≡ 17 → ⊥) _ (λ g q. omega arith) (λ g q. omega arith)))))

  tidy-fine : Fine17 (tidy_of t st)
  unfolding tidy_of tidy_reached
  tidy-fine =
      if_elim Fine17 _ (λ e q. omega arith)
      (λ e. if_elim Fine17 _ (λ b q. omega arith)
      (λ b. if_elim Fine17 _ (λ f. no (sound st) (sound-is s) f) (λ f. rw (reach-is s) (λ q. omega arith))))

  -- a step's end is never 17
  end-fine : (o : Operation) (x : ℕ) → EndOf o x → x ≡ 17 → ⊥
  end-fine LookUp x (inl e) q = omega arith
  end-fine LookUp x (inr e) q = omega arith
  end-fine PutIn x (inl e) q = omega arith
  end-fine PutIn x (inr (inl e)) q = omega arith
  end-fine PutIn x (inr (inr e)) q = omega arith
  end-fine TakeOut x (inl e) q = omega arith
  end-fine TakeOut x (inr e) q = omega arith

  quiet-fine : (j : Job) (f : Phase) (b : Turn) → Quiet (view_at s) s.tree j f b → Safe (view_at s) s.tree b → number_of (answered b) ≡ 17 → ⊥
  quiet-fine j f _ hurts sf q = sf
  quiet-fine j f _ (moves-on f' e ok mv) sf q = omega arith
  quiet-fine j f _ (stops o x e n) sf q = end-fine o (number_of x) n q
  quiet-fine j f _ (settled e w l z) sf q = omega arith
  quiet-fine j f _ (leaves e) sf q = omega arith

  put-fine : (j : Job) (b : Bool) → number_of (answered (turn_of_put j b)) ≡ 17 → ⊥
  unfolding if_b
  put-fine j true q = omega arith
  put-fine j false q = omega arith

  does-fine : {j : Job} {f : Phase} {d : Did} → Does (view_at s) s.tree st.m j f d → Safe (view_at s) s.tree d.turn → number_of (answered d.turn) ≡ 17 → ⊥
  does-fine {j} {f} (rests b q) sf = quiet-fine j f b q sf
  does-fine {j} (put-commits b ws lim g ch) sf = put-fine j b
  does-fine (take-commits ws g ch) sf = λ q. omega arith
  does-fine (settle-commits ws g ch) sf = λ q. omega arith

  work-fine : (i : ℕ) (w : Work) → (task_at st i).work ≡ w → Fine17 (step_work t st i w)
  unfolding step_work carried
  work-fine i Idle is = λ q. omega arith
  work-fine i (Busy j f) is =
      let ok = subst (WorkOk (view_at s) s.tree) is (s.ok i) in
      if_elim Fine17 _ (λ e. no (sound st && job_fits j) (rw (sound-is s, fits-job j ok.0 ok.1) refl) e)
      (λ e. rw (slots-is s) (does-fine (step-does (view_at s) s.tree s.carries s.shape s.n st.m j f ok) (step-safe s (extra_at h.rich) h.facts i j f is)))

  step-fine : (i : ℕ) → Fine17 (step_of t st i)
  unfolding step_of
  step-fine i = if_elim Fine17 _ (λ e q. omega arith) (λ e. if_elim Fine17 _ (λ b q. omega arith) (λ b. work-fine i (task_at st i).work refl))

  figures-fine : number_of (figures_of t st).answer ≡ 17 → ⊥
  figures-fine = rw (low h.rich).answers (λ q. omega arith)

  list-fine : (room : List ℕ) → number_of (list_of t st room).answer ≡ 17 → ⊥
  list-fine room q =
      elim (in_or_out (length room) (2 * length (held_at p))) [
        | inl lt ↦ omega (arith, sym (ap (λ (l : Listed). number_of l.answer) ((kept s).no_room room lt)) ∙ q)
        | inr ge ↦ omega (arith, sym (ap (λ (l : Listed). number_of l.answer) ((kept s).listed room ge)) ∙ q)
      ]

  call_fine : (c : Ask) → Fine17 (left real t st c)
  call_fine reset = reset-fine
  call_fine (begin i o j) = begin-fine i o j
  call_fine (step i) = step-fine i
  call_fine (abandon i) = abandon-fine i
  call_fine tidy = tidy-fine
  call_fine figures = figures-fine
  call_fine (list room) = list-fine room

-- THE THEOREM
pub no-17 : No17 real
no-17 t st cs c n e least most = call_fine (hale t st cs n e least most) c
