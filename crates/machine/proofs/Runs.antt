-- The run of operation 4, a step at a time.
use mathlib.Core.Path.{◌≡◌, refl, sym, subst, ◌∙◌}
use mathlib.Core.Bool.{Bool, true, false, not, ◌&&◌}
use mathlib.Core.List.{List}
use Prim.Native.Nat.{ℕ, suc}
use native.Mathlib.Omega.{arith}
use lib.Dec.{eqb}
use borrow.Author.Tests.{ne_eqb, eqb-true}
use Rattle.terms.specs.declared.State.{State}
use Rattle.terms.specs.declared.Out.{Out}
use Rattle.terms.specs.declared.Answer.{Answer}
use Rattle.terms.specs.declared.Answer.TheVariants.{Accepted, Found, NotHeld, PutSettled, HeldAlready, TakenOut, PutUnsettled, TaskNumber, OutOfRange, TaskBusy, TaskIdle, SomeBusy, NoRoom, Limit, Damaged, Length, BadRecord}
use Rattle.terms.specs.Answers.{number_of}
use Rattle.machine.specs.Contract.{after}
use Rattle.machine.specs.Step.{Left, step_of}
use Rattle.machine.specs.CallFile.{run_of}

pub run_none : (t : List ℕ) (o : Out) (i c : ℕ) → c ≡ 0 → o.answer ≡ Accepted → after t o ≡ run_of c t o.state i
unfolding run_of after
run_none t o i c e a = rw (e, a) refl

run_at :
    (t : List ℕ) (s : State) (i c : ℕ) (l : Left) → l ≡ step_of t s i
    → run_of (suc c) t s i ≡ elim (eqb (number_of l.answer) 0 && not (eqb c 0)) [ true ↦ run_of c l.table l.state i | false ↦ l ]
unfolding run_of
run_at t s i c l e =
    subst
    (λ (x : Left).
    run_of (suc c) t s i ≡ elim (eqb (number_of x.answer) 0 && not (eqb c 0)) [ true ↦ run_of c x.table x.state i | false ↦ x ])
    (sym e) refl

-- only an accepted call answers 0
accepted_if : (a : Answer) → number_of a ≡ 0 → a ≡ Accepted
accepted_if Accepted e = refl
accepted_if (Found p) e = absurd (omega arith)
accepted_if NotHeld e = absurd (omega arith)
accepted_if PutSettled e = absurd (omega arith)
accepted_if HeldAlready e = absurd (omega arith)
accepted_if TakenOut e = absurd (omega arith)
accepted_if PutUnsettled e = absurd (omega arith)
accepted_if TaskNumber e = absurd (omega arith)
accepted_if OutOfRange e = absurd (omega arith)
accepted_if TaskBusy e = absurd (omega arith)
accepted_if TaskIdle e = absurd (omega arith)
accepted_if SomeBusy e = absurd (omega arith)
accepted_if NoRoom e = absurd (omega arith)
accepted_if Limit e = absurd (omega arith)
accepted_if Damaged e = absurd (omega arith)
accepted_if Length e = absurd (omega arith)
accepted_if BadRecord e = absurd (omega arith)

-- a step of the run, by what it answers
module _ (t : List ℕ) (s : State) (i : ℕ) (t' : List ℕ) (o : Out) (eo : after t' o ≡ step_of t s i) where
  run-once :
      (c : ℕ) → run_of (suc c) t s i
      ≡ elim (eqb (number_of o.answer) 0 && not (eqb c 0)) [ true ↦ run_of c t' o.state i | false ↦ after t' o ]
  unfolding after
  run-once c = run_at t s i c (after t' o) eo

  none-more :
      (c : ℕ) (b : Bool) → eqb c 0 ≡ b → o.answer ≡ Accepted
      → elim (true && not b) [ true ↦ run_of c t' o.state i | false ↦ after t' o ] ≡ run_of c t' o.state i
  none-more c false e a = refl
  none-more c true e a = run_none t' o i c (eqb-true c 0 e) a

  -- with c more to come
  module _ (x : ℕ) (ex : x ≡ number_of o.answer) (c left : ℕ) (el : left ≡ suc c) where
    pub stops : (x ≡ 0 → ⊥) → after t' o ≡ run_of left t s i
    stops h = rw el (sym (run-once c ∙ rw (← ex, ne_eqb x 0 h) refl))

    pub goes : x ≡ 0 → (o.answer ≡ Accepted) × (run_of left t s i ≡ run_of c t' o.state i)
    goes h =
        let a = accepted_if o.answer (sym ex ∙ h) in
        let z : eqb (number_of o.answer) 0 ≡ true = rw (← ex, h) refl in
        (a, rw el (run-once c ∙ rw z (none-more c (eqb c 0) refl a)))
