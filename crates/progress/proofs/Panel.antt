-- One "step" record with a count of at least the budget ends the operation.
use Prim.Native.Nat.{◌<◌, ◌≤◌, suc, zero, ℕ}
use borrow.Author.Tests.{eq-eqb, ne_eqb}
use lib.Dec.{eqb}
use mathlib.Core.Bool.{Bool, ◌&&◌, false, not, true}
use mathlib.Core.List.{List}
use mathlib.Core.Logic.{inl, inr}
use mathlib.Core.Path.{◌∙◌, ◌≡◌, refl, subst, sym}
use native.Mathlib.Omega.{arith}
use Rattle.history.specs.History.{step}
use Rattle.history.specs.Ledger.{Point, advance, goes}
use Rattle.history.specs.Machine.{real}
use Rattle.terms.specs.Answers.{number_of}
use Rattle.machine.specs.CallFile.{run_of}
use Rattle.machine.specs.Step.{Left, step_of}
use Rattle.progress.proofs.Alone.{tasks_end}
use Rattle.progress.proofs.Look.{look-ups_end}
use Rattle.progress.specs.Alone.{Ends, FoundOrNot, answer_after, answer_of}
use Rattle.progress.specs.Budget.{EndAnswer}
use Rattle.progress.specs.Panel.{EveryRun, LookUpRun, run_answer}
use Rattle.terms.specs.declared.Operation.{Operation}
use Rattle.terms.specs.declared.Operation.TheVariants.{LookUp, PutIn, TakeOut}
use Rattle.terms.specs.declared.State.{State}

-- one step of the count
run-open : (c : ℕ) (t : List ℕ) (st : State) (i : ℕ)
    → run_of (suc c) t st i ≡ elim (eqb (number_of (step_of t st i).answer) 0 && not (eqb c 0)) [ true ↦ run_of c (step_of t st i).table (step_of t st i).state i | false ↦ step_of t st i ]
unfolding run_of
run-open c t st i = refl

first : (b : Bool) (x y : Left) → b ≡ true → elim b [ true ↦ x | false ↦ y ] ≡ x
first true x y e = refl
first false x y e = absurd (let z : ◌≡◌ {A = ℕ} 0 1 = cc in omega arith)

second : (b : Bool) (x y : Left) → b ≡ false → elim b [ true ↦ x | false ↦ y ] ≡ y
second true x y e = absurd (let z : ◌≡◌ {A = ℕ} 0 1 = cc in omega arith)
second false x y e = refl

run-last : (E : ℕ → Type 0) → ((x : ℕ) → E x → x ≡ 0 → ⊥) → (i b c : ℕ) (p : Point) → suc b ≤ c → ((d : ℕ) → d < b → answer_after real p i d ≡ 0) → E (answer_after real p i b) → E (run_answer p i c)
unfolding goes advance
run-last E pos i b zero p le going last = absurd (omega arith)
run-last E pos i zero (suc c) p le going last =
    let e = run-open c p.table p.state i ∙ second (eqb (answer_of real p i) 0 && not (eqb c 0)) _ _ (rw (ne_eqb (answer_of real p i) 0 (pos (answer_of real p i) last)) refl) in
    subst (λ (l : Left). E (number_of l.answer)) (sym e) last
run-last E pos i (suc b) (suc c) p le going last =
    let e = run-open c p.table p.state i ∙ first (eqb (answer_of real p i) 0 && not (eqb c 0)) _ _ (rw (eq-eqb (answer_of real p i) 0 (going 0 (omega arith)), ne_eqb c 0 (λ z. omega arith)) refl) in
    subst (λ (l : Left). E (number_of l.answer)) (sym e) (run-last E pos i b c (advance real p (step i)) (omega arith) (λ d h. going (suc d) (omega arith)) last)

ends-run : (E : ℕ → Type 0) → ((x : ℕ) → E x → x ≡ 0 → ⊥) → (i limit c : ℕ) (p : Point) → Ends real p i limit E → limit ≤ c → E (run_answer p i c)
ends-run E pos i limit c p h le = run-last E pos i h.before c p (omega (arith, h.within)) h.going h.last

-- 0 ends nothing
not_zero : (o : Operation) (x : ℕ) → EndAnswer o x → x ≡ 0 → ⊥
not_zero LookUp x e z = elim e [ inl h ↦ omega arith | inr h ↦ omega arith ]
not_zero PutIn x e z = elim e [ inl (inl h) ↦ omega arith | inl (inr (inl h)) ↦ omega arith | inl (inr (inr h)) ↦ omega arith | inr (inl h) ↦ omega arith | inr (inr h) ↦ omega arith ]
not_zero TakeOut x e z = elim e [ inl (inl h) ↦ omega arith | inl (inr h) ↦ omega arith | inr h ↦ omega arith ]

-- THE THEOREMS
pub look-up_run : LookUpRun
look-up_run t st cs n e least most i j accepted count le =
    ends-run FoundOrNot (not_zero LookUp) i _ count _ (look-ups_end t st cs n e least most i j accepted).by_height le

pub every_run : EveryRun
every_run t st cs n e least most i o j accepted count le =
    ends-run (EndAnswer o) (not_zero o) i _ count _ (tasks_end.from-begin t st cs n e least most i o j accepted) le
