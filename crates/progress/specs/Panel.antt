-- THE PANEL'S USE of it: one "step" record of the call file, operation 4, with a count of at least the budget ends the operation.
-- A record has a count of at most 65,535: look ups and take-outs always fit into one, a put-in while c is at most 32.
use Rattle.std.specs.Prelude.{◌*◌, ◌+◌, ◌≤◌, ℕ, length, List, ◌≡◌}
use Rattle.demand3.specs.Demand3.{figures_at}
use Rattle.history.specs.History.{Ask, begin}
use Rattle.history.specs.Ledger.{Point, advance, history}
use Rattle.history.specs.Machine.{real}
use Rattle.terms.specs.Answers.{number_of}
use Rattle.machine.specs.CallFile.{run_of}
use Rattle.machine.specs.Calls.{begin_of}
use Rattle.progress.specs.Alone.{FoundOrNot}
use Rattle.progress.specs.Budget.{EndAnswer, budget}
use Rattle.terms.specs.declared.Answer.TheVariants.{Accepted}
use Rattle.terms.specs.declared.Job.{Job}
use Rattle.terms.specs.declared.Operation.{Operation}
use Rattle.terms.specs.declared.Operation.TheVariants.{LookUp}
use Rattle.terms.specs.declared.State.{State}

-- where a history stands after a begin
abbrev pub after_begin : Point → ℕ → Operation → Job → Point
after_begin p i o j = advance real p (begin i o j)

-- operation 4 for task i with this count
abbrev pub run_answer : Point → ℕ → ℕ → ℕ
run_answer p i count = number_of (run_of count p.table p.state i).answer

-- a look up: a count of height + 2 is enough
abbrev pub LookUpRun : Type 0
LookUpRun =
    (t : List ℕ) (st : State) (cs : List Ask) (n : ℕ) → length t ≡ 6 * n → 8 ≤ n → n ≤ 4096
    → (i : ℕ) (j : Job) → (begin_of (history real t st cs).table (history real t st cs).state i LookUp j).answer ≡ Accepted
    → (count : ℕ) → (figures_at real (history real t st cs)).height + 2 ≤ count → FoundOrNot (run_answer (after_begin (history real t st cs) i LookUp j) i count)

-- any operation: a count of its budget is enough
abbrev pub EveryRun : Type 0
EveryRun =
    (t : List ℕ) (st : State) (cs : List Ask) (n : ℕ) → length t ≡ 6 * n → 8 ≤ n → n ≤ 4096
    → (i : ℕ) (o : Operation) (j : Job) → (begin_of (history real t st cs).table (history real t st cs).state i o j).answer ≡ Accepted
    → (count : ℕ) → budget o (figures_at real (history real t st cs)).height (figures_at real (history real t st cs)).c ≤ count
    → EndAnswer o (run_answer (after_begin (history real t st cs) i o j) i count)
