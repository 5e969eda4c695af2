-- A TASK STEPPED ALONE: what its steps answer, and within how many of them its operation ends.
use Rattle.std.specs.Prelude.{◌*◌, ◌+◌, ◌<◌, ◌≤◌, ℕ, length, replicate, List, [], ◌⊎◌, ◌≡◌}
use Rattle.demand3.specs.Demand3.{figures_at}
use Rattle.history.specs.History.{Ask, begin, step}
use Rattle.history.specs.Ledger.{Point, advance, given, goes, history}
use Rattle.history.specs.Machine.{Machine}
use Rattle.terms.specs.Answers.{number_of}
use Rattle.terms.specs.declared.Answer.TheVariants.{Accepted}
use Rattle.terms.specs.declared.Job.{Job}
use Rattle.terms.specs.declared.Operation.TheVariants.{LookUp}
use Rattle.terms.specs.declared.State.{State}

-- so many steps of task i, and nothing else
abbrev pub alone : ℕ → ℕ → List Ask
alone i d = replicate d (step i)

-- what a step of task i answers, and what the step after d of them answers
abbrev pub answer_of : Machine → Point → ℕ → ℕ
answer_of M p i = number_of (M.step p.table p.state i).answer

abbrev pub answer_after : Machine → Point → ℕ → ℕ → ℕ
answer_after M p i d = answer_of M (goes M p (alone i d)) i

-- one of the next `limit` steps of task i alone ends its operation, with an answer of which E holds; all steps before it answer 0
pub record Ends (M : Machine) (p : Point) (i limit : ℕ) (E : ℕ → Type 0) : Type 0 where
  pub before : ℕ
  pub within : before < limit
  pub going : (d : ℕ) → d < before → answer_after M p i d ≡ 0
  pub last : E (answer_after M p i before)

-- a look up: 1 or 2
abbrev pub FoundOrNot : ℕ → Type 0
FoundOrNot x = (x ≡ 1) ⊎ (x ≡ 2)

-- A LOOK UP STEPPED ALONE from its begin, at any point of any history: at most height + 2 steps, where height is the one that figures prints then; while no fare is
-- held, 1 step
pub record LookUpAlone (M : Machine) (p : Point) (i : ℕ) (j : Job) : Type 0 where
  pub by_height : Ends M (advance M p (begin i LookUp j)) i ((figures_at M p).height + 2) FoundOrNot
  pub when_empty : given p.account.commits ≡ [] → Ends M (advance M p (begin i LookUp j)) i 1 FoundOrNot

abbrev pub LookUpsEnd : Machine → Type 0
LookUpsEnd M =
    (t : List ℕ) (st : State) (cs : List Ask) (n : ℕ) → length t ≡ 6 * n → 8 ≤ n → n ≤ 4096
    → (i : ℕ) (j : Job) → (M.begin (history M t st cs).table (history M t st cs).state i LookUp j).answer ≡ Accepted → LookUpAlone M (history M t st cs) i j
