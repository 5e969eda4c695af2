-- THE CALL FILE AND ITS PROGRAM.
use Rattle.std.specs.Prelude.{ℕ, zero, suc, ◌+◌, ◌*◌, Bool, true, false, ◌&&◌, not, List, [], ◌∷◌, ltb, leb, eqb, length, get_or, take, drop, replicate}
use Rattle.terms.specs.declared.Job.{Job}
use Rattle.terms.specs.declared.Operation.{Operation}
use Rattle.terms.specs.declared.Operation.TheVariants.{LookUp, PutIn, TakeOut}
use Rattle.terms.specs.declared.State.{State}
use Rattle.terms.specs.declared.Figures.{Figures}
use Rattle.terms.specs.declared.Answer.{Answer}
use Rattle.terms.specs.declared.Answer.TheVariants.{Accepted, BadRecord}
use Rattle.terms.specs.declared.Call.{Call}
use Rattle.terms.specs.declared.Call.TheVariants.{Begin, Steps, Abandon, Tidy, Bad}
use Rattle.machine.specs.Choice.{if_b}
use Rattle.terms.specs.Answers.{number_of, price_of}
use Rattle.machine.specs.State.{fresh_state}
use Rattle.machine.specs.Step.{Left, same, step_of}
use Rattle.machine.specs.Calls.{reset_of, begin_of, abandon_of, tidy_of, figures_of}

-- "Records of 12 bytes": "operation .., task, count as two bytes, fare number and price as four bytes each, low byte first"
abbrev pub byte : List ℕ → ℕ → ℕ
byte b i = get_or b i 0

-- "count as two bytes .., low byte first"
unfoldable pub two : List ℕ → ℕ → ℕ
two b i = byte b i + 256 * byte b (i + 1)

-- "four bytes each, low byte first"
unfoldable pub four : List ℕ → ℕ → ℕ
four b i = byte b i + 256 * byte b (i + 1) + 65536 * byte b (i + 2) + 16777216 * byte b (i + 3)

-- "count": bytes 2 and 3
abbrev pub count_of : List ℕ → ℕ
count_of b = two b 2

-- "fare number and price": bytes 4 to 7 and 8 to 11
abbrev pub job_of : List ℕ → Job
job_of b = record { number = four b 4; price = four b 8 }

-- "every unused field is zero (4 to 6 use no fare number or price, 6 no task)"
unfoldable pub no_job : List ℕ → Bool
no_job b = eqb (four b 4) 0 && eqb (four b 8) 0

-- operations 1 to 3: a count other than 0 is 19; a price is begin's to refuse
unfoldable pub begins : List ℕ → Operation → Call
begins b o = if_b (eqb (count_of b) 0) (Begin o (byte b 1) (job_of b)) Bad

-- "Count is 1 to 65,535 for operation 4"
unfoldable pub steps : List ℕ → Call
steps b = if_b (not (eqb (count_of b) 0) && no_job b) (Steps (byte b 1) (count_of b)) Bad

-- operation 5 uses the task alone
unfoldable pub abandons : List ℕ → Call
abandons b = if_b (eqb (count_of b) 0 && no_job b) (Abandon (byte b 1)) Bad

-- operation 6 uses "no task"
unfoldable pub tidies : List ℕ → Call
tidies b = if_b (eqb (byte b 1) 0 && (eqb (count_of b) 0 && no_job b)) Tidy Bad

-- "operation (1 look up, 2 put in, 3 take out, 4 step, 5 abandon, 6 tidy)": of 1 to 3; no other number comes here
unfoldable pub operation_of : ℕ → Operation
operation_of o = if_b (eqb o 1) LookUp (if_b (eqb o 2) PutIn TakeOut)

-- "else .. 19"
unfoldable pub by_operation : ℕ → List ℕ → Call
by_operation o b =
    if_b (leb 1 o && leb o 3) (begins b (operation_of o))
    (if_b (eqb o 4) (steps b)
    (if_b (eqb o 5) (abandons b)
    (if_b (eqb o 6) (tidies b) Bad)))

-- "or for a short last record, 19"
unfoldable pub decode : List ℕ → Call
decode b = if_b (ltb (length b) 12) Bad (by_operation (byte b 0) b)

-- "Operation 4 steps until the count is spent, the task is idle or a refusal comes, and answers as the last step.":
-- a step that answers 0 leaves the task busy, every other answer ends it or refuses
unfoldable pub run_of : ℕ → List ℕ → State → ℕ → Left
run_of zero t st i = same t st Accepted
run_of (suc c) t st i =
    let l = step_of t st i in
    elim (eqb (number_of l.answer) 0 && not (eqb c 0)) [ true ↦ run_of c l.table l.state i | false ↦ l ]

-- what a record asks for; a bad one changes nothing
unfoldable pub serve : List ℕ → State → Call → Left
serve t st (Begin o i j) = begin_of t st i o j
serve t st (Steps i c) = run_of c t st i
serve t st (Abandon i) = abandon_of t st i
serve t st Tidy = tidy_of t st
serve t st Bad = same t st BadRecord

-- "prints per record: its place from 1, operation, task, answer, price; for a short last record operation and task print as 0"
unfoldable pub printed : ℕ → List ℕ → ℕ
printed i b = if_b (ltb (length b) 12) 0 (byte b i)

-- the five numbers of a line
unfoldable pub line_of : ℕ → List ℕ → Answer → List ℕ
line_of p b a = p ∷ printed 0 b ∷ printed 1 b ∷ number_of a ∷ price_of a ∷ []

-- "The last line: end, height, level records, c, m, fares, free slots, allowed rank."
unfoldable pub end_line : Figures → List ℕ
end_line f = f.height ∷ f.level ∷ f.c ∷ f.m ∷ f.fares ∷ f.free ∷ f.allowed ∷ []

-- one record b at place p: what it leaves, and its line
pub record Turned : Type 0 where
  pub table : List ℕ
  pub state : State
  pub line : List ℕ

-- a line from what the call left
abbrev pub lined : ℕ → List ℕ → Left → Turned
lined p b l = record { table = l.table; state = l.state; line = line_of p b l.answer }

-- one record: decoded, served, its line
unfoldable pub record_of : List ℕ → State → ℕ → List ℕ → Turned
record_of t st p b = lined p b (serve t st (decode b))

-- all lines of an input, from place p on; gas: no more records than bytes
unfoldable pub lines_from : ℕ → ℕ → List ℕ → State → List ℕ → List (List ℕ)
lines_from zero p t st bs = end_line (figures_of t st).figures ∷ []
lines_from (suc g) p t st bs =
    elim (eqb (length bs) 0) [
      | true ↦ end_line (figures_of t st).figures ∷ []
      | false ↦
          let r = record_of t st p (take 12 bs) in
          r.line ∷ lines_from g (p + 1) r.table r.state (drop 12 bs)
    ]

-- "The program reads standard input, has 64 slots, resets them and prints per record"
unfoldable pub program_of : List ℕ → List (List ℕ)
program_of bs =
    let l = reset_of (replicate 384 0) fresh_state in
    lines_from (length bs) 1 l.table l.state bs
