-- How the contracts of tidy, figures and list speak of what is handed back.
use Rattle.std.specs.Prelude.{ℕ, ◌≡◌, List, Ok, Err, Some}
use Rattle.std.specs.declared.result.Result.{Result}
use Rattle.terms.specs.declared.State.{State}
use Rattle.terms.specs.declared.Figures.{Figures}
use Rattle.terms.specs.declared.Report.{Report}
use Rattle.terms.specs.declared.Refusal.{Refusal}
use Rattle.terms.specs.declared.Refusal.TheVariants.{Damaged}
use Rattle.terms.specs.declared.Answer.{Answer}
use Rattle.terms.specs.declared.Answer.TheVariants.{Accepted}
use Rattle.terms.specs.Answers.{answer_of}
use Rattle.machine.specs.Table.{View, count_free}
use Rattle.machine.specs.State.{count_open}
use Rattle.machine.specs.Allowed.{allowed_rank}
use Rattle.machine.specs.Reach.{hurt, reach}
use Rattle.machine.specs.Calls.{Listed, no_report}
use Rattle.reach.specs.declared.Below.{Below}
use Rattle.reach.specs.Down.{All}

-- the counts of what the entry reaches, or 17
abbrev pub Found : View → ℕ → Result Below Refusal → Type 0
Found v n (Ok b) = (m : List ℕ) × All v n (Some b) m
Found v n (Err e) = (e ≡ Damaged) × (reach n v ≡ hurt)

-- the figures out of the counts b of what the entry reaches, in a table of n slots
unfoldable pub figures_out : View → ℕ → State → Below → Figures
figures_out v n st b =
    record {
      height = b.height;
      level = b.level;
      c = count_open st;
      m = st.m;
      fares = b.fares;
      free = count_free v n;
      allowed = allowed_rank st.m;
    }

-- figures, or the refusal
abbrev pub reported : Result Figures Refusal → Report
reported (Ok f) = record { answer = Accepted; figures = f }
reported (Err e) = no_report (answer_of e)

-- the answer of a call that may be refused
abbrev pub answered : Result (Unit {0}) Refusal → Answer
answered (Ok u) = Accepted
answered (Err e) = answer_of e

-- a list answered a and left the room so
unfoldable pub listed : Answer → List ℕ → Listed
listed a room = record { answer = a; room = room }
