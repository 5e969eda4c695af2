-- WRONG MACHINES: each is the real one but for one line; `refusing` alone answers every call otherwise.
use Rattle.std.specs.Prelude.{◌+◌, ℕ, eqb, length, Bool, false, true, List, [], ◌∷◌}
use Rattle.history.specs.Machine.{Machine, with_step}
use Rattle.terms.specs.Answers.{number_of}
use Rattle.machine.specs.Calls.{abandon_of, begin_of, empty_table, figures_of, list_of, no_report, reset_of, tidy_of}
use Rattle.machine.specs.Choice.{if_b}
use Rattle.machine.specs.State.{task_at}
use Rattle.machine.specs.Step.{Left, same, step_of}
use Rattle.machine.specs.Table.{View, Write, fill, puts, slots, view}
use Rattle.terms.specs.declared.Answer.TheVariants.{Damaged}
use Rattle.terms.specs.declared.Goal.TheVariants.{Serve, Settle}
use Rattle.terms.specs.declared.Links.{Links}
use Rattle.terms.specs.declared.Operation.TheVariants.{LookUp, PutIn, TakeOut}
use Rattle.terms.specs.declared.Path.{Path}
use Rattle.terms.specs.declared.Phase.TheVariants.{PuttingIn, Settling, Start, TakingOut, Walk}
use Rattle.terms.specs.declared.PutStage.{PutStage}
use Rattle.terms.specs.declared.PutStage.TheVariants.{PutCommit, PutLeaf, PutParent}
use Rattle.terms.specs.declared.State.{State}
use Rattle.terms.specs.declared.TakeStage.{TakeStage}
use Rattle.terms.specs.declared.TakeStage.TheVariants.{TakeCommit, TakeGrand, TakeLeft, TakeParent, TakeRight}
use Rattle.terms.specs.declared.Work.{Work}
use Rattle.terms.specs.declared.Work.TheVariants.{Busy, Idle}

-- it refuses every call
abbrev pub refusing : Machine
refusing =
    record {
      reset = λ t st. same t st Damaged;
      begin = λ t st i o j. same t st Damaged;
      step = λ t st i. same t st Damaged;
      abandon = λ t st i. same t st Damaged;
      tidy = λ t st. same t st Damaged;
      figures = λ t st. no_report Damaged;
      list = λ t st room. record { answer = Damaged; room = room };
    }

-- the first step of a put-in does all of it; the later ones only pretend
abbrev starts_put : Work → Bool
starts_put Idle = false
starts_put (Busy j (Start (Serve LookUp))) = false
starts_put (Busy j (Start (Serve PutIn))) = true
starts_put (Busy j (Start (Serve TakeOut))) = false
starts_put (Busy j (Start Settle)) = false
starts_put (Busy j (Walk g q)) = false
starts_put (Busy j (PuttingIn q s)) = false
starts_put (Busy j (TakingOut q s)) = false
starts_put (Busy j (Settling q s)) = false

abbrev again : Left → ℕ → Left
again l i = step_of l.table l.state i

unfoldable pub eager_step : List ℕ → State → ℕ → Left
eager_step t st i =
    if_b (starts_put (task_at st i).work)
    (record { table = (again (again (again (step_of t st i) i) i) i).table; state = (step_of t st i).state; answer = (step_of t st i).answer })
    (step_of t st i)

abbrev pub eager : Machine
eager = with_step eager_step

-- begin notes the next number
abbrev pub other_number : Machine
other_number =
    record {
      reset = reset_of;
      begin = λ t st i o j. begin_of t st i o (record { number = j.number + 1; price = j.price });
      step = step_of;
      abandon = abandon_of;
      tidy = tidy_of;
      figures = figures_of;
      list = list_of;
    }

-- a step forgets to count
unfoldable pub uncounted_step : List ℕ → State → ℕ → Left
uncounted_step t st i =
    record {
      table = (step_of t st i).table;
      state = record { tasks = (step_of t st i).state.tasks; m = st.m; u = (step_of t st i).state.u };
      answer = (step_of t st i).answer;
    }

abbrev pub uncounted : Machine
uncounted = with_step uncounted_step

-- a record as it was read: in state 1, with the links noted. A commit on such a table does not see what happened since
abbrev as_read : View → ℕ → Links → Write
as_read v s a = fill s (record { state = 1; number = (v s).number; price = (v s).price; rank = (v s).rank; left = a.left; right = a.right })

abbrev stale_put : View → Path → PutStage → List Write
stale_put v q PutParent = []
stale_put v q (PutLeaf a) = []
stale_put v q (PutCommit a b) = as_read v q.parent a ∷ as_read v q.here b ∷ []

abbrev stale_take : View → Path → TakeStage → List Write
stale_take v q TakeGrand = []
stale_take v q (TakeParent a) = []
stale_take v q (TakeLeft a b) = []
stale_take v q (TakeRight a b c) = []
stale_take v q (TakeCommit a b c d) = as_read v q.grand a ∷ as_read v q.parent b ∷ as_read v b.left c ∷ as_read v b.right d ∷ []

-- a put-in commits on a stale leaf
abbrev before_put : View → Work → List Write
before_put v Idle = []
before_put v (Busy j (Start g)) = []
before_put v (Busy j (Walk g q)) = []
before_put v (Busy j (PuttingIn q s)) = stale_put v q s
before_put v (Busy j (TakingOut q s)) = []
before_put v (Busy j (Settling q s)) = []

unfoldable pub stale_put_step : List ℕ → State → ℕ → Left
stale_put_step t st i = step_of (puts t (before_put (view (slots t) t) (task_at st i).work)) st i

abbrev pub puts_on_stale : Machine
puts_on_stale = with_step stale_put_step

-- a take-out removes the neighbour that came since it read
abbrev before_take : View → Work → List Write
before_take v Idle = []
before_take v (Busy j (Start g)) = []
before_take v (Busy j (Walk g q)) = []
before_take v (Busy j (PuttingIn q s)) = []
before_take v (Busy j (TakingOut q s)) = stale_take v q s
before_take v (Busy j (Settling q s)) = []

unfoldable pub stale_take_step : List ℕ → State → ℕ → Left
stale_take_step t st i = step_of (puts t (before_take (view (slots t) t) (task_at st i).work)) st i

abbrev pub takes_neighbour : Machine
takes_neighbour = with_step stale_take_step

-- tidy frees what is reachable too
abbrev pub sweeps_all : Machine
sweeps_all =
    record {
      reset = reset_of;
      begin = begin_of;
      step = step_of;
      abandon = abandon_of;
      tidy = λ t st. record { table = if_b (eqb (number_of (tidy_of t st).answer) 0) (empty_table (length t)) t; state = st; answer = (tidy_of t st).answer };
      figures = figures_of;
      list = list_of;
    }
