-- What the calls of a history commit, read off what a caller can see: the calls, their answers, and which tasks settle.
use Rattle.std.specs.Prelude.{ℕ, ◌+◌, Bool, true, false, ◌&&◌, ◌||◌, List, [], ◌∷◌, ltb, eqb, get_or, set, replicate}
use Rattle.terms.specs.declared.Job.{Job}
use Rattle.terms.specs.declared.Operation.{Operation}
use Rattle.terms.specs.declared.Operation.TheVariants.{LookUp, PutIn, TakeOut}
use Rattle.terms.specs.declared.State.{State}
use Rattle.terms.specs.Task.{work_settles}
use Rattle.machine.specs.Choice.{if_b}
use Rattle.terms.specs.Answers.{number_of}
use Rattle.machine.specs.State.{task_at}
use Rattle.machine.specs.Step.{Left}
use Rattle.history.specs.Machine.{Machine}
use Rattle.history.specs.History.{Ask, reset, begin, step, abandon, tidy, figures, list, left}

-- a fare: number and price
pub record Fare : Type 0 where
  pub number : ℕ
  pub price : ℕ

-- a put-in or a take-out that committed, with number and price of its begin
pub data Commit : Type 0 where
  put : Job → Commit
  take : Job → Commit

-- what is known of a task: nothing is open, its last accepted begin, or a put-in of it that committed and is not settled yet
pub data Open : Type 0 where
  shut : Open
  begun : Operation → Job → Open
  unsettled : Open

-- the account of a history: the eight tasks, what was committed since the reset, the latest first, and how many put-ins of it
-- ended without a 3
pub record Account : Type 0 where
  pub tasks : List Open
  pub commits : List Commit
  pub lost : ℕ

-- at a reset
abbrev pub opening : Account
opening = record { tasks = replicate 8 shut; commits = []; lost = 0 }

-- ---- what the commits give

-- a put-in adds a fare, before the first larger number
unfoldable pub added : ℕ → ℕ → List Fare → List Fare
added k p [] = record { number = k; price = p } ∷ []
added k p (f ∷ fs) =
    let r = added k p fs in
    elim (ltb k f.number) [ true ↦ record { number = k; price = p } ∷ f ∷ fs | false ↦ f ∷ r ]

-- a take-out removes one
unfoldable pub removed : ℕ → List Fare → List Fare
removed k [] = []
removed k (f ∷ fs) =
    let r = removed k fs in
    elim (eqb k f.number) [ true ↦ fs | false ↦ f ∷ r ]

-- the fares that the commits give, "in commit order" from none
abbrev pub given : List Commit → List Fare
given [] = []
given (put j ∷ cs) = added j.number j.price (given cs)
given (take j ∷ cs) = removed j.number (given cs)

-- how many put-ins there are among them: m
abbrev pub put_ins : List Commit → ℕ
put_ins [] = 0
put_ins (put j ∷ cs) = put_ins cs + 1
put_ins (take j ∷ cs) = put_ins cs

-- ---- which calls commit

abbrev pub open_at : Account → ℕ → Open
open_at a i = get_or a.tasks i shut

abbrev pub with_open : Account → ℕ → Open → Account
with_open a i o = record { tasks = set a.tasks i o; commits = a.commits; lost = a.lost }

-- a commit of task i, of which o is known then
abbrev pub committed : Account → ℕ → Commit → Open → Account
committed a i c o = record { tasks = set a.tasks i o; commits = c ∷ a.commits; lost = a.lost }

-- a committed put-in ends without a 3
abbrev pub lost_one : Account → ℕ → Account
lost_one a i = record { tasks = set a.tasks i shut; commits = a.commits; lost = a.lost + 1 }

-- an answer that ends the task's operation: 1 to 6, 15, 16
unfoldable pub ends : ℕ → Bool
ends x = (ltb 0 x && ltb x 10) || (eqb x 15 || eqb x 16)

-- "a put-in commits at a step of a task begun with put in and not settling yet, if the step answers 3 or leaves the task settling"
unfoldable pub put_stepped : Account → ℕ → Job → ℕ → Bool → Account
put_stepped a i j x settles =
    if_b (eqb x 3) (committed a i (put j) shut)
    (if_b settles (committed a i (put j) unsettled)
    (if_b (ends x) (with_open a i shut) a))

-- "a take-out commits at answer 5"
unfoldable pub take_stepped : Account → ℕ → Job → ℕ → Account
take_stepped a i j x = if_b (eqb x 5) (committed a i (take j) shut) (if_b (ends x) (with_open a i shut) a)

-- a step of task i that answered x and left the task settling or not
unfoldable pub stepped : Open → Account → ℕ → ℕ → Bool → Account
stepped shut a i x settles = a
stepped (begun LookUp j) a i x settles = if_b (ends x) (with_open a i shut) a
stepped (begun PutIn j) a i x settles = put_stepped a i j x settles
stepped (begun TakeOut j) a i x settles = take_stepped a i j x
stepped unsettled a i x settles = if_b (eqb x 3) (with_open a i shut) (if_b (eqb x 6) (lost_one a i) a)

-- an accepted abandon
unfoldable pub abandoned_by : Open → Account → ℕ → Account
abandoned_by shut a i = a
abandoned_by (begun o j) a i = with_open a i shut
abandoned_by unsettled a i = lost_one a i

-- the account after a call that left l
unfoldable pub entered : Account → Ask → Left → Account
entered a reset l = if_b (eqb (number_of l.answer) 0) opening a
entered a (begin i o j) l = if_b (eqb (number_of l.answer) 0) (with_open a i (begun o j)) a
entered a (step i) l = stepped (open_at a i) a i (number_of l.answer) (work_settles (task_at l.state i).work)
entered a (abandon i) l = if_b (ltb (number_of l.answer) 10) (abandoned_by (open_at a i) a i) a
entered a tidy l = a
entered a figures l = a
entered a (list room) l = a

-- ---- c: the put-ins committed that have not ended as settled: the lost ones, and those of tasks that still settle

abbrev pub one_unsettled : Open → ℕ
one_unsettled shut = 0
one_unsettled (begun o j) = 0
one_unsettled unsettled = 1

unfoldable pub still_open : List Open → ℕ
still_open [] = 0
still_open (o ∷ os) = one_unsettled o + still_open os

abbrev pub count_c : Account → ℕ
count_c a = a.lost + still_open a.tasks

-- ---- histories

-- where a history stands: table, state, account
pub record Point : Type 0 where
  pub table : List ℕ
  pub state : State
  pub account : Account

abbrev pub noted : Point → Ask → Left → Point
noted p c l = record { table = l.table; state = l.state; account = entered p.account c l }

-- one call more
unfoldable pub advance : Machine → Point → Ask → Point
advance M p c = noted p c (left M p.table p.state c)

-- the commit order is the order of the calls
unfoldable pub goes : Machine → Point → List Ask → Point
goes M p [] = p
goes M p (c ∷ cs) = goes M (advance M p c) cs

-- a history starts with the reset call, on any table and any state
unfoldable pub started : Machine → List ℕ → State → Point
started M t st = record { table = (M.reset t st).table; state = (M.reset t st).state; account = opening }

unfoldable pub history : Machine → List ℕ → State → List Ask → Point
history M t st cs = goes M (started M t st) cs

-- the fares as the list call writes them
abbrev pub written : List Fare → List ℕ
written [] = []
written (f ∷ fs) = f.number ∷ f.price ∷ written fs
