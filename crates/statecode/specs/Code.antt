-- A state as numbers, and back (docs/PROBE.md): eight tasks of 15 numbers each, then m, then u.
use Rattle.std.specs.Prelude.{ℕ, zero, suc, ◌+◌, Bool, true, false, ◌&&◌, List, [], ◌∷◌, ◌++◌, eqb, get_or, drop, Some, None}
use Rattle.std.specs.declared.option.Option.{Option}
use Rattle.terms.specs.declared.Links.{Links}
use Rattle.terms.specs.declared.Path.{Path}
use Rattle.terms.specs.declared.Job.{Job}
use Rattle.terms.specs.declared.Operation.TheVariants.{LookUp, PutIn, TakeOut}
use Rattle.terms.specs.declared.Goal.{Goal}
use Rattle.terms.specs.declared.Goal.TheVariants.{Serve, Settle}
use Rattle.terms.specs.declared.PutStage.{PutStage}
use Rattle.terms.specs.declared.PutStage.TheVariants.{PutParent, PutLeaf, PutCommit}
use Rattle.terms.specs.declared.TakeStage.{TakeStage}
use Rattle.terms.specs.declared.TakeStage.TheVariants.{TakeGrand, TakeParent, TakeLeft, TakeRight, TakeCommit}
use Rattle.terms.specs.declared.SettleStage.{SettleStage}
use Rattle.terms.specs.declared.SettleStage.TheVariants.{SettleGrand, SettleParent, SettleChoose, SettleRotate, SettleDouble}
use Rattle.terms.specs.declared.Phase.{Phase}
use Rattle.terms.specs.declared.Phase.TheVariants.{Start, Walk, PuttingIn, TakingOut, Settling}
use Rattle.terms.specs.declared.Work.{Work}
use Rattle.terms.specs.declared.Work.TheVariants.{Idle, Busy}
use Rattle.terms.specs.declared.Task.{Task}
use Rattle.terms.specs.declared.State.{State}
use Rattle.terms.specs.Task.{idle_task, busy}
use Rattle.machine.specs.Choice.{if_b}

-- "the goal, 1 look up, 2 put in, 3 take out, 4 settle"
abbrev pub goal_number : Goal → ℕ
goal_number (Serve LookUp) = 1
goal_number (Serve PutIn) = 2
goal_number (Serve TakeOut) = 3
goal_number Settle = 4

-- "A place that a phase does not use is 0"
abbrev pub no_links : Links
no_links = record { left = 0; right = 0 }

-- the same for a path
abbrev pub no_path : Path
no_path = record { grand = 0; parent = 0; here = 0 }

-- the same for fare number and price
abbrev pub empty_job : Job
empty_job = record { number = 0; price = 0 }

-- the 15 places: phase, fare number and price, goal or count, path, links noted
abbrev pub places : ℕ → Job → ℕ → Path → Links → Links → Links → Links → List ℕ
places f j k q a b c d =
    f ∷ j.number ∷ j.price ∷ k ∷ q.grand ∷ q.parent ∷ q.here
    ∷ a.left ∷ a.right ∷ b.left ∷ b.right ∷ c.left ∷ c.right ∷ d.left ∷ d.right ∷ []

-- "3 putting in": "how many records were read so far"
abbrev pub put_row : Job → Path → PutStage → List ℕ
put_row j q PutParent = places 3 j 0 q no_links no_links no_links no_links
put_row j q (PutLeaf a) = places 3 j 1 q a no_links no_links no_links
put_row j q (PutCommit a b) = places 3 j 2 q a b no_links no_links

-- "4 taking out"
abbrev pub take_row : Job → Path → TakeStage → List ℕ
take_row j q TakeGrand = places 4 j 0 q no_links no_links no_links no_links
take_row j q (TakeParent a) = places 4 j 1 q a no_links no_links no_links
take_row j q (TakeLeft a b) = places 4 j 2 q a b no_links no_links
take_row j q (TakeRight a b c) = places 4 j 3 q a b c no_links
take_row j q (TakeCommit a b c d) = places 4 j 4 q a b c d

-- "5 settling"
abbrev pub settle_row : Job → Path → SettleStage → List ℕ
settle_row j q SettleGrand = places 5 j 0 q no_links no_links no_links no_links
settle_row j q (SettleParent a) = places 5 j 1 q a no_links no_links no_links
settle_row j q (SettleChoose a b) = places 5 j 2 q a b no_links no_links
settle_row j q (SettleRotate a b c) = places 5 j 3 q a b c no_links
settle_row j q (SettleDouble a b c d) = places 5 j 4 q a b c d

-- "1 about to walk, 2 walking", then the others
abbrev pub phase_row : Job → Phase → List ℕ
phase_row j (Start g) = places 1 j (goal_number g) no_path no_links no_links no_links no_links
phase_row j (Walk g q) = places 2 j (goal_number g) q no_links no_links no_links no_links
phase_row j (PuttingIn q s) = put_row j q s
phase_row j (TakingOut q s) = take_row j q s
phase_row j (Settling q s) = settle_row j q s

-- "an idle task is 15 zeros"
abbrev pub work_row : Work → List ℕ
work_row Idle = places 0 empty_job 0 no_path no_links no_links no_links no_links
work_row (Busy j f) = phase_row j f

-- the numbers of tasks, one after another
unfoldable pub rows : List Task → List ℕ
rows [] = []
rows (k ∷ ks) = work_row k.work ++ rows ks

-- "Eight tasks of 15 numbers each, then m, then u: 122 numbers."
unfoldable pub encode : State → List ℕ
encode st = rows st.tasks ++ (st.m ∷ st.u ∷ [])

-- the way back: what the numbers of a task read as, whether they are a task's or not
abbrev pub job_by : List ℕ → Job
job_by w = record { number = get_or w 1 0; price = get_or w 2 0 }

-- places 4, 5, 6
abbrev pub path_by : List ℕ → Path
path_by w = record { grand = get_or w 4 0; parent = get_or w 5 0; here = get_or w 6 0 }

-- "the links noted so far, left and right of each record read"
abbrev pub links_by : List ℕ → ℕ → Links
links_by w i = record { left = get_or w i 0; right = get_or w (i + 1) 0 }

-- the goal of its number
unfoldable pub goal_by : ℕ → Goal
goal_by g =
    if_b (eqb g 1) (Serve LookUp)
    (if_b (eqb g 2) (Serve PutIn)
    (if_b (eqb g 3) (Serve TakeOut) Settle))

-- the stage of a put-in with k records read
unfoldable pub put_by : List ℕ → ℕ → PutStage
put_by w k =
    if_b (eqb k 0) PutParent
    (if_b (eqb k 1) (PutLeaf (links_by w 7))
    (PutCommit (links_by w 7) (links_by w 9)))

-- of a take-out
unfoldable pub take_by : List ℕ → ℕ → TakeStage
take_by w k =
    if_b (eqb k 0) TakeGrand
    (if_b (eqb k 1) (TakeParent (links_by w 7))
    (if_b (eqb k 2) (TakeLeft (links_by w 7) (links_by w 9))
    (if_b (eqb k 3) (TakeRight (links_by w 7) (links_by w 9) (links_by w 11))
    (TakeCommit (links_by w 7) (links_by w 9) (links_by w 11) (links_by w 13)))))

-- of a settling task
unfoldable pub settle_by : List ℕ → ℕ → SettleStage
settle_by w k =
    if_b (eqb k 0) SettleGrand
    (if_b (eqb k 1) (SettleParent (links_by w 7))
    (if_b (eqb k 2) (SettleChoose (links_by w 7) (links_by w 9))
    (if_b (eqb k 3) (SettleRotate (links_by w 7) (links_by w 9) (links_by w 11))
    (SettleDouble (links_by w 7) (links_by w 9) (links_by w 11) (links_by w 13)))))

-- the phase of its number
unfoldable pub phase_by : List ℕ → ℕ → Phase
phase_by w f =
    if_b (eqb f 1) (Start (goal_by (get_or w 3 0)))
    (if_b (eqb f 2) (Walk (goal_by (get_or w 3 0)) (path_by w))
    (if_b (eqb f 3) (PuttingIn (path_by w) (put_by w (get_or w 3 0)))
    (if_b (eqb f 4) (TakingOut (path_by w) (take_by w (get_or w 3 0)))
    (Settling (path_by w) (settle_by w (get_or w 3 0))))))

-- the task of the first 15 numbers
unfoldable pub task_by : List ℕ → Task
task_by w = if_b (eqb (get_or w 0 0) 0) idle_task (busy (job_by w) (phase_by w (get_or w 0 0)))

-- so many tasks
unfoldable pub tasks_by : ℕ → List ℕ → List Task
tasks_by zero w = []
tasks_by (suc c) w = task_by w ∷ tasks_by c (drop 15 w)

-- what the numbers of a state read as
unfoldable pub state_by : List ℕ → State
state_by w = record { tasks = tasks_by 8 w; m = get_or w 120 0; u = get_or w 121 0 }

-- whether two rows of numbers are the same
unfoldable pub same_numbers : List ℕ → List ℕ → Bool
same_numbers [] [] = true
same_numbers [] (y ∷ ys) = false
same_numbers (x ∷ xs) [] = false
same_numbers (x ∷ xs) (y ∷ ys) = eqb x y && same_numbers xs ys

-- "each state is one row of numbers, and a row that breaks these rules is no state": the numbers are those of what they read as
unfoldable pub is_state : List ℕ → Bool
is_state w = same_numbers (encode (state_by w)) w

-- the state of a row of numbers, if it is one
unfoldable pub decode : List ℕ → Option State
decode w = if_b (is_state w) (Some (state_by w)) None
