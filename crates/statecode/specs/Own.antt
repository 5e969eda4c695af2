-- Whether numbers are a state, task by task.
use Rattle.std.specs.Prelude.{ℕ, zero, suc, Bool, true, false, ◌&&◌, List, eqb, leb, take, drop, set, fold, slice_range}
use Rattle.machine.specs.Choice.{if_b}
use Rattle.terms.specs.declared.Task.{Task}
use Rattle.terms.specs.declared.State.{State}
use Rattle.statecode.specs.Code.{goal_number, goal_by, work_row, task_by, same_numbers}

-- the first 15 numbers are those of the task that they read as
unfoldable pub own_row : List ℕ → Bool
own_row w = same_numbers (work_row (task_by w).work) (take 15 w)

-- all of 15 places from one on are 0
unfoldable pub clear_from : ℕ → List ℕ → Bool
clear_from from w = fold (λ clear x. clear && eqb x 0) true (slice_range w from 15)

-- a goal's number
unfoldable pub own_goal : ℕ → Bool
own_goal k = eqb (goal_number (goal_by k)) k

-- with k records read, four at most: the places behind their links
unfoldable pub own_noted : ℕ → List ℕ → Bool
own_noted k w =
    if_b (eqb k 0) (clear_from 7 w)
    (if_b (eqb k 1) (clear_from 9 w)
    (if_b (eqb k 2) (clear_from 11 w)
    (if_b (eqb k 3) (clear_from 13 w) (eqb k 4))))

-- the same as own_row, by phase and count: "A place that a phase does not use is 0"
unfoldable pub own_by : ℕ → ℕ → List ℕ → Bool
own_by f k w =
    if_b (eqb f 0) (clear_from 0 w)
    (if_b (eqb f 1) (own_goal k && clear_from 4 w)
    (if_b (eqb f 2) (own_goal k && clear_from 7 w)
    (if_b (eqb f 3) (leb k 2 && own_noted k w)
    (if_b (eqb f 4) (own_noted k w)
    (if_b (eqb f 5) (own_noted k w) false)))))

-- so for so many tasks
unfoldable pub own_rows : ℕ → List ℕ → Bool
own_rows zero w = true
own_rows (suc c) w = own_row w && own_rows c (drop 15 w)

-- task i, m and u stored
abbrev pub storing : State → ℕ → Task → ℕ → ℕ → State
storing st i k m u = record { tasks = set st.tasks i k; m = m; u = u }
