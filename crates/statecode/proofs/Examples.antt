-- Rows of numbers that are a state, and rows that are none, computed.
use mathlib.Core.Path.{◌≡◌, refl}
use mathlib.Core.Bool.{Bool, true, false}
use mathlib.Core.List.{List, [], ◌∷◌, ◌++◌, map}
use Prim.Native.Nat.{ℕ}
use lib.ListN.{replicate}
use Rattle.std.specs.Prelude.{is_some}
use Rattle.terms.specs.declared.Goal.TheVariants.{Settle}
use Rattle.terms.specs.declared.Phase.TheVariants.{Walk}
use Rattle.terms.specs.Task.{busy, no_grand}
use Rattle.machine.specs.Choice.{if_b}
use Rattle.machine.specs.State.{fresh_state, with_task}
use Rattle.statecode.specs.Code.{rows, encode, goal_by, put_by, take_by, settle_by, phase_by, task_by, tasks_by, state_by, same_numbers, is_state, decode}

-- the first task's numbers, then seven idle tasks, m and u
abbrev pub first : List ℕ → List ℕ
first l = l ++ replicate 107 0

-- a settling task that walks below the entry
abbrev pub walker : List ℕ
walker = 2 ∷ 10 ∷ 250 ∷ 4 ∷ 4294967295 ∷ 0 ∷ 1 ∷ replicate 8 0

pub zeros : encode fresh_state ≡ replicate 122 0
unfolding encode rows
zeros = refl

pub walking :
    encode (with_task fresh_state 0 (busy (record { number = 10; price = 250 }) (Walk Settle (record { grand = no_grand; parent = 0; here = 1 }))))
    ≡ first walker
unfolding encode rows
walking = refl

abbrev pub fine : List (List ℕ) → List Bool
fine ws = map (λ (w : List ℕ). is_some (decode w)) ws

abbrev pub states : List (List ℕ)
states =
    replicate 122 0
    ∷ first walker
    -- a put-in that has read one record
    ∷ first (3 ∷ 10 ∷ 250 ∷ 1 ∷ 0 ∷ 1 ∷ 2 ∷ 3 ∷ 4 ∷ replicate 6 0)
    ∷ []

abbrev pub others : List (List ℕ)
others =
    replicate 121 0
    ∷ replicate 123 0
    -- phase 6, goal 5, an idle task with a price
    ∷ first (6 ∷ replicate 14 0)
    ∷ first (2 ∷ 10 ∷ 250 ∷ 5 ∷ 4294967295 ∷ 0 ∷ 1 ∷ replicate 8 0)
    ∷ first (0 ∷ 0 ∷ 1 ∷ replicate 12 0)
    -- a put-in that has read one record and holds the links of two; one that has read three
    ∷ first (3 ∷ 10 ∷ 250 ∷ 1 ∷ 0 ∷ 1 ∷ 2 ∷ 3 ∷ 4 ∷ 5 ∷ replicate 5 0)
    ∷ first (3 ∷ 10 ∷ 250 ∷ 3 ∷ 0 ∷ 1 ∷ 2 ∷ replicate 8 0)
    ∷ []

pub are_states : fine states ≡ replicate 3 true
unfolding rows encode goal_by put_by take_by settle_by phase_by task_by tasks_by state_by same_numbers is_state decode if_b
are_states = refl

pub are_none : fine others ≡ replicate 7 false
unfolding rows encode goal_by put_by take_by settle_by phase_by task_by tasks_by state_by same_numbers is_state decode if_b
are_none = refl
