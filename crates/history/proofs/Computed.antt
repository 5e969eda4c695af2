-- Histories computed: after every call of them the list call writes what the account holds, and figures hands back its m and c.
use Prim.Native.Nat.{ℕ, zero, suc}
use mathlib.Core.Bool.{Bool, true, false, ◌&&◌}
use mathlib.Core.List.{List, [], ◌∷◌, ◌++◌}
use lib.Dec.{eqb, T}
use lib.ListN.{length, replicate}
use Rattle.terms.specs.declared.Operation.TheVariants.{LookUp, PutIn, TakeOut}
use Rattle.terms.specs.declared.Goal.TheVariants.{Settle}
use Rattle.terms.specs.declared.Phase.TheVariants.{Start}
use Rattle.terms.specs.declared.State.{State}
use Rattle.terms.specs.Task.{busy}
use Rattle.terms.specs.Answers.{number_of}
use Rattle.machine.specs.Allowed.{fibonacci, fib, at_most, allowed_rank}
use Rattle.machine.specs.Calls.{empty_table, reset_of, begin_of, abandoned_out, abandon_of, sweep, tidy_reached, tidy_of, figures_reached, figures_of, list_reached, list_of}
use Rattle.machine.specs.Choice.{if_b}
use Rattle.machine.specs.Commit.{reading, commit_if}
use Rattle.machine.specs.PutIn.{leaf_of, inner_rank, put_grounds, put_test, put_writes, put_turn, put_room, put_limit, put_commit, read_put_parent, read_put_leaf, put_step}
use Rattle.machine.specs.Reach.{reachable, reach_from, reach, larger, deeper}
use Rattle.machine.specs.Record.{in_tree, sentinel, number_fits, price_fits, fare_marks, inner_marks, is_link, is_leaf, is_inner, plain_form, entry_form, well_formed, linked, level, is_fare, leads, still, other}
use Rattle.machine.specs.Rows.{parent_row, level_row, sided, link_at, around_of, rotate_writes, double_writes}
use Rattle.machine.specs.Settling.{read_grand, read_parent, read_on, grounds_two, grounds_three, grounds_four, test_two, test_three, test_four, promote_do, rotate_do, rotate_two_do, double_do, rotate_by, double_by, promote_by, commit_two, commit_three, commit_four, choose_formed, turn_formed, choose_by, choose_step, rotate_on, rotate_turn, rotate_first, rotate_step, double_turn, double_first, double_step, settle_step}
use Rattle.machine.specs.State.{settling, busy_tasks, count_open, sound, job_fits, ask_fits}
use Rattle.machine.specs.Step.{phase_step, carried, step_work, step_of}
use Rattle.machine.specs.Table.{place, length_fits, view, put, puts, free_from, free, slot1, slot2, slot3, count_free}
use Rattle.machine.specs.TakeOut.{take_apart, take_leaf, take_grounds, take_test, take_room, take_commit, read_take_grand, read_take_parent, read_take_left, read_take_right, take_step}
use Rattle.machine.specs.Walk.{sought, at_leaf, serve_arrival, outranks, settle_arrival, arrival, walk_to, walk_from, walk_on}
use Rattle.machine.specs.Contract.{after}
use Rattle.history.specs.Machine.{real}
use Rattle.history.specs.History.{Ask, reset, begin, step, abandon, tidy, figures, list}
use Rattle.history.specs.Ledger.{Point, written, given, put_ins, count_c, added, removed, ends, put_stepped, take_stepped, stepped, abandoned_by, entered, still_open, advance, goes, started, history}

equal : List ℕ → List ℕ → Bool
equal [] [] = true
equal [] (y ∷ ys) = false
equal (x ∷ xs) [] = false
equal (x ∷ xs) (y ∷ ys) = eqb x y && equal xs ys

-- list and figures of the table against the account
agrees : Point → Bool
unfolding equal
agrees p =
    let w = written (given p.account.commits) in
    let l = list_of p.table p.state (replicate (length w) 0) in
    let f = figures_of p.table p.state in
    eqb (number_of l.answer) 0 && (equal l.room w && (eqb (number_of f.answer) 0
    && (eqb f.figures.m (put_ins p.account.commits) && eqb f.figures.c (count_c p.account))))

-- after every call
always : Point → List Ask → Bool
unfolding agrees
always p [] = agrees p
always p (c ∷ cs) =
    let r = always (advance real p c) cs in
    agrees p && r

puts-in : ℕ → ℕ → ℕ → Ask
puts-in i k p = begin i PutIn (record { number = k; price = p })

takes_out : ℕ → ℕ → Ask
takes_out i k = begin i TakeOut (record { number = k; price = 0 })

looks_up : ℕ → ℕ → Ask
looks_up i k = begin i LookUp (record { number = k; price = 0 })

-- so many rounds of steps: tasks 0 to 3, and task 9, which is none
rounds : ℕ → List Ask
rounds zero = []
rounds (suc n) = step 0 ∷ step 1 ∷ step 2 ∷ step 3 ∷ step 9 ∷ rounds n

-- so many steps of one task
steps : ℕ → ℕ → List Ask
steps i n = replicate n (step i)

-- a put-in is abandoned while it settles, another one is left settling
left-unsettled : List Ask
unfolding puts-in steps
left-unsettled =
    puts-in 0 10 1 ∷ steps 0 4 ++ puts-in 0 20 2 ∷ steps 0 5 ++ puts-in 0 30 3 ∷ steps 0 8 ++ abandon 0 ∷ puts-in 5 40 4 ∷ steps 5 9 ++ figures ∷ []

-- four put-ins at once; two abandoned while they settle; take-outs, look ups and refused calls between; a tidy; a reset in the middle
busy-day : List Ask
unfolding puts-in takes_out looks_up rounds
busy-day =
    puts-in 0 10 1 ∷ puts-in 1 20 2 ∷ puts-in 2 30 3 ∷ puts-in 3 40 4 ∷ puts-in 3 50 5 ∷ puts-in 9 50 5 ∷ takes_out 4 1000000
    ∷ rounds 9 ++ abandon 1 ∷ abandon 2 ∷ tidy ∷ rounds 9 ++ takes_out 1 20 ∷ looks_up 2 10 ∷ rounds 12 ++ puts-in 1 25 6 ∷ puts-in 2 10 7 ∷ takes_out 3 99
    ∷ rounds 12 ++ abandon 0 ∷ abandon 1 ∷ tidy ∷ figures ∷ list (7 ∷ 7 ∷ 7 ∷ []) ∷ puts-in 0 35 8 ∷ rounds 3 ++ reset ∷ puts-in 0 7 9 ∷ rounds 5 ++ takes_out 0 7 ∷ rounds 9

-- a state that is no state of a reset
before : State
before = record { tasks = replicate 8 (busy (record { number = 1; price = 1 }) (Start Settle)); m = 5; u = 3 }

agrees-always : T (always (started real (replicate 288 7) before) busy-day && always (started real (replicate 288 7) before) left-unsettled)
unfolding always busy-day left-unsettled before added removed ends put_stepped take_stepped stepped abandoned_by entered still_open advance goes started history fibonacci fib at_most allowed_rank empty_table reset_of begin_of abandoned_out abandon_of sweep tidy_reached tidy_of figures_reached figures_of list_reached list_of if_b reading commit_if leaf_of inner_rank put_grounds put_test put_writes put_turn put_room put_limit put_commit read_put_parent read_put_leaf put_step reachable reach_from reach larger deeper in_tree sentinel number_fits price_fits fare_marks inner_marks is_link is_leaf is_inner plain_form entry_form well_formed linked level is_fare leads still other parent_row level_row sided link_at around_of rotate_writes double_writes read_grand read_parent read_on grounds_two grounds_three grounds_four test_two test_three test_four promote_do rotate_do rotate_two_do double_do rotate_by double_by promote_by commit_two commit_three commit_four choose_formed turn_formed choose_by choose_step rotate_on rotate_turn rotate_first rotate_step double_turn double_first double_step settle_step settling busy_tasks count_open sound job_fits ask_fits phase_step carried step_work step_of place length_fits view put puts free_from free slot1 slot2 slot3 count_free take_apart take_leaf take_grounds take_test take_room take_commit read_take_grand read_take_parent read_take_left read_take_right take_step sought at_leaf serve_arrival outranks settle_arrival arrival walk_to walk_from walk_on after
agrees-always = tt
