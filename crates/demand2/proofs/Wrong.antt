-- What demand 2 shuts out: for each wrong machine one history, computed, on which the demand does not hold.
use Prim.Native.Nat.{◌*◌, ℕ}
use borrow.Author.Tests.{eq-eqb}
use lib.Dec.{T, eqb}
use lib.ListN.{drop_of_length-le, length, length-replicate, replicate}
use mathlib.Core.Bool.{Bool, ◌&&◌, false, not, true}
use mathlib.Core.List.{List, [], ◌++◌, ◌∷◌}
use mathlib.Core.Path.{◌≡◌, ap, refl}
use native.Mathlib.Omega.{arith}
use Rattle.demand2.specs.Demand2.{Demand2, Kept, held_at}
use Rattle.demand2.specs.Wrong.{eager, eager_step, other_number, puts_on_stale, refusing, stale_put_step, stale_take_step, sweeps_all, takes_neighbour, uncounted, uncounted_step}
use Rattle.history.specs.History.{Ask, begin, step, tidy}
use Rattle.history.specs.Ledger.{Point, abandoned_by, added, advance, ends, entered, goes, history, put_ins, put_stepped, removed, started, stepped, still_open, take_stepped, written}
use Rattle.history.specs.Machine.{Machine}
use Rattle.machine.specs.Allowed.{allowed_rank, at_most, fib, fibonacci}
use Rattle.terms.specs.Answers.{number_of}
use Rattle.machine.specs.Calls.{abandon_of, abandoned_out, begin_of, empty_table, figures_of, figures_reached, list_of, list_reached, reset_of, sweep, tidy_of, tidy_reached}
use Rattle.machine.specs.Choice.{if_b}
use Rattle.machine.specs.Commit.{commit_if, reading}
use Rattle.machine.specs.Contract.{after}
use Rattle.machine.specs.PutIn.{inner_rank, leaf_of, put_commit, put_grounds, put_limit, put_room, put_step, put_test, put_turn, put_writes, read_put_leaf, read_put_parent}
use Rattle.machine.specs.Reach.{deeper, larger, reach, reach_from, reachable}
use Rattle.machine.specs.Record.{entry_form, fare_marks, in_tree, inner_marks, is_fare, is_inner, is_leaf, is_link, leads, level, linked, number_fits, other, plain_form, price_fits, sentinel, still, well_formed}
use Rattle.machine.specs.Rows.{around_of, double_writes, level_row, link_at, parent_row, rotate_writes, sided}
use Rattle.machine.specs.Settling.{choose_by, choose_formed, choose_step, commit_four, commit_three, commit_two, double_by, double_do, double_first, double_step, double_turn, grounds_four, grounds_three, grounds_two, promote_by, promote_do, read_grand, read_on, read_parent, rotate_by, rotate_do, rotate_first, rotate_on, rotate_step, rotate_turn, rotate_two_do, settle_step, test_four, test_three, test_two, turn_formed}
use Rattle.machine.specs.State.{ask_fits, busy_tasks, count_open, job_fits, settling, sound}
use Rattle.machine.specs.Step.{carried, phase_step, step_of, step_work}
use Rattle.machine.specs.Table.{count_free, free, free_from, length_fits, place, put, puts, slot1, slot2, slot3, view}
use Rattle.machine.specs.TakeOut.{read_take_grand, read_take_left, read_take_parent, read_take_right, take_apart, take_commit, take_grounds, take_leaf, take_room, take_step, take_test}
use Rattle.machine.specs.Walk.{arrival, at_leaf, outranks, serve_arrival, settle_arrival, sought, walk_from, walk_on, walk_to}
use Rattle.terms.specs.Task.{idle_task}
use Rattle.terms.specs.declared.Operation.TheVariants.{PutIn, TakeOut}
use Rattle.terms.specs.declared.State.{State}

equal : List ℕ → List ℕ → Bool
equal [] [] = true
equal [] (y ∷ ys) = false
equal (x ∷ xs) [] = false
equal (x ∷ xs) (y ∷ ys) = eqb x y && equal xs ys

equal-same : (xs : List ℕ) → equal xs xs ≡ true
unfolding equal
equal-same [] = refl
equal-same (x ∷ xs) = rw (eq-eqb x x refl) (equal-same xs)

-- the list call and m against the account: what can be computed of the demand
agrees : Machine → Point → Bool
unfolding equal
agrees M p =
    let w = written (held_at p) in
    let l = M.list p.table p.state (replicate (2 * length (held_at p)) 0) in
    eqb (number_of l.answer) 0 && (equal l.room w && eqb p.state.m (put_ins p.account.commits))

app_nil : (xs : List ℕ) → xs ++ [] ≡ xs
app_nil [] = refl
app_nil (x ∷ xs) = ap (λ r. x ∷ r) (app_nil xs)

-- a machine that meets the demand agrees
kept-agrees : (M : Machine) (p : Point) → Kept M p → agrees M p ≡ true
unfolding agrees
kept-agrees M p k =
    let n = 2 * length (held_at p) in
    let room : List ℕ = replicate n 0 in
    let long : length room ≡ n = length-replicate n 0 in
    rw (
      k.listed room (omega arith),
      drop_of_length-le room {i = n} (omega arith),
      app_nil (written (held_at p)),
      equal-same (written (held_at p)),
      k.counted,
      eq-eqb (put_ins p.account.commits) (put_ins p.account.commits) refl,
    ) refl

-- a table of 32 slots, and a state of no reset
abbrev some_table : List ℕ
some_table = replicate 192 7

abbrev some_state : State
some_state = record { tasks = replicate 8 idle_task; m = 5; u = 3 }

fails : (M : Machine) (cs : List Ask) → T (not (agrees M (history M some_table some_state cs))) → Demand2 M → ⊥
fails M cs h d = clash (agrees M (history M some_table some_state cs)) h (kept-agrees M (history M some_table some_state cs) (d some_table some_state cs 32 refl (omega arith) (omega arith)))
  where
    clash : (b : Bool) → T (not b) → b ≡ true → ⊥
    clash true h e = h
    clash false h e = let z : ◌≡◌ {A = ℕ} 0 1 = cc in omega arith

puts-in : ℕ → ℕ → Ask
puts-in i k = begin i PutIn (record { number = k; price = k })

takes_out : ℕ → ℕ → Ask
takes_out i k = begin i TakeOut (record { number = k; price = 0 })

-- 10 is put in by task 0
ten : List Ask
unfolding puts-in
ten = puts-in 0 10 ∷ replicate 4 (step 0)

-- 20 by task 0 up to its commit, then 30 by task 1, then the commit of task 0: both stood on the same leaf
two-on_one_leaf : List Ask
unfolding puts-in ten
two-on_one_leaf = ten ++ (puts-in 0 20 ∷ replicate 4 (step 0) ++ (puts-in 1 30 ∷ replicate 5 (step 1) ++ (step 0 ∷ [])))

-- 10 and 20 are held; 10 is taken out up to the commit, 30 comes beside 20, then the commit
neighbour_comes : List Ask
unfolding puts-in takes_out ten
neighbour_comes = ten ++ (puts-in 0 20 ∷ replicate 5 (step 0) ++ (takes_out 0 10 ∷ replicate 7 (step 0) ++ (puts-in 1 30 ∷ replicate 6 (step 1) ++ (step 0 ∷ []))))

-- a table that refuses all calls
pub not_refusing : Demand2 refusing → ⊥
unfolding agrees added removed ends put_stepped take_stepped stepped abandoned_by entered still_open advance goes started history fibonacci fib at_most allowed_rank empty_table reset_of begin_of abandoned_out abandon_of sweep tidy_reached tidy_of figures_reached figures_of list_reached list_of if_b reading commit_if leaf_of inner_rank put_grounds put_test put_writes put_turn put_room put_limit put_commit read_put_parent read_put_leaf put_step reachable reach_from reach larger deeper in_tree sentinel number_fits price_fits fare_marks inner_marks is_link is_leaf is_inner plain_form entry_form well_formed linked level is_fare leads still other parent_row level_row sided link_at around_of rotate_writes double_writes read_grand read_parent read_on grounds_two grounds_three grounds_four test_two test_three test_four promote_do rotate_do rotate_two_do double_do rotate_by double_by promote_by commit_two commit_three commit_four choose_formed turn_formed choose_by choose_step rotate_on rotate_turn rotate_first rotate_step double_turn double_first double_step settle_step settling busy_tasks count_open sound job_fits ask_fits phase_step carried step_work step_of place length_fits view put puts free_from free slot1 slot2 slot3 count_free take_apart take_leaf take_grounds take_test take_room take_commit read_take_grand read_take_parent read_take_left read_take_right take_step sought at_leaf serve_arrival outranks settle_arrival arrival walk_to walk_from walk_on after
not_refusing = fails refusing [] tt

-- a first step that does the whole put-in
pub not_eager : Demand2 eager → ⊥
unfolding agrees puts-in eager_step added removed ends put_stepped take_stepped stepped abandoned_by entered still_open advance goes started history fibonacci fib at_most allowed_rank empty_table reset_of begin_of abandoned_out abandon_of sweep tidy_reached tidy_of figures_reached figures_of list_reached list_of if_b reading commit_if leaf_of inner_rank put_grounds put_test put_writes put_turn put_room put_limit put_commit read_put_parent read_put_leaf put_step reachable reach_from reach larger deeper in_tree sentinel number_fits price_fits fare_marks inner_marks is_link is_leaf is_inner plain_form entry_form well_formed linked level is_fare leads still other parent_row level_row sided link_at around_of rotate_writes double_writes read_grand read_parent read_on grounds_two grounds_three grounds_four test_two test_three test_four promote_do rotate_do rotate_two_do double_do rotate_by double_by promote_by commit_two commit_three commit_four choose_formed turn_formed choose_by choose_step rotate_on rotate_turn rotate_first rotate_step double_turn double_first double_step settle_step settling busy_tasks count_open sound job_fits ask_fits phase_step carried step_work step_of place length_fits view put puts free_from free slot1 slot2 slot3 count_free take_apart take_leaf take_grounds take_test take_room take_commit read_take_grand read_take_parent read_take_left read_take_right take_step sought at_leaf serve_arrival outranks settle_arrival arrival walk_to walk_from walk_on after
not_eager = fails eager (puts-in 0 10 ∷ step 0 ∷ []) tt

-- a begin that notes something else
pub not_other_number : Demand2 other_number → ⊥
unfolding agrees ten puts-in added removed ends put_stepped take_stepped stepped abandoned_by entered still_open advance goes started history fibonacci fib at_most allowed_rank empty_table reset_of begin_of abandoned_out abandon_of sweep tidy_reached tidy_of figures_reached figures_of list_reached list_of if_b reading commit_if leaf_of inner_rank put_grounds put_test put_writes put_turn put_room put_limit put_commit read_put_parent read_put_leaf put_step reachable reach_from reach larger deeper in_tree sentinel number_fits price_fits fare_marks inner_marks is_link is_leaf is_inner plain_form entry_form well_formed linked level is_fare leads still other parent_row level_row sided link_at around_of rotate_writes double_writes read_grand read_parent read_on grounds_two grounds_three grounds_four test_two test_three test_four promote_do rotate_do rotate_two_do double_do rotate_by double_by promote_by commit_two commit_three commit_four choose_formed turn_formed choose_by choose_step rotate_on rotate_turn rotate_first rotate_step double_turn double_first double_step settle_step settling busy_tasks count_open sound job_fits ask_fits phase_step carried step_work step_of place length_fits view put puts free_from free slot1 slot2 slot3 count_free take_apart take_leaf take_grounds take_test take_room take_commit read_take_grand read_take_parent read_take_left read_take_right take_step sought at_leaf serve_arrival outranks settle_arrival arrival walk_to walk_from walk_on after
not_other_number = fails other_number ten tt

-- a step that forgets to count
pub not_uncounted : Demand2 uncounted → ⊥
unfolding agrees ten puts-in uncounted_step added removed ends put_stepped take_stepped stepped abandoned_by entered still_open advance goes started history fibonacci fib at_most allowed_rank empty_table reset_of begin_of abandoned_out abandon_of sweep tidy_reached tidy_of figures_reached figures_of list_reached list_of if_b reading commit_if leaf_of inner_rank put_grounds put_test put_writes put_turn put_room put_limit put_commit read_put_parent read_put_leaf put_step reachable reach_from reach larger deeper in_tree sentinel number_fits price_fits fare_marks inner_marks is_link is_leaf is_inner plain_form entry_form well_formed linked level is_fare leads still other parent_row level_row sided link_at around_of rotate_writes double_writes read_grand read_parent read_on grounds_two grounds_three grounds_four test_two test_three test_four promote_do rotate_do rotate_two_do double_do rotate_by double_by promote_by commit_two commit_three commit_four choose_formed turn_formed choose_by choose_step rotate_on rotate_turn rotate_first rotate_step double_turn double_first double_step settle_step settling busy_tasks count_open sound job_fits ask_fits phase_step carried step_work step_of place length_fits view put puts free_from free slot1 slot2 slot3 count_free take_apart take_leaf take_grounds take_test take_room take_commit read_take_grand read_take_parent read_take_left read_take_right take_step sought at_leaf serve_arrival outranks settle_arrival arrival walk_to walk_from walk_on after
not_uncounted = fails uncounted ten tt

-- a put-in committed on a stale leaf
pub not_stale_put : Demand2 puts_on_stale → ⊥
unfolding agrees two-on_one_leaf ten puts-in stale_put_step added removed ends put_stepped take_stepped stepped abandoned_by entered still_open advance goes started history fibonacci fib at_most allowed_rank empty_table reset_of begin_of abandoned_out abandon_of sweep tidy_reached tidy_of figures_reached figures_of list_reached list_of if_b reading commit_if leaf_of inner_rank put_grounds put_test put_writes put_turn put_room put_limit put_commit read_put_parent read_put_leaf put_step reachable reach_from reach larger deeper in_tree sentinel number_fits price_fits fare_marks inner_marks is_link is_leaf is_inner plain_form entry_form well_formed linked level is_fare leads still other parent_row level_row sided link_at around_of rotate_writes double_writes read_grand read_parent read_on grounds_two grounds_three grounds_four test_two test_three test_four promote_do rotate_do rotate_two_do double_do rotate_by double_by promote_by commit_two commit_three commit_four choose_formed turn_formed choose_by choose_step rotate_on rotate_turn rotate_first rotate_step double_turn double_first double_step settle_step settling busy_tasks count_open sound job_fits ask_fits phase_step carried step_work step_of place length_fits view put puts free_from free slot1 slot2 slot3 count_free take_apart take_leaf take_grounds take_test take_room take_commit read_take_grand read_take_parent read_take_left read_take_right take_step sought at_leaf serve_arrival outranks settle_arrival arrival walk_to walk_from walk_on after
not_stale_put = fails puts_on_stale two-on_one_leaf tt

-- a take-out that removes the neighbour under contention
pub not_neighbour : Demand2 takes_neighbour → ⊥
unfolding agrees neighbour_comes ten puts-in takes_out stale_take_step added removed ends put_stepped take_stepped stepped abandoned_by entered still_open advance goes started history fibonacci fib at_most allowed_rank empty_table reset_of begin_of abandoned_out abandon_of sweep tidy_reached tidy_of figures_reached figures_of list_reached list_of if_b reading commit_if leaf_of inner_rank put_grounds put_test put_writes put_turn put_room put_limit put_commit read_put_parent read_put_leaf put_step reachable reach_from reach larger deeper in_tree sentinel number_fits price_fits fare_marks inner_marks is_link is_leaf is_inner plain_form entry_form well_formed linked level is_fare leads still other parent_row level_row sided link_at around_of rotate_writes double_writes read_grand read_parent read_on grounds_two grounds_three grounds_four test_two test_three test_four promote_do rotate_do rotate_two_do double_do rotate_by double_by promote_by commit_two commit_three commit_four choose_formed turn_formed choose_by choose_step rotate_on rotate_turn rotate_first rotate_step double_turn double_first double_step settle_step settling busy_tasks count_open sound job_fits ask_fits phase_step carried step_work step_of place length_fits view put puts free_from free slot1 slot2 slot3 count_free take_apart take_leaf take_grounds take_test take_room take_commit read_take_grand read_take_parent read_take_left read_take_right take_step sought at_leaf serve_arrival outranks settle_arrival arrival walk_to walk_from walk_on after
not_neighbour = fails takes_neighbour neighbour_comes tt

-- a tidy that frees fares
pub not_sweeping : Demand2 sweeps_all → ⊥
unfolding agrees ten puts-in added removed ends put_stepped take_stepped stepped abandoned_by entered still_open advance goes started history fibonacci fib at_most allowed_rank empty_table reset_of begin_of abandoned_out abandon_of sweep tidy_reached tidy_of figures_reached figures_of list_reached list_of if_b reading commit_if leaf_of inner_rank put_grounds put_test put_writes put_turn put_room put_limit put_commit read_put_parent read_put_leaf put_step reachable reach_from reach larger deeper in_tree sentinel number_fits price_fits fare_marks inner_marks is_link is_leaf is_inner plain_form entry_form well_formed linked level is_fare leads still other parent_row level_row sided link_at around_of rotate_writes double_writes read_grand read_parent read_on grounds_two grounds_three grounds_four test_two test_three test_four promote_do rotate_do rotate_two_do double_do rotate_by double_by promote_by commit_two commit_three commit_four choose_formed turn_formed choose_by choose_step rotate_on rotate_turn rotate_first rotate_step double_turn double_first double_step settle_step settling busy_tasks count_open sound job_fits ask_fits phase_step carried step_work step_of place length_fits view put puts free_from free slot1 slot2 slot3 count_free take_apart take_leaf take_grounds take_test take_room take_commit read_take_grand read_take_parent read_take_left read_take_right take_step sought at_leaf serve_arrival outranks settle_arrival arrival walk_to walk_from walk_on after
not_sweeping = fails sweeps_all (ten ++ (tidy ∷ [])) tt
