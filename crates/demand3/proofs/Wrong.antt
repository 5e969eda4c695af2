-- What demand 3 shuts out, and that it can't be better: histories, computed.
use Prim.Native.Nat.{◌*◌, ◌+◌, ◌-◌, suc, ℕ}
use borrow.Author.Tests.{eq-eqb, le-leb}
use lib.Dec.{T, eqb, leb}
use lib.ListN.{length, replicate}
use mathlib.Core.Bool.{Bool, ◌&&◌, ◌||◌, false, not, true}
use mathlib.Core.List.{List, [], ◌++◌, ◌∷◌}
use mathlib.Core.Logic.{◌⊎◌, inl, inr}
use mathlib.Core.Path.{◌∙◌, ◌≡◌, ap, refl, sym}
use native.Mathlib.Omega.{arith}
use Rattle.demand3.specs.Demand3.{Demand3, Low, c_at, figures_at, m_at}
use Rattle.demand3.specs.Wrong.{forgetful, lazy_step, never_settles, only_root, root_step}
use Rattle.history.specs.History.{Ask, abandon, begin, step}
use Rattle.history.specs.Ledger.{Fare, Point, abandoned_by, added, advance, ends, entered, given, goes, history, put_stepped, removed, started, stepped, still_open, take_stepped}
use Rattle.history.specs.Machine.{Machine, real}
use Rattle.machine.specs.Allowed.{allowed_rank, at_most, fib, fibonacci}
use Rattle.terms.specs.Answers.{number_of}
use Rattle.machine.specs.Calls.{abandon_of, abandoned_out, begin_of, empty_table, figures_of, figures_reached, list_of, list_reached, reset_of, sweep, tidy_of, tidy_reached}
use Rattle.machine.specs.Choice.{if_b}
use Rattle.machine.specs.Commit.{commit_if, reading}
use Rattle.machine.specs.Contract.{after}
use Rattle.machine.specs.PutIn.{inner_rank, leaf_of, put_commit, put_grounds, put_limit, put_room, put_step, put_test, put_turn, put_writes, read_put_leaf, read_put_parent}
use Rattle.machine.specs.Reach.{deeper, larger, reach, reach_from, reachable}
use Rattle.machine.specs.Record.{entry_form, fare_marks, in_tree, inner_marks, is_fare, is_inner, is_leaf, is_link, leads, level, linked, number_fits, other, plain_form, price_fits, sentinel, still, well_formed}
use Rattle.machine.specs.Rows.{around_of, double_writes, level_row, link_at, parent_row, rotate_writes, sided}
use Rattle.machine.specs.Settling.{choose_by, choose_formed, choose_step, commit_four, commit_three, commit_two, double_by, double_do, double_first, double_step, double_turn, grounds_four, grounds_three, grounds_two, promote_by, promote_do, read_grand, read_on, read_parent, rotate_by, rotate_do, rotate_first, rotate_on, rotate_step, rotate_turn, rotate_two_do, settle_step, test_four, test_three, test_two, turn_formed}
use Rattle.machine.specs.State.{ask_fits, busy_tasks, count_open, job_fits, settling, sound}
use Rattle.machine.specs.Step.{carried, phase_step, step_of, step_work}
use Rattle.machine.specs.Table.{count_free, free, free_from, length_fits, place, put, puts, slot1, slot2, slot3, view}
use Rattle.machine.specs.TakeOut.{read_take_grand, read_take_left, read_take_parent, read_take_right, take_apart, take_commit, take_grounds, take_leaf, take_room, take_step, take_test}
use Rattle.machine.specs.Walk.{arrival, at_leaf, outranks, serve_arrival, settle_arrival, sought, walk_from, walk_on, walk_to}
use Rattle.terms.specs.Task.{idle_task}
use Rattle.terms.specs.declared.Operation.TheVariants.{PutIn}
use Rattle.terms.specs.declared.State.{State}

-- what can be computed of the demand: figures answers 0, m and c are right, and the bound
lowly : Machine → Point → Bool
lowly M p =
    let r = M.figures p.table p.state in
    let h = r.figures.height in
    eqb (number_of r.answer) 0
    && (eqb r.figures.m (m_at p) && (eqb r.figures.c (c_at p) && (eqb (length (given p.account.commits)) 0 || (leb h (c_at p) || leb (fib ((h - c_at p) + 3)) (2 * m_at p)))))

-- a machine that meets the demand passes
low-lowly : (M : Machine) (p : Point) → Low M p → lowly M p ≡ true
unfolding lowly
low-lowly M p k =
    rw (k.answers, k.m_figure, k.c_figure, eq-eqb (m_at p) (m_at p) refl, eq-eqb (c_at p) (c_at p) refl) (go (given p.account.commits) refl)
  where
    either : (a b : Bool) → (a ≡ true) ⊎ (b ≡ true) → (a || b) ≡ true
    either true b h = refl
    either false b (inl e) = absurd (let z : ◌≡◌ {A = ℕ} 0 1 = cc in omega arith)
    either false b (inr e) = e

    go : (fs : List Fare) → given p.account.commits ≡ fs → (eqb (length fs) 0 || (leb (figures_at M p).height (c_at p) || leb (fib (((figures_at M p).height - c_at p) + 3)) (2 * m_at p))) ≡ true
    go [] e = refl
    go (f ∷ fs) e =
        either (eqb (suc (length fs)) 0) _ (inr (either (leb (figures_at M p).height (c_at p)) _ (elim (k.bound (λ z. no-list (sym z ∙ e))) [
          | inl h ↦ inl (le-leb _ _ h)
          | inr h ↦ inr (le-leb _ _ h)
        ])))
      where
        no-list : [] ≡ f ∷ fs → ⊥
        no-list q = let z : ◌≡◌ {A = ℕ} 0 (suc (length fs)) = ap (λ (y : List Fare). length y) q in omega arith

-- a table of 48 slots, and a state of no reset
abbrev some_table : List ℕ
some_table = replicate 288 7

abbrev some_state : State
some_state = record { tasks = replicate 8 idle_task; m = 5; u = 3 }

fails : (M : Machine) (cs : List Ask) → T (not (lowly M (history M some_table some_state cs))) → Demand3 M → ⊥
fails M cs h d = clash (lowly M (history M some_table some_state cs)) h (low-lowly M (history M some_table some_state cs) (d some_table some_state cs 48 refl (omega arith) (omega arith)))
  where
    clash : (b : Bool) → T (not b) → b ≡ true → ⊥
    clash true h e = h
    clash false h e = let z : ◌≡◌ {A = ℕ} 0 1 = cc in omega arith

puts-in : ℕ → ℕ → Ask
puts-in i k = begin i PutIn (record { number = k; price = k })

-- task i puts k in and steps so often
run : ℕ → ℕ → ℕ → List Ask
unfolding puts-in
run i k n = puts-in i k ∷ replicate n (step i)

-- rising numbers, one after another
rising : List Ask
unfolding run
rising = run 0 10 4 ++ (run 0 20 5 ++ (run 0 30 20 ++ (run 0 40 30 ++ (run 0 50 30 ++ (run 0 60 30 ++ (run 0 70 30))))))

-- the third put-in is abandoned while it settles
one-abandoned : List Ask
unfolding run
one-abandoned = run 0 10 4 ++ (run 0 20 5 ++ (run 0 30 7 ++ (abandon 0 ∷ [])))

-- a machine that never settles
pub not_lazy : Demand3 never_settles → ⊥
unfolding lowly rising run puts-in lazy_step added removed ends put_stepped take_stepped stepped abandoned_by entered still_open advance goes started history fibonacci fib at_most allowed_rank empty_table reset_of begin_of abandoned_out abandon_of sweep tidy_reached tidy_of figures_reached figures_of list_reached list_of if_b reading commit_if leaf_of inner_rank put_grounds put_test put_writes put_turn put_room put_limit put_commit read_put_parent read_put_leaf put_step reachable reach_from reach larger deeper in_tree sentinel number_fits price_fits fare_marks inner_marks is_link is_leaf is_inner plain_form entry_form well_formed linked level is_fare leads still other parent_row level_row sided link_at around_of rotate_writes double_writes read_grand read_parent read_on grounds_two grounds_three grounds_four test_two test_three test_four promote_do rotate_do rotate_two_do double_do rotate_by double_by promote_by commit_two commit_three commit_four choose_formed turn_formed choose_by choose_step rotate_on rotate_turn rotate_first rotate_step double_turn double_first double_step settle_step settling busy_tasks count_open sound job_fits ask_fits phase_step carried step_work step_of place length_fits view put puts free_from free slot1 slot2 slot3 count_free take_apart take_leaf take_grounds take_test take_room take_commit read_take_grand read_take_parent read_take_left read_take_right take_step sought at_leaf serve_arrival outranks settle_arrival arrival walk_to walk_from walk_on after
not_lazy = fails never_settles rising tt

-- one that settles only at the root
pub not_only_root : Demand3 only_root → ⊥
unfolding lowly rising run puts-in root_step added removed ends put_stepped take_stepped stepped abandoned_by entered still_open advance goes started history fibonacci fib at_most allowed_rank empty_table reset_of begin_of abandoned_out abandon_of sweep tidy_reached tidy_of figures_reached figures_of list_reached list_of if_b reading commit_if leaf_of inner_rank put_grounds put_test put_writes put_turn put_room put_limit put_commit read_put_parent read_put_leaf put_step reachable reach_from reach larger deeper in_tree sentinel number_fits price_fits fare_marks inner_marks is_link is_leaf is_inner plain_form entry_form well_formed linked level is_fare leads still other parent_row level_row sided link_at around_of rotate_writes double_writes read_grand read_parent read_on grounds_two grounds_three grounds_four test_two test_three test_four promote_do rotate_do rotate_two_do double_do rotate_by double_by promote_by commit_two commit_three commit_four choose_formed turn_formed choose_by choose_step rotate_on rotate_turn rotate_first rotate_step double_turn double_first double_step settle_step settling busy_tasks count_open sound job_fits ask_fits phase_step carried step_work step_of place length_fits view put puts free_from free slot1 slot2 slot3 count_free take_apart take_leaf take_grounds take_test take_room take_commit read_take_grand read_take_parent read_take_left read_take_right take_step sought at_leaf serve_arrival outranks settle_arrival arrival walk_to walk_from walk_on after
not_only_root = fails only_root rising tt

-- one that loses count of abandoned tasks
pub not_forgetful : Demand3 forgetful → ⊥
unfolding lowly one-abandoned run puts-in added removed ends put_stepped take_stepped stepped abandoned_by entered still_open advance goes started history fibonacci fib at_most allowed_rank empty_table reset_of begin_of abandoned_out abandon_of sweep tidy_reached tidy_of figures_reached figures_of list_reached list_of if_b reading commit_if leaf_of inner_rank put_grounds put_test put_writes put_turn put_room put_limit put_commit read_put_parent read_put_leaf put_step reachable reach_from reach larger deeper in_tree sentinel number_fits price_fits fare_marks inner_marks is_link is_leaf is_inner plain_form entry_form well_formed linked level is_fare leads still other parent_row level_row sided link_at around_of rotate_writes double_writes read_grand read_parent read_on grounds_two grounds_three grounds_four test_two test_three test_four promote_do rotate_do rotate_two_do double_do rotate_by double_by promote_by commit_two commit_three commit_four choose_formed turn_formed choose_by choose_step rotate_on rotate_turn rotate_first rotate_step double_turn double_first double_step settle_step settling busy_tasks count_open sound job_fits ask_fits phase_step carried step_work step_of place length_fits view put puts free_from free slot1 slot2 slot3 count_free take_apart take_leaf take_grounds take_test take_room take_commit read_take_grand read_take_parent read_take_left read_take_right take_step sought at_leaf serve_arrival outranks settle_arrival arrival walk_to walk_from walk_on after
not_forgetful = fails forgetful one-abandoned tt

-- ---- it can't be better

-- height, allowed rank and c where a history stands
exact : List Ask → ℕ → ℕ → ℕ → Bool
exact cs h r c =
    let f = (figures_of (history real some_table some_state cs).table (history real some_table some_state cs).state).figures in
    eqb f.height h && (eqb f.allowed r && eqb f.c c)

-- 10, 20; then 30, settled; then document 01's ride 7: 25 and 40 by two tasks, both committed before either settles
two_in : List Ask
unfolding run
two_in = run 0 10 4 ++ run 0 20 5

three-in : List Ask
unfolding run two_in
three-in = two_in ++ run 0 30 16

five_in : List Ask
unfolding run three-in
five_in = three-in ++ (run 0 25 6 ++ (run 1 40 6 ++ (replicate 30 (step 0) ++ replicate 30 (step 1))))

-- the bound is reached: the height is the allowed rank and c together, for m = 2, 3 and 5
reached_exactly : T (exact two_in 1 1 0 && (exact three-in 2 2 0 && exact five_in 3 3 0))
unfolding exact two_in three-in five_in run puts-in added removed ends put_stepped take_stepped stepped abandoned_by entered still_open advance goes started history fibonacci fib at_most allowed_rank empty_table reset_of begin_of abandoned_out abandon_of sweep tidy_reached tidy_of figures_reached figures_of list_reached list_of if_b reading commit_if leaf_of inner_rank put_grounds put_test put_writes put_turn put_room put_limit put_commit read_put_parent read_put_leaf put_step reachable reach_from reach larger deeper in_tree sentinel number_fits price_fits fare_marks inner_marks is_link is_leaf is_inner plain_form entry_form well_formed linked level is_fare leads still other parent_row level_row sided link_at around_of rotate_writes double_writes read_grand read_parent read_on grounds_two grounds_three grounds_four test_two test_three test_four promote_do rotate_do rotate_two_do double_do rotate_by double_by promote_by commit_two commit_three commit_four choose_formed turn_formed choose_by choose_step rotate_on rotate_turn rotate_first rotate_step double_turn double_first double_step settle_step settling busy_tasks count_open sound job_fits ask_fits phase_step carried step_work step_of place length_fits view put puts free_from free slot1 slot2 slot3 count_free take_apart take_leaf take_grounds take_test take_room take_commit read_take_grand read_take_parent read_take_left read_take_right take_step sought at_leaf serve_arrival outranks settle_arrival arrival walk_to walk_from walk_on after
reached_exactly = tt

-- six rising numbers by six tasks, none of which settles yet
six-unsettled : List Ask
unfolding run
six-unsettled = run 0 10 4 ++ (run 1 20 5 ++ (run 2 30 6 ++ (run 3 40 7 ++ (run 4 50 8 ++ run 5 60 9))))

-- c matters: the height passes the allowed rank while tasks settle
passes_allowed : T (exact six-unsettled 5 3 4)
unfolding exact six-unsettled run puts-in added removed ends put_stepped take_stepped stepped abandoned_by entered still_open advance goes started history fibonacci fib at_most allowed_rank empty_table reset_of begin_of abandoned_out abandon_of sweep tidy_reached tidy_of figures_reached figures_of list_reached list_of if_b reading commit_if leaf_of inner_rank put_grounds put_test put_writes put_turn put_room put_limit put_commit read_put_parent read_put_leaf put_step reachable reach_from reach larger deeper in_tree sentinel number_fits price_fits fare_marks inner_marks is_link is_leaf is_inner plain_form entry_form well_formed linked level is_fare leads still other parent_row level_row sided link_at around_of rotate_writes double_writes read_grand read_parent read_on grounds_two grounds_three grounds_four test_two test_three test_four promote_do rotate_do rotate_two_do double_do rotate_by double_by promote_by commit_two commit_three commit_four choose_formed turn_formed choose_by choose_step rotate_on rotate_turn rotate_first rotate_step double_turn double_first double_step settle_step settling busy_tasks count_open sound job_fits ask_fits phase_step carried step_work step_of place length_fits view put puts free_from free slot1 slot2 slot3 count_free take_apart take_leaf take_grounds take_test take_room take_commit read_take_grand read_take_parent read_take_left read_take_right take_step sought at_leaf serve_arrival outranks settle_arrival arrival walk_to walk_from walk_on after
passes_allowed = tt
