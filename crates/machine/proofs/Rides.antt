-- THE RIDES: when a ride holds, and the one theorem that all of them hold, computed by the definitions.
use Prim.Native.Nat.{ℕ, zero, suc, ◌+◌, ◌-◌, ◌*◌}
use mathlib.Core.Bool.{Bool, true, false, ◌&&◌, ◌||◌}
use mathlib.Core.List.{List, [], ◌∷◌, ◌++◌}
use lib.Dec.{ltb, leb, eqb}
use lib.ListN.{length, set, take, replicate}
use Rattle.terms.specs.declared.Rec.{Rec}
use Rattle.terms.specs.declared.Links.{Links}
use Rattle.terms.specs.declared.Path.{Path}
use Rattle.terms.specs.declared.Operation.TheVariants.{LookUp, PutIn, TakeOut}
use Rattle.terms.specs.declared.Goal.{Goal}
use Rattle.terms.specs.declared.Goal.TheVariants.{Serve, Settle}
use Rattle.terms.specs.declared.PutStage.{PutStage}
use Rattle.terms.specs.declared.PutStage.TheVariants.{PutParent, PutLeaf, PutCommit}
use Rattle.terms.specs.declared.TakeStage.{TakeStage}
use Rattle.terms.specs.declared.TakeStage.TheVariants.{TakeGrand, TakeParent, TakeLeft, TakeRight, TakeCommit}
use Rattle.terms.specs.declared.SettleStage.{SettleStage}
use Rattle.terms.specs.declared.SettleStage.TheVariants.{SettleGrand, SettleParent, SettleChoose, SettleRotate, SettleDouble}
use Rattle.terms.specs.declared.Phase.{Phase}
use Rattle.terms.specs.declared.Phase.TheVariants.{Start, Walk, PuttingIn, TakingOut, Settling}
use Rattle.terms.specs.declared.Work.{Work}
use Rattle.terms.specs.declared.Work.TheVariants.{Idle, Busy}
use Rattle.terms.specs.declared.Task.{Task}
use Rattle.terms.specs.declared.State.{State}
use Rattle.terms.specs.declared.Answer.{Answer}
use Rattle.machine.specs.Choice.{if_b}
use Rattle.machine.specs.Record.{in_tree, sentinel, number_fits, price_fits, fare_marks, inner_marks, is_link, is_leaf, is_inner, plain_form, entry_form, well_formed, linked, level, is_fare, leads, still, other}
use Rattle.machine.specs.Table.{View, view, Write, fill, lead, off, place, slots, count_free, length_fits, put, puts, free_from, free, slot1, slot2, slot3}
use Rattle.terms.specs.Answers.{number_of, price_of}
use Rattle.terms.specs.Task.{idle_task, is_busy}
use Rattle.machine.specs.State.{task_at, with_task, fresh_state, settling, busy_tasks, count_open, sound, job_fits, ask_fits}
use Rattle.machine.specs.Walk.{sought, at_leaf, serve_arrival, outranks, settle_arrival, arrival, walk_to, walk_from, walk_on}
use Rattle.machine.specs.Commit.{reading, commit_if}
use Rattle.machine.specs.PutIn.{leaf_of, inner_rank, put_grounds, put_test, put_writes, put_turn, put_room, put_limit, put_commit, read_put_parent, read_put_leaf, put_step}
use Rattle.machine.specs.TakeOut.{take_apart, take_leaf, take_grounds, take_test, take_room, take_commit, read_take_grand, read_take_parent, read_take_left, read_take_right, take_step}
use Rattle.machine.specs.Rows.{parent_row, level_row, sided, link_at, around_of, rotate_writes, double_writes}
use Rattle.machine.specs.Settling.{read_grand, read_parent, read_on, grounds_two, grounds_three, grounds_four, test_two, test_three, test_four, promote_do, rotate_do, rotate_two_do, double_do, rotate_by, double_by, promote_by, commit_two, commit_three, commit_four, choose_formed, turn_formed, choose_by, choose_step, rotate_on, rotate_turn, rotate_first, rotate_step, double_turn, double_first, double_step, settle_step}
use Rattle.machine.specs.Step.{Left, phase_step, step_of, carried, step_work}
use Rattle.machine.specs.Contract.{after}
use Rattle.machine.specs.Reach.{reachable, reach_from, reach, larger, deeper}
use Rattle.machine.specs.Allowed.{fibonacci, at_most, allowed_rank}
use Rattle.machine.specs.Calls.{reset_of, begin_of, abandon_of, tidy_of, figures_of, list_of, empty_table, abandoned_out, sweep, tidy_reached, figures_reached, list_reached}
use Rattle.machine.specs.CallFile.{two, four, no_job, begins, steps as stepsRecord, abandons, tidies, operation_of, by_operation, decode, run_of, serve, printed, line_of, end_line, record_of, lines_from, program_of}
use Rattle.machine.proofs.Ride.{From, anew, onward, beside, Act, reset, begin, step, abandon, tidy, figures, list, Hurting, field, m_is, u_is, length_is, task_is, Line, call, damage, Outcome, After, same, left, Ride, busy}
use Rattle.machine.proofs.DocumentRides.{document_rides}
use Rattle.machine.proofs.OwnRides.{own_rides}
use Rattle.machine.proofs.ResetRides.{reset_rides}
use Rattle.machine.proofs.Files.{File, files}
use lib.Dec.{T}

-- states are compared as lists of numbers: a tag for each case, then what it holds
of_links : Links → List ℕ
of_links a = a.left ∷ a.right ∷ []

of_path : Path → List ℕ
of_path q = q.grand ∷ q.parent ∷ q.here ∷ []

of_goal : Goal → ℕ
of_goal (Serve LookUp) = 1
of_goal (Serve PutIn) = 2
of_goal (Serve TakeOut) = 3
of_goal Settle = 4

of_put : PutStage → List ℕ
unfolding of_links
of_put PutParent = 1 ∷ []
of_put (PutLeaf a) = 2 ∷ of_links a
of_put (PutCommit a b) = 3 ∷ of_links a ++ of_links b

of_take : TakeStage → List ℕ
unfolding of_links
of_take TakeGrand = 1 ∷ []
of_take (TakeParent a) = 2 ∷ of_links a
of_take (TakeLeft a b) = 3 ∷ of_links a ++ of_links b
of_take (TakeRight a b c) = 4 ∷ of_links a ++ of_links b ++ of_links c
of_take (TakeCommit a b c d) = 5 ∷ of_links a ++ of_links b ++ of_links c ++ of_links d

of_settle : SettleStage → List ℕ
unfolding of_links
of_settle SettleGrand = 1 ∷ []
of_settle (SettleParent a) = 2 ∷ of_links a
of_settle (SettleChoose a b) = 3 ∷ of_links a ++ of_links b
of_settle (SettleRotate a b c) = 4 ∷ of_links a ++ of_links b ++ of_links c
of_settle (SettleDouble a b c d) = 5 ∷ of_links a ++ of_links b ++ of_links c ++ of_links d

of_phase : Phase → List ℕ
unfolding of_goal of_path of_put of_take of_settle
of_phase (Start g) = 1 ∷ of_goal g ∷ []
of_phase (Walk g q) = 2 ∷ of_goal g ∷ of_path q
of_phase (PuttingIn q s) = 3 ∷ of_path q ++ of_put s
of_phase (TakingOut q s) = 4 ∷ of_path q ++ of_take s
of_phase (Settling q s) = 5 ∷ of_path q ++ of_settle s

of_work : Work → List ℕ
unfolding of_phase
of_work Idle = 0 ∷ []
of_work (Busy j f) = 1 ∷ j.number ∷ j.price ∷ of_phase f

of_tasks : List Task → List ℕ
unfolding of_work
of_tasks [] = []
of_tasks (k ∷ ks) = of_work k.work ++ of_tasks ks

of_state : State → List ℕ
unfolding of_tasks
of_state st = st.m ∷ st.u ∷ of_tasks st.tasks

equal : List ℕ → List ℕ → Bool
equal [] [] = true
equal [] (y ∷ ys) = false
equal (x ∷ xs) [] = false
equal (x ∷ xs) (y ∷ ys) = eqb x y && equal xs ys

of_rec : Rec → List ℕ
of_rec r = r.state ∷ r.number ∷ r.price ∷ r.rank ∷ r.left ∷ r.right ∷ []

-- the ride so far: table and state now and before the last call, the settling commits, and whether all came out as it must
record World : Type 0 where
  table : List ℕ
  state : State
  old_table : List ℕ
  old_state : State
  settled : List ℕ
  fine : Bool

-- "same: nothing changed"; 15 and 16 leave the table, and "the task of the commit idle"
kept : List ℕ → State → ℕ → Left → Bool
unfolding equal of_state if_b
kept t st i l =
    let a = number_of l.answer in
    if_b (ltb a 10) true
    (equal t l.table && if_b (eqb a 15 || eqb a 16) (equal (of_state (with_task st i idle_task)) (of_state l.state)) (equal (of_state st) (of_state l.state)))

-- a call that left l, of task i (8: of none), is looked at
seen : World → ℕ → Left → World
unfolding kept
seen w i l =
    record {
      table = l.table;
      state = l.state;
      old_table = w.table;
      old_state = w.state;
      settled = w.settled;
      fine = w.fine && kept w.table w.state i l;
    }

-- which row a settling commit was: by how many writes it makes and by the ranks before it
row_of : View → Path → Links → List Write → ℕ
unfolding if_b other
row_of v q b [] = 0
row_of v q b (fill i r ∷ ws) =
    if_b (eqb (length ws) 2) (1 + ((v q.parent).rank - (v (other b q.here)).rank))
    (if_b (eqb (length ws) 4) (if_b (eqb r.rank (v q.here).rank) 3 4) 5)
row_of v q b (lead i e k ∷ ws) = 0
row_of v q b (off i ∷ ws) = 0

row_code : View → Path → Links → List Write → List ℕ
unfolding row_of if_b
row_code v q b ws = if_b (eqb (length ws) 0) [] ((10 * row_of v q b ws + if_b (eqb b.left q.here) 0 1) ∷ [])

stage_code : View → Path → SettleStage → List Write → List ℕ
unfolding row_code
stage_code v q SettleGrand ws = []
stage_code v q (SettleParent a) ws = []
stage_code v q (SettleChoose a b) ws = row_code v q b ws
stage_code v q (SettleRotate a b c) ws = row_code v q b ws
stage_code v q (SettleDouble a b c d) ws = row_code v q b ws

phase_code : View → Phase → List Write → List ℕ
unfolding stage_code
phase_code v (Start g) ws = []
phase_code v (Walk g q) ws = []
phase_code v (PuttingIn q s) ws = []
phase_code v (TakingOut q s) ws = []
phase_code v (Settling q s) ws = stage_code v q s ws

work_code : List ℕ → State → Work → List ℕ
unfolding phase_code phase_step view
work_code t st Idle = []
work_code t st (Busy j f) = phase_code (view (slots t) t) f (phase_step (view (slots t) t) (slots t) st.m j f).writes

-- one step, with the settling commit that it makes if it is accepted
stepped : World → ℕ → Left → World
unfolding seen work_code if_b
stepped w i l =
    record {
      table = l.table;
      state = l.state;
      old_table = w.table;
      old_state = w.state;
      settled = w.settled ++ if_b (eqb (number_of l.answer) 0) (work_code w.table w.state (task_at w.state i).work) [];
      fine = (seen w i l).fine;
    }

judge : World → Bool → World
judge w b =
    record {
      table = w.table;
      state = w.state;
      old_table = w.old_table;
      old_state = w.old_state;
      settled = w.settled;
      fine = w.fine && b;
    }

gives : Answer → ℕ → ℕ → Bool
gives x a p = eqb (number_of x) a && eqb (price_of x) p

-- exactly c steps: all but the last answer 0
steps : ℕ → World → ℕ → ℕ → ℕ → World
unfolding stepped judge gives step_of
steps zero w i a p = judge w false
steps (suc zero) w i a p =
    let l = step_of w.table w.state i in
    judge (stepped w i l) (gives l.answer a p)
steps (suc (suc c)) w i a p =
    let l = step_of w.table w.state i in
    steps (suc c) (judge (stepped w i l) (gives l.answer 0 0)) i a p

acted : World → Act → ℕ → ℕ → World
unfolding seen judge gives steps equal if_b reset_of begin_of abandon_of tidy_of figures_of list_of
acted w reset a b =
    let l = reset_of w.table w.state in
    judge (seen w 8 l) (gives l.answer a b)
acted w (begin i o k p) a b =
    let l = begin_of w.table w.state i o (record { number = k; price = p }) in
    judge (seen w i l) (gives l.answer a b)
acted w (step i c) a b = steps c w i a b
acted w (abandon i) a b =
    let l = abandon_of w.table w.state i in
    judge (seen w i l) (gives l.answer a b)
acted w tidy a b =
    let l = tidy_of w.table w.state in
    judge (seen w 8 l) (gives l.answer a b)
acted w figures a b =
    let r = figures_of w.table w.state in
    judge (seen w 8 (record { table = w.table; state = w.state; answer = r.answer })) (gives r.answer a b)
acted w (list n) a b =
    let room : List ℕ = replicate n 7 in
    let r = list_of w.table w.state room in
    judge (seen w 8 (record { table = w.table; state = w.state; answer = r.answer }))
    (gives r.answer a b && (if_b (leb 10 a) (equal r.room room) true))

-- the damage is done
hurt_by : World → Hurting → World
unfolding place
hurt_by w (field s f x) = record { table = set w.table (place s f) x; state = w.state; old_table = w.table; old_state = w.state; settled = w.settled; fine = w.fine }
hurt_by w (m_is x) = record { table = w.table; state = record { tasks = w.state.tasks; m = x; u = w.state.u }; old_table = w.table; old_state = w.state; settled = w.settled; fine = w.fine }
hurt_by w (u_is x) = record { table = w.table; state = record { tasks = w.state.tasks; m = w.state.m; u = x }; old_table = w.table; old_state = w.state; settled = w.settled; fine = w.fine }
hurt_by w (length_is l) = record { table = take l (w.table ++ replicate l 0); state = w.state; old_table = w.table; old_state = w.state; settled = w.settled; fine = w.fine }
hurt_by w (task_is i k) = record { table = w.table; state = with_task w.state i k; old_table = w.table; old_state = w.state; settled = w.settled; fine = w.fine }

-- before the last call: where its line began
called : World → World → World
called w e =
    record { table = e.table; state = e.state; old_table = w.table; old_state = w.state; settled = e.settled; fine = e.fine }

went : World → List Line → World
unfolding acted hurt_by called
went w [] = w
went w (call act a p ∷ ls) = went (called w (acted w act a p)) ls
went w (damage h ∷ ls) = went (hurt_by w h) ls

-- what is found after the ride
root_of : View → List ℕ
unfolding if_b
root_of v =
    let top = (v (v 0).left).left in
    if_b (eqb top 0) (0 ∷ 0 ∷ []) ((v top).number ∷ (v top).rank ∷ [])

busy_from : List Task → ℕ → List ℕ
busy_from [] i = []
busy_from (k ∷ ks) i = elim (is_busy k.work) [ true ↦ i ∷ busy_from ks (i + 1) | false ↦ busy_from ks (i + 1) ]

found : World → List ℕ
unfolding list_of if_b
found w =
    let r = list_of w.table w.state (replicate 64 7) in
    let n = (figures_of w.table w.state).figures.fares in
    number_of r.answer ∷ if_b (leb 10 (number_of r.answer)) [] (take (2 * n) r.room)

counted : World → List ℕ
unfolding figures_of end_line
counted w =
    let r = figures_of w.table w.state in
    number_of r.answer ∷ end_line r.figures

-- the numbers of these records, and zeros up to the end
spread : List Rec → List ℕ
unfolding of_rec
spread [] = []
spread (r ∷ rs) = of_rec r ++ spread rs

whole_table : ℕ → List Rec → List ℕ
unfolding spread
whole_table l rs = spread rs ++ replicate (l - length (spread rs)) 0

left_so : World → Outcome → Bool
unfolding equal root_of busy_from found counted whole_table count_free view
left_so w o =
    let n = slots w.table in
    let v = view n w.table in
    eqb (n - count_free v n) o.used
    && (equal (root_of v) o.root && (equal w.settled o.settled && (equal (busy_from w.state.tasks 0) o.busy
    && (equal (found w) o.fares && (equal (counted w) o.figures && equal w.table (whole_table (length w.table) o.table))))))

ends_so : World → After → Bool
unfolding equal of_state left_so
ends_so w same = equal w.table w.old_table && equal (of_state w.state) (of_state w.old_state)
ends_so w (left o) = left_so w o

-- a reset finds a table of sevens and a state that is no state of a reset
numbers_before : ℕ → List ℕ
numbers_before n = replicate (n * 6) 7

state_before : State
state_before = record { tasks = replicate 8 (busy 1 1 (Start Settle)); m = 5; u = 3 }

fresh_world : List ℕ → State → World
fresh_world t st = record { table = t; state = st; old_table = t; old_state = st; settled = []; fine = true }

begun_at : From → World → World → World
unfolding reset_of numbers_before state_before fresh_world
begun_at (anew n) s e =
    let l = reset_of (numbers_before n) state_before in
    fresh_world l.table l.state
begun_at onward s e = fresh_world e.table e.state
begun_at beside s e = fresh_world s.table s.state

-- all rides hold: s is where the ride before started, e where it ended
all_hold : List Ride → World → World → Bool
unfolding begun_at went ends_so
all_hold [] s e = true
all_hold (r ∷ rs) s e =
    let b = begun_at r.start s e in
    let w = went b r.lines in
    (w.fine && ends_so w r.after) && all_hold rs b w

-- before the first ride
nowhere : World
unfolding fresh_world
nowhere = fresh_world [] fresh_state

-- call files: every line that the program prints
equal_lines : List (List ℕ) → List (List ℕ) → Bool
unfolding equal
equal_lines [] [] = true
equal_lines [] (y ∷ ys) = false
equal_lines (x ∷ xs) [] = false
equal_lines (x ∷ xs) (y ∷ ys) = equal x y && equal_lines xs ys

all_print : List File → Bool
unfolding equal_lines program_of
all_print [] = true
all_print (f ∷ fs) = equal_lines (program_of f.bytes) f.lines && all_print fs

-- every ride and every call file comes out as it must
rides_hold : T (all_hold (document_rides ++ own_rides ++ reset_rides) nowhere nowhere && all_print files)
unfolding all_hold nowhere document_rides own_rides reset_rides all_print files if_b in_tree sentinel number_fits price_fits fare_marks inner_marks is_link is_leaf is_inner plain_form entry_form well_formed linked level is_fare leads still place length_fits view put puts free_from free slot1 slot2 slot3 count_free settling busy_tasks count_open sound job_fits ask_fits sought at_leaf serve_arrival outranks settle_arrival arrival walk_to walk_from walk_on reading commit_if leaf_of inner_rank put_grounds put_test put_writes put_turn put_room put_limit put_commit read_put_parent read_put_leaf put_step take_apart take_leaf take_grounds take_test take_room other take_commit read_take_grand read_take_parent read_take_left read_take_right take_step parent_row level_row sided link_at around_of rotate_writes double_writes read_grand read_parent read_on grounds_two grounds_three grounds_four test_two test_three test_four promote_do rotate_do rotate_two_do double_do rotate_by double_by promote_by commit_two commit_three commit_four choose_formed turn_formed choose_by choose_step rotate_on rotate_turn rotate_first rotate_step double_turn double_first double_step settle_step phase_step carried step_work step_of after reachable reach_from reach larger deeper fibonacci at_most allowed_rank empty_table reset_of begin_of abandoned_out abandon_of sweep tidy_reached tidy_of figures_reached figures_of list_reached list_of two four no_job begins stepsRecord abandons tidies operation_of by_operation decode run_of serve printed line_of end_line record_of lines_from program_of
rides_hold = tt
