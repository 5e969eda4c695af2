-- The other calls: reset, begin, abandon, tidy, figures, list.
use Rattle.std.specs.Prelude.{ℕ, zero, suc, ◌+◌, ◌*◌, true, false, not, List, [], ◌∷◌, ◌++◌, ltb, eqb, length, get_or, drop, replicate}
use Rattle.terms.specs.declared.Rec.{Rec}
use Rattle.terms.specs.declared.Job.{Job}
use Rattle.terms.specs.declared.Operation.{Operation}
use Rattle.terms.specs.declared.Task.{Task}
use Rattle.terms.specs.declared.Out.{Out}
use Rattle.terms.specs.declared.State.{State}
use Rattle.terms.specs.declared.Figures.{Figures}
use Rattle.terms.specs.declared.Report.{Report}
use Rattle.terms.specs.declared.Answer.{Answer}
use Rattle.terms.specs.declared.Answer.TheVariants.{Accepted, PutUnsettled, TaskNumber, OutOfRange, TaskBusy, TaskIdle, SomeBusy, NoRoom, Damaged, Length}
use Rattle.machine.specs.Choice.{if_b}
use Rattle.machine.specs.Record.{top_number, free_rec}
use Rattle.machine.specs.Table.{view, Write, fill, puts, length_fits, slots, count_free}
use Rattle.terms.specs.Task.{begun, abandoned, is_busy, work_settles}
use Rattle.machine.specs.State.{task_at, with_task, busy_tasks, count_open, sound, ask_fits, fresh_state}
use Rattle.machine.specs.PutIn.{inner_of}
use Rattle.machine.specs.Step.{Left, same, counted}
use Rattle.machine.specs.Contract.{after}
use Rattle.machine.specs.Reach.{Reached, hurt, reached, reach, levels, count_fares, fare_list, height_of}
use Rattle.machine.specs.Allowed.{allowed_rank}

-- "Reset: slot 0 entry, slot 1 sentinel leaf, m and u 0, all tasks idle, all other slots zero."
abbrev pub entry_rec : Rec
entry_rec = inner_of top_number 255 1 0

-- "slot 1 sentinel leaf"
abbrev pub first_leaf : Rec
first_leaf = record { state = 1; number = top_number; price = 0; rank = 255; left = 0; right = 0 }

-- "all other slots zero"
unfoldable pub empty_table : ℕ → List ℕ
empty_table l = puts (replicate l 0) (fill 0 entry_rec ∷ fill 1 first_leaf ∷ [])

-- reset refuses by length alone: 18
unfoldable pub reset_of : List ℕ → State → Left
reset_of t st = if_b (not (length_fits (length t))) (same t st Length) (same (empty_table (length t)) fresh_state Accepted)

-- "Begin makes the task busy .., and changes nothing else." Refusals 18, 10, 11, 12, 17
unfoldable pub begin_of : List ℕ → State → ℕ → Operation → Job → Left
begin_of t st i o j =
    if_b (not (length_fits (length t))) (same t st Length)
    (if_b (ltb 7 i) (same t st TaskNumber)
    (if_b (not (ask_fits o j)) (same t st OutOfRange)
    (if_b (is_busy (task_at st i).work) (same t st TaskBusy)
    (if_b (not (sound st)) (same t st Damaged)
    (same t (with_task st i (begun o j)) Accepted)))))

-- "Abandon makes the task idle; it answers 6 (u one more) if the task was settling, otherwise 0." Refusals 18, 10, 13, 17
unfoldable pub abandoned_out : State → ℕ → Task → Out
abandoned_out st i k =
    if_b (work_settles k.work)
    (record { state = counted st i (abandoned k) 0 1; answer = PutUnsettled })
    (record { state = with_task st i (abandoned k); answer = Accepted })

-- the refusals of abandon in their order
unfoldable pub abandon_of : List ℕ → State → ℕ → Left
abandon_of t st i =
    if_b (not (length_fits (length t))) (same t st Length)
    (if_b (ltb 7 i) (same t st TaskNumber)
    (if_b (not (is_busy (task_at st i).work)) (same t st TaskIdle)
    (if_b (not (sound st)) (same t st Damaged)
    (after t (abandoned_out st i (task_at st i))))))

-- "sets every slot not reachable from the entry to zero": the slots from s on, with d of them to look at, by their marks
unfoldable pub sweep : List ℕ → ℕ → ℕ → List Write
sweep marks zero s = []
sweep marks (suc d) s = elim (eqb (get_or marks s 0) 0) [ true ↦ fill s free_rec ∷ sweep marks d (s + 1) | false ↦ sweep marks d (s + 1) ]

-- 17 of tidy, or the sweep
unfoldable pub tidy_reached : List ℕ → State → Reached → Left
tidy_reached t st hurt = same t st Damaged
tidy_reached t st (reached r marks) = same (puts t (sweep marks (slots t) 0)) st Accepted

-- Refusals 18, 14, 17
unfoldable pub tidy_of : List ℕ → State → Left
tidy_of t st =
    if_b (not (length_fits (length t))) (same t st Length)
    (if_b (not (eqb (busy_tasks st.tasks 8) 0)) (same t st SomeBusy)
    (if_b (not (sound st)) (same t st Damaged)
    (tidy_reached t st (reach (slots t) (view (slots t) t)))))

-- refused figures are zeros
abbrev pub no_figures : Figures
no_figures = record { height = 0; level = 0; c = 0; m = 0; fares = 0; free = 0; allowed = 0 }

-- "Refused figures .. write nothing."
abbrev pub no_report : Answer → Report
no_report a = record { answer = a; figures = no_figures }

-- "Figures hands back height, level records, c, m, fares, free slots and allowed rank"
unfoldable pub figures_reached : List ℕ → State → Reached → Report
figures_reached t st hurt = no_report Damaged
figures_reached t st (reached r marks) =
    record {
      answer = Accepted;
      figures = record {
        height = height_of r;
        level = levels (view (slots t) t 0) r;
        c = count_open st;
        m = st.m;
        fares = count_fares r;
        free = count_free (view (slots t) t) (slots t);
        allowed = allowed_rank st.m;
      };
    }

-- Refusals 18, 17
unfoldable pub figures_of : List ℕ → State → Report
figures_of t st =
    if_b (not (length_fits (length t))) (no_report Length)
    (if_b (not (sound st)) (no_report Damaged)
    (figures_reached t st (reach (slots t) (view (slots t) t))))

-- "A list lent fewer than two numbers a fare gives 15; otherwise it writes number and price of each fare .., and later places stay."
pub record Listed : Type 0 where
  pub answer : Answer
  pub room : List ℕ

-- 17 of a list, then 15, then the fares
unfoldable pub list_reached : List ℕ → Reached → Listed
list_reached room hurt = record { answer = Damaged; room = room }
list_reached room (reached r marks) =
    if_b (ltb (length room) (2 * count_fares r)) (record { answer = NoRoom; room = room })
    (record { answer = Accepted; room = fare_list r ++ drop (length (fare_list r)) room })

-- Refusals 18, 17, 15
unfoldable pub list_of : List ℕ → State → List ℕ → Listed
list_of t st room =
    if_b (not (length_fits (length t))) (record { answer = Length; room = room })
    (if_b (not (sound st)) (record { answer = Damaged; room = room })
    (list_reached room (reach (slots t) (view (slots t) t))))
