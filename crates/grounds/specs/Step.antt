-- 17 of a step, and its refusals in the printed order.
use Rattle.std.specs.Prelude.{ℕ, ◌≡◌, List, [], ◌∷◌}
use Rattle.terms.specs.declared.Job.{Job}
use Rattle.terms.specs.declared.State.{State}
use Rattle.terms.specs.declared.Work.TheVariants.{Busy}
use Rattle.terms.specs.declared.Phase.{Phase}
use Rattle.machine.specs.Table.{View, view, slots}
use Rattle.machine.specs.State.{task_at}
use Rattle.grounds.specs.Order.{Refusal}
use Rattle.grounds.specs.State.{JobOutOfRange, CountsDamaged}
use Rattle.grounds.specs.Calls.{refuse, length18, task10, idle13}
use Rattle.grounds.specs.Reads.{RecordUnreadable, ArrivalOutranks}
use Rattle.grounds.specs.Commits.{BeforeTest, AfterTest, AtLimit, WithoutRoom, TooFewSlots}

-- 17 of the records that a step reads
pub data PhaseDamaged (v : View) (n : ℕ) (j : Job) (f : Phase) : Type 0 where
  record_unreadable : RecordUnreadable v n j f → PhaseDamaged v n j f
  arrival-outranks : ArrivalOutranks v j f → PhaseDamaged v n j f
  before_the_test : BeforeTest v j f → PhaseDamaged v n j f
  after_the_test : AfterTest v f → PhaseDamaged v n j f

-- 17 of a step
pub data StepDamaged (t : List ℕ) (st : State) (j : Job) (f : Phase) : Type 0 where
  counts : CountsDamaged st → StepDamaged t st j f
  number_or_price_out_of_range : JobOutOfRange j → StepDamaged t st j f
  of_its_phase : PhaseDamaged (view (slots t) t) (slots t) j f → StepDamaged t st j f

-- a ground of the task's own number, price and phase
abbrev pub Of : State → ℕ → (Job → Phase → Type 0) → Type 0
Of st i G = (j : Job) × (f : Phase) × ((task_at st i).work ≡ Busy j f) × G j f

-- 17 "damaged"
abbrev pub step17 : List ℕ → State → ℕ → Refusal
step17 t st i = refuse 17 (Of st i (λ j f. StepDamaged t st j f))

-- 16 "1,000,000 put-ins already committed"
abbrev pub limit16 : List ℕ → State → ℕ → Refusal
limit16 t st i = refuse 16 (Of st i (λ j f. AtLimit (view (slots t) t) st.m f))

-- 15 "no room, at the commit of a put-in or take-out"
abbrev pub room15 : List ℕ → State → ℕ → Refusal
room15 t st i = refuse 15 (Of st i (λ j f. WithoutRoom (view (slots t) t) (slots t) f))

-- 6 "put in, unsettled"
abbrev pub unsettled6 : List ℕ → State → ℕ → Refusal
unsettled6 t st i = refuse 6 (Of st i (λ j f. TooFewSlots (view (slots t) t) (slots t) f))

-- THE REFUSALS OF A STEP in the printed order; last the answer 6
abbrev pub step_refusals : List ℕ → State → ℕ → List Refusal
step_refusals t st i =
    length18 t ∷ task10 i ∷ idle13 st i ∷ step17 t st i ∷ limit16 t st i ∷ room15 t st i ∷ unsettled6 t st i ∷ []
