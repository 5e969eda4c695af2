-- STEP: each refusal is given exactly when its ground holds and no earlier one does; likewise the answer 6.
use Prim.Native.Nat.{ℕ}
use mathlib.Core.Path.{◌≡◌, refl, ap}
use mathlib.Core.Bool.{Bool, true, false, not, ◌&&◌, true≢false}
use mathlib.Core.List.{List, [], ◌∷◌}
use mathlib.Core.Logic.{◌⊎◌, inl, inr, ◌↔◌}
use Rattle.terms.specs.declared.Job.{Job}
use Rattle.terms.specs.declared.State.{State}
use Rattle.terms.specs.declared.Work.{Work}
use Rattle.terms.specs.declared.Work.TheVariants.{Idle, Busy}
use Rattle.terms.specs.declared.Phase.{Phase}
use Rattle.terms.specs.declared.Phase.TheVariants.{Start, Walk, PuttingIn, TakingOut, Settling}
use Rattle.terms.specs.Task.{is_busy}
use Rattle.terms.specs.Answers.{number_of}
use Rattle.machine.specs.Record.{number_fits}
use Rattle.machine.specs.Table.{view, slots}
use Rattle.machine.specs.State.{task_at, sound, job_fits}
use Rattle.machine.specs.Step.{phase_step, carried, step_work, step_of}
use Rattle.grounds.specs.Order.{Refusal, Ruled}
use Rattle.grounds.specs.Record.{FareNumber}
use Rattle.grounds.specs.State.{JobOutOfRange, CountsDamaged}
use Rattle.grounds.specs.Calls.{refuse}
use Rattle.grounds.specs.Commits.{AtLimit, WithoutRoom, TooFewSlots}
use Rattle.grounds.specs.Step.{PhaseDamaged, StepDamaged, counts, number_or_price_out_of_range, of_its_phase, step_refusals}
use Rattle.grounds.proofs.Says.{denies-both, says_struck, says_lt}
use Rattle.grounds.proofs.Falls.{Falls, strikes, passes, ruled, look}
use Rattle.grounds.proofs.Records.{says_number}
use Rattle.grounds.proofs.States.{denies-job, denies-counts}
use Rattle.grounds.proofs.Calls.{number_left, says_length}
use Rattle.grounds.proofs.Four.{plain_answers, number_did, Fours, fours_as, only_hurts, either-falls}
use Rattle.grounds.proofs.Walks.{start-hurts, walk_hurts}
use Rattle.grounds.proofs.Puts.{put-fours}
use Rattle.grounds.proofs.Takes.{take_fours}
use Rattle.grounds.proofs.Stages.{settle-fours}

-- a number in range
in_range : (j : Job) → ¬ (JobOutOfRange j) → FareNumber j.number
in_range j h = go (number_fits j.number) refl
  where
    go : (b : Bool) → number_fits j.number ≡ b → FareNumber j.number
    go true e = (says_number j.number).holds e
    go false e = absurd (h (inl ((says_number j.number).fails e)))

-- every phase
phase_fours :
    (n : ℕ) (t : List ℕ) (m : ℕ) (j : Job) (f : Phase) → ¬ (JobOutOfRange j)
    → Fours (number_did (phase_step (view n t) n m j f)) (PhaseDamaged (view n t) n j f) (AtLimit (view n t) m f) (WithoutRoom (view n t) n f)
    (TooFewSlots (view n t) n f)
unfolding phase_step
phase_fours n t m j (Start g) h = only_hurts (λ x. elim x [ ]) (λ x. elim x [ ]) (λ x. elim x [ ]) (start-hurts n t j g (in_range j h))
phase_fours n t m j (Walk g q) h = only_hurts (λ x. elim x [ ]) (λ x. elim x [ ]) (λ x. elim x [ ]) (walk_hurts n t j g q)
phase_fours n t m j (PuttingIn q f) h = put-fours n t j q m f
phase_fours n t m j (TakingOut q f) h = take_fours n t j q m f
phase_fours n t m j (Settling q f) h = settle-fours n t j q m f

-- a busy task has one job and one phase
abbrev job_in : Job → Work → Job
job_in d Idle = d
job_in d (Busy j f) = j

abbrev phase_in : Phase → Work → Phase
phase_in d Idle = d
phase_in d (Busy j f) = f

abbrev OfWork : Work → (Job → Phase → Type 0) → Type 0
OfWork w G = (j : Job) × (f : Phase) × (w ≡ Busy j f) × G j f

of_busy : (j : Job) (f : Phase) (G : Job → Phase → Type 0) → G j f ↔ OfWork (Busy j f) G
of_busy j f G =
    (λ g. (j, f, refl, g), λ h. once h.0 h.1 (ap (λ w. job_in j w) h.2) (ap (λ w. phase_in f w) h.2) h.3)
  where
    once : (i : Job) (e : Phase) → j ≡ i → f ≡ e → G i e → G j f
    once i e a b g = rw (a, b) g

module _ (t : List ℕ) (st : State) (i : ℕ) where
  damaged_as : (j : Job) (f : Phase) → ((CountsDamaged st ⊎ JobOutOfRange j) ⊎ PhaseDamaged (view (slots t) t) (slots t) j f) ↔ StepDamaged t st j f
  damaged_as j f = (
    λ h.
        elim h [
          | inl x ↦ elim x [ inl y ↦ counts y | inr y ↦ number_or_price_out_of_range y ]
          | inr x ↦ of_its_phase x
        ],
    λ h. elim h [ counts x ↦ inl (inl x) | number_or_price_out_of_range x ↦ inl (inr x) | of_its_phase x ↦ inr x ],
  )

  -- the refusals from 13 on
  abbrev from_idle : Work → List Refusal
  from_idle w =
      refuse 13 (w ≡ Idle) ∷ refuse 17 (OfWork w (λ j f. StepDamaged t st j f))
      ∷ refuse 16 (OfWork w (λ j f. AtLimit (view (slots t) t) st.m f))
      ∷ refuse 15 (OfWork w (λ j f. WithoutRoom (view (slots t) t) (slots t) f))
      ∷ refuse 6 (OfWork w (λ j f. TooFewSlots (view (slots t) t) (slots t) f)) ∷ []

  busy-fours :
      (j : Job) (f : Phase)
      → Fours (number_left (step_work t st i (Busy j f))) ((CountsDamaged st ⊎ JobOutOfRange j) ⊎ PhaseDamaged (view (slots t) t) (slots t) j f)
      (AtLimit (view (slots t) t) st.m f) (WithoutRoom (view (slots t) t) (slots t) f) (TooFewSlots (view (slots t) t) (slots t) f)
  unfolding step_work carried
  busy-fours j f =
      either-falls number_left (not (sound st && job_fits j)) (says_struck _ (denies-both _ _ (denies-counts st) (denies-job j))) refl
      (λ h. phase_fours (slots t) t st.m j f (λ x. h (inr x)))

  work-falls : (w : Work) → Falls plain_answers (number_left (step_work t st i w)) (from_idle w)
  unfolding step_work
  work-falls Idle = strikes refl refl
  work-falls (Busy j f) =
      passes (λ e. true≢false (ap (λ w. is_busy w) e))
      (fours_as
      (λ h. (of_busy j f (λ a b. StepDamaged t st a b)).0 ((damaged_as j f).0 h), λ h. (damaged_as j f).1 ((of_busy j f (λ a b. StepDamaged t st a b)).1 h))
      (of_busy j f (λ a b. AtLimit (view (slots t) t) st.m b))
      (of_busy j f (λ a b. WithoutRoom (view (slots t) t) (slots t) b))
      (of_busy j f (λ a b. TooFewSlots (view (slots t) t) (slots t) b))
      (busy-fours j f))

  -- STEP: 18, 10, 13, 17, 16, 15; then 6
  pub step-ruled : Ruled (number_of (step_of t st i).answer) plain_answers (step_refusals t st i)
  unfolding step_of
  step-ruled =
      ruled _ _ (step_refusals t st i) refl
      (look number_left _ _ (says_length t) refl (λ h. look number_left _ _ (says_lt 7 i) refl (λ h. work-falls (task_at st i).work)))
