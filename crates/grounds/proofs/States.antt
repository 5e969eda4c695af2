-- The tests on length, numbers handed in and state say what document 01 says.
use Prim.Native.Nat.{ℕ, zero, suc, ◌+◌, ◌*◌, ◌/◌, ◌%◌, ◌<◌}
use mathlib.Core.Path.{◌≡◌, refl, sym, ap, ◌∙◌}
use mathlib.Core.Bool.{Bool, true, false, ◌||◌, true≢false, false≢true}
use mathlib.Core.List.{List}
use mathlib.Core.Logic.{◌⊎◌, inl, inr, ◌≢◌}
use native.Mathlib.Omega.{arith}
use lib.Dec.{eqb}
use lib.ListN.{length}
use Rattle.terms.specs.declared.Job.{Job}
use Rattle.terms.specs.declared.Operation.{Operation}
use Rattle.terms.specs.declared.Operation.TheVariants.{LookUp, PutIn, TakeOut}
use Rattle.terms.specs.declared.Goal.{Goal}
use Rattle.terms.specs.declared.Goal.TheVariants.{Serve, Settle}
use Rattle.terms.specs.declared.Work.{Work}
use Rattle.terms.specs.declared.Work.TheVariants.{Idle, Busy}
use Rattle.terms.specs.declared.Phase.{Phase}
use Rattle.terms.specs.declared.State.{State}
use Rattle.terms.specs.Task.{goal_of, goal_settles, work_settles, is_busy}
use Rattle.machine.specs.Table.{length_fits}
use Rattle.machine.specs.State.{task_at, one, settling, busy_tasks, count_open, sound, job_fits, may_price, ask_fits}
use Rattle.grounds.specs.State.{Fits, JobOutOfRange, OutOfRange, number_or_price, look_up_with_price, take_out_with_price, TaskSettles, SomeTaskBusy, Settling, none_yet, one_more, no_more, CountsDamaged, m_above_1000000, u_plus_settling_above_m}
use Rattle.grounds.proofs.Says.{Says, true_if, false_if, says_as, says_both, Denies, denies-not, denies-as, denies-both, says_eq, says_le}
use Rattle.grounds.proofs.Records.{says_number, says_price}

-- 18
pub says_fits : (t : List ℕ) → Says (length_fits (length t)) (Fits t)
unfolding length_fits
says_fits t =
    says_as _ (says_both _ _ (says_eq (length t % 6) 0) (says_both _ _ (says_le 48 (length t)) (says_le (length t) 24576)))
    (λ h. let a = h.0 in let b = h.1.0 in let c = h.1.1 in (length t / 6, omega arith, omega arith, omega arith))
    (λ h. let a = h.1 in let b = h.2 in let c = h.3 in (sixfold h.0 a, (omega arith, omega arith)))
  where
    sixfold : (n : ℕ) → length t ≡ 6 * n → length t % 6 ≡ 0
    sixfold n e = omega arith

-- 11, and 17 of a step
pub denies-job : (j : Job) → Denies (job_fits j) (JobOutOfRange j)
unfolding job_fits
denies-job j = denies-both _ _ (denies-not _ (says_number j.number)) (denies-not _ (says_price j.price))

denies-price : (o : Operation) (j : Job) → Denies (may_price o || eqb j.price 0) (((o ≡ LookUp) ⊎ (o ≡ TakeOut)) × (j.price ≢ 0))
denies-price LookUp j = denies-as _ (denies-not _ (says_eq j.price 0)) (λ h. (inl refl, h)) (λ h. h.1)
denies-price PutIn j =
    record {
      clear =
          λ e h.
          elim h.0 [
            | inl q ↦ true≢false (ap (λ o. may_price o) q)
            | inr q ↦ true≢false (ap (λ o. may_price o) q)
          ];
      struck = λ e. absurd (true≢false e);
    }
denies-price TakeOut j = denies-as _ (denies-not _ (says_eq j.price 0)) (λ h. (inr refl, h)) (λ h. h.1)

pub denies-range : (o : Operation) (j : Job) → Denies (ask_fits o j) (OutOfRange o j)
unfolding ask_fits
denies-range o j =
    denies-as _ (denies-both _ _ (denies-job j) (denies-price o j))
    (λ h.
    elim h [
      | inl x ↦ number_or_price x
      | inr x ↦ elim x.0 [ inl e ↦ look_up_with_price e x.1 | inr e ↦ take_out_with_price e x.1 ]
    ])
    (λ h.
    elim h [
      | number_or_price x ↦ inl x
      | look_up_with_price e x ↦ inr (inl e, x)
      | take_out_with_price e x ↦ inr (inr e, x)
    ])

-- 12 and 13
pub says_busy : (w : Work) → Says (is_busy w) ((j : Job) × (f : Phase) × (w ≡ Busy j f))
says_busy Idle = record { holds = λ e. absurd (false≢true e); fails = λ e h. false≢true (ap (λ x. is_busy x) h.2) }
says_busy (Busy j f) = record { holds = λ e. (j, f, refl); fails = λ e. absurd (true≢false e) }

pub denies-idle : (w : Work) → Denies (is_busy w) (w ≡ Idle)
denies-idle Idle = record { clear = λ e. absurd (false≢true e); struck = λ e. refl }
denies-idle (Busy j f) = record { clear = λ e h. true≢false (ap (λ x. is_busy x) h); struck = λ e. absurd (true≢false e) }

-- 14
module _ (st : State) where
  abbrev busy_at : ℕ → Bool
  busy_at i = is_busy (task_at st i).work

  found : (d : ℕ) → (busy_tasks st.tasks d ≡ 0 → ⊥) → (i : ℕ) × (i < d) × (busy_at i ≡ true)
  unfolding busy_tasks
  found zero h = absurd (h refl)
  found (suc d) h = go (found d) (busy_at d) refl
    where
      go :
          ((busy_tasks st.tasks d ≡ 0 → ⊥) → (i : ℕ) × (i < d) × (busy_at i ≡ true)) → (b : Bool) → busy_at d ≡ b
          → (i : ℕ) × (i < suc d) × (busy_at i ≡ true)
      go rec true e = (d, omega arith, e)
      go rec false e = let r = rec (λ z. h (rw (e, z))) in (r.0, let k = r.1 in omega arith, r.2)

  counts : (d i : ℕ) → i < d → busy_at i ≡ true → busy_tasks st.tasks d ≡ 0 → ⊥
  unfolding busy_tasks
  counts zero i h e z = omega arith
  counts (suc d) i h e z = go (counts d i) (eqb i d) refl
    where
      go : (i < d → busy_at i ≡ true → busy_tasks st.tasks d ≡ 0 → ⊥) → (b : Bool) → eqb i d ≡ b → ⊥
      go rec true q =
          let x : i ≡ d = (says_eq i d).holds q in
          let y : busy_at d ≡ true = rw x at e in
          let w : one (busy_at d) ≡ 1 = ap (λ b. one b) y in omega arith
      go rec false q = let x = (says_eq i d).fails q in rec (omega arith) e (omega arith)

  pub denies-some_busy : Denies (eqb (busy_tasks st.tasks 8) 0) (SomeTaskBusy st)
  denies-some_busy =
      denies-as _ (denies-not _ (says_eq (busy_tasks st.tasks 8) 0))
      (λ h. let r = found 8 h in (r.0, let k = r.1 in omega arith, (says_busy _).holds r.2))
      (λ h z. counts 8 h.0 (let k = h.1 in omega arith) (true_if _ (says_busy _) h.2) z)

-- 17 of every call but reset
goal_settles_lem : (g : Goal) → goal_settles g ≡ true → g ≡ Settle
goal_settles_lem (Serve o) e = absurd (false≢true e)
goal_settles_lem Settle e = refl

pub says_settles : (w : Work) → Says (work_settles w) ((j : Job) × (f : Phase) × (w ≡ Busy j f) × (goal_of f ≡ Settle))
says_settles Idle = record { holds = λ e. absurd (false≢true e); fails = λ e h. false≢true (ap (λ x. is_busy x) h.2) }
says_settles (Busy j f) =
    record {
      holds = λ e. (j, f, refl, goal_settles_lem (goal_of f) e);
      fails =
          λ e h.
          let p : work_settles (Busy j f) ≡ work_settles (Busy h.0 h.1) = ap (λ w. work_settles w) h.2 in
          let q : goal_settles (goal_of h.1) ≡ true = ap (λ g. goal_settles g) h.3 in
          false≢true (sym e ∙ p ∙ q);
    }

module _ (st : State) where
  settles_now : (d : ℕ) → Settling st d (settling st.tasks d)
  unfolding settling
  settles_now zero = none_yet
  settles_now (suc d) = go (work_settles (task_at st d).work) refl (settles_now d)
    where
      go :
          (b : Bool) → work_settles (task_at st d).work ≡ b → Settling st d (settling st.tasks d)
          → Settling st (suc d) (settling st.tasks d + one b)
      go true e r = one-plus ((says_settles _).holds e) r
        where
          one-plus : {k : ℕ} → TaskSettles st d → Settling st d k → Settling st (suc d) (k + 1)
          one-plus {k} a b = let z : suc k ≡ k + 1 = omega arith in rw z at (one_more a b)
      go false e r = none-plus ((says_settles _).fails e) r
        where
          none-plus : {k : ℕ} → ¬ (TaskSettles st d) → Settling st d k → Settling st (suc d) (k + 0)
          none-plus {k} a b = let z : k ≡ k + 0 = omega arith in rw z at (no_more a b)

  -- the count has one value
  settles_once : (d k : ℕ) → Settling st d k → k ≡ settling st.tasks d
  unfolding settling
  settles_once d k none_yet = refl
  settles_once d k (one_more {d = e} {k = i} a r) =
      let z : one (work_settles (task_at st e).work) ≡ 1 = ap (λ b. one b) (true_if _ (says_settles _) a) in
      let y = settles_once e i r in omega arith
  settles_once d k (no_more {d = e} {k = i} a r) =
      let z : one (work_settles (task_at st e).work) ≡ 0 = ap (λ b. one b) (false_if _ (says_settles _) a) in
      let y = settles_once e i r in omega arith

  pub denies-counts : Denies (sound st) (CountsDamaged st)
  unfolding sound count_open
  denies-counts =
      denies-as _ (denies-both _ _ (denies-not _ (says_le st.m 1000000)) (denies-not _ (says_le (st.u + settling st.tasks 8) st.m)))
      (λ h. elim h [ inl x ↦ m_above_1000000 (omega arith) | inr x ↦ u_plus_settling_above_m _ (settles_now 8) (omega arith) ])
      (λ h.
      elim h [
        | m_above_1000000 x ↦ inl (omega arith)
        | u_plus_settling_above_m k r x ↦ inr (let e = settles_once 8 k r in omega arith)
      ])
