-- 19 is given exactly for a bad record, before everything else; no call gives it.
use Prim.Native.Nat.{ℕ, zero, suc, ◌≤◌, ◌<◌}
use mathlib.Core.Path.{◌≡◌, refl}
use mathlib.Core.Bool.{Bool, true, false, ◌&&◌, not, true≢false, false≢true}
use mathlib.Core.List.{List}
use mathlib.Core.Logic.{◌⊎◌, inl, inr, ◌↔◌, ◌≢◌}
use native.Mathlib.Omega.{arith}
use lib.Dec.{leb, eqb}
use lib.ListN.{length}
use Rattle.terms.specs.declared.State.{State}
use Rattle.terms.specs.declared.Call.{Call}
use Rattle.terms.specs.declared.Call.TheVariants.{Begin, Steps, Abandon, Tidy, Bad}
use Rattle.terms.specs.Answers.{number_of}
use Rattle.machine.specs.Step.{Left, step_of}
use Rattle.machine.specs.CallFile.{two, four, no_job, begins, steps, abandons, tidies, operation_of, by_operation, decode, run_of, serve}
use Rattle.machine.proofs.Choice.{if_elim}
use Rattle.grounds.specs.Program.{operation_in, task_in, count_in, number_in, price_in, BadRecord, a_short_last_record, no_such_operation, no_count_to_step, an_unused_count, an_unused_number, an_unused_price, an_unused_task}
use Rattle.grounds.proofs.Says.{Says, true_if, says_both, Denies, denies, denies-not, denies-both, says_eq, says_lt, says_le}
use Rattle.grounds.proofs.Each.{begin-never, step-never, abandon-never, tidy-never}

abbrev is_bad : Call → Bool
is_bad (Begin o i j) = false
is_bad (Steps i c) = false
is_bad (Abandon i) = false
is_bad Tidy = false
is_bad Bad = true

module _ (b : List ℕ) where
  -- the record read as a call says whether it is bad
  abbrev Read : Call → Type 0
  Read c = Says (is_bad c) (BadRecord b)

  good : ¬ (BadRecord b) → Says false (BadRecord b)
  good h = record { holds = λ q. absurd (false≢true q); fails = λ q. h }

  bad : BadRecord b → Says true (BadRecord b)
  bad h = record { holds = λ q. h; fails = λ q. absurd (true≢false q) }

  denies-job : Denies (no_job b) ((number_in b ≢ 0) ⊎ (price_in b ≢ 0))
  unfolding no_job four
  denies-job = denies-both _ _ (denies-not _ (says_eq (number_in b) 0)) (denies-not _ (says_eq (price_in b) 0))

  module _ (long : ¬ (length b < 12)) where
    -- operations 1 to 3
    module _ (low : 1 ≤ operation_in b) (high : operation_in b ≤ 3) where
      fine-3 : count_in b ≡ 0 → ¬ (BadRecord b)
      fine-3 z (a_short_last_record h) = long h
      fine-3 z (no_such_operation (inl h)) = omega arith
      fine-3 z (no_such_operation (inr h)) = omega arith
      fine-3 z (no_count_to_step h k) = omega arith
      fine-3 z (an_unused_count h k) = k z
      fine-3 z (an_unused_number h k) = omega arith
      fine-3 z (an_unused_price h k) = omega arith
      fine-3 z (an_unused_task h k) = omega arith

      read-begins : Read (begins b (operation_of (operation_in b)))
      unfolding begins two
      read-begins =
          if_elim Read _ (λ e. good (fine-3 ((says_eq (count_in b) 0).holds e)))
          (λ e. bad (an_unused_count (λ q. omega arith) ((says_eq (count_in b) 0).fails e)))

    -- operation 4
    module _ (is-4 : operation_in b ≡ 4) where
      abbrev Steps4 : Type 0
      Steps4 = (count_in b ≡ 0) ⊎ ((number_in b ≢ 0) ⊎ (price_in b ≢ 0))

      fine-4 : ¬ Steps4 → ¬ (BadRecord b)
      fine-4 z (a_short_last_record h) = long h
      fine-4 z (no_such_operation (inl h)) = omega arith
      fine-4 z (no_such_operation (inr h)) = omega arith
      fine-4 z (no_count_to_step h k) = z (inl k)
      fine-4 z (an_unused_count h k) = h is-4
      fine-4 z (an_unused_number h k) = z (inr (inl k))
      fine-4 z (an_unused_price h k) = z (inr (inr k))
      fine-4 z (an_unused_task h k) = omega arith

      bad-4 : Steps4 → BadRecord b
      bad-4 (inl z) = no_count_to_step is-4 z
      bad-4 (inr (inl z)) = an_unused_number (omega arith) z
      bad-4 (inr (inr z)) = an_unused_price (omega arith) z

      denies-4 : Denies (not (eqb (count_in b) 0) && no_job b) Steps4
      denies-4 = denies-both _ _ (denies _ (says_eq (count_in b) 0)) denies-job

      read-steps : Read (steps b)
      unfolding steps two
      read-steps = if_elim Read _ (λ e. good (fine-4 (denies-4.clear e))) (λ e. bad (bad-4 (denies-4.struck e)))

    -- operation 5
    module _ (is-5 : operation_in b ≡ 5) where
      abbrev Abandon5 : Type 0
      Abandon5 = (count_in b ≢ 0) ⊎ ((number_in b ≢ 0) ⊎ (price_in b ≢ 0))

      fine-5 : ¬ Abandon5 → ¬ (BadRecord b)
      fine-5 z (a_short_last_record h) = long h
      fine-5 z (no_such_operation (inl h)) = omega arith
      fine-5 z (no_such_operation (inr h)) = omega arith
      fine-5 z (no_count_to_step h k) = omega arith
      fine-5 z (an_unused_count h k) = z (inl k)
      fine-5 z (an_unused_number h k) = z (inr (inl k))
      fine-5 z (an_unused_price h k) = z (inr (inr k))
      fine-5 z (an_unused_task h k) = omega arith

      bad-5 : Abandon5 → BadRecord b
      bad-5 (inl z) = an_unused_count (λ q. omega arith) z
      bad-5 (inr (inl z)) = an_unused_number (omega arith) z
      bad-5 (inr (inr z)) = an_unused_price (omega arith) z

      denies-5 : Denies (eqb (count_in b) 0 && no_job b) Abandon5
      denies-5 = denies-both _ _ (denies-not _ (says_eq (count_in b) 0)) denies-job

      read-abandons : Read (abandons b)
      unfolding abandons two
      read-abandons = if_elim Read _ (λ e. good (fine-5 (denies-5.clear e))) (λ e. bad (bad-5 (denies-5.struck e)))

    -- operation 6
    module _ (is-6 : operation_in b ≡ 6) where
      abbrev Tidy6 : Type 0
      Tidy6 = (task_in b ≢ 0) ⊎ ((count_in b ≢ 0) ⊎ ((number_in b ≢ 0) ⊎ (price_in b ≢ 0)))

      fine-6 : ¬ Tidy6 → ¬ (BadRecord b)
      fine-6 z (a_short_last_record h) = long h
      fine-6 z (no_such_operation (inl h)) = omega arith
      fine-6 z (no_such_operation (inr h)) = omega arith
      fine-6 z (no_count_to_step h k) = omega arith
      fine-6 z (an_unused_count h k) = z (inr (inl k))
      fine-6 z (an_unused_number h k) = z (inr (inr (inl k)))
      fine-6 z (an_unused_price h k) = z (inr (inr (inr k)))
      fine-6 z (an_unused_task h k) = z (inl k)

      bad-6 : Tidy6 → BadRecord b
      bad-6 (inl z) = an_unused_task is-6 z
      bad-6 (inr (inl z)) = an_unused_count (λ q. omega arith) z
      bad-6 (inr (inr (inl z))) = an_unused_number (omega arith) z
      bad-6 (inr (inr (inr z))) = an_unused_price (omega arith) z

      denies-6 : Denies (eqb (task_in b) 0 && (eqb (count_in b) 0 && no_job b)) Tidy6
      denies-6 = denies-both _ _ (denies-not _ (says_eq (task_in b) 0)) (denies-both _ _ (denies-not _ (says_eq (count_in b) 0)) denies-job)

      read-tidies : Read (tidies b)
      unfolding tidies two
      read-tidies = if_elim Read _ (λ e. good (fine-6 (denies-6.clear e))) (λ e. bad (bad-6 (denies-6.struck e)))

    says_low : Says (leb 1 (operation_in b) && leb (operation_in b) 3) ((1 ≤ operation_in b) × (operation_in b ≤ 3))
    says_low = says_both _ _ (says_le 1 (operation_in b)) (says_le (operation_in b) 3)

    no_other : ¬ ((1 ≤ operation_in b) × (operation_in b ≤ 3)) → operation_in b ≢ 4 → operation_in b ≢ 5 → operation_in b ≢ 6 → (operation_in b ≡ 0) ⊎ (6 < operation_in b)
    no_other h f g k = go (eqb (operation_in b) 0) refl
      where
        go : (c : Bool) → eqb (operation_in b) 0 ≡ c → (operation_in b ≡ 0) ⊎ (6 < operation_in b)
        go true e = inl ((says_eq (operation_in b) 0).holds e)
        go false e = inr (above ((says_eq (operation_in b) 0).fails e) (leb (operation_in b) 3) refl)
          where
            above : operation_in b ≢ 0 → (c : Bool) → leb (operation_in b) 3 ≡ c → 6 < operation_in b
            above z true q = absurd (h (omega arith, (says_le (operation_in b) 3).holds q))
            above z false q = let l = (says_le (operation_in b) 3).fails q in omega arith

    read-operation : Read (by_operation (operation_in b) b)
    unfolding by_operation
    read-operation =
        if_elim Read _ (λ e. let h = says_low.holds e in read-begins h.0 h.1)
        (λ e.
        if_elim Read _ (λ f. read-steps ((says_eq (operation_in b) 4).holds f))
        (λ f.
        if_elim Read _ (λ g. read-abandons ((says_eq (operation_in b) 5).holds g))
        (λ g.
        if_elim Read _ (λ h. read-tidies ((says_eq (operation_in b) 6).holds h))
        (λ h.
        bad
        (no_such_operation
        (no_other (says_low.fails e) ((says_eq (operation_in b) 4).fails f) ((says_eq (operation_in b) 5).fails g) ((says_eq (operation_in b) 6).fails h)))))))

  read-decode : Read (decode b)
  unfolding decode
  read-decode = if_elim Read _ (λ e. bad (a_short_last_record ((says_lt (length b) 12).holds e))) (λ e. read-operation ((says_lt (length b) 12).fails e))

-- no call gives 19
abbrev number_left : Left → ℕ
number_left l = number_of l.answer

run-never : (c : ℕ) (t : List ℕ) (st : State) (i : ℕ) → ¬ (number_left (run_of c t st i) ≡ 19)
unfolding run_of
run-never zero t st i e = omega arith
run-never (suc c) t st i e = go (run-never c (step_of t st i).table (step_of t st i).state i) (eqb (number_left (step_of t st i)) 0 && not (eqb c 0)) e
  where
    go :
        ¬ (number_left (run_of c (step_of t st i).table (step_of t st i).state i) ≡ 19) → (x : Bool)
        → ¬ (number_left (elim x [ true ↦ run_of c (step_of t st i).table (step_of t st i).state i | false ↦ step_of t st i ]) ≡ 19)
    go rec true e = rec e
    go rec false e = step-never t st i (inr (inr (inr (inl e))))

served-never : (t : List ℕ) (st : State) (c : Call) → is_bad c ≡ false → ¬ (number_of (serve t st c).answer ≡ 19)
unfolding serve
served-never t st (Begin o i j) h e = begin-never t st i o j (inr (inr (inr (inr (inl e)))))
served-never t st (Steps i c) h e = run-never c t st i e
served-never t st (Abandon i) h e = abandon-never t st i (inr (inr (inr (inr (inr (inl e))))))
served-never t st Tidy h e = tidy-never t st (inr (inr (inr (inr (inr (inr (inl e)))))))
served-never t st Bad h e = true≢false h

bad-served : (t : List ℕ) (st : State) (c : Call) → is_bad c ≡ true → number_of (serve t st c).answer ≡ 19
unfolding serve
bad-served t st (Begin o i j) h = absurd (false≢true h)
bad-served t st (Steps i c) h = absurd (false≢true h)
bad-served t st (Abandon i) h = absurd (false≢true h)
bad-served t st Tidy h = absurd (false≢true h)
bad-served t st Bad h = refl

-- THE PROGRAM: 19 exactly for a bad record
pub program_19 : (t : List ℕ) (st : State) (b : List ℕ) → (number_of (serve t st (decode b)).answer ≡ 19) ↔ BadRecord b
program_19 t st b = (λ e. to (is_bad (decode b)) refl e, λ h. bad-served t st (decode b) (true_if _ (read-decode b) h))
  where
    to : (x : Bool) → is_bad (decode b) ≡ x → number_of (serve t st (decode b)).answer ≡ 19 → BadRecord b
    to true q e = (read-decode b).holds q
    to false q e = absurd (served-never t st (decode b) q e)
