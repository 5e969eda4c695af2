-- A step of a put-in after its walk: 17, 16 and 15 exactly on their grounds.
use Prim.Native.Nat.{ℕ, ◌≤◌}
use mathlib.Core.Path.{◌≡◌, refl}
use mathlib.Core.Bool.{Bool}
use mathlib.Core.List.{List, []}
use mathlib.Core.Logic.{◌⊎◌, inl, inr, ◌≢◌}
use Rattle.terms.specs.declared.Links.{Links}
use Rattle.terms.specs.declared.Path.{Path}
use Rattle.terms.specs.declared.Job.{Job}
use Rattle.terms.specs.declared.Phase.TheVariants.{PuttingIn}
use Rattle.terms.specs.declared.PutStage.{PutStage}
use Rattle.terms.specs.declared.PutStage.TheVariants.{PutParent, PutLeaf, PutCommit}
use Rattle.machine.specs.Table.{view}
use Rattle.machine.specs.PutIn.{put_grounds, put_test, put_turn, put_room, put_limit, put_commit, read_put_parent, read_put_leaf, put_step}
use Rattle.grounds.specs.Record.{NoLinks, LeadTo, Unreadable, ChildUnreadable}
use Rattle.grounds.specs.Room.{Room}
use Rattle.grounds.specs.Commits.{of_a_put_in, at_the_commit_of_a_put_in, PutTest, one_and_the_same, parent_doesnt_lead_on, not_on_a_leaf_of_another_number, AtLimit, WithoutRoom, TooFewSlots}
use Rattle.grounds.specs.Step.{PhaseDamaged, record_unreadable, arrival-outranks, before_the_test, after_the_test}
use Rattle.grounds.proofs.Says.{Says, says_not, says_both, Denies, denies, denies-not, denies-both, says_eq, says_le}
use Rattle.grounds.proofs.Falls.{Falls, serves, passes, if_falls, look}
use Rattle.grounds.proofs.Records.{says_leaf, says_still, says_leads, denies-unreadable, denies-child}
use Rattle.grounds.proofs.Rooms.{says_no_room_3}
use Rattle.grounds.proofs.Four.{plain_answers, number_turn, number_did, Fours, fours_as, only_hurts, falls-as, read-hurts, commit-falls}

module _ (n : ℕ) (t : List ℕ) (j : Job) (q : Path) where
  abbrev Before : Links → Type 0
  Before a =
      Unreadable (view n t) n q.parent ⊎ (ChildUnreadable (view n t) n q.here ⊎ ((q.parent ≡ q.here)
      ⊎ ((¬ (LeadTo a q.here)) ⊎ (¬ (NoLinks (view n t q.here) × ((view n t q.here).number ≢ j.number))))))

  denies-before : (a : Links) → Denies (put_grounds n j q a (view n t q.parent) (view n t q.here)) (Before a)
  unfolding put_grounds
  denies-before a =
      denies-both _ _ (denies-unreadable n t q.parent)
      (denies-both _ _ (denies-child n t q.here)
      (denies-both _ _ (denies _ (says_eq q.parent q.here))
      (denies-both _ _ (denies-not _ (says_leads a q.here))
      (denies-not _ (says_both _ _ (says_leaf (view n t q.here)) (says_not _ (says_eq (view n t q.here).number j.number)))))))

  says_test : (a b : Links) → Says (put_test a b (view n t q.parent) (view n t q.here)) (PutTest (view n t) q a b)
  unfolding put_test
  says_test a b = says_both _ _ (says_still (view n t q.parent) a) (says_still (view n t q.here) b)

  -- "Limit and room are looked at only after this test."
  change-falls : (m : ℕ) (e : Bool) → Fours (number_did (put_limit (view n t) n m j q e (view n t q.parent) (view n t q.here))) ⊥ (1000000 ≤ m) (¬ (Room (view n t) n 3)) ⊥
  unfolding put_limit put_room put_turn
  change-falls m e =
      passes (λ x. x)
      (look number_did _ _ (says_le 1000000 m) refl
      (λ h. look number_did _ _ (says_no_room_3 (view n t) n) refl
      (λ i.
      passes (λ x. x)
      (if_falls (λ z. Falls plain_answers (number_turn z) []) _ (λ x. serves (inl refl)) (λ x. serves (inr (inr (inr (inl refl)))))))))

  to-damaged : (a b : Links) → Before a → PhaseDamaged (view n t) n j (PuttingIn q (PutCommit a b))
  to-damaged a b (inl x) = record_unreadable (inl x)
  to-damaged a b (inr (inl x)) = record_unreadable (inr x)
  to-damaged a b (inr (inr (inl x))) = before_the_test (of_a_put_in (one_and_the_same (inl (inl x))))
  to-damaged a b (inr (inr (inr (inl x)))) = before_the_test (of_a_put_in (parent_doesnt_lead_on x))
  to-damaged a b (inr (inr (inr (inr x)))) = before_the_test (of_a_put_in (not_on_a_leaf_of_another_number x))

  from-damaged : (a b : Links) → PhaseDamaged (view n t) n j (PuttingIn q (PutCommit a b)) → Before a
  from-damaged a b (record_unreadable (inl x)) = inl x
  from-damaged a b (record_unreadable (inr x)) = inr (inl x)
  from-damaged a b (arrival-outranks x) = elim x [ ]
  from-damaged a b (before_the_test (of_a_put_in (one_and_the_same (inl (inl x))))) = inr (inr (inl x))
  from-damaged a b (before_the_test (of_a_put_in (one_and_the_same (inl (inr x))))) = absurd x
  from-damaged a b (before_the_test (of_a_put_in (one_and_the_same (inr (inl x))))) = absurd x
  from-damaged a b (before_the_test (of_a_put_in (one_and_the_same (inr (inr x))))) = absurd x
  from-damaged a b (before_the_test (of_a_put_in (parent_doesnt_lead_on x))) = inr (inr (inr (inl x)))
  from-damaged a b (before_the_test (of_a_put_in (not_on_a_leaf_of_another_number x))) = inr (inr (inr (inr x)))
  from-damaged a b (after_the_test x) = elim x [ ]

  commit-fours :
      (m : ℕ) (a b : Links)
      → Fours (number_did (put_commit (view n t) n m j q a b)) (PhaseDamaged (view n t) n j (PuttingIn q (PutCommit a b)))
      (AtLimit (view n t) m (PuttingIn q (PutCommit a b))) (WithoutRoom (view n t) n (PuttingIn q (PutCommit a b)))
      (TooFewSlots (view n t) n (PuttingIn q (PutCommit a b)))
  unfolding put_commit
  commit-fours m a b =
      fours_as (λ h. elim h [ inl x ↦ to-damaged a b x | inr x ↦ absurd x.1 ], λ h. inl (from-damaged a b h))
      (λ h. at_the_commit_of_a_put_in h.0 h.1, λ h. elim h [ at_the_commit_of_a_put_in x y ↦ (x, y) ])
      (λ h. at_the_commit_of_a_put_in h.0 h.1, λ h. elim h [ at_the_commit_of_a_put_in x y ↦ (x, y) ])
      (λ h. absurd h.1, λ h. elim h [ ])
      (commit-falls _ _ _ _ (denies-before a) (says_test a b) (λ x y. change-falls m _))

  -- A STEP OF A PUT-IN after its walk
  pub put-fours : (m : ℕ) (f : PutStage) → Fours (number_did (put_step (view n t) n m j q f))
      (PhaseDamaged (view n t) n j (PuttingIn q f))
      (AtLimit (view n t) m (PuttingIn q f))
      (WithoutRoom (view n t) n (PuttingIn q f))
      (TooFewSlots (view n t) n (PuttingIn q f))
  unfolding put_step read_put_parent read_put_leaf
  put-fours m PutParent =
      only_hurts (λ x. elim x [ ]) (λ x. elim x [ ]) (λ x. elim x [ ])
      (falls-as record_unreadable
      (λ h. elim h [ record_unreadable x ↦ x | arrival-outranks x ↦ elim x [ ] | before_the_test x ↦ elim x [ ] | after_the_test x ↦ elim x [ ] ])
      (read-hurts _ _ _ _ (denies-unreadable n t q.parent)))
  put-fours m (PutLeaf a) =
      only_hurts (λ x. elim x [ ]) (λ x. elim x [ ]) (λ x. elim x [ ])
      (falls-as record_unreadable
      (λ h. elim h [ record_unreadable x ↦ x | arrival-outranks x ↦ elim x [ ] | before_the_test x ↦ elim x [ ] | after_the_test x ↦ elim x [ ] ])
      (read-hurts _ _ _ _ (denies-child n t q.here)))
  put-fours m (PutCommit a b) = commit-fours m a b
