-- A step of a take-out after its walk: 17 and 15 exactly on their grounds.
use Prim.Native.Nat.{ℕ}
use mathlib.Core.Path.{◌≡◌, refl, sym}
use mathlib.Core.Bool.{Bool, true, false, not, ◌&&◌}
use mathlib.Core.List.{List, [], ◌∷◌}
use mathlib.Core.Logic.{◌⊎◌, inl, inr}
use lib.Dec.{eqb}
use Rattle.terms.specs.declared.Rec.{Rec}
use Rattle.terms.specs.declared.Links.{Links}
use Rattle.terms.specs.declared.Path.{Path}
use Rattle.terms.specs.declared.Job.{Job}
use Rattle.terms.specs.declared.Phase.TheVariants.{TakingOut}
use Rattle.terms.specs.declared.TakeStage.{TakeStage}
use Rattle.terms.specs.declared.TakeStage.TheVariants.{TakeGrand, TakeParent, TakeLeft, TakeRight, TakeCommit}
use Rattle.machine.specs.Choice.{if_b}
use Rattle.machine.specs.Record.{leads}
use Rattle.machine.specs.Table.{View, view}
use Rattle.machine.specs.TakeOut.{take_apart, take_leaf, take_grounds, take_test, take_room, take_commit, read_take_grand, read_take_parent, read_take_left, read_take_right, take_step}
use Rattle.grounds.specs.Record.{NoLinks, LeadTo, Unreadable, ChildUnreadable}
use Rattle.grounds.specs.Room.{Room}
use Rattle.grounds.specs.Order.{Twice}
use Rattle.grounds.specs.Commits.{of_a_take_out, at_the_commit_of_a_take_out, TakeTest, one_and_the_same, grandparent_doesnt_lead_on, parent_doesnt_lead_on, not_on_a_leaf_of_its_own_number, AtLimit, WithoutRoom, TooFewSlots}
use Rattle.grounds.specs.Step.{PhaseDamaged, record_unreadable, arrival-outranks, before_the_test, after_the_test}
use Rattle.grounds.proofs.Says.{Says, says_as, says_both, Denies, denies, denies-not, denies-as, denies-both, denies-then, says_eq}
use Rattle.grounds.proofs.Falls.{serves, passes, look}
use Rattle.grounds.proofs.Records.{says_leaf, says_still, says_leads, denies-unreadable, denies-child}
use Rattle.grounds.proofs.Rooms.{says_no_room_1}
use Rattle.grounds.proofs.Four.{number_did, Hurts, Fours, fours_as, only_hurts, falls-as, read-hurts, commit-falls}

-- two of four slots are the same
pub denies-same :
    (g p l r : ℕ)
    → Denies
    (not (eqb g p) && (not (eqb g l) && (not (eqb g r) && (not (eqb p l) && (not (eqb p r) && not (eqb l r))))))
    (Twice (g ∷ p ∷ l ∷ r ∷ []))
denies-same g p l r =
    denies-as _
    (denies-both _ _ (denies _ (says_eq g p))
    (denies-both _ _ (denies _ (says_eq g l))
    (denies-both _ _ (denies _ (says_eq g r))
    (denies-both _ _ (denies _ (says_eq p l)) (denies-both _ _ (denies _ (says_eq p r)) (denies _ (says_eq l r)))))))
    to-twice
    from-twice
  where
    to-twice : (g ≡ p) ⊎ ((g ≡ l) ⊎ ((g ≡ r) ⊎ ((p ≡ l) ⊎ ((p ≡ r) ⊎ (l ≡ r))))) → Twice (g ∷ p ∷ l ∷ r ∷ [])
    to-twice (inl e) = inl (inl e)
    to-twice (inr (inl e)) = inl (inr (inl e))
    to-twice (inr (inr (inl e))) = inl (inr (inr (inl e)))
    to-twice (inr (inr (inr (inl e)))) = inr (inl (inl e))
    to-twice (inr (inr (inr (inr (inl e))))) = inr (inl (inr (inl e)))
    to-twice (inr (inr (inr (inr (inr e))))) = inr (inr (inl (inl e)))

    from-twice : Twice (g ∷ p ∷ l ∷ r ∷ []) → (g ≡ p) ⊎ ((g ≡ l) ⊎ ((g ≡ r) ⊎ ((p ≡ l) ⊎ ((p ≡ r) ⊎ (l ≡ r)))))
    from-twice (inl (inl e)) = inl e
    from-twice (inl (inr (inl e))) = inr (inl e)
    from-twice (inl (inr (inr (inl e)))) = inr (inr (inl e))
    from-twice (inl (inr (inr (inr e)))) = absurd e
    from-twice (inr (inl (inl e))) = inr (inr (inr (inl e)))
    from-twice (inr (inl (inr (inl e)))) = inr (inr (inr (inr (inl e))))
    from-twice (inr (inl (inr (inr e)))) = absurd e
    from-twice (inr (inr (inl (inl e)))) = inr (inr (inr (inr (inr e))))
    from-twice (inr (inr (inl (inr e)))) = absurd e
    from-twice (inr (inr (inr (inl e)))) = absurd e
    from-twice (inr (inr (inr (inr e)))) = absurd e

-- of the parent's two children the one that its noted links lead to is the record stood on
stood_on : (v : View) (b : Links) (h : ℕ) → (b.left ≡ h) ⊎ (b.right ≡ h) → if_b (eqb b.left h) (v b.left) (v b.right) ≡ v h
unfolding if_b
stood_on v b h o = go (eqb b.left h) refl o
  where
    go : (c : Bool) → eqb b.left h ≡ c → (b.left ≡ h) ⊎ (b.right ≡ h) → if_b c (v b.left) (v b.right) ≡ v h
    go true e x = rw ((says_eq b.left h).holds e) refl
    go false e (inl x) = absurd ((says_eq b.left h).fails e x)
    go false e (inr x) = rw x refl

module _ (n : ℕ) (t : List ℕ) (j : Job) (q : Path) where
  abbrev Stands : Rec → Type 0
  Stands h = NoLinks h × (h.number ≡ j.number)

  denies-stands : (b : Links) (h : Rec) → h ≡ view n t q.here → Denies (take_leaf j h) (¬ (Stands (view n t q.here)))
  unfolding take_leaf
  denies-stands b h e = rw (sym e) (denies-not _ (says_both _ _ (says_leaf h) (says_eq h.number j.number)))

  abbrev Before : Links → Links → Type 0
  Before a b =
      Unreadable (view n t) n q.grand ⊎ (Unreadable (view n t) n q.parent ⊎ (ChildUnreadable (view n t) n b.left
      ⊎ (ChildUnreadable (view n t) n b.right ⊎ (Twice (q.grand ∷ q.parent ∷ b.left ∷ b.right ∷ [])
      ⊎ ((¬ (LeadTo a q.parent)) ⊎ ((¬ (LeadTo b q.here)) ⊎ (¬ (Stands (view n t q.here)))))))))

  denies-before :
      (a b : Links)
      → Denies (take_grounds n j q a b (view n t q.grand) (view n t q.parent) (view n t b.left) (view n t b.right)) (Before a b)
  unfolding take_grounds take_apart
  denies-before a b =
      denies-both _ _ (denies-unreadable n t q.grand)
      (denies-both _ _ (denies-unreadable n t q.parent)
      (denies-both _ _ (denies-child n t b.left)
      (denies-both _ _ (denies-child n t b.right)
      (denies-both _ _ (denies-same q.grand q.parent b.left b.right)
      (denies-both _ _ (denies-not _ (says_leads a q.parent))
      (denies-then _ _ (denies-not _ (says_leads b q.here))
      (λ h. denies-stands b _ (led (leads b q.here) refl h))))))))
    where
      led : (c : Bool) → leads b q.here ≡ c → ¬ (¬ (LeadTo b q.here)) → if_b (eqb b.left q.here) (view n t b.left) (view n t b.right) ≡ view n t q.here
      led true e h = stood_on (view n t) b q.here ((says_leads b q.here).holds e).1
      led false e h = absurd (h ((says_leads b q.here).fails e))

  says_test :
      (a b c d : Links)
      → Says (take_test a b c d (view n t q.grand) (view n t q.parent) (view n t b.left) (view n t b.right)) (TakeTest (view n t) q a b c d)
  unfolding take_test
  says_test a b c d =
      says_as _
      (says_both _ _ (says_still (view n t q.grand) a)
      (says_both _ _ (says_still (view n t q.parent) b) (says_both _ _ (says_still (view n t b.left) c) (says_still (view n t b.right) d))))
      (λ h. (h.0, h.1.0, h.1.1.0, h.1.1.1))
      (λ h. (h.0, (h.1, (h.2, h.3))))

  change-falls : (e : Bool) (s : Rec) (i : ℕ) → Fours (number_did (take_room (view n t) n q e s i)) ⊥ ⊥ (¬ (Room (view n t) n 1)) ⊥
  unfolding take_room
  change-falls e s i =
      passes (λ x. x)
      (passes (λ x. x)
      (look number_did _ _ (says_no_room_1 (view n t) n) refl (λ h. passes (λ x. x) (serves (inr (inr (inr (inr (inr (inl refl))))))))))

  to-damaged : (a b c d : Links) → Before a b → PhaseDamaged (view n t) n j (TakingOut q (TakeCommit a b c d))
  to-damaged a b c d (inl x) = record_unreadable (inl x)
  to-damaged a b c d (inr (inl x)) = record_unreadable (inr (inl x))
  to-damaged a b c d (inr (inr (inl x))) = record_unreadable (inr (inr (inl x)))
  to-damaged a b c d (inr (inr (inr (inl x)))) = record_unreadable (inr (inr (inr x)))
  to-damaged a b c d (inr (inr (inr (inr (inl x))))) = before_the_test (of_a_take_out (one_and_the_same x))
  to-damaged a b c d (inr (inr (inr (inr (inr (inl x)))))) = before_the_test (of_a_take_out (grandparent_doesnt_lead_on x))
  to-damaged a b c d (inr (inr (inr (inr (inr (inr (inl x))))))) = before_the_test (of_a_take_out (parent_doesnt_lead_on x))
  to-damaged a b c d (inr (inr (inr (inr (inr (inr (inr x))))))) = before_the_test (of_a_take_out (not_on_a_leaf_of_its_own_number x))

  from-damaged : (a b c d : Links) → PhaseDamaged (view n t) n j (TakingOut q (TakeCommit a b c d)) → Before a b
  from-damaged a b c d (record_unreadable (inl x)) = inl x
  from-damaged a b c d (record_unreadable (inr (inl x))) = inr (inl x)
  from-damaged a b c d (record_unreadable (inr (inr (inl x)))) = inr (inr (inl x))
  from-damaged a b c d (record_unreadable (inr (inr (inr x)))) = inr (inr (inr (inl x)))
  from-damaged a b c d (arrival-outranks x) = elim x [ ]
  from-damaged a b c d (before_the_test (of_a_take_out (one_and_the_same x))) = inr (inr (inr (inr (inl x))))
  from-damaged a b c d (before_the_test (of_a_take_out (grandparent_doesnt_lead_on x))) = inr (inr (inr (inr (inr (inl x)))))
  from-damaged a b c d (before_the_test (of_a_take_out (parent_doesnt_lead_on x))) = inr (inr (inr (inr (inr (inr (inl x))))))
  from-damaged a b c d (before_the_test (of_a_take_out (not_on_a_leaf_of_its_own_number x))) = inr (inr (inr (inr (inr (inr (inr x))))))
  from-damaged a b c d (after_the_test x) = elim x [ ]

  reads : {a : ℕ} {G : Type 0} {f : TakeStage} → (G → PhaseDamaged (view n t) n j (TakingOut q f)) → (PhaseDamaged (view n t) n j (TakingOut q f) → G)
      → ¬ (WithoutRoom (view n t) n (TakingOut q f)) → Hurts a G
      → (m : ℕ) → Fours a (PhaseDamaged (view n t) n j (TakingOut q f)) (AtLimit (view n t) m (TakingOut q f)) (WithoutRoom (view n t) n (TakingOut q f)) (TooFewSlots (view n t) n (TakingOut q f))
  reads f g h r m = only_hurts (λ x. elim x [ ]) h (λ x. elim x [ ]) (falls-as f g r)

  -- A STEP OF A TAKE-OUT after its walk
  pub take_fours : (m : ℕ) (f : TakeStage) → Fours (number_did (take_step (view n t) n j q f))
      (PhaseDamaged (view n t) n j (TakingOut q f))
      (AtLimit (view n t) m (TakingOut q f))
      (WithoutRoom (view n t) n (TakingOut q f))
      (TooFewSlots (view n t) n (TakingOut q f))
  unfolding take_step read_take_grand read_take_parent read_take_left read_take_right take_commit
  take_fours m TakeGrand =
      reads {f = TakeGrand} record_unreadable
      (λ h. elim h [ record_unreadable x ↦ x | arrival-outranks x ↦ elim x [ ] | before_the_test x ↦ elim x [ ] | after_the_test x ↦ elim x [ ] ])
      (λ x. elim x [ ]) (read-hurts _ _ _ _ (denies-unreadable n t q.grand)) m
  take_fours m (TakeParent a) =
      reads {f = TakeParent a} record_unreadable
      (λ h. elim h [ record_unreadable x ↦ x | arrival-outranks x ↦ elim x [ ] | before_the_test x ↦ elim x [ ] | after_the_test x ↦ elim x [ ] ])
      (λ x. elim x [ ]) (read-hurts _ _ _ _ (denies-unreadable n t q.parent)) m
  take_fours m (TakeLeft a b) =
      reads {f = TakeLeft a b} record_unreadable
      (λ h. elim h [ record_unreadable x ↦ x | arrival-outranks x ↦ elim x [ ] | before_the_test x ↦ elim x [ ] | after_the_test x ↦ elim x [ ] ])
      (λ x. elim x [ ]) (read-hurts _ _ _ _ (denies-child n t b.left)) m
  take_fours m (TakeRight a b c) =
      reads {f = TakeRight a b c} record_unreadable
      (λ h. elim h [ record_unreadable x ↦ x | arrival-outranks x ↦ elim x [ ] | before_the_test x ↦ elim x [ ] | after_the_test x ↦ elim x [ ] ])
      (λ x. elim x [ ]) (read-hurts _ _ _ _ (denies-child n t b.right)) m
  take_fours m (TakeCommit a b c d) =
      fours_as
      (λ h. elim h [ inl x ↦ to-damaged a b c d x | inr x ↦ absurd x.1 ], λ h. inl (from-damaged a b c d h))
      (λ h. absurd h.1, λ h. elim h [ ])
      (λ h. at_the_commit_of_a_take_out h.0 h.1, λ h. elim h [ at_the_commit_of_a_take_out x y ↦ (x, y) ])
      (λ h. absurd h.1, λ h. elim h [ ])
      (commit-falls _ _ _ _ (denies-before a b) (says_test a b c d) (λ x y. change-falls _ _ _))
