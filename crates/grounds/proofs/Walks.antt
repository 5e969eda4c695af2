-- A step of the walk gives 17 exactly on its grounds, and no other refusal.
use Prim.Native.Nat.{ℕ, ◌<◌}
use mathlib.Core.Path.{◌≡◌, refl, sym}
use mathlib.Core.Bool.{Bool, true, false, not}
use mathlib.Core.List.{List, []}
use mathlib.Core.Logic.{◌⊎◌, inl, inr, ◌↔◌}
use native.Mathlib.Omega.{arith}
use lib.Dec.{ltb, eqb}
use borrow.Author.Tests.{lt-ltb, le-ltb}
use Rattle.terms.specs.declared.Rec.{Rec}
use Rattle.terms.specs.declared.Path.{Path}
use Rattle.terms.specs.declared.Job.{Job}
use Rattle.terms.specs.declared.Operation.{Operation}
use Rattle.terms.specs.declared.Operation.TheVariants.{LookUp, PutIn, TakeOut}
use Rattle.terms.specs.declared.Goal.{Goal}
use Rattle.terms.specs.declared.Goal.TheVariants.{Serve, Settle}
use Rattle.terms.specs.declared.Phase.TheVariants.{Start, Walk}
use Rattle.terms.specs.Task.{no_grand}
use Rattle.machine.specs.Choice.{if_b}
use Rattle.machine.specs.Record.{well_formed, linked}
use Rattle.machine.specs.Table.{View, view}
use Rattle.machine.specs.Walk.{sought, at_leaf, serve_arrival, outranks, settle_arrival, arrival, walk_to, walk_from, walk_on}
use Rattle.grounds.specs.Record.{FareNumber, WellFormed, Unreadable, not_well_formed, ChildUnreadable, missing, there-but}
use Rattle.grounds.specs.Reads.{SoughtLink, goes_left, otherwise-right, the_entry, its_left, the_record_left, the_record_arrived_at, ArrivalOutranks, from_the_entry, on_the_walk}
use Rattle.grounds.specs.Step.{PhaseDamaged, record_unreadable, arrival-outranks, before_the_test, after_the_test}
use Rattle.grounds.proofs.Says.{says_struck, says_eq, says_lt}
use Rattle.grounds.proofs.Falls.{Falls, serves, strikes, passes, if_falls}
use Rattle.grounds.proofs.Records.{says_formed, denies-unreadable, denies-child}
use Rattle.grounds.proofs.Four.{plain_answers, number_turn, Hurts, falls-as, either-falls}

-- the link on the sought side
pub is_sought : (k : ℕ) (r : Rec) → SoughtLink k r (sought k r)
unfolding sought if_b
is_sought k r = go (ltb k r.number) refl
  where
    go : (b : Bool) → ltb k r.number ≡ b → SoughtLink k r (if_b b r.left r.right)
    go true e = goes_left ((says_lt k r.number).holds e)
    go false e = otherwise-right (let h = (says_lt k r.number).fails e in omega arith)

pub sought-once : (k : ℕ) (r : Rec) (s : ℕ) → SoughtLink k r s → s ≡ sought k r
unfolding sought if_b
sought-once k r s (goes_left h) = rw (lt-ltb k r.number h) refl
sought-once k r s (otherwise-right h) = rw (le-ltb k r.number h) refl

-- 17 of an arrival: p is the record left, h the one arrived at
abbrev Over : Goal → Rec → Rec → Type 0
Over (Serve o) p h = ⊥
Over Settle p h = p.rank < h.rank

module _ (j : Job) where
  leaf_served : (o : Operation) (q : Path) (r : Rec) → Falls plain_answers (number_turn (at_leaf o j q r)) []
  unfolding at_leaf
  leaf_served LookUp q r = if_falls (λ z. Falls plain_answers (number_turn z) []) _ (λ e. serves (inr (inl refl))) (λ e. serves (inr (inr (inl refl))))
  leaf_served PutIn q r = if_falls (λ z. Falls plain_answers (number_turn z) []) _ (λ e. serves (inr (inr (inr (inr (inl refl)))))) (λ e. serves (inl refl))
  leaf_served TakeOut q r = if_falls (λ z. Falls plain_answers (number_turn z) []) _ (λ e. serves (inl refl)) (λ e. serves (inr (inr (inl refl))))

  arrival-hurts : (g : Goal) (q : Path) (p h : Rec) → Hurts (number_turn (arrival g j q p h)) (Over g p h)
  unfolding arrival serve_arrival settle_arrival outranks
  arrival-hurts (Serve o) q p h =
      passes (λ x. x) (if_falls (λ z. Falls plain_answers (number_turn z) []) _ (λ e. leaf_served o q h) (λ e. serves (inl refl)))
  arrival-hurts Settle q p h =
      if_falls (λ z. Hurts (number_turn z) (Over Settle p h)) _ (λ e. strikes ((says_lt p.rank h.rank).holds e) refl)
      (λ e.
      passes ((says_lt p.rank h.rank).fails e)
      (if_falls (λ z. Falls plain_answers (number_turn z) []) _ (λ f. serves (inl refl))
      (λ f. if_falls (λ z. Falls plain_answers (number_turn z) []) _ (λ i. serves (inr (inr (inr (inl refl))))) (λ i. serves (inl refl)))))

  module _ (n : ℕ) (t : List ℕ) (g : Goal) where
    -- the record arrived at stands in slot x
    to-hurts :
        (grand s x y : ℕ) → x ≡ y
        → Hurts (number_turn (walk_to (view n t) n g j (record { grand = grand; parent = s; here = x })))
        (ChildUnreadable (view n t) n y ⊎ Over g (view n t s) (view n t y))
    unfolding walk_to
    to-hurts grand s x y e =
        rw (sym e)
        (either-falls number_turn (not (linked n x (view n t x))) (says_struck _ (denies-child n t x)) refl (λ h. arrival-hurts g _ (view n t s) (view n t x)))

    -- the walk leaves slot s; y is the slot of the record arrived at
    from-hurts :
        (grand s y : ℕ) → (¬ (Unreadable (view n t) n s) → sought j.number (view n t s) ≡ y)
        → Hurts (number_turn (walk_from (view n t) n g j grand s))
        (Unreadable (view n t) n s ⊎ (ChildUnreadable (view n t) n y ⊎ Over g (view n t s) (view n t y)))
    unfolding walk_from
    from-hurts grand s y f =
        either-falls number_turn (not (well_formed n s (view n t s))) (says_struck _ (denies-unreadable n t s)) refl (λ h. to-hurts grand s _ y (f h))

    -- the entry's sought link is its left one
    entry-left : FareNumber j.number → ¬ (Unreadable (view n t) n 0) → sought j.number (view n t 0) ≡ (view n t 0).left
    entry-left k h = go (well_formed n 0 (view n t 0)) refl
      where
        go : (b : Bool) → well_formed n 0 (view n t 0) ≡ b → sought j.number (view n t 0) ≡ (view n t 0).left
        go true e = sym (sought-once j.number (view n t 0) _ (goes_left (top ((says_formed _ n 0).holds e))))
          where
            top : WellFormed n 0 (view n t 0) → j.number < (view n t 0).number
            top w = elim w.shape [ inl x ↦ (let z = x.1.sentinel-number in omega arith) | inr x ↦ absurd (x.0 refl) ]
        go false e = absurd (h (not_well_formed ((says_formed _ n 0).fails e)))

over-start : (v : View) (j : Job) (g : Goal) → (Over g (v 0) (v (v 0).left)) ↔ ArrivalOutranks v j (Start g)
over-start v j (Serve o) = (λ x. absurd x, λ x. elim x [ ])
over-start v j Settle = (λ x. from_the_entry x, λ x. elim x [ from_the_entry h ↦ h ])

over-walk : (v : View) (j : Job) (g : Goal) (q : Path) → (Over g (v q.here) (v (sought j.number (v q.here)))) ↔ ArrivalOutranks v j (Walk g q)
over-walk v j (Serve o) q = (λ x. absurd x, λ x. elim x [ ])
over-walk v j Settle q = (
  λ x. on_the_walk (sought j.number (v q.here)) (is_sought j.number (v q.here)) x,
  λ x. elim x [ on_the_walk s l h ↦ rw (sought-once j.number (v q.here) s l) at h ],
)

module _ (n : ℕ) (t : List ℕ) (j : Job) (g : Goal) where
  -- "first the entry's left"
  pub start-hurts : FareNumber j.number → Hurts (number_turn (walk_from (view n t) n g j no_grand 0)) (PhaseDamaged (view n t) n j (Start g))
  start-hurts k =
      falls-as
      (λ h.
      elim h [
        | inl x ↦ record_unreadable (the_entry x)
        | inr y ↦ elim y [ inl x ↦ record_unreadable (its_left x) | inr x ↦ arrival-outranks ((over-start (view n t) j g).0 x) ]
      ])
      (λ h.
      elim h [
        | record_unreadable x ↦ elim x [ the_entry y ↦ inl y | its_left y ↦ inr (inl y) ]
        | arrival-outranks x ↦ inr (inr ((over-start (view n t) j g).1 x))
        | before_the_test x ↦ elim x [ ]
        | after_the_test x ↦ elim x [ ]
      ])
      (from-hurts j n t g no_grand 0 _ (entry-left j n t g k))

  -- "then the link on the sought side"
  pub walk_hurts : (q : Path) → Hurts (number_turn (walk_on (view n t) n g j q)) (PhaseDamaged (view n t) n j (Walk g q))
  unfolding walk_on
  walk_hurts q =
      falls-as
      (λ h.
      elim h [
        | inl e ↦ record_unreadable (the_record_left (missing e))
        | inr y ↦
            elim y [
              | inl x ↦ record_unreadable (the_record_left (there-but x))
              | inr z ↦
                  elim z [
                    | inl x ↦ record_unreadable (the_record_arrived_at _ (is_sought j.number (view n t q.here)) x)
                    | inr x ↦ arrival-outranks ((over-walk (view n t) j g q).0 x)
                  ]
            ]
      ])
      (λ h.
      elim h [
        | record_unreadable x ↦
            elim x [
              | the_record_left y ↦ elim y [ missing e ↦ inl e | there-but u ↦ inr (inl u) ]
              | the_record_arrived_at s l u ↦ inr (inr (inl (rw (sought-once j.number (view n t q.here) s l) at u)))
            ]
        | arrival-outranks x ↦ inr (inr (inr ((over-walk (view n t) j g q).1 x)))
        | before_the_test x ↦ elim x [ ]
        | after_the_test x ↦ elim x [ ]
      ])
      (either-falls number_turn (eqb q.here 0) (says_eq q.here 0) refl (λ h. from-hurts j n t g q.parent q.here _ (λ i. refl)))
