-- The tests on records say what document 01 says.
use Prim.Native.Nat.{ℕ, ◌≤◌}
use mathlib.Core.Path.{◌≡◌}
use mathlib.Core.List.{List}
use mathlib.Core.Logic.{◌⊎◌, inl, inr, ◌≢◌}
use native.Mathlib.Omega.{arith}
use Rattle.terms.specs.declared.Rec.{Rec}
use Rattle.terms.specs.declared.Links.{Links}
use Rattle.machine.specs.Record.{top_number, in_tree, sentinel, number_fits, price_fits, fare_marks, inner_marks, is_link, is_leaf, is_inner, plain_form, entry_form, well_formed, linked, level, leads, still}
use Rattle.machine.specs.Table.{view}
use Rattle.machine.proofs.Tests.{formed-in}
use Rattle.grounds.specs.Record.{FareNumber, Price, Link, NoLinks, Leaf, Inner, Entry, WellFormed, Sentinel, Level, LeadTo, AsNoted, Unreadable, outside_the_table, not_well_formed, ChildUnreadable, missing, there-but}
use Rattle.grounds.proofs.Says.{Says, says_not, says_as, says_both, says_either, Denies, denies, denies-as, denies-both, says_eq, says_lt, says_le}

pub says_number : (k : ℕ) → Says (number_fits k) (FareNumber k)
unfolding number_fits
says_number k = says_as _ (says_lt k 1000000) (λ h. omega arith) (λ h. omega arith)

pub says_price : (p : ℕ) → Says (price_fits p) (Price p)
unfolding price_fits
says_price p = says_as _ (says_lt p 100000) (λ h. omega arith) (λ h. omega arith)

pub says_link : (n s : ℕ) → Says (is_link n s) (Link n s)
unfolding is_link
says_link n s = says_as _ (says_both _ _ (says_le 1 s) (says_lt s n)) (λ h. (λ e. let k = h.0 in omega arith, h.1)) (λ h. (let k = h.0 in omega arith, h.1))

module _ (r : Rec) where
  pub says_in_tree : Says (in_tree r) (r.state ≡ 1)
  unfolding in_tree
  says_in_tree = says_eq r.state 1

  pub says_leaf : Says (is_leaf r) (NoLinks r)
  unfolding is_leaf
  says_leaf = says_both _ _ (says_eq r.left 0) (says_eq r.right 0)

  abbrev Marks : Type 0
  Marks = (r.number ≡ top_number) × ((r.rank ≡ 255) × (r.price ≡ 0))

  says_marks : Says (sentinel r) Marks
  unfolding sentinel
  says_marks = says_both _ _ (says_eq r.number top_number) (says_both _ _ (says_eq r.rank 255) (says_eq r.price 0))

  pub says_sentinel : Says (sentinel r) (Sentinel r)
  says_sentinel = says_as _ says_marks (λ h. (h.0, h.1.0, h.1.1)) (λ h. (h.0, (h.1, h.2)))

  pub says_level : (p : Rec) → Says (level p r) (Level p r)
  unfolding level
  says_level p = says_both _ _ (says_not _ says_sentinel) (says_eq r.rank p.rank)

  pub says_still : (l : Links) → Says (still r l) (AsNoted r l)
  unfolding still
  says_still l =
      says_as _ (says_both _ _ says_in_tree (says_both _ _ (says_eq r.left l.left) (says_eq r.right l.right)))
      (λ h. record { state-1 = h.0; left_as_noted = h.1.0; right_as_noted = h.1.1 })
      (λ h. (h.state-1, (h.left_as_noted, h.right_as_noted)))

  abbrev FareMarks : Type 0
  FareMarks = FareNumber r.number × (Price r.price × (r.rank ≡ 0))

  says_fare : Says (fare_marks r) FareMarks
  unfolding fare_marks
  says_fare = says_both _ _ (says_number r.number) (says_both _ _ (says_price r.price) (says_eq r.rank 0))

  abbrev InnerMarks : Type 0
  InnerMarks = FareNumber r.number × ((r.price ≡ 0) × ((1 ≤ r.rank) × (r.rank ≤ 28)))

  says_inner_marks : Says (inner_marks r) InnerMarks
  unfolding inner_marks
  says_inner_marks =
      says_both _ _ (says_number r.number) (says_both _ _ (says_eq r.price 0) (says_both _ _ (says_le 1 r.rank) (says_le r.rank 28)))

  module _ (n : ℕ) where
    abbrev TwoLinks : Type 0
    TwoLinks = Link n r.left × (Link n r.right × (r.left ≢ r.right))

    says_inner : Says (is_inner n r) TwoLinks
    unfolding is_inner
    says_inner = says_both _ _ (says_link n r.left) (says_both _ _ (says_link n r.right) (says_not _ (says_eq r.left r.right)))

    abbrev Plain : Type 0
    Plain = (NoLinks r × (Marks ⊎ FareMarks)) ⊎ (TwoLinks × (Marks ⊎ InnerMarks))

    says_plain : Says (plain_form n r) Plain
    unfolding plain_form
    says_plain =
        says_either _ _ (says_both _ _ says_leaf (says_either _ _ says_marks says_fare))
        (says_both _ _ says_inner (says_either _ _ says_marks says_inner_marks))

    abbrev AtEntry : Type 0
    AtEntry = Marks × (Link n r.left × (r.right ≡ 0))

    says_entry : Says (entry_form n r) AtEntry
    unfolding entry_form
    says_entry = says_both _ _ says_marks (says_both _ _ (says_link n r.left) (says_eq r.right 0))

    module _ (s : ℕ) where
      abbrev Tested : Type 0
      Tested = ((r.state ≡ 1) ⊎ (r.state ≡ 2)) × (((s ≡ 0) × AtEntry) ⊎ ((s ≢ 0) × Plain))

      says_tested : Says (well_formed n s r) Tested
      unfolding well_formed
      says_tested =
          says_both _ _ (says_either _ _ (says_eq r.state 1) (says_eq r.state 2))
          (says_either _ _ (says_both _ _ (says_eq s 0) says_entry) (says_both _ _ (says_not _ (says_eq s 0)) says_plain))

      -- numbers and marks that go with a shape
      marked : Marks → (r.state ≡ 1) ⊎ (r.state ≡ 2) → ((s ≡ 0) × Entry n r) ⊎ ((s ≢ 0) × (Leaf r ⊎ Inner n r)) → WellFormed n s r
      marked m a h =
          record {
            state_1_or_2 = a;
            number_as_above = inr m.0;
            price_as_above = let e = m.1.1 in omega arith;
            sentinel-price = λ e. m.1.1;
            together_or_not_at_all = (λ e. m.1.0, λ e. m.0);
            shape = h;
          }

      plain : FareNumber r.number → Price r.price → r.rank ≤ 28 → (r.state ≡ 1) ⊎ (r.state ≡ 2) → ((s ≡ 0) × Entry n r) ⊎ ((s ≢ 0) × (Leaf r ⊎ Inner n r)) → WellFormed n s r
      plain k p g a h =
          record {
            state_1_or_2 = a;
            number_as_above = inl k;
            price_as_above = p;
            sentinel-price = λ e. absurd (omega arith);
            together_or_not_at_all = (λ e. absurd (omega arith), λ e. absurd (omega arith));
            shape = h;
          }

      leaf_formed : NoLinks r × (Marks ⊎ FareMarks) → (r.state ≡ 1) ⊎ (r.state ≡ 2) → s ≢ 0 → WellFormed n s r
      leaf_formed (l, inl m) a z = marked m a (inr (z, inl (l, inr m.1.0)))
      leaf_formed (l, inr m) a z =
          plain m.0 m.1.0 (let e = m.1.1 in omega arith) a (inr (z, inl (l, inl m.1.1)))

      inner-as : TwoLinks → ((1 ≤ r.rank) × (r.rank ≤ 28)) ⊎ (r.rank ≡ 255) → r.price ≡ 0 → Inner n r
      inner-as l k p = record { left-link = l.0; right-link = l.1.0; two-different = l.1.1; inner-rank = k; inner-price = p }

      inner-formed : TwoLinks × (Marks ⊎ InnerMarks) → (r.state ≡ 1) ⊎ (r.state ≡ 2) → s ≢ 0 → WellFormed n s r
      inner-formed (l, inl m) a z = marked m a (inr (z, inr (inner-as l (inr m.1.0) m.1.1)))
      inner-formed (l, inr m) a z =
          plain m.0 (let e = m.1.0 in omega arith) m.1.1.1 a (inr (z, inr (inner-as l (inl m.1.1) m.1.0)))

      formed : Tested → WellFormed n s r
      formed (a, inl h) =
          marked h.1.0 a
          (inl (h.0, record { a_left_link = h.1.1.0; no_right_one = h.1.1.1; sentinel-number = h.1.0.0; sentinel-rank = h.1.0.1.0 }))
      formed (a, inr (z, inl h)) = leaf_formed h a z
      formed (a, inr (z, inr h)) = inner-formed h a z

      marks_of_lem : WellFormed n s r → r.rank ≡ 255 → Marks
      marks_of_lem w e = let k = w.together_or_not_at_all.1 e in (k, (e, w.sentinel-price k))

      number_of : WellFormed n s r → r.rank ≢ 255 → FareNumber r.number
      number_of w d = elim w.number_as_above [ inl k ↦ k | inr k ↦ absurd (d (w.together_or_not_at_all.0 k)) ]

      plain_of : WellFormed n s r → Leaf r ⊎ Inner n r → Plain
      plain_of w (inl (l, inl e)) = inl (l, inr (number_of w (λ f. omega arith), (w.price_as_above, e)))
      plain_of w (inl (l, inr e)) = inl (l, inl (marks_of_lem w e))
      plain_of w (inr i) =
          inr (
            (i.left-link, (i.right-link, i.two-different)),
            elim i.inner-rank [
              | inl k ↦ inr (number_of w (λ f. let a = k.1 in omega arith), (i.inner-price, k))
              | inr e ↦ inl (marks_of_lem w e)
            ],
          )

      tested : WellFormed n s r → Tested
      tested w = (
        w.state_1_or_2,
        elim w.shape [
          | inl h ↦ inl (h.0, (marks_of_lem w h.1.sentinel-rank, (h.1.a_left_link, h.1.no_right_one)))
          | inr h ↦ inr (h.0, plain_of w h.1)
        ],
      )

      -- WELL FORMED: the test says what document 01 says
      pub says_formed : Says (well_formed n s r) (WellFormed n s r)
      says_formed = says_as _ says_tested formed tested

      pub says_linked : Says (linked n s r) ((s ≢ 0) × WellFormed n s r)
      unfolding linked
      says_linked = says_both _ _ (says_not _ (says_eq s 0)) says_formed

pub says_leads : (l : Links) (s : ℕ) → Says (leads l s) (LeadTo l s)
unfolding leads
says_leads l s = says_both _ _ (says_not _ (says_eq s 0)) (says_either _ _ (says_eq l.left s) (says_eq l.right s))

-- a record of the table that is read
module _ (n : ℕ) (t : List ℕ) (s : ℕ) where
  pub denies-unreadable : Denies (well_formed n s (view n t s)) (Unreadable (view n t) n s)
  denies-unreadable =
      record {
        clear = λ e u. elim u [ outside_the_table h ↦ (let k = formed-in n t s e in omega arith) | not_well_formed h ↦ h ((says_formed _ n s).holds e) ];
        struck = λ e. not_well_formed ((says_formed _ n s).fails e);
      }

  pub denies-child : Denies (linked n s (view n t s)) (ChildUnreadable (view n t) n s)
  unfolding linked
  denies-child =
      denies-as _ (denies-both _ _ (denies _ (says_eq s 0)) denies-unreadable)
      (λ h. elim h [ inl e ↦ missing e | inr x ↦ there-but x ])
      (λ u. elim u [ missing e ↦ inl e | there-but x ↦ inr x ])
