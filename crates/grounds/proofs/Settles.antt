-- What settling steps share: s, y and w; the grounds before the test; the changes after it.
use Prim.Native.Nat.{ℕ, ◌≤◌}
use mathlib.Core.Path.{◌≡◌, refl, sym}
use mathlib.Core.Bool.{Bool, true, false, not, true≢false}
use mathlib.Core.List.{List, [], ◌∷◌}
use mathlib.Core.Logic.{◌⊎◌, inl, inr, ◌↔◌}
use native.Mathlib.Omega.{arith}
use lib.Dec.{eqb}
use borrow.Author.Tests.{eq-eqb, ne_eqb}
use Rattle.terms.specs.declared.Rec.{Rec}
use Rattle.terms.specs.declared.Links.{Links}
use Rattle.terms.specs.declared.Path.{Path}
use Rattle.terms.specs.declared.Job.{Job}
use Rattle.terms.specs.declared.Around.{Around}
use Rattle.terms.specs.declared.ParentRow.{ParentRow}
use Rattle.terms.specs.declared.ParentRow.TheVariants.{Outranked, Promote, Wider}
use Rattle.terms.specs.declared.LevelRow.{LevelRow}
use Rattle.terms.specs.declared.LevelRow.TheVariants.{NoRow, RotateOne, RotateTwo, DoubleRotation}
use Rattle.machine.specs.Choice.{if_b}
use Rattle.machine.specs.Record.{well_formed, level, other}
use Rattle.machine.specs.Table.{View, view}
use Rattle.machine.specs.Rows.{link_at, around_of}
use Rattle.machine.specs.Settling.{grounds_two, grounds_three, grounds_four, test_two, test_three, test_four, promote_do, rotate_do, rotate_two_do, double_do, rotate_by, double_by, promote_by, choose_formed, turn_formed, is_wider, is_double}
use Rattle.grounds.specs.Record.{WellFormed, Level, LeadTo, Unreadable, not_well_formed, ChildUnreadable, there-but}
use Rattle.grounds.specs.Room.{Room}
use Rattle.grounds.specs.Settle.{Other, x_is_left, x_is_not_left, Named, s_is_right, s_is_left, LetS, LetSYW, Close, Wide, Double, Row, promote, RowDamaged, s_outranks_z, a_new_rank_would_pass_28, PromoteDamaged, s_outranks_z_alone, promote_would_pass_28, rotate_case_2}
use Rattle.grounds.specs.Commits.{SettleBefore, one_and_the_same, pz_doesnt_lead_on, z_doesnt_lead_on, not_level_with_its_parent, TestTwo, TestThree, TestFour}
use Rattle.grounds.proofs.Says.{Says, says_both, Denies, denies, denies-not, denies-as, denies-both, says_eq, says_le}
use Rattle.grounds.proofs.Falls.{serves, strikes, passes, if_falls, look}
use Rattle.grounds.proofs.Records.{says_formed, says_level, says_still, says_leads, denies-unreadable, denies-child}
use Rattle.grounds.proofs.Rooms.{says_no_room_1, says_no_room_2, says_no_room_3}
use Rattle.grounds.proofs.Rows.{ParentIs, LevelIs, promote-fine, damaged_promote, damaged_one, damaged_two, damaged_double, damaged_none, short_promote, short_one, short_two, short_double}
use Rattle.grounds.proofs.Four.{plain_answers, number_did, Fours, falls-as}

-- "Let s be z's other child": there is one
pub at-s : (b : Links) (x : ℕ) (G : ℕ → Type 0) → LetS b x G ↔ G (other b x)
unfolding other if_b
at-s b x G = (λ h. once h.0 h.1 h.2, λ g. let r = found (eqb b.left x) refl in (other b x, r, g))
  where
    once : (s : ℕ) → Other b x s → G s → G (other b x)
    once s (x_is_left e) g = rw (eq-eqb b.left x e) g
    once s (x_is_not_left e) g = rw (ne_eqb b.left x e) g

    found : (c : Bool) → eqb b.left x ≡ c → Other b x (if_b c b.right b.left)
    found true e = x_is_left ((says_eq b.left x).holds e)
    found false e = x_is_not_left ((says_eq b.left x).fails e)

-- ".., y the child of x on the side of s, w the other child of x"
module _ (q : Path) (a b c : Links) where
  pub at-syw : (G : ℕ → ℕ → ℕ → Type 0) → LetSYW b c q.here G ↔ G (other b q.here) (around_of q a b c).y (around_of q a b c).w
  unfolding other around_of link_at if_b
  at-syw G = (λ h. once h.0 h.1 h.2 h.3 h.4, λ g. (_, _, _, found (eqb b.left q.here) refl, g))
    where
      once : (s y w : ℕ) → Named b c q.here s y w → G s y w → G (other b q.here) (around_of q a b c).y (around_of q a b c).w
      once s y w (s_is_right e) g = rw (eq-eqb b.left q.here e) g
      once s y w (s_is_left e) g = rw (ne_eqb b.left q.here e) g

      found :
          (d : Bool) → eqb b.left q.here ≡ d
          → Named b c q.here (if_b d b.right b.left) (link_at (not d) c) (link_at d c)
      found true e = s_is_right ((says_eq b.left q.here).holds e)
      found false e = s_is_left ((says_eq b.left q.here).fails e)

module _ (n : ℕ) (t : List ℕ) (q : Path) where
  -- the records that a choice reads
  pub denies-choose :
      (b : Links)
      → Denies (choose_formed n q b (view n t q.parent) (view n t q.here) (view n t (other b q.here)))
      (Unreadable (view n t) n q.parent ⊎ (ChildUnreadable (view n t) n q.here ⊎ ChildUnreadable (view n t) n (other b q.here)))
  unfolding choose_formed
  denies-choose b =
      denies-both _ _ (denies-unreadable n t q.parent) (denies-both _ _ (denies-child n t q.here) (denies-child n t (other b q.here)))

  pub denies-turn :
      (o : Around) → Denies (turn_formed n o (view n t o.y) (view n t o.w)) (ChildUnreadable (view n t) n o.y ⊎ ChildUnreadable (view n t) n o.w)
  unfolding turn_formed
  denies-turn o = denies-both _ _ (denies-child n t o.y) (denies-child n t o.w)

  module _ (a b : Links) where
    abbrev Raw : Type 0
    Raw =
        Unreadable (view n t) n q.grand ⊎ ((q.grand ≡ q.parent) ⊎ ((¬ (LeadTo a q.parent))
        ⊎ ((¬ (LeadTo b q.here)) ⊎ (¬ (Level (view n t q.parent) (view n t q.here))))))

    denies-raw : Denies (grounds_two n q a b (view n t q.grand) (view n t q.parent) (view n t q.here)) Raw
    unfolding grounds_two
    denies-raw =
        denies-both _ _ (denies-unreadable n t q.grand)
        (denies-both _ _ (denies _ (says_eq q.grand q.parent))
        (denies-both _ _ (denies-not _ (says_leads a q.parent))
        (denies-both _ _ (denies-not _ (says_leads b q.here)) (denies-not _ (says_level (view n t q.here) (view n t q.parent))))))

    abbrev Two : Type 0
    Two = SettleBefore (view n t) q a b (q.grand ∷ q.parent ∷ [])

    abbrev Three : Type 0
    Three = SettleBefore (view n t) q a b (q.grand ∷ q.parent ∷ q.here ∷ [])

    abbrev FourWith : ℕ → Type 0
    FourWith y = SettleBefore (view n t) q a b (q.grand ∷ q.parent ∷ q.here ∷ y ∷ [])

    to-two : Raw → Unreadable (view n t) n q.grand ⊎ Two
    to-two (inl x) = inl x
    to-two (inr (inl x)) = inr (one_and_the_same (inl (inl x)))
    to-two (inr (inr (inl x))) = inr (pz_doesnt_lead_on x)
    to-two (inr (inr (inr (inl x)))) = inr (z_doesnt_lead_on x)
    to-two (inr (inr (inr (inr x)))) = inr (not_level_with_its_parent x)

    from-two : Unreadable (view n t) n q.grand ⊎ Two → Raw
    from-two (inl x) = inl x
    from-two (inr (one_and_the_same (inl (inl x)))) = inr (inl x)
    from-two (inr (one_and_the_same (inl (inr x)))) = absurd x
    from-two (inr (one_and_the_same (inr (inl x)))) = absurd x
    from-two (inr (one_and_the_same (inr (inr x)))) = absurd x
    from-two (inr (pz_doesnt_lead_on x)) = inr (inr (inl x))
    from-two (inr (z_doesnt_lead_on x)) = inr (inr (inr (inl x)))
    from-two (inr (not_level_with_its_parent x)) = inr (inr (inr (inr x)))

    -- before the test, with pz and z read
    pub denies-two : Denies (grounds_two n q a b (view n t q.grand) (view n t q.parent) (view n t q.here)) (Unreadable (view n t) n q.grand ⊎ Two)
    denies-two = denies-as _ denies-raw to-two from-two

    abbrev RawThree : Type 0
    RawThree = Raw ⊎ ((q.grand ≡ q.here) ⊎ (q.parent ≡ q.here))

    denies-raw_three : Denies (grounds_three n q a b (view n t q.grand) (view n t q.parent) (view n t q.here)) RawThree
    unfolding grounds_three
    denies-raw_three = denies-both _ _ denies-raw (denies-both _ _ (denies _ (says_eq q.grand q.here)) (denies _ (says_eq q.parent q.here)))

    more : {i : ℕ} → SettleBefore (view n t) q a b (q.grand ∷ q.parent ∷ []) → SettleBefore (view n t) q a b (q.grand ∷ q.parent ∷ i ∷ [])
    more (one_and_the_same (inl (inl x))) = one_and_the_same (inl (inl x))
    more (one_and_the_same (inl (inr x))) = absurd x
    more (one_and_the_same (inr (inl x))) = absurd x
    more (one_and_the_same (inr (inr x))) = absurd x
    more (pz_doesnt_lead_on x) = pz_doesnt_lead_on x
    more (z_doesnt_lead_on x) = z_doesnt_lead_on x
    more (not_level_with_its_parent x) = not_level_with_its_parent x

    to-three : RawThree → Unreadable (view n t) n q.grand ⊎ Three
    to-three (inl r) = elim (to-two r) [ inl x ↦ inl x | inr x ↦ inr (more x) ]
    to-three (inr (inl e)) = inr (one_and_the_same (inl (inr (inl e))))
    to-three (inr (inr e)) = inr (one_and_the_same (inr (inl (inl e))))

    from-three : Unreadable (view n t) n q.grand ⊎ Three → RawThree
    from-three (inl x) = inl (inl x)
    from-three (inr (one_and_the_same (inl (inl x)))) = inl (inr (inl x))
    from-three (inr (one_and_the_same (inl (inr (inl x))))) = inr (inl x)
    from-three (inr (one_and_the_same (inl (inr (inr x))))) = absurd x
    from-three (inr (one_and_the_same (inr (inl (inl x))))) = inr (inr x)
    from-three (inr (one_and_the_same (inr (inl (inr x))))) = absurd x
    from-three (inr (one_and_the_same (inr (inr (inl x))))) = absurd x
    from-three (inr (one_and_the_same (inr (inr (inr x))))) = absurd x
    from-three (inr (pz_doesnt_lead_on x)) = inl (inr (inr (inl x)))
    from-three (inr (z_doesnt_lead_on x)) = inl (inr (inr (inr (inl x))))
    from-three (inr (not_level_with_its_parent x)) = inl (inr (inr (inr (inr x))))

    -- with x read
    pub denies-three : Denies (grounds_three n q a b (view n t q.grand) (view n t q.parent) (view n t q.here)) (Unreadable (view n t) n q.grand ⊎ Three)
    denies-three = denies-as _ denies-raw_three to-three from-three

    module _ (y : ℕ) where
      abbrev RawFour : Type 0
      RawFour = RawThree ⊎ (ChildUnreadable (view n t) n y ⊎ ((q.grand ≡ y) ⊎ ((q.parent ≡ y) ⊎ (q.here ≡ y))))

      abbrev Fourth : Type 0
      Fourth = Unreadable (view n t) n q.grand ⊎ (ChildUnreadable (view n t) n y ⊎ FourWith y)

      three-more : Three → FourWith y
      three-more (one_and_the_same (inl (inl x))) = one_and_the_same (inl (inl x))
      three-more (one_and_the_same (inl (inr (inl x)))) = one_and_the_same (inl (inr (inl x)))
      three-more (one_and_the_same (inl (inr (inr x)))) = absurd x
      three-more (one_and_the_same (inr (inl (inl x)))) = one_and_the_same (inr (inl (inl x)))
      three-more (one_and_the_same (inr (inl (inr x)))) = absurd x
      three-more (one_and_the_same (inr (inr (inl x)))) = absurd x
      three-more (one_and_the_same (inr (inr (inr x)))) = absurd x
      three-more (pz_doesnt_lead_on x) = pz_doesnt_lead_on x
      three-more (z_doesnt_lead_on x) = z_doesnt_lead_on x
      three-more (not_level_with_its_parent x) = not_level_with_its_parent x

      to-four : RawFour → Fourth
      to-four (inl r) = elim (to-three r) [ inl x ↦ inl x | inr x ↦ inr (inr (three-more x)) ]
      to-four (inr (inl x)) = inr (inl x)
      to-four (inr (inr (inl e))) = inr (inr (one_and_the_same (inl (inr (inr (inl e))))))
      to-four (inr (inr (inr (inl e)))) = inr (inr (one_and_the_same (inr (inl (inr (inl e))))))
      to-four (inr (inr (inr (inr e)))) = inr (inr (one_and_the_same (inr (inr (inl (inl e))))))

      from-four : Fourth → RawFour
      from-four (inl x) = inl (inl (inl x))
      from-four (inr (inl x)) = inr (inl x)
      from-four (inr (inr (one_and_the_same (inl (inl x))))) = inl (inl (inr (inl x)))
      from-four (inr (inr (one_and_the_same (inl (inr (inl x)))))) = inl (inr (inl x))
      from-four (inr (inr (one_and_the_same (inl (inr (inr (inl x))))))) = inr (inr (inl x))
      from-four (inr (inr (one_and_the_same (inl (inr (inr (inr x))))))) = absurd x
      from-four (inr (inr (one_and_the_same (inr (inl (inl x)))))) = inl (inr (inr x))
      from-four (inr (inr (one_and_the_same (inr (inl (inr (inl x))))))) = inr (inr (inr (inl x)))
      from-four (inr (inr (one_and_the_same (inr (inl (inr (inr x))))))) = absurd x
      from-four (inr (inr (one_and_the_same (inr (inr (inl (inl x))))))) = inr (inr (inr (inr x)))
      from-four (inr (inr (one_and_the_same (inr (inr (inl (inr x))))))) = absurd x
      from-four (inr (inr (one_and_the_same (inr (inr (inr (inl x))))))) = absurd x
      from-four (inr (inr (one_and_the_same (inr (inr (inr (inr x))))))) = absurd x
      from-four (inr (inr (pz_doesnt_lead_on x))) = inl (inl (inr (inr (inl x))))
      from-four (inr (inr (z_doesnt_lead_on x))) = inl (inl (inr (inr (inr (inl x)))))
      from-four (inr (inr (not_level_with_its_parent x))) = inl (inl (inr (inr (inr (inr x)))))

      -- with y read
      pub denies-four : Denies (grounds_four n q a b y (view n t q.grand) (view n t q.parent) (view n t q.here) (view n t y)) Fourth
      unfolding grounds_four
      denies-four =
          denies-as _
          (denies-both _ _ denies-raw_three
          (denies-both _ _ (denies-child n t y)
          (denies-both _ _ (denies _ (says_eq q.grand y)) (denies-both _ _ (denies _ (says_eq q.parent y)) (denies _ (says_eq q.here y))))))
          to-four
          from-four

    -- the tests
    pub says_two : Says (test_two a b (view n t q.grand) (view n t q.parent)) (TestTwo (view n t) q a b)
    unfolding test_two
    says_two = says_both _ _ (says_still (view n t q.grand) a) (says_still (view n t q.parent) b)

    pub says_three : (c : Links) → Says (test_three a b c (view n t q.grand) (view n t q.parent) (view n t q.here)) (TestThree (view n t) q a b c)
    unfolding test_three
    says_three c = says_both _ _ says_two (says_still (view n t q.here) c)

    pub says_four :
        (c d : Links) (y : ℕ)
        → Says (test_four a b c d (view n t q.grand) (view n t q.parent) (view n t q.here) (view n t y)) (TestFour (view n t) q a b c d y)
    unfolding test_four
    says_four c d y = says_both _ _ (says_three c) (says_still (view n t y) d)

  -- a level record has a rank of 28 at most
  small : WellFormed n q.here (view n t q.here) → Level (view n t q.parent) (view n t q.here) → (view n t q.here).rank ≤ 28
  small w l =
      elim w.shape [
        | inl x ↦ absurd (marked x.1.sentinel-rank)
        | inr x ↦
            elim x.1 [
              | inl o ↦ elim o.1 [ inl e ↦ omega arith | inr e ↦ absurd (marked e) ]
              | inr i ↦ elim i.inner-rank [ inl e ↦ e.1 | inr e ↦ absurd (marked e) ]
            ]
      ]
    where
      marked : (view n t q.here).rank ≡ 255 → ⊥
      marked e = let k = w.together_or_not_at_all.1 e in l.0 (k, e, w.sentinel-price k)

  pub level-small :
      ¬ (ChildUnreadable (view n t) n q.here) → ¬ (¬ (Level (view n t q.parent) (view n t q.here)))
      → ((view n t q.here).rank ≤ 28) × ((view n t q.parent).rank ≡ (view n t q.here).rank)
  level-small h k = go (level (view n t q.parent) (view n t q.here)) refl (well_formed n q.here (view n t q.here)) refl
    where
      go :
          (c : Bool) → level (view n t q.parent) (view n t q.here) ≡ c → (d : Bool) → well_formed n q.here (view n t q.here) ≡ d
          → ((view n t q.here).rank ≤ 28) × ((view n t q.parent).rank ≡ (view n t q.here).rank)
      go true e true f =
          let l = (says_level (view n t q.here) (view n t q.parent)).holds e in
          (small ((says_formed _ n q.here).holds f) l, sym l.1)
      go true e false f = absurd (h (there-but (not_well_formed ((says_formed _ n q.here).fails f))))
      go false e d f = absurd (k ((says_level (view n t q.here) (view n t q.parent)).fails e))

-- THE CHANGES, after the test has held
module _ (n : ℕ) (v : View) (j : Job) (q : Path) (z x : Rec) where
  -- a promote before x is read
  pub promote-alone :
      (row : ParentRow) (a b : Links) (s : ℕ) → ParentIs z.rank s row → is_wider row ≡ false
      → Fours (number_did (promote_by row v n j q a b z)) (PromoteDamaged z.rank s) ⊥ ⊥ (Close z.rank s × (¬ (Room v n 1)))
  unfolding promote_by promote_do
  promote-alone Outranked a b s h e = strikes (s_outranks_z_alone h) refl
  promote-alone Promote a b s h e =
      if_falls (λ d. Fours (number_did d) (PromoteDamaged z.rank s) ⊥ ⊥ (Close z.rank s × (¬ (Room v n 1)))) _
      (λ f. let k = (says_le 28 z.rank).holds f in strikes (promote_would_pass_28 h (omega arith)) refl)
      (λ f.
      let k = (says_le 28 z.rank).fails f in
      passes (promote-fine z.rank s h (omega arith))
      (passes (λ i. i)
      (passes (λ i. i)
      (falls-as (λ i. (h, i)) (λ i. i.1)
      (look number_did plain_answers _ (says_no_room_1 v n) refl (λ i. serves (inl refl)))))))
  promote-alone Wider a b s h e = absurd (true≢false e)

  module _ (s y w : ℕ) where
    abbrev Damage : Type 0
    Damage = RowDamaged z.rank x.rank s y w

    abbrev Few : Type 0
    Few = (k : ℕ) × (ranks : List ℕ) × Row z.rank x.rank s y w k ranks × (¬ (Room v n k))

    -- a promote whose x was read
    pub promote-change :
        (row : ParentRow) (a b : Links) → ParentIs z.rank s row → is_wider row ≡ false → Fours (number_did (promote_by row v n j q a b z)) Damage ⊥ ⊥ Few
    unfolding promote_by promote_do
    promote-change Outranked a b h e = strikes (s_outranks_z h) refl
    promote-change Promote a b h e =
        if_falls (λ d. Fours (number_did d) Damage ⊥ ⊥ Few) _
        (λ f. let k = (says_le 28 z.rank).holds f in strikes (a_new_rank_would_pass_28 1 _ (promote h) (inl (omega arith))) refl)
        (λ f.
        let k = (says_le 28 z.rank).fails f in
        passes (λ d. k (damaged_promote z.rank x.rank s y w h d))
        (passes (λ i. i)
        (passes (λ i. i)
        (falls-as (short_promote z.rank x.rank s y w (Room v n) h).0 (short_promote z.rank x.rank s y w (Room v n) h).1
        (look number_did plain_answers _ (says_no_room_1 v n) refl (λ i. serves (inl refl)))))))
    promote-change Wider a b h e = absurd (true≢false e)

    module _ (wide : Wide z.rank s) (le : x.rank ≤ 28) (eq : z.rank ≡ x.rank) (o : Around) where
      -- a rotation
      pub rotate-change : (row : LevelRow) → LevelIs x.rank y w row → is_double row ≡ false → Fours (number_did (rotate_by row v n j q o z x)) Damage ⊥ ⊥ Few
      unfolding rotate_by rotate_two_do rotate_do
      rotate-change NoRow h e = strikes (damaged_none z.rank x.rank s y w wide h) refl
      rotate-change RotateOne h e =
          passes (damaged_one z.rank x.rank s y w wide h.0 h.1 le eq)
          (passes (λ i. i)
          (passes (λ i. i)
          (falls-as (short_one z.rank x.rank s y w (Room v n) wide h.0 le eq).0 (short_one z.rank x.rank s y w (Room v n) wide h.0 le eq).1
          (look number_did plain_answers _ (says_no_room_2 v n) refl (λ i. serves (inl refl))))))
      rotate-change RotateTwo h e =
          if_falls (λ d. Fours (number_did d) Damage ⊥ ⊥ Few) _
          (λ f. let k = (says_le 28 x.rank).holds f in strikes (a_new_rank_would_pass_28 2 _ (rotate_case_2 wide h.0 h.1) (inl (omega arith))) refl)
          (λ f.
          let k = (says_le 28 x.rank).fails f in
          passes (λ d. k (damaged_two z.rank x.rank s y w wide h.0 h.1 eq d))
          (passes (λ i. i)
          (passes (λ i. i)
          (falls-as (short_two z.rank x.rank s y w (Room v n) wide h.0 h.1 eq).0 (short_two z.rank x.rank s y w (Room v n) wide h.0 h.1 eq).1
          (look number_did plain_answers _ (says_no_room_2 v n) refl (λ i. serves (inl refl)))))))
      rotate-change DoubleRotation h e = absurd (true≢false e)

      -- the same where y was read
      pub double-change : (row : LevelRow) (d : Links) (r : Rec) → LevelIs x.rank y w row → Fours (number_did (double_by row v n j q o d z x r)) Damage ⊥ ⊥ Few
      unfolding double_by double_do
      double-change NoRow d r h = strikes (damaged_none z.rank x.rank s y w wide h) refl
      double-change RotateOne d r h = rotate-change RotateOne h refl
      double-change RotateTwo d r h = rotate-change RotateTwo h refl
      double-change DoubleRotation d r h =
          let dd : Double z.rank x.rank s y w = (wide, h.0, h.1) in
          passes (damaged_double z.rank x.rank s y w dd le eq)
          (passes (λ i. i)
          (passes (λ i. i)
          (falls-as (short_double z.rank x.rank s y w (Room v n) dd le eq).0 (short_double z.rank x.rank s y w (Room v n) dd le eq).1
          (look number_did plain_answers _ (says_no_room_3 v n) refl (λ i. serves (inl refl))))))
