-- A settling step after its walk: 17 and 6 exactly on their grounds.
use Prim.Native.Nat.{ℕ, ◌≤◌}
use mathlib.Core.Path.{◌≡◌, refl}
use mathlib.Core.Bool.{true, false, not, true≢false, false≢true}
use mathlib.Core.List.{List, [], ◌∷◌}
use mathlib.Core.Logic.{◌⊎◌, inl, inr}
use native.Mathlib.Omega.{arith}
use Rattle.terms.specs.declared.Rec.{Rec}
use Rattle.terms.specs.declared.Links.{Links}
use Rattle.terms.specs.declared.Path.{Path}
use Rattle.terms.specs.declared.Job.{Job}
use Rattle.terms.specs.declared.Phase.TheVariants.{Settling}
use Rattle.terms.specs.declared.SettleStage.{SettleStage}
use Rattle.terms.specs.declared.SettleStage.TheVariants.{SettleGrand, SettleParent, SettleChoose, SettleRotate, SettleDouble}
use Rattle.terms.specs.declared.ParentRow.{ParentRow}
use Rattle.terms.specs.declared.ParentRow.TheVariants.{Outranked, Promote, Wider}
use Rattle.terms.specs.declared.LevelRow.{LevelRow}
use Rattle.terms.specs.declared.LevelRow.TheVariants.{NoRow, RotateOne, RotateTwo, DoubleRotation}
use Rattle.machine.proofs.Choice.{if_elim}
use Rattle.machine.specs.Record.{other}
use Rattle.machine.specs.Table.{view}
use Rattle.machine.specs.Commit.{reading, Did, calm}
use Rattle.machine.specs.Rows.{parent_row, level_row, around_of}
use Rattle.machine.specs.Settling.{read_grand, read_parent, read_on, commit_two, commit_three, commit_four, choose_formed, turn_formed, is_wider, is_double, choose_by, choose_step, rotate_on, rotate_turn, rotate_first, rotate_step, double_turn, double_first, double_step, settle_step}
use Rattle.grounds.specs.Order.{Among}
use Rattle.grounds.specs.Record.{Unreadable, ChildUnreadable}
use Rattle.grounds.specs.Room.{Room}
use Rattle.grounds.specs.Settle.{Close, Wide, Double, PromoteDamaged}
use Rattle.grounds.specs.Reads.{z_to_choose, x_to_choose, s_to_choose, y_to_rotate, w_to_rotate, pz_to_commit, y_to_commit, ChooseUnreadable, RotateUnreadable, DoubleUnreadable, DoubleNow}
use Rattle.grounds.specs.Commits.{with_pz_and_z_read, with_x_read, with_y_read, SettleBefore, not_level_with_its_parent, TestTwo, TestThree, TestFour, RowDamagedNow, NoSlotsNow, AtLimit, WithoutRoom, TooFewSlots}
use Rattle.grounds.specs.Step.{PhaseDamaged, record_unreadable, arrival-outranks, before_the_test, after_the_test}
use Rattle.grounds.proofs.Says.{says_struck}
use Rattle.grounds.proofs.Falls.{if_falls}
use Rattle.grounds.proofs.Records.{denies-unreadable}
use Rattle.grounds.proofs.Rows.{ParentIs, LevelIs, parent_is, level-is, close_wide, wide_fine}
use Rattle.grounds.proofs.Settles.{at-s, at-syw, denies-choose, denies-turn, denies-two, denies-three, denies-four, says_two, says_three, says_four, level-small, promote-alone, promote-change, rotate-change, double-change}
use Rattle.grounds.proofs.Four.{plain_answers, number_turn, number_did, Hurts, Fours, fours_as, only_hurts, served-now, falls-as, either-falls, read-hurts, commit-falls}

-- a reading whose record was found well formed answers 0
zero_read : (j : Job) (q : Path) (f : SettleStage) (r : Rec) → Among plain_answers (number_did (calm (read_on j q f r)))
unfolding read_on reading
zero_read j q f r = if_elim (λ z. Among plain_answers (number_turn z)) _ (λ e. absurd (false≢true e)) (λ e. if_elim (λ z. Among plain_answers (number_turn z)) _ (λ h. inl refl) (λ h. inl refl))

-- a row that is not wider leaves no ground to read on
not_wide : (z s : ℕ) (row : ParentRow) → ParentIs z s row → is_wider row ≡ false → ¬ (Wide z s)
not_wide z s Outranked h e w = omega arith
not_wide z s Promote h e w = close_wide z s h w
not_wide z s Wider h e w = true≢false e

is_wide : (z s : ℕ) (row : ParentRow) → ParentIs z s row → is_wider row ≡ true → Wide z s
is_wide z s Outranked h e = absurd (false≢true e)
is_wide z s Promote h e = absurd (false≢true e)
is_wide z s Wider h e = h

-- likewise for the rows of a rotation
not_double : (z x s y w : ℕ) (row : LevelRow) → LevelIs x y w row → is_double row ≡ false → ¬ (Double z x s y w)
not_double z x s y w NoRow (inl h) e d = let a = d.1 in omega arith
not_double z x s y w NoRow (inr (inl h)) e d = let a = d.2 in omega arith
not_double z x s y w NoRow (inr (inr (inl h))) e d = let a = d.1 in omega arith
not_double z x s y w NoRow (inr (inr (inr (g, h)))) e d = let a = d.2 in omega arith
not_double z x s y w RotateOne h e d = let a = d.1 in let b = h.0 in omega arith
not_double z x s y w RotateTwo h e d = let a = d.2 in let b = h.1 in omega arith
not_double z x s y w DoubleRotation h e d = true≢false e

is_double_lem : (z x s y w : ℕ) (row : LevelRow) → Wide z s → LevelIs x y w row → is_double row ≡ true → Double z x s y w
is_double_lem z x s y w NoRow g h e = absurd (false≢true e)
is_double_lem z x s y w RotateOne g h e = absurd (false≢true e)
is_double_lem z x s y w RotateTwo g h e = absurd (false≢true e)
is_double_lem z x s y w DoubleRotation g h e = (g, h.0, h.1)

module _ (n : ℕ) (t : List ℕ) (j : Job) (q : Path) where
  abbrev zr : ℕ
  zr = (view n t q.parent).rank

  abbrev xr : ℕ
  xr = (view n t q.here).rank

  abbrev rank_at : ℕ → ℕ
  rank_at s = (view n t s).rank

  abbrev Chosen : ℕ → Type 0
  Chosen s = Unreadable (view n t) n q.parent ⊎ (ChildUnreadable (view n t) n q.here ⊎ ChildUnreadable (view n t) n s)

  -- PZ AND Z NOTED: read x, or promote
  module _ (a b : Links) where
    abbrev Two : Type 0
    Two = Unreadable (view n t) n q.grand ⊎ SettleBefore (view n t) q a b (q.grand ∷ q.parent ∷ [])

    abbrev so : ℕ
    so = other b q.here

    abbrev ChooseRest : Type 0
    ChooseRest = ((¬ (Wide zr (rank_at so))) × Two) ⊎ (TestTwo (view n t) q a b × PromoteDamaged zr (rank_at so))

    abbrev ChooseFew : Type 0
    ChooseFew = TestTwo (view n t) q a b × Close zr (rank_at so) × (¬ (Room (view n t) n 1))

    chosen : (row : ParentRow) → ParentIs zr (rank_at so) row
        → Fours (number_did (choose_by row (view n t) n j q a b (view n t q.parent) (view n t q.here))) ChooseRest ⊥ ⊥ ChooseFew
    unfolding choose_by commit_two
    chosen row h =
        if_falls (λ d. Fours (number_did d) ChooseRest ⊥ ⊥ ChooseFew) (is_wider row)
        (λ e.
        let w = is_wide zr (rank_at so) row h e in
        served-now (λ g. elim g [ inl x ↦ x.0 w | inr x ↦ wide_fine zr (rank_at so) w x.1 ]) (λ g. g) (λ g. g)
        (λ g. close_wide zr (rank_at so) g.1 w)
        (zero_read j q (SettleChoose a b) (view n t q.here)))
        (λ e.
        let nw = not_wide zr (rank_at so) row h e in
        fours_as
        (λ g. elim g [ inl x ↦ inl (nw, x) | inr x ↦ inr x ], λ g. elim g [ inl x ↦ inl x.1 | inr x ↦ inr x ])
        (λ g. g.1, λ g. absurd g) (λ g. g.1, λ g. absurd g)
        (λ g. (g.0, g.1.0, g.1.1), λ g. (g.0, (g.1, g.2)))
        (commit-falls _ _ _ _ (denies-two n t q a b) (says_two n t q a b) (λ x y. promote-alone n (view n t) j q (view n t q.parent) (view n t q.here) row a b (rank_at so) h e)))

    abbrev ChooseDamaged : Type 0
    ChooseDamaged = PhaseDamaged (view n t) n j (Settling q (SettleChoose a b))

    unread_s : ChooseUnreadable (view n t) n q so → ChooseDamaged
    unread_s x = record_unreadable ((at-s b q.here (λ s. ChooseUnreadable (view n t) n q s)).1 x)

    choose_to : Chosen so ⊎ ChooseRest → ChooseDamaged
    choose_to (inl (inl x)) = unread_s (z_to_choose x)
    choose_to (inl (inr (inl x))) = unread_s (x_to_choose x)
    choose_to (inl (inr (inr x))) = unread_s (s_to_choose x)
    choose_to (inr (inl (w, inl x))) = unread_s (pz_to_commit w x)
    choose_to (inr (inl (w, inr x))) =
        before_the_test (with_pz_and_z_read
        ((at-s b q.here (λ s. (¬ (Wide zr (rank_at s))) × SettleBefore (view n t) q a b (q.grand ∷ q.parent ∷ []))).1 (w, x)))
    choose_to (inr (inr x)) = after_the_test (with_pz_and_z_read ((at-s b q.here (λ s. TestTwo (view n t) q a b × PromoteDamaged zr (rank_at s))).1 x))

    choose_unread : ChooseUnreadable (view n t) n q so → Chosen so ⊎ ChooseRest
    choose_unread (z_to_choose x) = inl (inl x)
    choose_unread (x_to_choose x) = inl (inr (inl x))
    choose_unread (s_to_choose x) = inl (inr (inr x))
    choose_unread (pz_to_commit w x) = inr (inl (w, inl x))

    choose_from : ChooseDamaged → Chosen so ⊎ ChooseRest
    choose_from (record_unreadable x) = choose_unread ((at-s b q.here (λ s. ChooseUnreadable (view n t) n q s)).0 x)
    choose_from (arrival-outranks x) = elim x [ ]
    choose_from (before_the_test (with_pz_and_z_read x)) =
        let y = (at-s b q.here (λ s. (¬ (Wide zr (rank_at s))) × SettleBefore (view n t) q a b (q.grand ∷ q.parent ∷ []))).0 x in
        inr (inl (y.0, inr y.1))
    choose_from (after_the_test (with_pz_and_z_read x)) = inr (inr ((at-s b q.here (λ s. TestTwo (view n t) q a b × PromoteDamaged zr (rank_at s))).0 x))

    choose_fours :
        (m : ℕ)
        → Fours (number_did (choose_step (view n t) n j q a b (view n t q.parent) (view n t q.here) (view n t so))) ChooseDamaged
        (AtLimit (view n t) m (Settling q (SettleChoose a b))) (WithoutRoom (view n t) n (Settling q (SettleChoose a b)))
        (TooFewSlots (view n t) n (Settling q (SettleChoose a b)))
    unfolding choose_step
    choose_fours m =
        fours_as (choose_to, choose_from) (λ g. absurd g, λ g. elim g [ ]) (λ g. absurd g, λ g. elim g [ ]) (
          λ g. with_pz_and_z_read ((at-s b q.here (λ s. TestTwo (view n t) q a b × Close zr (rank_at s) × (¬ (Room (view n t) n 1)))).1 g),
          λ g.
              elim g [
                | with_pz_and_z_read x ↦ (at-s b q.here (λ s. TestTwo (view n t) q a b × Close zr (rank_at s) × (¬ (Room (view n t) n 1)))).0 x
              ],
        )
        (either-falls number_did (not (choose_formed n q b (view n t q.parent) (view n t q.here) (view n t so)))
        (says_struck _ (denies-choose n t q b)) refl (λ g. chosen (parent_row zr (rank_at so)) (parent_is zr (rank_at so))))

    -- X NOTED TOO: read y, rotate, or promote
    module _ (c : Links) where
      abbrev ys : ℕ
      ys = (around_of q a b c).y

      abbrev ws : ℕ
      ws = (around_of q a b c).w

      abbrev Dn : Type 0
      Dn = DoubleNow (view n t) q so ys ws

      abbrev Three : Type 0
      Three = Unreadable (view n t) n q.grand ⊎ SettleBefore (view n t) q a b (q.grand ∷ q.parent ∷ q.here ∷ [])

      -- of a commit
      abbrev RotateEnd : Type 0
      RotateEnd = ((¬ Dn) × Three) ⊎ ((¬ Dn) × TestThree (view n t) q a b c × RowDamagedNow (view n t) q so ys ws)

      abbrev RotateFew : Type 0
      RotateFew = (¬ Dn) × TestThree (view n t) q a b c × NoSlotsNow (view n t) n q so ys ws

      abbrev RotateRest : Type 0
      RotateRest = (Wide zr (rank_at so) × (ChildUnreadable (view n t) n ys ⊎ ChildUnreadable (view n t) n ws)) ⊎ RotateEnd

      committed :
          (change : Did) → ¬ Dn
          → (¬ Three → TestThree (view n t) q a b c → Fours (number_did change) (RowDamagedNow (view n t) q so ys ws) ⊥ ⊥ (NoSlotsNow (view n t) n q so ys ws))
          → Fours (number_did (commit_three (view n t) n j q a b c (view n t q.parent) (view n t q.here) change)) RotateEnd ⊥ ⊥ RotateFew
      unfolding commit_three
      committed change nd f =
          fours_as
          (λ g. elim g [ inl x ↦ inl (nd, x) | inr x ↦ inr (nd, x.0, x.1) ], λ g. elim g [ inl x ↦ inl x.1 | inr x ↦ inr (x.1, x.2) ])
          (λ g. g.1, λ g. absurd g) (λ g. g.1, λ g. absurd g) (λ g. (nd, g.0, g.1), λ g. (g.1, g.2))
          (commit-falls _ _ _ _ (denies-three n t q a b) (says_three n t q a b c) f)

      level-now :
          ¬ (Chosen so) → ¬ Three → (xr ≤ 28) × (zr ≡ xr)
      level-now h k = level-small n t q (λ g. h (inr (inl g))) (λ g. k (inr (not_level_with_its_parent g)))

      turned :
          (row : LevelRow) → LevelIs xr (rank_at ys) (rank_at ws) row → Wide zr (rank_at so) → ¬ (Chosen so)
          → Fours (number_did (rotate_on row (view n t) n j q a b c (view n t q.parent) (view n t q.here) (view n t ys))) RotateEnd ⊥ ⊥ RotateFew
      unfolding rotate_on
      turned row h wd ok =
          if_falls (λ d. Fours (number_did d) RotateEnd ⊥ ⊥ RotateFew) (is_double row)
          (λ e.
          let d = is_double_lem zr xr (rank_at so) (rank_at ys) (rank_at ws) row wd h e in
          served-now (λ g. elim g [ inl x ↦ x.0 d | inr x ↦ x.0 d ]) (λ g. g) (λ g. g) (λ g. g.0 d)
          (zero_read j q (SettleRotate a b c) (view n t ys)))
          (λ e.
          committed _ (not_double zr xr (rank_at so) (rank_at ys) (rank_at ws) row h e)
          (λ k x.
          let l = level-now ok k in
          rotate-change n (view n t) j q (view n t q.parent) (view n t q.here) (rank_at so) (rank_at ys) (rank_at ws) wd l.0 l.1 (around_of q a b c) row h e))

      rotated :
          (row : ParentRow) → ParentIs zr (rank_at so) row → ¬ (Chosen so)
          → Fours (number_did (rotate_first row (view n t) n j q a b c (view n t q.parent) (view n t q.here))) RotateRest ⊥ ⊥ RotateFew
      unfolding rotate_first rotate_turn
      rotated row h ok =
          if_falls (λ d. Fours (number_did d) RotateRest ⊥ ⊥ RotateFew) (is_wider row)
          (λ e.
          let w = is_wide zr (rank_at so) row h e in
          falls-as (λ g. elim g [ inl x ↦ inl (w, x) | inr x ↦ inr x ]) (λ g. elim g [ inl x ↦ inl x.1 | inr x ↦ inr x ])
          (either-falls number_did (not (turn_formed n (around_of q a b c) (view n t ys) (view n t ws)))
          (says_struck _ (denies-turn n t q (around_of q a b c))) refl
          (λ g. turned (level_row xr (rank_at ys) (rank_at ws)) (level-is xr (rank_at ys) (rank_at ws)) w ok)))
          (λ e.
          let nw = not_wide zr (rank_at so) row h e in
          falls-as inr (λ g. elim g [ inl x ↦ absurd (nw x.0) | inr x ↦ x ])
          (committed _ (λ d. nw d.0)
          (λ k x.
          promote-change n (view n t) j q (view n t q.parent) (view n t q.here) (rank_at so) (rank_at ys) (rank_at ws) row a b h e)))

      abbrev RotateDamaged : Type 0
      RotateDamaged = PhaseDamaged (view n t) n j (Settling q (SettleRotate a b c))

      abbrev BeforeThree : ℕ → ℕ → ℕ → Type 0
      BeforeThree s y w = (¬ (DoubleNow (view n t) q s y w)) × SettleBefore (view n t) q a b (q.grand ∷ q.parent ∷ q.here ∷ [])

      abbrev AfterThree : ℕ → ℕ → ℕ → Type 0
      AfterThree s y w = (¬ (DoubleNow (view n t) q s y w)) × TestThree (view n t) q a b c × RowDamagedNow (view n t) q s y w

      unread_three : RotateUnreadable (view n t) n q so ys ws → RotateDamaged
      unread_three x = record_unreadable ((at-syw q a b c (λ s y w. RotateUnreadable (view n t) n q s y w)).1 x)

      rotate-to : Chosen so ⊎ RotateRest → RotateDamaged
      rotate-to (inl (inl x)) = unread_three (z_to_choose x)
      rotate-to (inl (inr (inl x))) = unread_three (x_to_choose x)
      rotate-to (inl (inr (inr x))) = unread_three (s_to_choose x)
      rotate-to (inr (inl (w, inl x))) = unread_three (y_to_rotate w x)
      rotate-to (inr (inl (w, inr x))) = unread_three (w_to_rotate w x)
      rotate-to (inr (inr (inl (d, inl x)))) = unread_three (pz_to_commit d x)
      rotate-to (inr (inr (inl (d, inr x)))) = before_the_test (with_x_read ((at-syw q a b c BeforeThree).1 (d, x)))
      rotate-to (inr (inr (inr x))) = after_the_test (with_x_read ((at-syw q a b c AfterThree).1 x))

      rotate-unread : RotateUnreadable (view n t) n q so ys ws → Chosen so ⊎ RotateRest
      rotate-unread (z_to_choose x) = inl (inl x)
      rotate-unread (x_to_choose x) = inl (inr (inl x))
      rotate-unread (s_to_choose x) = inl (inr (inr x))
      rotate-unread (y_to_rotate w x) = inr (inl (w, inl x))
      rotate-unread (w_to_rotate w x) = inr (inl (w, inr x))
      rotate-unread (pz_to_commit d x) = inr (inr (inl (d, inl x)))

      rotate-from : RotateDamaged → Chosen so ⊎ RotateRest
      rotate-from (record_unreadable x) = rotate-unread ((at-syw q a b c (λ s y w. RotateUnreadable (view n t) n q s y w)).0 x)
      rotate-from (arrival-outranks x) = elim x [ ]
      rotate-from (before_the_test (with_x_read x)) = let y = (at-syw q a b c BeforeThree).0 x in inr (inr (inl (y.0, inr y.1)))
      rotate-from (after_the_test (with_x_read x)) = inr (inr (inr ((at-syw q a b c AfterThree).0 x)))

      abbrev FewThree : ℕ → ℕ → ℕ → Type 0
      FewThree s y w = (¬ (DoubleNow (view n t) q s y w)) × TestThree (view n t) q a b c × NoSlotsNow (view n t) n q s y w

      rotate-fours :
          (m : ℕ)
          → Fours (number_did (rotate_step (view n t) n j q a b c (view n t q.parent) (view n t q.here) (view n t so))) RotateDamaged
          (AtLimit (view n t) m (Settling q (SettleRotate a b c))) (WithoutRoom (view n t) n (Settling q (SettleRotate a b c)))
          (TooFewSlots (view n t) n (Settling q (SettleRotate a b c)))
      unfolding rotate_step
      rotate-fours m =
          fours_as (rotate-to, rotate-from) (λ g. absurd g, λ g. elim g [ ]) (λ g. absurd g, λ g. elim g [ ])
          (λ g. with_x_read ((at-syw q a b c FewThree).1 g), λ g. elim g [ with_x_read x ↦ (at-syw q a b c FewThree).0 x ])
          (either-falls number_did (not (choose_formed n q b (view n t q.parent) (view n t q.here) (view n t so)))
          (says_struck _ (denies-choose n t q b)) refl (λ g. rotated (parent_row zr (rank_at so)) (parent_is zr (rank_at so)) g))

      -- Y NOTED TOO: a commit
      module _ (d : Links) where
        abbrev Four : Type 0
        Four =
            Unreadable (view n t) n q.grand
            ⊎ (ChildUnreadable (view n t) n ys ⊎ SettleBefore (view n t) q a b (q.grand ∷ q.parent ∷ q.here ∷ ys ∷ []))

        abbrev DoubleEnd : Type 0
        DoubleEnd = Four ⊎ (TestFour (view n t) q a b c d ys × RowDamagedNow (view n t) q so ys ws)

        abbrev DoubleFew : Type 0
        DoubleFew = TestFour (view n t) q a b c d ys × NoSlotsNow (view n t) n q so ys ws

        abbrev DoubleRest : Type 0
        DoubleRest = (Wide zr (rank_at so) × ChildUnreadable (view n t) n ws) ⊎ DoubleEnd

        committed-four :
            (change : Did)
            → (¬ Four → TestFour (view n t) q a b c d ys → Fours (number_did change) (RowDamagedNow (view n t) q so ys ws) ⊥ ⊥ (NoSlotsNow (view n t) n q so ys ws))
            → Fours (number_did (commit_four (view n t) n j q a b c d ys (view n t q.parent) (view n t q.here) change)) DoubleEnd ⊥ ⊥ DoubleFew
        unfolding commit_four
        committed-four change f =
            fours_as (λ g. g, λ g. g) (λ g. g.1, λ g. absurd g) (λ g. g.1, λ g. absurd g) (λ g. g, λ g. g)
            (commit-falls _ _ _ _ (denies-four n t q a b ys) (says_four n t q a b c d ys) f)

        doubled :
            (row : ParentRow) → ParentIs zr (rank_at so) row → ¬ (Chosen so)
            → Fours (number_did (double_first row (view n t) n j q a b c d (view n t q.parent) (view n t q.here))) DoubleRest ⊥ ⊥ DoubleFew
        unfolding double_first double_turn
        doubled row h ok =
            if_falls (λ e. Fours (number_did e) DoubleRest ⊥ ⊥ DoubleFew) (is_wider row)
            (λ e.
            let wd = is_wide zr (rank_at so) row h e in
            falls-as
            (λ g. elim g [ inl x ↦ elim x [ inl y ↦ inr (inl (inr (inl y))) | inr y ↦ inl (wd, y) ] | inr x ↦ inr x ])
            (λ g. elim g [ inl x ↦ inl (inr x.1) | inr x ↦ inr x ])
            (either-falls number_did (not (turn_formed n (around_of q a b c) (view n t ys) (view n t ws)))
            (says_struck _ (denies-turn n t q (around_of q a b c))) refl
            (λ g.
            committed-four _
            (λ k x.
            let l = level-small n t q (λ i. ok (inr (inl i))) (λ i. k (inr (inr (not_level_with_its_parent i)))) in
            double-change n (view n t) j q (view n t q.parent) (view n t q.here) (rank_at so) (rank_at ys) (rank_at ws) wd l.0 l.1
            (around_of q a b c) (level_row xr (rank_at ys) (rank_at ws)) d (view n t ys) (level-is xr (rank_at ys) (rank_at ws))))))
            (λ e.
            let nw = not_wide zr (rank_at so) row h e in
            falls-as inr (λ g. elim g [ inl x ↦ absurd (nw x.0) | inr x ↦ x ])
            (committed-four _
            (λ k x.
            promote-change n (view n t) j q (view n t q.parent) (view n t q.here) (rank_at so) (rank_at ys) (rank_at ws) row a b h e)))

        abbrev DoubleDamaged : Type 0
        DoubleDamaged = PhaseDamaged (view n t) n j (Settling q (SettleDouble a b c d))

        abbrev BeforeFour : ℕ → ℕ → ℕ → Type 0
        BeforeFour s y w = SettleBefore (view n t) q a b (q.grand ∷ q.parent ∷ q.here ∷ y ∷ [])

        abbrev AfterFour : ℕ → ℕ → ℕ → Type 0
        AfterFour s y w = TestFour (view n t) q a b c d y × RowDamagedNow (view n t) q s y w

        abbrev FewFour : ℕ → ℕ → ℕ → Type 0
        FewFour s y w = TestFour (view n t) q a b c d y × NoSlotsNow (view n t) n q s y w

        unread_four : DoubleUnreadable (view n t) n q so ys ws → DoubleDamaged
        unread_four x = record_unreadable ((at-syw q a b c (λ s y w. DoubleUnreadable (view n t) n q s y w)).1 x)

        double-to : Chosen so ⊎ DoubleRest → DoubleDamaged
        double-to (inl (inl x)) = unread_four (z_to_choose x)
        double-to (inl (inr (inl x))) = unread_four (x_to_choose x)
        double-to (inl (inr (inr x))) = unread_four (s_to_choose x)
        double-to (inr (inl (w, x))) = unread_four (w_to_rotate w x)
        double-to (inr (inr (inl (inl x)))) = unread_four (pz_to_commit x)
        double-to (inr (inr (inl (inr (inl x))))) = unread_four (y_to_commit x)
        double-to (inr (inr (inl (inr (inr x))))) = before_the_test (with_y_read ((at-syw q a b c BeforeFour).1 x))
        double-to (inr (inr (inr x))) = after_the_test (with_y_read ((at-syw q a b c AfterFour).1 x))

        double-unread : DoubleUnreadable (view n t) n q so ys ws → Chosen so ⊎ DoubleRest
        double-unread (z_to_choose x) = inl (inl x)
        double-unread (x_to_choose x) = inl (inr (inl x))
        double-unread (s_to_choose x) = inl (inr (inr x))
        double-unread (w_to_rotate w x) = inr (inl (w, x))
        double-unread (pz_to_commit x) = inr (inr (inl (inl x)))
        double-unread (y_to_commit x) = inr (inr (inl (inr (inl x))))

        double-from : DoubleDamaged → Chosen so ⊎ DoubleRest
        double-from (record_unreadable x) = double-unread ((at-syw q a b c (λ s y w. DoubleUnreadable (view n t) n q s y w)).0 x)
        double-from (arrival-outranks x) = elim x [ ]
        double-from (before_the_test (with_y_read x)) = inr (inr (inl (inr (inr ((at-syw q a b c BeforeFour).0 x)))))
        double-from (after_the_test (with_y_read x)) = inr (inr (inr ((at-syw q a b c AfterFour).0 x)))

        double-fours :
            (m : ℕ)
            → Fours (number_did (double_step (view n t) n j q a b c d (view n t q.parent) (view n t q.here) (view n t so))) DoubleDamaged
            (AtLimit (view n t) m (Settling q (SettleDouble a b c d))) (WithoutRoom (view n t) n (Settling q (SettleDouble a b c d)))
            (TooFewSlots (view n t) n (Settling q (SettleDouble a b c d)))
        unfolding double_step
        double-fours m =
            fours_as (double-to, double-from) (λ g. absurd g, λ g. elim g [ ]) (λ g. absurd g, λ g. elim g [ ])
            (λ g. with_y_read ((at-syw q a b c FewFour).1 g), λ g. elim g [ with_y_read x ↦ (at-syw q a b c FewFour).0 x ])
            (either-falls number_did (not (choose_formed n q b (view n t q.parent) (view n t q.here) (view n t so)))
            (says_struck _ (denies-choose n t q b)) refl (λ g. doubled (parent_row zr (rank_at so)) (parent_is zr (rank_at so)) g))

  read-alone :
      {a : ℕ} {G : Type 0} {f : SettleStage} (m : ℕ) → (G → PhaseDamaged (view n t) n j (Settling q f)) → (PhaseDamaged (view n t) n j (Settling q f) → G)
      → ¬ (TooFewSlots (view n t) n (Settling q f)) → Hurts a G
      → Fours a (PhaseDamaged (view n t) n j (Settling q f)) (AtLimit (view n t) m (Settling q f)) (WithoutRoom (view n t) n (Settling q f))
      (TooFewSlots (view n t) n (Settling q f))
  read-alone m f g h r = only_hurts (λ x. elim x [ ]) (λ x. elim x [ ]) h (falls-as f g r)

  -- A SETTLING STEP after its walk
  pub settle-fours :
      (m : ℕ) (f : SettleStage)
      → Fours (number_did (settle_step (view n t) n j q f)) (PhaseDamaged (view n t) n j (Settling q f)) (AtLimit (view n t) m (Settling q f))
      (WithoutRoom (view n t) n (Settling q f)) (TooFewSlots (view n t) n (Settling q f))
  unfolding settle_step read_grand read_parent
  settle-fours m SettleGrand =
      read-alone {f = SettleGrand} m record_unreadable
      (λ h. elim h [ record_unreadable x ↦ x | arrival-outranks x ↦ elim x [ ] | before_the_test x ↦ elim x [ ] | after_the_test x ↦ elim x [ ] ])
      (λ x. elim x [ ]) (read-hurts _ _ _ _ (denies-unreadable n t q.grand))
  settle-fours m (SettleParent a) =
      read-alone {f = SettleParent a} m record_unreadable
      (λ h. elim h [ record_unreadable x ↦ x | arrival-outranks x ↦ elim x [ ] | before_the_test x ↦ elim x [ ] | after_the_test x ↦ elim x [ ] ])
      (λ x. elim x [ ]) (read-hurts _ _ _ _ (denies-unreadable n t q.parent))
  settle-fours m (SettleChoose a b) = choose_fours a b m
  settle-fours m (SettleRotate a b c) = rotate-fours a b c m
  settle-fours m (SettleDouble a b c d) = double-fours a b c d m
