-- Tidy, figures and list: each refusal is given exactly when its ground holds and no earlier one does.
use Prim.Native.Nat.{ℕ, ◌*◌}
use mathlib.Core.Path.{◌≡◌, refl}
use mathlib.Core.Bool.{not}
use mathlib.Core.List.{List, [], ◌∷◌}
use mathlib.Core.Logic.{inl}
use native.Mathlib.Omega.{arith}
use lib.Dec.{ltb}
use lib.ListN.{length}
use Rattle.terms.specs.declared.State.{State}
use Rattle.terms.specs.declared.Report.{Report}
use Rattle.machine.specs.Choice.{if_b}
use Rattle.terms.specs.Answers.{number_of}
use Rattle.machine.specs.Table.{view, slots}
use Rattle.machine.specs.State.{sound}
use Rattle.machine.specs.Reach.{Tree, Reached, hurt, reached, reach, count_fares}
use Rattle.machine.specs.Calls.{Listed, tidy_reached, tidy_of, figures_reached, figures_of, list_reached, list_of}
use Rattle.grounds.specs.Order.{Refusal, Ruled}
use Rattle.grounds.specs.State.{CountsDamaged}
use Rattle.grounds.specs.Calls.{refuse}
use Rattle.grounds.specs.Ways.{ReachDamaged, Fares, RoomLentShort}
use Rattle.grounds.specs.Whole.{WholeDamaged, counts, of_what_the_entry_reaches, tidy_refusals, figures_refusals, list_refusals}
use Rattle.grounds.proofs.Says.{Says, says_as, says_struck, says_lt}
use Rattle.grounds.proofs.Falls.{Falls, serves, strikes, passes, if_falls, ruled, look}
use Rattle.grounds.proofs.States.{denies-some_busy, denies-counts}
use Rattle.grounds.proofs.Calls.{number_left, says_length}
use Rattle.grounds.proofs.Spans.{fare_slots, count_slots}
use Rattle.grounds.proofs.Reaches.{Verdict, verdict, fares-length}

-- 17 of these calls: the counts first, then what the entry reaches
module _ (t : List ℕ) (st : State) where
  abbrev Reach : Type 0
  Reach = ReachDamaged (view (slots t) t) (slots t)

  whole-falls :
      {A : Type 0} (number : A → ℕ) {rs : List Refusal} {x y : A} → number x ≡ 17 → Falls (0 ∷ []) (number y) (refuse 17 Reach ∷ rs)
      → Falls (0 ∷ []) (number (if_b (not (sound st)) x y)) (refuse 17 (WholeDamaged t st) ∷ rs)
  whole-falls number {rs} e f =
      if_falls (λ z. Falls (0 ∷ []) (number z) (refuse 17 (WholeDamaged t st) ∷ rs)) (not (sound st))
      (λ h. strikes (counts ((says_struck _ (denies-counts st)).holds h)) e) (λ h. on f ((says_struck _ (denies-counts st)).fails h))
    where
      on : {a : ℕ} → Falls (0 ∷ []) a (refuse 17 Reach ∷ rs) → ¬ (CountsDamaged st) → Falls (0 ∷ []) a (refuse 17 (WholeDamaged t st) ∷ rs)
      on (strikes g q) c = strikes (of_what_the_entry_reaches g) q
      on (passes g r) c = passes {r = refuse 17 (WholeDamaged t st)} (λ w. elim w [ counts k ↦ c k | of_what_the_entry_reaches k ↦ g k ]) r

  tidied : (r : Reached) → Verdict (slots t) t r → Falls (0 ∷ []) (number_left (tidy_reached t st r)) (refuse 17 Reach ∷ [])
  unfolding tidy_reached
  tidied hurt h = strikes h refl
  tidied (reached tr m) h = passes h.0 (serves (inl refl))

  -- TIDY: 18, 14, 17
  pub tidy-ruled : Ruled (number_of (tidy_of t st).answer) (0 ∷ []) (tidy_refusals t st)
  unfolding tidy_of
  tidy-ruled =
      ruled _ _ (tidy_refusals t st) refl
      (look number_left _ _ (says_length t) refl
      (λ h. look number_left _ _ (says_struck _ (denies-some_busy st)) refl
      (λ h. whole-falls number_left refl (tidied (reach (slots t) (view (slots t) t)) (verdict (slots t) t)))))

  abbrev number_report : Report → ℕ
  number_report r = number_of r.answer

  figured : (r : Reached) → Verdict (slots t) t r → Falls (0 ∷ []) (number_report (figures_reached t st r)) (refuse 17 Reach ∷ [])
  unfolding figures_reached
  figured hurt h = strikes h refl
  figured (reached tr m) h = passes h.0 (serves (inl refl))

  -- FIGURES: 18, 17
  pub figures-ruled : Ruled (number_of (figures_of t st).answer) (0 ∷ []) (figures_refusals t st)
  unfolding figures_of
  figures-ruled =
      ruled _ _ (figures_refusals t st) refl
      (look number_report _ _ (says_length t) refl
      (λ h. whole-falls number_report refl (figured (reach (slots t) (view (slots t) t)) (verdict (slots t) t))))

  module _ (room : List ℕ) where
    abbrev number_listed : Listed → ℕ
    number_listed l = number_of l.answer

    -- fewer numbers than two for each fare that the tree holds
    says_short :
        (tr : Tree) → Fares (view (slots t) t) (fare_slots tr) → Says (ltb (length room) (2 * count_fares tr)) (RoomLentShort (view (slots t) t) room)
    says_short tr f =
        says_as _ (says_lt (length room) (2 * count_fares tr))
        (λ h. (fare_slots tr, f, let e = count_slots tr in omega arith))
        (λ h.
        let e = count_slots tr in
        let l = fares-length (view (slots t) t) h.0 (fare_slots tr) h.1 f in
        let k = h.2 in omega arith)

    listed :
        (r : Reached) → Verdict (slots t) t r
        → Falls (0 ∷ []) (number_listed (list_reached room r)) (refuse 17 Reach ∷ refuse 15 (RoomLentShort (view (slots t) t) room) ∷ [])
    unfolding list_reached
    listed hurt h = strikes h refl
    listed (reached tr m) h = passes h.0 (look number_listed _ _ (says_short tr h.1) refl (λ i. serves (inl refl)))

    -- LIST: 18, 17, 15
    pub list-ruled : Ruled (number_of (list_of t st room).answer) (0 ∷ []) (list_refusals t st room)
    unfolding list_of
    list-ruled =
        ruled _ _ (list_refusals t st room) refl
        (look number_listed _ _ (says_length t) refl
        (λ h. whole-falls number_listed refl (listed (reach (slots t) (view (slots t) t)) (verdict (slots t) t))))
