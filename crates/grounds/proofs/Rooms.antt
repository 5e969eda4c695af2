-- The scan for free slots finds room exactly where there is room.
use Prim.Native.Nat.{ℕ, zero, suc, ◌+◌, ◌-◌, ◌≤◌, ◌<◌}
use mathlib.Core.Path.{◌≡◌, refl}
use mathlib.Core.Bool.{Bool, true, false}
use mathlib.Core.Logic.{◌⊎◌, inl, inr, ◌≢◌}
use native.Mathlib.Omega.{arith}
use lib.Dec.{leb, eqb}
use Rattle.machine.specs.Table.{View, free_from, free, slot1, slot2, slot3}
use Rattle.grounds.specs.Room.{RoomFrom, Room}
use Rattle.grounds.proofs.Says.{Says, says_as, says_eq, says_le}

here-or_later : (s x : ℕ) → s ≤ x → (x ≡ s) ⊎ (s + 1 ≤ x)
here-or_later s x h = go (eqb x s) refl
  where
    go : (b : Bool) → eqb x s ≡ b → (x ≡ s) ⊎ (s + 1 ≤ x)
    go true e = inl ((says_eq x s).holds e)
    go false e = inr (let k = (says_eq x s).fails e in omega arith)

module _ (v : View) where
  -- f is the first free slot of the d slots from s on, or the slot past them
  record Scanned (s d f : ℕ) : Type 0 where
    from : s ≤ f
    upto : f ≤ s + d
    free-there : f < s + d → (v f).state ≡ 0
    none_before : (x : ℕ) → s ≤ x → x < f → (v x).state ≢ 0

  scanned : (d s : ℕ) → Scanned s d (free_from v d s)
  unfolding free_from
  scanned zero s = record { from = omega arith; upto = omega arith; free-there = λ h. absurd (omega arith); none_before = λ x a b. absurd (omega arith) }
  scanned (suc d) s = go (eqb (v s).state 0) refl (scanned d (s + 1))
    where
      go :
          (b : Bool) → eqb (v s).state 0 ≡ b → Scanned (s + 1) d (free_from v d (s + 1))
          → Scanned s (suc d) (elim b [ true ↦ s | false ↦ free_from v d (s + 1) ])
      go true e r =
          record { from = omega arith; upto = omega arith; free-there = λ h. (says_eq _ 0).holds e; none_before = λ x a b. absurd (omega arith) }
      go false e r =
          record {
            from = let k = r.from in omega arith;
            upto = let k = r.upto in omega arith;
            free-there = λ h. r.free-there (omega arith);
            none_before =
                λ x a b q.
                elim (here-or_later s x a) [
                  | inl p ↦ (says_eq (v s).state 0).fails e (rw p at q)
                  | inr p ↦ r.none_before x p b q
                ];
          }

  module _ (n : ℕ) where
    later-room : (k s i : ℕ) → i ≤ s → RoomFrom v n s k → RoomFrom v n i k
    later-room zero s i h r = tt
    later-room (suc k) s i h r = (r.0, let a = r.1 in omega arith, r.2, r.3, r.4)

    room_next : (s k : ℕ) → RoomFrom v n s (suc k) → (free v n s < n) × RoomFrom v n (free v n s + 1) k
    unfolding free
    room_next s k r =
        let f = free_from v (n - s) s in
        let a = r.1 in
        let b = r.2 in
        let h : f ≤ r.0 = elim (here_or_before f r.0) [ inl x ↦ x | inr x ↦ absurd ((scanned (n - s) s).none_before r.0 a x r.3) ] in
        (omega arith, later-room k (r.0 + 1) (f + 1) (omega arith) r.4)
      where
        here_or_before : (f x : ℕ) → (f ≤ x) ⊎ (x < f)
        here_or_before f x = go (leb f x) refl
          where
            go : (b : Bool) → leb f x ≡ b → (f ≤ x) ⊎ (x < f)
            go true e = inl ((says_le f x).holds e)
            go false e = inr (let k = (says_le f x).fails e in omega arith)

    room_here : (s k : ℕ) → free v n s < n → RoomFrom v n (free v n s + 1) k → RoomFrom v n s (suc k)
    unfolding free
    room_here s k h r = let c = scanned (n - s) s in let a = c.from in (free_from v (n - s) s, a, h, c.free-there (omega arith), r)

    past : (s : ℕ) → s ≤ free v n s
    unfolding free
    past s = (scanned (n - s) s).from

    -- 1, 2 and 3 slots
    pub says_no_room_1 : Says (leb n (slot1 v n)) (¬ (Room v n 1))
    unfolding slot1
    says_no_room_1 =
        says_as _ (says_le n (free v n 1))
        (λ h r. let k = (room_next 1 0 r).0 in omega arith)
        (λ h. go (leb n (free v n 1)) refl h)
      where
        go : (b : Bool) → leb n (free v n 1) ≡ b → ¬ (Room v n 1) → n ≤ free v n 1
        go true e h = (says_le n (free v n 1)).holds e
        go false e h = absurd (h (room_here 1 0 (let k = (says_le n (free v n 1)).fails e in omega arith) tt))

    pub says_no_room_2 : Says (leb n (slot2 v n)) (¬ (Room v n 2))
    unfolding slot2 slot1
    says_no_room_2 =
        says_as _ (says_le n two)
        (λ h r. let k = (room_next (one + 1) 0 (room_next 1 1 r).1).0 in omega arith)
        (λ h. go (leb n two) refl h)
      where
        one : ℕ
        one = free v n 1

        two : ℕ
        two = free v n (one + 1)

        go : (b : Bool) → leb n two ≡ b → ¬ (Room v n 2) → n ≤ two
        go true e h = (says_le n two).holds e
        go false e h =
            let k = (says_le n two).fails e in
            let p = past (one + 1) in absurd (h (room_here 1 1 (omega arith) (room_here (one + 1) 0 (omega arith) tt)))

    pub says_no_room_3 : Says (leb n (slot3 v n)) (¬ (Room v n 3))
    unfolding slot3 slot2 slot1
    says_no_room_3 =
        says_as _ (says_le n three)
        (λ h r. let k = (room_next (two + 1) 0 (room_next (one + 1) 1 (room_next 1 2 r).1).1).0 in omega arith)
        (λ h. go (leb n three) refl h)
      where
        one : ℕ
        one = free v n 1

        two : ℕ
        two = free v n (one + 1)

        three : ℕ
        three = free v n (two + 1)

        go : (b : Bool) → leb n three ≡ b → ¬ (Room v n 3) → n ≤ three
        go true e h = (says_le n three).holds e
        go false e h =
            let k = (says_le n three).fails e in
            let p = past (one + 1) in
            let i = past (two + 1) in
            absurd (h (room_here 1 2 (omega arith) (room_here (one + 1) 1 (omega arith) (room_here (two + 1) 0 (omega arith) tt))))
