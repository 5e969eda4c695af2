-- The lowest free slots, one after another.
use Rattle.std.proofs.Common.{◌≡◌, ℕ, zero, suc, ◌+◌, ◌-◌, ◌≤◌, ◌<◌, Bool, true, false, List, [], ◌∷◌, ◌++◌, refl, arith, eqb}
use Rattle.std.proofs.Math.Nat.{zero-add, suc-add}
use Rattle.machine.specs.Table.{View, free, free_from, slot1, slot2, slot3}
use Rattle.room.specs.Found.{behind, lowest, AllBelow}

-- the scan goes up
at_or_on : (b : Bool) (s x : ℕ) → s + 1 ≤ x → s ≤ elim b [ true ↦ s | false ↦ x ]
at_or_on true s x h = omega arith
at_or_on false s x h = omega arith

pub later : (v : View) (d s : ℕ) → s ≤ free_from v d s
unfolding free_from
later v zero s = omega arith
later v (suc d) s = at_or_on (eqb (v s).state 0) s _ (later v d (s + 1))

-- one slot more is further behind
pub further : (v : View) (n k : ℕ) → behind v n k < behind v n (suc k)
unfolding free
further v n k = let h = later v (n - behind v n k) (behind v n k) in omega arith

-- so are more of them
pub furthest : (v : View) (n k j : ℕ) → behind v n k ≤ behind v n (j + k)
furthest v n k zero = rw (zero-add k) (omega arith)
furthest v n k (suc j) = rw (suc-add j k) let h = furthest v n k j in let f = further v n (j + k) in omega arith

-- no slot is left for the one behind i of them, so there are not k
pub too_few : (v : View) (n k i from : ℕ) → i < k → from ≡ behind v n i → n ≤ free v n from → n < behind v n k
too_few v n k i from h e f =
    let z : k ≡ (k - suc i) + suc i = omega arith in
    let g : n ≤ free v n (behind v n i) = rw (← e) f in
    let m = furthest v n (suc i) (k - suc i) in
    rw z (omega arith)

-- a slot more
pub below_more : (n : ℕ) (xs : List ℕ) (s : ℕ) → AllBelow n xs → s < n → AllBelow n (xs ++ s ∷ [])
below_more n [] s a h = (h, tt)
below_more n (x ∷ xs) s a h = (a.0, below_more n xs s a.1 h)

-- the definition's first, second and third slot are the three lowest
pub three_lowest : (v : View) (n : ℕ) → lowest v n 3 ≡ slot1 v n ∷ slot2 v n ∷ slot3 v n ∷ []
unfolding slot1 slot2 slot3
three_lowest v n = refl

-- where there are not three, the third is at or past n
pub none_third : (v : View) (n : ℕ) → n < behind v n 3 → n ≤ slot3 v n
unfolding slot1 slot2 slot3
none_third v n h = omega arith

-- each slot is past the one before
pub slots_rise : (v : View) (n k : ℕ) → free v n (behind v n k) < free v n (behind v n (suc k))
unfolding free
slots_rise v n k = let h = later v (n - behind v n (suc k)) (behind v n (suc k)) in omega arith
