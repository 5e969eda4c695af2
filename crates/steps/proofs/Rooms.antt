-- The slots that new records take are free, and rise.
use Prim.Native.Nat.{◌+◌, ◌-◌, ◌<◌, suc, zero, ℕ}
use borrow.Author.Tests.{eqb-true}
use lib.Dec.{eqb}
use mathlib.Core.Bool.{Bool, false, true}
use mathlib.Core.Path.{◌≡◌, refl}
use native.Mathlib.Omega.{arith}
use Rattle.machine.specs.Table.{View, free, free_from, slot1, slot2, slot3}
use Rattle.views.proofs.Inside.{first-second, second-third}

free-state : (v : View) (d s : ℕ) → free_from v d s < s + d → (v (free_from v d s)).state ≡ 0
unfolding free_from
free-state v zero s h = absurd (omega arith)
free-state v (suc d) s h = go (eqb (v s).state 0) refl (free-state v d (s + 1)) h
  where
    go : (b : Bool) → eqb (v s).state 0 ≡ b → (free_from v d (s + 1) < (s + 1) + d → (v (free_from v d (s + 1))).state ≡ 0)
        → (elim b [ true ↦ s | false ↦ free_from v d (s + 1) ]) < s + suc d → (v (elim b [ true ↦ s | false ↦ free_from v d (s + 1) ])).state ≡ 0
    go true q ih h = eqb-true _ _ q
    go false q ih h = ih (omega arith)

free-at : (v : View) (n s : ℕ) → free v n s < n → (v (free v n s)).state ≡ 0
unfolding free
free-at v n s h = free-state v (n - s) s (omega arith)

pub one_free : (v : View) (n : ℕ) → slot1 v n < n → (v (slot1 v n)).state ≡ 0
unfolding slot1
one_free v n h = free-at v n 1 h

pub record TwoFree (v : View) (n : ℕ) : Type 0 where
  pub first : (v (slot1 v n)).state ≡ 0
  pub second : (v (slot2 v n)).state ≡ 0
  pub rise : slot1 v n < slot2 v n

second-free : (v : View) (n : ℕ) → slot2 v n < n → (v (slot2 v n)).state ≡ 0
unfolding slot2
second-free v n h = free-at v n (slot1 v n + 1) h

third_free : (v : View) (n : ℕ) → slot3 v n < n → (v (slot3 v n)).state ≡ 0
unfolding slot3
third_free v n h = free-at v n (slot2 v n + 1) h

pub two-free : (v : View) (n : ℕ) → slot2 v n < n → TwoFree v n
two-free v n h = record { first = one_free v n (omega (arith, first-second v n)); second = second-free v n h; rise = first-second v n }

pub record ThreeFree (v : View) (n : ℕ) : Type 0 where
  pub first : (v (slot1 v n)).state ≡ 0
  pub second : (v (slot2 v n)).state ≡ 0
  pub third : (v (slot3 v n)).state ≡ 0
  pub low : slot1 v n < slot2 v n
  pub high : slot2 v n < slot3 v n

pub three-free : (v : View) (n : ℕ) → slot3 v n < n → ThreeFree v n
three-free v n h =
    let two = two-free v n (omega (arith, second-third v n)) in
    record { first = two.first; second = two.second; third = third_free v n h; low = two.rise; high = second-third v n }
