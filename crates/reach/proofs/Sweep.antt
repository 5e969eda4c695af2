-- The sweep, a slot at a time.
use mathlib.Core.Path.{◌≡◌, refl}
use mathlib.Core.Bool.{Bool, true, false}
use mathlib.Core.List.{List}
use Prim.Native.Nat.{ℕ, suc, ◌+◌, ◌-◌, ◌≤◌, ◌<◌}
use native.Mathlib.Omega.{arith}
use native.Mathlib.Nat.{sub-zero}
use lib.Dec.{eqb}
use lib.ListN.{get_or}
use Rattle.machine.specs.Choice.{if_b}
use Rattle.machine.specs.Record.{free_rec}
use Rattle.machine.specs.Table.{fill, put, puts}
use Rattle.machine.specs.Calls.{sweep}
use Rattle.reach.specs.Writing.{swept}

sweep-by : (b : Bool) (t marks : List ℕ) (d s : ℕ) → eqb (get_or marks s 0) 0 ≡ b → puts t (sweep marks (suc d) s) ≡ puts (if_b b (put t (fill s free_rec)) t) (sweep marks d (s + 1))
unfolding sweep puts if_b
sweep-by true t marks d s e = simp (sweep, e, puts)
sweep-by false t marks d s e = simp (sweep, e)

pub sweep-start : (t marks : List ℕ) (n : ℕ) → puts t (sweep marks n 0) ≡ puts t (sweep marks (n - 0) 0)
sweep-start t marks n = rw (sub-zero n) refl

pub sweep-more :
    (t marks : List ℕ) (n s : ℕ) → s < n → (later : List ℕ) → later ≡ swept t s (get_or marks s 0)
    → puts t (sweep marks (n - s) s) ≡ puts later (sweep marks (n - (s + 1)) (s + 1))
unfolding swept
sweep-more t marks n s h later e =
    let z : n - s ≡ suc (n - (s + 1)) = omega arith in
    rw (z, e) (sweep-by (eqb (get_or marks s 0) 0) t marks (n - (s + 1)) s refl)

pub sweep-end : (t marks : List ℕ) (n s : ℕ) → s ≤ n → n ≤ s → puts t (sweep marks (n - s) s) ≡ t
unfolding sweep puts
sweep-end t marks n s h l = let z : n - s ≡ 0 = omega arith in rw z refl

pub ruleset sweeping = (sweep-start, sweep-more, sweep-end)
