-- The scan for a free slot, a step at a time.
use mathlib.Core.Path.{◌≡◌, sym, ◌∙◌}
use Prim.Native.Nat.{ℕ, suc, ◌+◌, ◌-◌, ◌≤◌, ◌<◌}
use native.Mathlib.Omega.{arith}
use borrow.Author.Tests.{eq-eqb, ne_eqb}
use Rattle.machine.specs.Table.{View, free_from, free}

pub scan_end : (v : View) (n s : ℕ) → n ≤ s → s ≡ free v n s
unfolding free free_from
scan_end v n s h = let z : n - s ≡ 0 = omega arith in rw z

module _ (v : View) (n s : ℕ) (h : s < n) (x : ℕ) (ex : x ≡ (v s).state) where
  pub scan_hit : x ≡ 0 → s ≡ free v n s
  unfolding free free_from
  scan_hit e =
      let z : n - s ≡ suc (n - (s + 1)) = omega arith in
      rw (z, eq-eqb (v s).state 0 (sym ex ∙ e), free_from)

  pub scan_miss : (x ≡ 0 → ⊥) → free v n s ≡ free v n (s + 1)
  unfolding free free_from
  scan_miss d =
      let z : n - s ≡ suc (n - (s + 1)) = omega arith in
      rw (z, ne_eqb (v s).state 0 (λ e. d (ex ∙ e)), free_from)
