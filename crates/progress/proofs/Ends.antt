-- How a run of steps ends: now, or after one step more.
use Prim.Native.Nat.{◌<◌, ◌≤◌, suc, zero, ℕ}
use mathlib.Core.Path.{◌≡◌}
use native.Mathlib.Omega.{arith}
use Rattle.history.specs.History.{step}
use Rattle.history.specs.Ledger.{Point, advance, goes}
use Rattle.history.specs.Machine.{Machine}
use Rattle.progress.specs.Alone.{Ends, answer_after, answer_of}

pub ends_now : {M : Machine} {p : Point} {i limit : ℕ} {E : ℕ → Type 0} → E (answer_of M p i) → 1 ≤ limit → Ends M p i limit E
unfolding goes
ends_now e h = record { before = 0; within = h; going = λ d z. absurd (omega arith); last = e }

pub ends-later : {M : Machine} {p : Point} {i limit : ℕ} {E : ℕ → Type 0} → answer_of M p i ≡ 0 → Ends M (advance M p (step i)) i limit E → Ends M p i (suc limit) E
unfolding goes
ends-later {M} {p} {i} {limit} {E} z h = record { before = suc h.before; within = omega (arith, h.within); going = going; last = h.last }
  where
    going : (d : ℕ) → d < suc h.before → answer_after M p i d ≡ 0
    going zero lt = z
    going (suc d) lt = h.going d (omega arith)

pub ends-wider : {M : Machine} {p : Point} {i a b : ℕ} {E : ℕ → Type 0} → Ends M p i a E → a ≤ b → Ends M p i b E
ends-wider h le = record { before = h.before; within = omega (arith, h.within); going = h.going; last = h.last }
