-- Where a number names an operation, `operation_at` and the call file's `operation_of` agree.
use Rattle.std.proofs.Common.{◌≡◌, ◌≤◌, refl, ℕ, zero, suc, arith, Ok}
use Rattle.terms.specs.Operations.{operation_at}
use Rattle.machine.specs.Choice.{if_b}
use Rattle.machine.specs.CallFile.{operation_of}

pub named : (n : ℕ) → 1 ≤ n → n ≤ 3 → operation_at n ≡ Ok (operation_of n)
unfolding operation_of if_b
named zero h k = absurd (omega arith)
named (suc zero) h k = refl
named (suc (suc zero)) h k = refl
named (suc (suc (suc zero))) h k = refl
named (suc (suc (suc (suc n)))) h k = absurd (omega arith)
