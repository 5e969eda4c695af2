-- The operation that a number names.
use Rattle.std.specs.Prelude.{ℕ, true, false, eqb, Ok, Err}
use Rattle.std.specs.declared.result.Result.{Result}
use Rattle.terms.specs.declared.Operation.{Operation}
use Rattle.terms.specs.declared.Operation.TheVariants.{LookUp, PutIn, TakeOut}
use Rattle.terms.specs.declared.NoOperation.{NoOperation}

-- "operation (1 look up, 2 put in, 3 take out ..)"; every other number is handed back
abbrev pub operation_at : ℕ → Result Operation NoOperation
operation_at n =
    elim (eqb n 1) [
      | true ↦ Ok LookUp
      | false ↦ elim (eqb n 2) [ true ↦ Ok PutIn | false ↦ elim (eqb n 3) [ true ↦ Ok TakeOut | false ↦ Err (record { number = n }) ] ]
    ]
