-- The laws of a call file's records: a record's line, and that a longer record reads as its first 12 bytes.
use mathlib.Core.Path.{◌≡◌, ◌∙◌}
use mathlib.Core.List.{List}
use Prim.Native.Nat.{ℕ, ◌<◌, ◌≤◌}
use native.Mathlib.Omega.{arith}
use lib.ListN.{get_or, length, take}
use Rattle.machine.specs.Choice.{if_b}
use Rattle.std.proofs.lemmas.List.{get_or-take}
use borrow.Author.Tests.{le-ltb}
use Rattle.terms.specs.declared.State.{State}
use Rattle.terms.specs.declared.Out.{Out}
use Rattle.terms.specs.declared.Call.{Call}
use Rattle.machine.specs.Contract.{after}
use Rattle.machine.specs.CallFile.{two, four, no_job, begins, steps, abandons, tidies, by_operation, decode, serve, line_of, record_of}
use Rattle.callfile.specs.declared.Line.{Line}
use Rattle.callfile.specs.Line.{numbers, served}

-- a record and its line
pub record_row :
    (t : List ℕ) (st : State) (p : ℕ) (b : List ℕ) (c : Call) → c ≡ decode b → (t' : List ℕ) (o : Out) → after t' o ≡ serve t st c
    → (l : Line) → numbers l ≡ line_of p b o.answer → served t' (record { state = o.state; line = l }) ≡ record_of t st p b
unfolding served record_of after
record_row t st p b c ec t' o eo l el = rw (← ec, ← eo, el)

-- a longer record reads as its first 12 bytes
byte_of : (b : List ℕ) (i : ℕ) → i < 12 → get_or (take 12 b) i 0 ≡ get_or b i 0
byte_of b i h = get_or-take 12 b i 0 h

first_bytes : (o : ℕ) (b : List ℕ) → by_operation o (take 12 b) ≡ by_operation o b
unfolding by_operation begins steps abandons tidies no_job two four
first_bytes o b =
    simp (
      byte_of b 1 (omega arith),
      byte_of b 2 (omega arith),
      byte_of b 3 (omega arith),
      byte_of b 4 (omega arith),
      byte_of b 5 (omega arith),
      byte_of b 6 (omega arith),
      byte_of b 7 (omega arith),
      byte_of b 8 (omega arith),
      byte_of b 9 (omega arith),
      byte_of b 10 (omega arith),
      byte_of b 11 (omega arith),
    )

pub decoded : (b xs : List ℕ) → 12 ≤ length b → xs ≡ take 12 b → (o : ℕ) → o ≡ get_or xs 0 0 → by_operation o xs ≡ decode b
unfolding decode if_b
decoded b xs h e o eo =
    let z : o ≡ get_or b 0 0 = eo ∙ rw e (byte_of b 0 (omega arith)) in
    rw (le-ltb (length b) 12 h, e, z) (first_bytes (get_or b 0 0) b)
