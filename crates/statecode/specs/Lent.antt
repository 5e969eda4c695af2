-- A state that is lent to be written: what it is before and after.
use Rattle.std.specs.Prelude.{◌≡◌}
use Rattle.terms.specs.declared.State.{State}
use Rattle.statecode.specs.declared.lent.StateMut.{StateMut}
use Rattle.statecode.specs.Code.{state_by}

-- the state that the numbers lent are
abbrev pub lent : StateMut → State
lent w = state_by w.numbers.now

-- the same numbers' place is lent still
abbrev pub SameState : StateMut → StateMut → Type 0
SameState old new = new.numbers.ghost_name ≡ old.numbers.ghost_name
