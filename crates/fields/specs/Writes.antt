-- How the code speaks of a table that is lent to be written: what it is before and after.
use Rattle.std.specs.Prelude.{◌≡◌, List}
use Rattle.terms.specs.declared.Outcome.{Outcome}
use Rattle.fields.specs.declared.slots.Slots.{Slots}
use Rattle.fields.specs.declared.slots.SlotsMut.{SlotsMut}
use Rattle.machine.specs.Table.{View, Write, view, puts}
use Rattle.machine.specs.Commit.{Did}
use Rattle.machine.specs.Contract.{acted, played}

-- what the slots of a table lent to be read read as
abbrev pub seen : Slots → View
seen t = view t.n t.numbers.now

-- the same of one lent to be written too
abbrev pub read : SlotsMut → View
read t = view t.n t.numbers.now

-- the same table is lent still: so many slots, and the same numbers' place
abbrev pub SameTable : SlotsMut → SlotsMut → Type 0
SameTable old new = (new.n ≡ old.n) × (new.numbers.ghost_name ≡ old.numbers.ghost_name)

-- the writes are carried out on it
abbrev pub Writes : SlotsMut → SlotsMut → List Write → Type 0
Writes old new ws = (new.numbers.now ≡ puts old.numbers.now ws) × SameTable old new

-- what a definition does is done on it, and handed back
abbrev pub Does : SlotsMut → SlotsMut → Outcome → Did → Type 0
Does old new o d = (acted new.numbers.now o ≡ played old.numbers.now d) × SameTable old new
