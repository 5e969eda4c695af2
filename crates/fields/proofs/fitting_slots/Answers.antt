-- A length that fits is that of 8 to 4,096 slots.
use Rattle.std.proofs.Common.{sym, ◌∙◌}
use Rattle.machine.proofs.Tests.{fits-most, sized, slots-least}
use Rattle.fields.proofs.fitting_slots.Goals as goal

pub slots_of-requires : goal.slots_of-requires
slots_of-requires c = fits-most _ _ c.length_fits.ensures c.if-not-length_fits.false

pub returns-clause-fits : goal.returns-clause-fits
returns-clause-fits c =
    let fits = sym c.length_fits.ensures ∙ c.if-not-length_fits.false in
    let row = sized _ _ c.length_fits.ensures c.if-not-length_fits.false _ c.slots_of.ensures in
    let least = slots-least _ _ c.length_fits.ensures c.if-not-length_fits.false in
    (fits, c.slots_of.ensures, row.0, rw c.slots_of.ensures least, row.1)
