use Rattle.std.proofs.Common.{refl, sym, ◌∙◌}
use Rattle.tiebeamer.proofs.Rows.{err_is}
use Rattle.tiebeamer.proofs.ByNumbers.{m_most, u_most}
use Rattle.tiebeamer.proofs.Walks.{damaged_walk, lost-walk, gone-walk}
use Rattle.tiebeamer.proofs.walk_on.Goals as goal

pub returns-then-not-is_sound_by-job_fits : goal.returns-then-not-is_sound_by-job_fits
returns-then-not-is_sound_by-job_fits c = (damaged_walk c.args.w.now.numbers.now c.args.w.now.coded c.args.i c.args.k c.requires.1 c.args.t.now.numbers.now _ c.is_sound_by.ensures _ c.job_fits.ensures c.if-not-is_sound_by-job_fits.true, refl)

pub returns-in_err-grand : goal.returns-in_err-grand
returns-in_err-grand c =
    rw (err_is c.from_residual.result c.in_err-grand.field-0.0 c.from_residual.ensures.1)
    (lost-walk c.args.w.now.numbers.now c.args.w.now.coded c.args.i c.args.k c.requires.1 c.args.t.now.numbers.now _ c.is_sound_by.ensures _ c.job_fits.ensures c.if-not-is_sound_by-job_fits.false _ c.requires.0 _ (sym c.left_by.ensures ∙ c.in_err-grand.was), refl)

pub store_arrival-requires : goal.store_arrival-requires
store_arrival-requires c = (c.requires.1, m_most _ _ _ c.is_sound_by.ensures c.if-not-is_sound_by-job_fits.false, u_most _ _ _ c.is_sound_by.ensures c.if-not-is_sound_by-job_fits.false)

pub returns : goal.returns
returns c = (
  gone-walk c.args.w.now.numbers.now c.args.w.now.coded c.args.i c.args.k c.requires.1 c.args.t.now.numbers.now _ c.is_sound_by.ensures _ c.job_fits.ensures c.if-not-is_sound_by-job_fits.false _ c.requires.0 _ (sym c.left_by.ensures ∙ c.in_ok-grand.was) _ c.walk_out-r.ensures.0 _ c.store_arrival.ensures.0,
  c.store_arrival.ensures.1,
)
