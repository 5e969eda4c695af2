use Rattle.std.proofs.Common.{sym, ap, ◌∙◌}
use Rattle.statecode.specs.Lent.{lent}
use Rattle.stepping.proofs.Carrying.{goes_row}
use Rattle.tiebeamer.proofs.ByNumbers.{m_by, m_most, u_most}
use Rattle.tiebeamer.proofs.step_work.Goals as goal

pub store_turn-requires : goal.store_turn-requires
store_turn-requires c = (
  c.requires.1,
  m_most _ _ _ c.is_sound_by.ensures c.if-not-is_sound_by-job_fits.false,
  u_most _ _ _ c.is_sound_by.ensures c.if-not-is_sound_by-job_fits.false,
)

pub returns : goal.returns
returns c = (
  (
    goes_row c.args.t.now.numbers.now (lent c.args.w.now) c.args.i _ c.in-Busy.j c.in-Busy.f (sym (ap (λ k. k.work) c.task_at.ensures) ∙ c.in-Busy.is) _ c.is_sound_by.ensures _ c.job_fits.ensures
        c.if-not-is_sound_by-job_fits.false _ c.requires.0 _ c.phase_step-r.result (rw (m_by c.args.w.now.numbers.now) at c.phase_step-r.ensures.0) _ c.store_turn.ensures.0,
    c.store_turn.ensures.1,
  ),
  c.phase_step-r.ensures.1,
)
