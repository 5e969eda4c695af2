-- A busy task's phase is played on the table, and carried out on a state whose counts are small.
use Rattle.std.proofs.Common.{rules, sym, ◌∙◌, arith}
use Rattle.machine.proofs.Tests.{both_first}
use Rattle.machine.proofs.Sound.{m_small, u_small}
use Rattle.stepping.proofs.Carrying.{goes_row}
use Rattle.stepping.proofs.step_work.Goals as goal

pub turn_out-requires : goal.turn_out-requires
turn_out-requires c =
    let e = sym c.is_sound.ensures ∙ both_first _ _ c.if-not-is_sound-job_fits.false in
    (search rules, m_small _ e, u_small _ e)

pub returns : goal.returns
returns c = (
  goes_row _ _ _ _ _ _ c.in-Busy.is _ c.is_sound.ensures _ c.job_fits.ensures c.if-not-is_sound-job_fits.false
      _ (omega (arith, c.args.t.now.sized.0)) _ _ c.phase_step-r.ensures.0 _ c.turn_out.ensures,
  c.phase_step-r.ensures.1,
)
