-- The counts of a sound state have room for one more.
use Rattle.std.proofs.Common.{rules, sym, ◌∙◌}
use Rattle.machine.proofs.Sound.{m_small, u_small}
use Rattle.beginning.proofs.given_up.Goals as goal

pub abandon_work-requires : goal.abandon_work-requires
abandon_work-requires c =
    let e = sym c.is_sound.ensures ∙ c.if-not-is_sound.false in
    (search rules, m_small _ e, u_small _ e)
