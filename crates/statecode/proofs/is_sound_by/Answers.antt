use Rattle.std.proofs.Common.{refl, arith}
use Rattle.statecode.proofs.Own.{sound-few, sound-counted}
use Rattle.statecode.proofs.is_sound_by.Goals as goal

pub returns-then-c-from : goal.returns-then-c-from
returns-then-c-from c = sound-few c.args.w.now _ _ refl refl (omega (arith, c.if-c-from.true, c.from-c.ensures, c.from.ensures))

pub returns : goal.returns
returns c = rw (c.from-c.ensures, c.from-2.ensures, c.from-3.ensures) (sound-counted c.args.w.now _ _ refl refl _ c.count_settling_by.ensures.0)
