use Rattle.std.proofs.Common.{◌∙◌, ◌-◌, ◌+◌, ◌≡◌, sym, suc, arith}
use Rattle.machine.proofs.Runs.{goes, run_none, stops}
use Rattle.tiebeamer.specs.Numbers.{out_by}
use Rattle.tiebeamer.proofs.run_by.Goals as goal

pub loop-preserved : goal.loop-preserved
loop-preserved c =
    let l : c.args.count - c.loop.counter ≡ suc (c.args.count - (c.loop.counter + 1)) = omega arith in
    let on = goes _ _ _ _ (out_by _ _) c.step_by-a.ensures.0 _ c.from.ensures _ _ l c.if-from-ne0.false in
    (on.0, c.loop.invariant.1 ∙ on.1, c.step_by-a.ensures.1 ∙ c.loop.invariant.2)

pub returns-after-loop : goal.returns-after-loop
returns-after-loop c = (run_none _ (out_by _ _) _ _ (omega arith) c.loop.invariant.0 ∙ sym c.loop.invariant.1, c.loop.invariant.2)

pub returns-then-from-ne0 : goal.returns-then-from-ne0
returns-then-from-ne0 c =
    let l : c.args.count - c.loop.counter ≡ suc (c.args.count - (c.loop.counter + 1)) = omega arith in (
      stops _ _ _ _ (out_by _ _) c.step_by-a.ensures.0 _ c.from.ensures _ _ l c.if-from-ne0.true ∙ sym c.loop.invariant.1,
      c.step_by-a.ensures.1 ∙ c.loop.invariant.2,
    )
