use Rattle.std.proofs.Common.{◌≡◌, true, rules}
use Rattle.statecode.specs.Code.{is_state}
use Rattle.tiebeamer.proofs.Rows.{step-none, step-stored}
use Rattle.tiebeamer.proofs.step_asked.Goals as goal

pub returns-in_default : goal.returns-in_default
returns-in_default c p = step-none c.args.t.now c.args.w.now c.in_default.ensures.cases _ p

pub returns : goal.returns
returns c p =
    let own : is_state c.args.w.now ≡ true = rw c.in-Some.ensures.cases.1 at c.in-Some.ensures.cases.0 in
    step-stored c.args.t.now c.args.w.now own _ c.step_by.new.w.numbers.now _ (search rules) _ c.step_by.new.w.coded _ p (rw c.in-Some.ensures.cases.1 at c.step_by.ensures.0)
