use Rattle.std.proofs.Common.{◌≡◌, true, rules}
use Rattle.statecode.specs.Code.{is_state}
use Rattle.statecode.proofs.Inverse.{state_some}
use Rattle.tiebeamer.proofs.Rows.{run_none, run-other, run-stored}
use Rattle.tiebeamer.proofs.run_asked.Goals as goal

pub returns-in_default : goal.returns-in_default
returns-in_default c p = run_none c.args.t.now c.args.w.now c.in_default.ensures.cases _ _ p

pub returns-then-not-count : goal.returns-then-not-count
returns-then-not-count c p = rw c.in-Some.ensures.cases.1 (run-other c.args.t.now c.args.w.now _ (state_some _ (rw c.in-Some.ensures.cases.1 at c.in-Some.ensures.cases.0)) _ _ p c.if-not-count.true)

pub returns : goal.returns
returns c p =
    let own : is_state c.args.w.now ≡ true = rw c.in-Some.ensures.cases.1 at c.in-Some.ensures.cases.0 in
    run-stored c.args.t.now c.args.w.now own _ c.run_by.new.w.numbers.now _ (search rules) _ c.run_by.new.w.coded _ _ p c.if-not-count.false (rw c.in-Some.ensures.cases.1 at c.run_by.ensures.0)
