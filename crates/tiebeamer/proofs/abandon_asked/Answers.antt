use Rattle.std.proofs.Common.{◌≡◌, true, rules}
use Rattle.statecode.specs.Code.{is_state}
use Rattle.tiebeamer.proofs.Rows.{abandon-none, abandon-stored}
use Rattle.tiebeamer.proofs.abandon_asked.Goals as goal

pub returns-in_default : goal.returns-in_default
returns-in_default c = abandon-none c.args.t.now c.args.w.now c.in_default.ensures.cases _

pub returns : goal.returns
returns c =
    let own : is_state c.args.w.now ≡ true = rw c.in-Some.ensures.cases.1 at c.in-Some.ensures.cases.0 in
    rw c.answered.ensures (abandon-stored c.args.t.now c.args.w.now own _ c.given_up.new.w.numbers.now _ (search rules) _ c.given_up.new.w.coded _ (rw c.in-Some.ensures.cases.1 at c.given_up.ensures.0))
