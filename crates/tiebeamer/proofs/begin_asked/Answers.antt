use Rattle.std.proofs.Common.{◌≡◌, true, rules}
use Rattle.statecode.specs.Code.{is_state}
use Rattle.statecode.proofs.Inverse.{state_some}
use Rattle.tiebeamer.proofs.Rows.{err_is, begin-none, begin-other, begin-stored}
use Rattle.tiebeamer.proofs.begin_asked.Goals as goal

pub returns-in_default : goal.returns-in_default
returns-in_default c = begin-none c.args.t.now c.args.w.now c.in_default.ensures.cases _ _ _ _

pub returns-in_err-o : goal.returns-in_err-o
returns-in_err-o c =
    let h = rw c.in_err-o.was at c.operation_asked.ensures.refused in
    rw (err_is c.from_residual.result c.in_err-o.field-0.0 c.from_residual.ensures.1, h.1, c.in-Some.ensures.cases.1)
    (begin-other c.args.t.now c.args.w.now _ (state_some _ (rw c.in-Some.ensures.cases.1 at c.in-Some.ensures.cases.0)) _ _ _ _ _ h.0)

pub returns : goal.returns
returns c =
    let own : is_state c.args.w.now ≡ true = rw c.in-Some.ensures.cases.1 at c.in-Some.ensures.cases.0 in
    rw c.answered.ensures (begin-stored c.args.t.now c.args.w.now own _ c.begun.new.w.numbers.now _ (search rules) _ c.begun.new.w.coded _ _ c.args.j c.in_ok-o.o (rw c.in_ok-o.was at c.operation_asked.ensures.named) (rw c.in-Some.ensures.cases.1 at c.begun.ensures.0))
