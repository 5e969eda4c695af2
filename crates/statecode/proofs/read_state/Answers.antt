use Rattle.std.proofs.Common.{◌∙◌, sym, ap, Some}
use Rattle.statecode.specs.Code.{state_by}
use Rattle.statecode.proofs.Inverse.{state_some, state_none, other_decoded}
use Rattle.statecode.proofs.read_state.Goals as goal

pub returns-in_err-numbers : goal.returns-in_err-numbers
returns-in_err-numbers c = rw c.from_residual.ensures (sym (other_decoded _ c.in_err-numbers.ensures.cases))

pub returns-then-not-is_state : goal.returns-then-not-is_state
returns-then-not-is_state c = sym (state_none _ (sym c.is_state.ensures ∙ c.if-not-is_state.true))

pub returns : goal.returns
returns c = ap Some (c.state_by.ensures ∙ ap state_by c.in_ok-numbers.ensures.cases.same) ∙ sym (state_some _ (sym c.is_state.ensures ∙ c.if-not-is_state.false))
