use Rattle.std.proofs.Common.{refl, sym, ◌∙◌}
use Rattle.statecode.proofs.Inverse.{state_none}
use Rattle.statecode.proofs.Own.{lent-whole}
use Rattle.statecode.proofs.state_in.Goals as goal

pub returns-then-not-is_state : goal.returns-then-not-is_state
returns-then-not-is_state c = (refl, record { cases = state_none _ (sym c.is_state.ensures ∙ c.if-not-is_state.true); writes_back = tt })

pub returns : goal.returns
returns c = (refl, record { cases = lent-whole c.args.w.now (sym c.is_state.ensures ∙ c.if-not-is_state.false) _ c.as_mut_array.ensures.cases; writes_back = tt })
