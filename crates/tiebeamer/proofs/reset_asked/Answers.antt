use Rattle.std.proofs.Common.{sym, ◌∙◌}
use Rattle.statecode.proofs.Inverse.{other_decoded}
use Rattle.tiebeamer.proofs.Rows.{reset-none, reset-made}
use Rattle.tiebeamer.proofs.reset_asked.Goals as goal

pub returns-in_default : goal.returns-in_default
returns-in_default c = reset-none c.args.t.now c.args.w.now (sym c.read_state.ensures ∙ c.in_default.is)

pub returns : goal.returns
returns c = reset-made c.args.t.now c.args.w.now c.in-Some.st (sym c.read_state.ensures ∙ c.in-Some.is) _ c.reset-o.result _ c.write_state.ensures c.reset-o.ensures

pub returns-in_default-as_mut_array : goal.returns-in_default-as_mut_array
returns-in_default-as_mut_array c = reset-none c.args.t.now c.args.w.now (other_decoded _ c.in_default-as_mut_array.ensures.cases)
