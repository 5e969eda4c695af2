use Rattle.std.proofs.Common.{sym, ◌∙◌}
use Rattle.tiebeamer.proofs.Begins.{tidy-kept}
use Rattle.tiebeamer.proofs.Rows.{tidy-none, tidy-made}
use Rattle.tiebeamer.proofs.tidy_asked.Goals as goal

pub returns-in_default : goal.returns-in_default
returns-in_default c = tidy-none c.args.t.now c.args.w.now (sym c.read_state.ensures ∙ c.in_default.is)

pub returns : goal.returns
returns c = tidy-made c.args.t.now c.args.w.now c.in-Some.st (sym c.read_state.ensures ∙ c.in-Some.is) _ c.tidy.result c.args.w.now (tidy-kept c.args.t.now c.args.w.now c.in-Some.st (sym c.read_state.ensures ∙ c.in-Some.is) _ _ c.tidy.ensures) c.tidy.ensures
