use Rattle.std.proofs.Common.{sym, ◌∙◌}
use Rattle.tiebeamer.proofs.Rows.{figures-none, figures-refused, figures-made}
use Rattle.tiebeamer.proofs.figures_asked.Goals as goal

pub returns-in_default : goal.returns-in_default
returns-in_default c = figures-none c.args.t.now c.args.w.now (sym c.read_state.ensures ∙ c.in_default.is) c.args.places.now

pub returns-then-from-eq0 : goal.returns-then-from-eq0
returns-then-from-eq0 c =
    figures-made c.args.t.now c.args.w.now c.in-Some.st (sym c.read_state.ensures ∙ c.in-Some.is) c.args.places.now c.figures-r.result c.figures-r.ensures (sym c.from.ensures ∙ c.if-from-eq0.true) _ c.put_figures.ensures

pub returns-else-from-eq0 : goal.returns-else-from-eq0
returns-else-from-eq0 c =
    figures-refused c.args.t.now c.args.w.now c.in-Some.st (sym c.read_state.ensures ∙ c.in-Some.is) c.args.places.now c.figures-r.result c.figures-r.ensures (λ e. c.if-from-eq0.false (c.from.ensures ∙ e))
