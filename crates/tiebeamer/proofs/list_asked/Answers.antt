use Rattle.std.proofs.Common.{sym, ◌∙◌}
use Rattle.tiebeamer.proofs.Rows.{list-none, list-made}
use Rattle.tiebeamer.proofs.list_asked.Goals as goal

pub returns-in_default : goal.returns-in_default
returns-in_default c = list-none c.args.t.now c.args.w.now (sym c.read_state.ensures ∙ c.in_default.is) c.args.room.now

pub returns : goal.returns
returns c = list-made c.args.t.now c.args.w.now c.in-Some.st (sym c.read_state.ensures ∙ c.in-Some.is) _ _ _ c.list.ensures
