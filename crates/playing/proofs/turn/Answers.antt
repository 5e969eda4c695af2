use Rattle.std.proofs.Common.{rules}
use Rattle.playing.proofs.Turning.{turn_of}
use Rattle.callfile.specs.Line.{served}
use Rattle.playing.proofs.turn.Goals as goal

pub returns : goal.returns
unfolding served
returns g c = turn_of _ _ _ _ _ _ _ _ _ _ _ _ (search rules) (search rules) (search rules) c.in_ok-n.ensures.bytes c.in_ok-n.ensures.end c.serve_record-r.ensures c.in_ok-print_line.ensures
