use Rattle.callfile.proofs.Rows.{record_row}
use Rattle.callfile.proofs.serve_record.Goals as goal

pub returns : goal.returns
returns c = record_row _ _ _ _ _ c.call_of.ensures _ _ c.serve_call-o.ensures _ c.line_of.ensures
