use Rattle.std.proofs.Common.{◌≡◌, ◌∙◌, length, arith, rules}
use Rattle.statecode.proofs.Writing.{length_mapped, written_none, written-more, written_all, written-state}
use Rattle.statecode.proofs.write_state.Goals as goal

pub loop-i-init : goal.loop-i-init
loop-i-init c = written_none _ _

pub loop-i-preserved : goal.loop-i-preserved
loop-i-preserved c =
    written-more c.args.st.tasks c.loop-i.i _ (omega arith) _ _ _ c.loop-i.invariant c.row_of.ensures c.put_row_at.ensures

pub returns : goal.returns
returns c =
    let h : length c.args.st.tasks ≡ 8 = search (rules, length_mapped) in
    rw (c.put_ends.ensures, c.loop-i.invariant ∙ written_all c.args.st.tasks c.loop-i.i c.args.w.now h (omega arith))
    (written-state c.args.st c.args.w.now h c.told-w)
