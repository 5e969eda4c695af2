use Rattle.std.proofs.Common.{◌≡◌, false, refl, sym, ◌∙◌, arith}
use Rattle.std.proofs.lemmas.Grind.{common_steps}
use Rattle.terms.specs.Task.{begun, is_busy}
use Rattle.machine.specs.Choice.{if_b}
use Rattle.machine.specs.State.{task_at, with_task}
use Rattle.machine.specs.Contract.{after}
use Rattle.machine.specs.Calls.{begin_of}
use Rattle.statecode.specs.Code.{state_by}
use Rattle.statecode.specs.Lent.{lent}
use Rattle.tiebeamer.proofs.Begins.{none_path, begun-stored, begun-own}
use Rattle.tiebeamer.proofs.begun.Goals as goal

pub invariant_of-w-2 : goal.invariant_of-w-2
invariant_of-w-2 c = record {
  coded = begun-own c.args.w.now.numbers.now c.in_ok-at.at c.args.w.now.coded (omega (arith, c.in_ok-at.ensures.placed)) _ c.is_busy_at.ensures c.if-is_busy_at.false c.args.o c.args.j _ c.goal_number-k.ensures _ (none_path _ c.default.ensures) _ c.put_first.ensures;
}

pub returns : goal.returns
unfolding after begin_of if_b
returns c =
    let b : c.is_busy_at.result ≡ is_busy (task_at (lent c.args.w.now) c.in_ok-at.at).work = c.is_busy_at.ensures in
    let e : state_by c.put_first.new.w ≡ with_task (lent c.args.w.now) c.in_ok-at.at (begun c.args.o c.args.j) = begun-stored c.args.w.now.numbers.now c.in_ok-at.at c.args.w.now.coded (omega (arith, c.in_ok-at.ensures.placed)) _ c.is_busy_at.ensures c.if-is_busy_at.false c.args.o c.args.j _ c.goal_number-k.ensures _ (none_path _ c.default.ensures) _ c.put_first.ensures in
    let f : is_busy (task_at (lent c.args.w.now) c.in_ok-at.at).work ≡ false = sym b ∙ c.if-is_busy_at.false in
    (grind (arith, common_steps), refl)
