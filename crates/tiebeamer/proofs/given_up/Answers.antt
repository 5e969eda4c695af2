use Rattle.std.proofs.Common.{◌≡◌, arith}
use Rattle.std.proofs.lemmas.Grind.{common_steps}
use Rattle.terms.specs.declared.Answer.TheVariants.{Accepted, PutUnsettled}
use Rattle.machine.specs.Choice.{if_b}
use Rattle.machine.specs.Contract.{after}
use Rattle.machine.specs.Calls.{abandon_of, abandoned_out}
use Rattle.statecode.specs.Code.{state_by}
use Rattle.tiebeamer.specs.Numbers.{out_by}
use Rattle.tiebeamer.proofs.Begins.{given-up, let_go, room_for_one}
use Rattle.tiebeamer.proofs.given_up.Goals as goal

pub overflow_add-u : goal.overflow_add-u
overflow_add-u c = omega (arith, room_for_one c.args.w.now.numbers.now _ c.is_sound_by.ensures c.if-not-is_sound_by.false)

pub returns-then-settles : goal.returns-then-settles
unfolding after abandon_of if_b
returns-then-settles c =
    let e : out_by c.store_task.new.w.numbers.now PutUnsettled ≡ abandoned_out (state_by c.args.w.now.numbers.now) c.in_ok-at.at c.task_at-k.result =
    given-up c.args.w.now.numbers.now _ _ _ c.settles.ensures _ c.abandoned.ensures _ c.if-settles.true c.store_task.ensures.0 in
    (grind (arith, common_steps), c.store_task.ensures.1)

pub returns-else-settles : goal.returns-else-settles
unfolding after abandon_of if_b
returns-else-settles c =
    let e : out_by c.store_task-else-settles.new.w.numbers.now Accepted ≡ abandoned_out (state_by c.args.w.now.numbers.now) c.in_ok-at.at c.task_at-k.result =
    let_go c.args.w.now.numbers.now _ _ _ c.settles.ensures _ c.abandoned-else-settles.ensures _ c.if-settles.false c.store_task-else-settles.ensures.0 in
    (grind (arith, common_steps), c.store_task-else-settles.ensures.1)
