-- A commit that passes its grounds has pz in the table.
use Rattle.std.proofs.Common.{arith, ◌≡◌, ◌<◌, true}
use Rattle.std.proofs.lemmas.Grind.{common_steps}
use Rattle.std.proofs.lemmas.Result.{IfOk-weaker}
use Rattle.machine.specs.Settling.{grounds_four, grounds_three, grounds_two}
use Rattle.machine.proofs.Tests.{formed-in}
use Rattle.settling.proofs.commit_with_y.Goals as goal

pub returns-clause-pz_stands : goal.returns-clause-pz_stands
unfolding grounds_four grounds_three grounds_two
returns-clause-pz_stands c =
    IfOk-weaker c.may_change.result (λ u. c.grounds_four.result ≡ true) (λ u. c.args.k.path.grand < c.args.t.now.n)
    (λ u e. grind (arith, common_steps, formed-in)) c.may_change.ensures.1
