-- A take-out that passes its grounds stands in the table.
use Rattle.std.proofs.Common.{rules}
use Rattle.taking.proofs.Inside.{path_in, sibling_in}
use Rattle.taking.proofs.take_commit.Goals as goal

pub take_writes-requires : goal.take_writes-requires
take_writes-requires c =
    let e = c.in_ok-may_change.ensures.1 in (
      search rules,
      sibling_in _ _ _ _ _ _ _ _ _ _ _ c.at.ensures c.at-2.ensures c.at-3.ensures c.at-4.ensures
          c.take_grounds.ensures e _ c.other_link-sibling.ensures,
      path_in _ _ _ _ _ _ _ _ _ _ _ c.at.ensures c.at-2.ensures c.at-3.ensures c.at-4.ensures
          c.take_grounds.ensures e,
    )
