-- A leaf is no inner record, so it is well formed as a leaf or not at all.
use Rattle.std.proofs.Common.{refl, sym, ◌∙◌}
use Rattle.fields.proofs.Formed.{leaf_is}
use Rattle.fields.proofs.well_formed.Goals as goal

pub returns-then-is_leaf : goal.returns-then-is_leaf
returns-then-is_leaf c =
    leaf_is _ _ _ _ refl c.if-not-r.false c.if-s-eq0.false (sym c.is_leaf.ensures ∙ c.if-is_leaf.true) _ c.leaf_marked.ensures
