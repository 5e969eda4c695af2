-- THE WORK LEFT to settling: the sum over the level records of 29 − rank.
use Rattle.std.specs.Prelude.{◌+◌, ◌-◌, ℕ, Bool, false, true}
use Rattle.commits.proofs.Acts.{Kind, puts-in, settles, takes_out}
use Rattle.routes.specs.Route.{lvs, rank_c}
use Rattle.trees.specs.Tree.{Ctx, Tree, hole, leaf, node, top}

-- what a record of rank r counts under one of rank q
unfoldable pub weight : ℕ → ℕ → ℕ
weight q r = lvs q r (29 - r)

-- of a tree that hangs under a record of rank q
abbrev pub work : ℕ → Tree → ℕ
work q (leaf s k pr rk) = weight q rk
work q (node s k rk l r) = weight q rk + work rk l + work rk r

-- of the surroundings
abbrev pub work_c : Ctx → ℕ
work_c top = 0
work_c (hole b s k rk u c) = weight (rank_c c) rk + work rk u + work_c c

-- a settling commit takes at least 1 off it; a put-in whose new record is level adds at most 28
abbrev pub takes_off : Kind → ℕ
takes_off (puts-in k p) = 0
takes_off (takes_out k) = 0
takes_off settles = 1

abbrev pub adds_to : Bool → ℕ
adds_to true = 28
adds_to false = 0
