-- The two kinds of reading: of a record whose noted links must lead on, and of a child, which need not lead on.
use Rattle.std.specs.Prelude.{ℕ, ◌&&◌}
use Rattle.terms.specs.declared.Task.{Task}
use Rattle.terms.specs.declared.Turn.{Turn}
use Rattle.machine.specs.Record.{well_formed, linked, in_tree, leads, links_of}
use Rattle.machine.specs.Table.{View}
use Rattle.machine.specs.Commit.{reading}

-- of slot s, on to slot next
abbrev pub leading_read : View → ℕ → Task → ℕ → ℕ → Turn
leading_read v n k s next = reading k (well_formed n s (v s)) (in_tree (v s) && leads (links_of (v s)) next) (v s)

-- of slot s
abbrev pub child_read : View → ℕ → Task → ℕ → Turn
child_read v n k s = reading k (linked n s (v s)) (in_tree (v s)) (v s)
