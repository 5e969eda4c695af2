-- A task stands in the table.
use Rattle.std.specs.Prelude.{ℕ, ◌<◌}
use Rattle.terms.specs.declared.Path.{Path}

-- each of the last three records of its walk does
abbrev pub Inside : ℕ → Path → Type 0
Inside n q = (q.grand < n) × (q.parent < n) × (q.here < n)
