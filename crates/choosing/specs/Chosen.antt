-- What a step that chooses finds: the records that it reads are formed, or it hands back 17.
use Rattle.std.specs.Prelude.{◌≡◌, ℕ, ◌<◌, true, false, Ok, Err}
use Rattle.std.specs.declared.result.Result.{Result}
use Rattle.terms.specs.declared.Rec.{Rec}
use Rattle.terms.specs.declared.Links.{Links}
use Rattle.terms.specs.declared.Path.{Path}
use Rattle.terms.specs.declared.Around.{Around}
use Rattle.terms.specs.declared.Turn.{Turn}
use Rattle.terms.specs.declared.Turn.TheVariants.{Hurt}
use Rattle.machine.specs.Record.{other}
use Rattle.machine.specs.Table.{View}
use Rattle.machine.specs.Rows.{parent_row, level_row}
use Rattle.machine.specs.Settling.{choose_formed, turn_formed}
use Rattle.settling.specs.declared.Chosen.{Chosen}
use Rattle.settling.specs.declared.Turning.{Turning}

-- z, x and s
abbrev pub Choosing : View → ℕ → Path → Links → Result Chosen Turn → Type 0
Choosing v n q b (Ok e) =
    (choose_formed n q b (v q.parent) (v q.here) (v (other b q.here)) ≡ true)
    × (e ≡ record { row = parent_row (v q.parent).rank (v (other b q.here)).rank; z = v q.parent; x = v q.here })
    × (q.parent < n) × (q.here < n)
Choosing v n q b (Err a) = (choose_formed n q b (v q.parent) (v q.here) (v (other b q.here)) ≡ false) × (a ≡ Hurt)

-- y and w
abbrev pub Turned : View → ℕ → Around → Rec → Result Turning Turn → Type 0
Turned v n o x (Ok e) =
    (turn_formed n o (v o.y) (v o.w) ≡ true)
    × (e ≡ record { row = level_row x.rank (v o.y).rank (v o.w).rank; y = v o.y })
    × (o.y < n) × (e.y.rank < 4294967295)
Turned v n o x (Err a) = (turn_formed n o (v o.y) (v o.w) ≡ false) × (a ≡ Hurt)
