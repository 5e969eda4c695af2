-- How the contracts speak of a printed line and of a record: as the numbers and the table that they leave.
use Rattle.std.specs.Prelude.{ℕ, List, [], ◌∷◌, ◌++◌}
use Rattle.std.specs.Fmt.{decimal}
use Rattle.callfile.specs.declared.Line.{Line}
use Rattle.callfile.specs.declared.Served.{Served}
use Rattle.machine.specs.CallFile.{Turned}

unfoldable pub numbers : Line → List ℕ
numbers l = l.place ∷ l.operation ∷ l.task ∷ l.answer ∷ l.price ∷ []

-- a record left table t and handed back s
unfoldable pub served : List ℕ → Served → Turned
served t s = record { table = t; state = s.state; line = numbers s.line }

-- the text of a line: its numbers with a space between
abbrev pub line_text : Line → List ℕ
line_text l =
    decimal l.place ++ 32 ∷ decimal l.operation ++ 32 ∷ decimal l.task ++ 32 ∷ decimal l.answer ++ 32 ∷ decimal l.price
