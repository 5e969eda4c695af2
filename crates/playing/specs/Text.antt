-- THE BYTES OF THE LINES THAT THE PROGRAM PRINTS.
use Rattle.std.specs.Prelude.{ℕ, List, [], ◌∷◌, ◌++◌, codes}
use Rattle.std.specs.Fmt.{decimal}

-- the rest of a line: each number behind a space, then the end of the line
unfoldable pub rest_bytes : List ℕ → List ℕ
rest_bytes [] = 10 ∷ []
rest_bytes (n ∷ ns) = 32 ∷ (decimal n ++ rest_bytes ns)

-- a record's line: its numbers with a space between
unfoldable pub line_bytes : List ℕ → List ℕ
line_bytes [] = rest_bytes []
line_bytes (n ∷ ns) = decimal n ++ rest_bytes ns

-- the last line: the word end and the figures
unfoldable pub end_bytes : List ℕ → List ℕ
end_bytes ns = codes "end" ++ rest_bytes ns

-- all lines; the last one has the figures
unfoldable pub bytes_of : List (List ℕ) → List ℕ
bytes_of [] = []
bytes_of (l ∷ []) = end_bytes l
bytes_of (l ∷ m ∷ ls) = line_bytes l ++ bytes_of (m ∷ ls)
