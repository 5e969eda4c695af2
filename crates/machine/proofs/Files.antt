-- Call files and the numbers that the program prints for them.
use Prim.Native.Nat.{ℕ, ◌/◌, ◌%◌}
use mathlib.Core.List.{List, [], ◌∷◌, ◌++◌}

pub record File : Type 0 where
  pub bytes : List ℕ
  pub lines : List (List ℕ)

-- a record: operation, task, count, fare number, price, low byte first
abbrev pub bytes4 : ℕ → List ℕ
bytes4 x = x % 256 ∷ x / 256 % 256 ∷ x / 65536 % 256 ∷ x / 16777216 % 256 ∷ []

abbrev pub record12 : ℕ → ℕ → ℕ → ℕ → ℕ → List ℕ
record12 o i c k p = o ∷ i ∷ c % 256 ∷ c / 256 % 256 ∷ bytes4 k ++ bytes4 p

unfoldable pub files : List File
files =
    -- document 01's example
    record {
      bytes = record12 2 0 0 10 250 ++ record12 4 0 4 0 0 ++ record12 1 1 0 10 0 ++ record12 4 1 9 0 0 ++ record12 6 0 0 0 0;
      lines =
          (1 ∷ 2 ∷ 0 ∷ 0 ∷ 0 ∷ []) ∷ (2 ∷ 4 ∷ 0 ∷ 3 ∷ 0 ∷ []) ∷ (3 ∷ 1 ∷ 1 ∷ 0 ∷ 0 ∷ []) ∷ (4 ∷ 4 ∷ 1 ∷ 1 ∷ 250 ∷ [])
          ∷ (5 ∷ 6 ∷ 0 ∷ 0 ∷ 0 ∷ []) ∷ (0 ∷ 0 ∷ 0 ∷ 1 ∷ 1 ∷ 60 ∷ 0 ∷ []) ∷ [];
    }
    -- no record at all
    ∷ record { bytes = []; lines = (0 ∷ 0 ∷ 0 ∷ 0 ∷ 0 ∷ 62 ∷ 0 ∷ []) ∷ [] }
    -- an unknown operation, a step with no count, with a fare number, with a price; an abandon with a count; a tidy with a task
    ∷ record {
      bytes =
          record12 0 9 0 0 0 ++ record12 7 0 0 0 0 ++ record12 4 3 0 0 0 ++ record12 4 3 1 5 0 ++ record12 4 3 1 0 5 ++ record12 5 3 1 0 0 ++ record12 6 3 0 0 0;
      lines =
          (1 ∷ 0 ∷ 9 ∷ 19 ∷ 0 ∷ []) ∷ (2 ∷ 7 ∷ 0 ∷ 19 ∷ 0 ∷ []) ∷ (3 ∷ 4 ∷ 3 ∷ 19 ∷ 0 ∷ []) ∷ (4 ∷ 4 ∷ 3 ∷ 19 ∷ 0 ∷ []) ∷ (5 ∷ 4 ∷ 3 ∷ 19 ∷ 0 ∷ [])
          ∷ (6 ∷ 5 ∷ 3 ∷ 19 ∷ 0 ∷ []) ∷ (7 ∷ 6 ∷ 3 ∷ 19 ∷ 0 ∷ []) ∷ (0 ∷ 0 ∷ 0 ∷ 0 ∷ 0 ∷ 62 ∷ 0 ∷ []) ∷ [];
    }
    -- a begin with a count is 19, a look up with a price 11, task 255 is 10, an idle task's step 13; a bad record changes nothing
    ∷ record {
      bytes = record12 2 0 1 10 250 ++ record12 1 0 0 10 1 ++ record12 2 255 0 10 1 ++ record12 4 0 65535 0 0 ++ record12 2 7 0 999999 99999 ++ 6 ∷ 7 ∷ [];
      lines =
          (1 ∷ 2 ∷ 0 ∷ 19 ∷ 0 ∷ []) ∷ (2 ∷ 1 ∷ 0 ∷ 11 ∷ 0 ∷ []) ∷ (3 ∷ 2 ∷ 255 ∷ 10 ∷ 0 ∷ []) ∷ (4 ∷ 4 ∷ 0 ∷ 13 ∷ 0 ∷ []) ∷ (5 ∷ 2 ∷ 7 ∷ 0 ∷ 0 ∷ [])
          ∷ (6 ∷ 0 ∷ 0 ∷ 19 ∷ 0 ∷ []) ∷ (0 ∷ 0 ∷ 0 ∷ 0 ∷ 0 ∷ 62 ∷ 0 ∷ []) ∷ [];
    }
    ∷ []
