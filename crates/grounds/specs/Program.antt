-- THE CALL FILE: which records are bad.
use Rattle.std.specs.Prelude.{ℕ, ◌+◌, ◌*◌, ◌≤◌, ◌<◌, ◌≡◌, List, ◌⊎◌, ◌≢◌, length, get_or}

-- "operation .., task, count as two bytes, fare number and price as four bytes each, low byte first"
abbrev pub operation_in : List ℕ → ℕ
operation_in b = get_or b 0 0

abbrev pub task_in : List ℕ → ℕ
task_in b = get_or b 1 0

abbrev pub count_in : List ℕ → ℕ
count_in b = get_or b 2 0 + 256 * get_or b 3 0

abbrev pub number_in : List ℕ → ℕ
number_in b = get_or b 4 0 + 256 * get_or b 5 0 + 65536 * get_or b 6 0 + 16777216 * get_or b 7 0

abbrev pub price_in : List ℕ → ℕ
price_in b = get_or b 8 0 + 256 * get_or b 9 0 + 65536 * get_or b 10 0 + 16777216 * get_or b 11 0

-- 19: "operation (1 look up, 2 put in, 3 take out, 4 step, 5 abandon, 6 tidy)"; "Count is 1 to 65,535 for operation 4; every unused
-- field is zero (4 to 6 use no fare number or price, 6 no task); else, or for a short last record, 19." Two bytes hold no more than 65,535
pub data BadRecord (b : List ℕ) : Type 0 where
  a_short_last_record : length b < 12 → BadRecord b
  no_such_operation : (operation_in b ≡ 0) ⊎ (6 < operation_in b) → BadRecord b
  no_count_to_step : operation_in b ≡ 4 → count_in b ≡ 0 → BadRecord b
  an_unused_count : operation_in b ≢ 4 → count_in b ≢ 0 → BadRecord b
  an_unused_number : 4 ≤ operation_in b → number_in b ≢ 0 → BadRecord b
  an_unused_price : 4 ≤ operation_in b → price_in b ≢ 0 → BadRecord b
  an_unused_task : operation_in b ≡ 6 → task_in b ≢ 0 → BadRecord b
