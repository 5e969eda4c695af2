-- A call of the interface with what it is lent and handed, and the state that a row of calls makes.
use Rattle.std.specs.Prelude.{ℕ, List, [], ◌∷◌, replicate}
use Rattle.tiebeamer.specs.Interface.{reset_told, begin_told, step_told, run_told, abandon_told, tidy_told, figures_shown, list_shown}

-- a call with all that it is lent and handed but the state: the table, any one, then the numbers in their order
pub data Asked : Type 0 where
  reset : List ℕ → Asked
  begin : List ℕ → ℕ → ℕ → ℕ → ℕ → Asked
  step : List ℕ → ℕ → ℕ → Asked
  run : List ℕ → ℕ → ℕ → ℕ → Asked
  abandon : List ℕ → ℕ → Asked
  tidy : List ℕ → Asked
  figures : List ℕ → List ℕ → Asked
  list : List ℕ → List ℕ → Asked

-- the number that the call answers on a state
unfoldable pub answer_to : Asked → List ℕ → ℕ
answer_to (reset t) w = (reset_told t w).answer
answer_to (begin t i o n p) w = (begin_told t w i o n p).answer
answer_to (step t i p) w = (step_told t w i p).answer
answer_to (run t i c p) w = (run_told t w i c p).answer
answer_to (abandon t i) w = (abandon_told t w i).answer
answer_to (tidy t) w = (tidy_told t w).answer
answer_to (figures t l) w = (figures_shown t w l).answer
answer_to (list t l) w = (list_shown t w l).answer

-- the state that it leaves
unfoldable pub state_left : Asked → List ℕ → List ℕ
state_left (reset t) w = (reset_told t w).state
state_left (begin t i o n p) w = (begin_told t w i o n p).state
state_left (step t i p) w = (step_told t w i p).state
state_left (run t i c p) w = (run_told t w i c p).state
state_left (abandon t i) w = (abandon_told t w i).state
state_left (tidy t) w = (tidy_told t w).state
state_left (figures t l) w = w
state_left (list t l) w = w

-- the state that calls made, the last one first; before the first call it is zeros
unfoldable pub state_made : List Asked → List ℕ
state_made [] = replicate 122 0
state_made (a ∷ past) = state_left a (state_made past)
