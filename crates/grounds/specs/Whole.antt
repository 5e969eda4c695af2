-- The refusals of tidy, figures and list in the printed order, each with its ground.
use Rattle.std.specs.Prelude.{ℕ, List, [], ◌∷◌}
use Rattle.terms.specs.declared.State.{State}
use Rattle.machine.specs.Table.{view, slots}
use Rattle.grounds.specs.Order.{Refusal}
use Rattle.grounds.specs.State.{SomeTaskBusy, CountsDamaged}
use Rattle.grounds.specs.Calls.{refuse, length18}
use Rattle.grounds.specs.Ways.{ReachDamaged, RoomLentShort}

-- 17 of tidy, figures and list
pub data WholeDamaged (t : List ℕ) (st : State) : Type 0 where
  counts : CountsDamaged st → WholeDamaged t st
  of_what_the_entry_reaches : ReachDamaged (view (slots t) t) (slots t) → WholeDamaged t st

-- 14 "tidy: some task busy"
abbrev pub some14 : State → Refusal
some14 st = refuse 14 (SomeTaskBusy st)

-- 17 "damaged"
abbrev pub whole17 : List ℕ → State → Refusal
whole17 t st = refuse 17 (WholeDamaged t st)

-- 15 "no room, .. in the room lent for a list"
abbrev pub lent15 : List ℕ → List ℕ → Refusal
lent15 t room = refuse 15 (RoomLentShort (view (slots t) t) room)

abbrev pub tidy_refusals : List ℕ → State → List Refusal
tidy_refusals t st = length18 t ∷ some14 st ∷ whole17 t st ∷ []

abbrev pub figures_refusals : List ℕ → State → List Refusal
figures_refusals t st = length18 t ∷ whole17 t st ∷ []

abbrev pub list_refusals : List ℕ → State → List ℕ → List Refusal
list_refusals t st room = length18 t ∷ whole17 t st ∷ lent15 t room ∷ []
