-- What a ride is: calls with their answers and step counts, damage from outside, and what is left after it.
use Prim.Native.Nat.{ℕ}
use mathlib.Core.List.{List}
use Rattle.terms.specs.declared.Rec.{Rec}
use Rattle.terms.specs.declared.Links.{Links}
use Rattle.terms.specs.declared.Path.{Path}
use Rattle.terms.specs.declared.Operation.{Operation}
use Rattle.terms.specs.declared.Phase.{Phase}
use Rattle.terms.specs.declared.Work.TheVariants.{Busy}
use Rattle.terms.specs.declared.Task.{Task}

-- where a ride starts: a reset of so many slots, the end of the ride before, or the start of the ride before
pub data From : Type 0 where
  anew : ℕ → From
  onward : From
  beside : From

pub data Act : Type 0 where
  reset : Act
  begin : ℕ → Operation → ℕ → ℕ → Act
  step : ℕ → ℕ → Act
  abandon : ℕ → Act
  tidy : Act
  figures : Act
  list : ℕ → Act

-- slot, field (0 state, 1 number, 2 price, 3 rank, 4 left, 5 right), value; and the like
pub data Hurting : Type 0 where
  field : ℕ → ℕ → ℕ → Hurting
  m_is : ℕ → Hurting
  u_is : ℕ → Hurting
  length_is : ℕ → Hurting
  task_is : ℕ → Task → Hurting

-- a call with the answer's number and price (step: with the exact count of steps), or damage
pub data Line : Type 0 where
  call : Act → ℕ → ℕ → Line
  damage : Hurting → Line

-- slots not free; number and rank of the root record; the settling commits, 10 * row + side (1, 2 promote case 1, 2; 3, 4 rotate case 1, 2;
-- 5 double rotation; side 0: x is z's left child); busy tasks; list and figures with their answers; all slots up to the last in use
pub record Outcome : Type 0 where
  pub used : ℕ
  pub root : List ℕ
  pub settled : List ℕ
  pub busy : List ℕ
  pub fares : List ℕ
  pub figures : List ℕ
  pub table : List Rec

-- what is left: table and state as before the last call, or an outcome
pub data After : Type 0 where
  same : After
  left : Outcome → After

pub record Ride : Type 0 where
  pub start : From
  pub lines : List Line
  pub after : After

-- short forms for the table of rides
abbrev pub rec : ℕ → ℕ → ℕ → ℕ → ℕ → ℕ → Rec
rec s k p rk l r = record { state = s; number = k; price = p; rank = rk; left = l; right = r }

abbrev pub links : ℕ → ℕ → Links
links l r = record { left = l; right = r }

abbrev pub path : ℕ → ℕ → ℕ → Path
path g p h = record { grand = g; parent = p; here = h }

abbrev pub busy : ℕ → ℕ → Phase → Task
busy k p f = record { work = Busy (record { number = k; price = p }) f }
