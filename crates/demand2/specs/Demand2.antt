-- DEMAND 2: "From a reset on with only these calls touching table and tasks, the fares held are always those that the committed put-ins and take-outs give in commit
-- order." A machine meets it if on every history, which is the reset call on any table of 6 times 8 to 4,096 numbers and any state, then any list of calls with any
-- arguments, this holds of where the history stands.
use Rattle.std.specs.Prelude.{◌*◌, ◌<◌, ◌≤◌, ℕ, drop, length, List, ◌++◌, ◌≡◌}
use Rattle.history.specs.Fares.{Lawful, Sorted}
use Rattle.history.specs.History.{Ask}
use Rattle.history.specs.Ledger.{Fare, Point, given, history, put_ins, written}
use Rattle.history.specs.Machine.{Machine}
use Rattle.terms.specs.declared.Answer.TheVariants.{Accepted, NoRoom}
use Rattle.terms.specs.declared.State.{State}

-- the fares that the commits of the history give
abbrev pub held_at : Point → List Fare
held_at p = given p.account.commits

pub record Kept (M : Machine) (p : Point) : Type 0 where
  -- list with room for two numbers a fare answers 0 and writes them, number and price, later places stay; with less room it answers 15 and writes nothing
  pub listed : (room : List ℕ) → 2 * length (held_at p) ≤ length room
      → M.list p.table p.state room ≡ record { answer = Accepted; room = written (held_at p) ++ drop (2 * length (held_at p)) room }
  pub no_room : (room : List ℕ) → length room < 2 * length (held_at p) → M.list p.table p.state room ≡ record { answer = NoRoom; room = room }
  -- they are sorted by number, no number twice
  pub sorted : Sorted (held_at p)
  -- m counts the put-ins committed since the reset: it is one more at each of them and changes nowhere else
  pub counted : p.state.m ≡ put_ins p.account.commits
  -- every put-in committed a number that was not held, every take-out one that was
  pub lawful : Lawful p.account.commits

abbrev pub Demand2 : Machine → Type 0
Demand2 M = (t : List ℕ) (st : State) (cs : List Ask) (n : ℕ) → length t ≡ 6 * n → 8 ≤ n → n ≤ 4096 → Kept M (history M t st cs)
