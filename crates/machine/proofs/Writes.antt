-- A row of calls, each of which carries out one write, is the list of these writes; and an outcome that writes nothing.
use mathlib.Core.Path.{◌≡◌, refl}
use mathlib.Core.Bool.{false}
use mathlib.Core.List.{List, [], ◌∷◌}
use Prim.Native.Nat.{ℕ}
use Rattle.terms.specs.declared.Turn.{Turn}
use Rattle.terms.specs.declared.Outcome.{Outcome}
use Rattle.machine.specs.Table.{Write, put, puts}
use Rattle.machine.specs.Commit.{Did, calm}
use Rattle.machine.specs.Contract.{acted, played}

pub no_more : (t : List ℕ) → t ≡ puts t []
unfolding puts
no_more t = refl

pub and_then : (t : List ℕ) (a : Write) (ws : List Write) (u w : List ℕ) → u ≡ put t a → w ≡ puts u ws → w ≡ puts t (a ∷ ws)
unfolding puts
and_then t a ws u w e f = rw e at f

-- what the code hands back where nothing is written
abbrev pub calmly : Turn → Outcome
calmly a = record { turn = a; committed = false }

calm-played : (t : List ℕ) (a : Turn) → acted t (calmly a) ≡ played t (calm a)
unfolding acted played puts
calm-played t a = refl

pub quiet : (t : List ℕ) (o : Outcome) (x : Turn) (d : Did) → o ≡ calmly x → d ≡ calm x → acted t o ≡ played t d
quiet t o x d eo ed = rw (eo, ed) (calm-played t x)
