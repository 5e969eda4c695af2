-- What the entry reaches: ways of links, the damage on them, and the fares.
use Rattle.std.specs.Prelude.{ℕ, ◌*◌, ◌<◌, ◌≡◌, Bool, true, false, List, [], ◌∷◌, ◌≢◌, length}
use Rattle.terms.specs.declared.Rec.{Rec}
use Rattle.machine.specs.Table.{View}
use Rattle.grounds.specs.Order.{Among, Twice}
use Rattle.grounds.specs.Record.{NoLinks, WellFormed, Sentinel}

-- a way: at each record to the left (true) or to the right (false)
abbrev pub Way : Type 0
Way = List Bool

-- the link on a side
abbrev pub link_on : Bool → Rec → ℕ
link_on true r = r.left
link_on false r = r.right

-- the way leads along links from slot a to slot b: "A left or right of 0 means no link"
abbrev pub Goes : View → ℕ → Way → ℕ → Type 0
Goes v a [] b = a ≡ b
Goes v a (side ∷ w) b = (link_on side (v a) ≢ 0) × Goes v (link_on side (v a)) w b

-- 17, "Tidy, figures and list: a record reachable from the entry isn't well formed, is in state 2 or is reached twice."
pub data ReachDamaged (v : View) (n : ℕ) : Type 0 where
  not_well_formed : (w : Way) (s : ℕ) → Goes v 0 w s → ¬ (WellFormed n s (v s)) → ReachDamaged v n
  in_state_2 : (w : Way) (s : ℕ) → Goes v 0 w s → (v s).state ≡ 2 → ReachDamaged v n
  reached-twice : (w u : Way) (s : ℕ) → w ≢ u → Goes v 0 w s → Goes v 0 u s → ReachDamaged v n

-- a fare is a leaf that isn't a sentinel
abbrev pub Fare : Rec → Type 0
Fare r = NoLinks r × (¬ (Sentinel r))

-- the slots of the fares that the entry reaches, each once
pub record Fares (v : View) (fs : List ℕ) : Type 0 where
  pub each_is_one : (s : ℕ) → Among fs s → (w : Way) × Goes v 0 w s × Fare (v s)
  pub each_is_there : (w : Way) (s : ℕ) → Goes v 0 w s → Fare (v s) → Among fs s
  pub none-twice : ¬ (Twice fs)

-- 15, "A list lent fewer than two numbers a fare gives 15"
abbrev pub RoomLentShort : View → List ℕ → Type 0
RoomLentShort v room = (fs : List ℕ) × Fares v fs × (length room < 2 * length fs)
