-- HOW MANY SLOTS ARE IN USE.
use Rattle.std.specs.Prelude.{◌*◌, ◌+◌, suc, zero, ℕ, eqb, length, ◌≡◌}
use Rattle.demand2.specs.Demand2.{held_at}
use Rattle.history.specs.Ledger.{Point}
use Rattle.history.specs.Machine.{real}
use Rattle.machine.specs.Choice.{if_b}
use Rattle.machine.specs.Table.{View, slots}
use Rattle.structure.specs.Built.{view_of}
use Rattle.terms.specs.declared.Answer.TheVariants.{Accepted}
use Rattle.terms.specs.declared.Report.{Report}

-- of the first k slots, those in state 1, and those that are not free
unfoldable pub in_tree_of : View → ℕ → ℕ
in_tree_of v zero = 0
in_tree_of v (suc k) = in_tree_of v k + if_b (eqb (v k).state 1) 1 0

unfoldable pub in_use_of : View → ℕ → ℕ
in_use_of v zero = 0
in_use_of v (suc k) = in_use_of v k + if_b (eqb (v k).state 0) 0 1

-- what figures hands back
abbrev pub figures_at : Point → Report
figures_at p = real.figures p.table p.state

-- q is where a history stands after an accepted tidy at p
pub record InUse (p q : Point) : Type 0 where
  -- a tidy changes no fare
  pub same-fares : held_at q ≡ held_at p
  -- "With n fares, 2n + 2 slots are then in use."
  pub in_use : in_use_of (view_of q) (slots q.table) ≡ 2 * length (held_at q) + 2
  -- figures says so: fares held and free slots
  pub figures-answer : (figures_at q).answer ≡ Accepted
  pub figures-fares : (figures_at q).figures.fares ≡ length (held_at q)
  pub figures-free : (figures_at q).figures.free + (2 * (figures_at q).figures.fares + 2) ≡ slots q.table
