-- DEMAND 3: "From a reset on: with m put-ins committed and c of them not ended as settled (abandoned ones counted), while a fare is held the height is at most c, or
-- F(height − c + 3) ≤ 2m." A machine meets it if this holds of where every history stands: the same histories as in demand 2.
use Rattle.std.specs.Prelude.{◌*◌, ◌+◌, ◌-◌, ◌≤◌, ℕ, length, List, [], ◌⊎◌, ◌≡◌}
use Rattle.history.specs.History.{Ask}
use Rattle.history.specs.Ledger.{Point, count_c, given, history, put_ins}
use Rattle.history.specs.Machine.{Machine}
use Rattle.machine.specs.Allowed.{fib}
use Rattle.machine.specs.State.{settling}
use Rattle.terms.specs.declared.Answer.TheVariants.{Accepted}
use Rattle.terms.specs.declared.Figures.{Figures}
use Rattle.terms.specs.declared.State.{State}

-- m and c as the buyer words them, off the history: the put-in commits since the reset; those of them whose task has not answered 3 for them, abandoned ones and those
-- that ended with 6 counted
abbrev pub m_at : Point → ℕ
m_at p = put_ins p.account.commits

abbrev pub c_at : Point → ℕ
c_at p = count_c p.account

-- what figures hands back
abbrev pub figures_at : Machine → Point → Figures
figures_at M p = (M.figures p.table p.state).figures

pub record Low (M : Machine) (p : Point) : Type 0 where
  -- figures answers 0, and hands back this m and c
  pub answers : (M.figures p.table p.state).answer ≡ Accepted
  pub m_figure : (figures_at M p).m ≡ m_at p
  pub c_figure : (figures_at M p).c ≡ c_at p
  -- they are the state's m, and u plus the tasks now settling
  pub m_state : p.state.m ≡ m_at p
  pub c_state : p.state.u + settling p.state.tasks 8 ≡ c_at p
  -- the bound
  pub bound : (given p.account.commits ≡ [] → ⊥) → ((figures_at M p).height ≤ c_at p) ⊎ (fib (((figures_at M p).height - c_at p) + 3) ≤ 2 * m_at p)

abbrev pub Demand3 : Machine → Type 0
Demand3 M = (t : List ℕ) (st : State) (cs : List Ask) (n : ℕ) → length t ≡ 6 * n → 8 ≤ n → n ≤ 4096 → Low M (history M t st cs)
