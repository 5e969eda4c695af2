-- DEMAND 3 holds of the real machine; its parts, each a theorem of its own on every history.
use Prim.Native.Nat.{◌*◌, ◌+◌, ◌-◌, ◌≤◌, suc, ℕ}
use lib.ListN.{length}
use mathlib.Core.List.{List, [], ◌∷◌}
use mathlib.Core.Logic.{◌⊎◌, inl, inr}
use mathlib.Core.Path.{◌∙◌, ◌≡◌, ap, subst, sym}
use native.Mathlib.Omega.{arith}
use Rattle.demand2.proofs.Fresh.{reset-is, stands-fresh}
use Rattle.demand2.proofs.Keeps.{stands_on}
use Rattle.demand2.proofs.Lengths.{fits-of}
use Rattle.demand2.proofs.Passes.{passing}
use Rattle.demand2.proofs.Seen.{reach-is, the_seen}
use Rattle.demand2.proofs.Stands.{Stands, fits-is, sound-is}
use Rattle.demand3.proofs.Crown.{Crown, crown}
use Rattle.demand3.proofs.Heights.{crown-levels, height-is, height-levels, plain-rank}
use Rattle.demand3.proofs.Open.{c_is}
use Rattle.demand3.proofs.Rich.{Extra, Rich, extra_at, extra_fresh, extra_on}
use Rattle.demand3.proofs.Roles.{settlers-is}
use Rattle.demand3.specs.Demand3.{Demand3, Low, c_at, figures_at, m_at}
use Rattle.fares.specs.Read.{read}
use Rattle.history.specs.History.{Ask}
use Rattle.history.specs.Ledger.{Point, advance, given, goes, history, opening, started}
use Rattle.history.specs.Machine.{real}
use Rattle.machine.specs.Allowed.{fib}
use Rattle.machine.specs.Calls.{figures_of, figures_reached}
use Rattle.machine.specs.Choice.{if_b}
use Rattle.machine.specs.Reach.{reached}
use Rattle.machine.specs.Record.{top_number}
use Rattle.machine.specs.State.{count_open}
use Rattle.owners.proofs.Bound.{owners_le}
use Rattle.potential.proofs.Moves.{owes-sentinel, share_plain}
use Rattle.potential.proofs.Weights.{fib-far}
use Rattle.potential.specs.Potential.{owes, phi}
use Rattle.routes.specs.Route.{lev}
use Rattle.terms.specs.declared.Report.{Report}
use Rattle.terms.specs.declared.State.{State}
use Rattle.trees.specs.Rank.{Ranked, height, rank}
use Rattle.trees.specs.Tree.{Tree, leaf, node}
use Rattle.views.proofs.Law.{in_or_out}

pub rich-on : {p : Point} → Rich p → (c : Ask) → Rich (advance real p c)
unfolding advance
rich-on r c =
    let h = (passing r.stands c).passes in
    let e = extra_on r.stands (extra_at r) h in
    record { stands = stands_on r.stands h; n = r.stands.n; tree = e.0; extra = e.1 }

pub rich-all : {p : Point} → Rich p → (cs : List Ask) → Rich (goes real p cs)
unfolding goes
rich-all r [] = r
rich-all {p} r (c ∷ cs) = rich-all {p = advance real p c} (rich-on r c) cs

pub rich : (t : List ℕ) (st : State) (cs : List Ask) (n : ℕ) → length t ≡ 6 * n → 8 ≤ n → n ≤ 4096 → Rich (history real t st cs)
unfolding history started
rich t st cs n e least most =
    let six : length t ≡ n * 6 = omega arith in
    rich-all (subst (λ l. Rich (record { table = l.table; state = l.state; account = opening })) (sym (reset-is t st (fits-of (length t) n six least most)))
    (record { stands = stands-fresh (length t) n six least most; n = n; tree = leaf 1 top_number 0 255; extra = extra_fresh (length t) n six least most })) cs

module _ {p : Point} (r : Rich p) where
  abbrev s : Stands p
  s = r.stands

  x : Extra s.n s.tree p
  x = extra_at r

  pub figures-reached : figures_of p.table p.state ≡ figures_reached p.table p.state (reached (read s.tree) (the_seen s).marks)
  unfolding figures_of if_b
  figures-reached = rw (fits-is s, sound-is s) (ap (figures_reached p.table p.state) (reach-is s))

  -- "no child outranks its parent"
  pub ranked_is : Ranked s.tree
  ranked_is = s.shape.ranked

  -- "the number of all level records is at most c"
  pub levels-few : lev 255 s.tree ≤ c_at p
  levels-few = omega (arith, owners_le x.owners, settlers-is p.state 8, c_is s)

  -- while a fare is held, the root record's tree, its rank R, the potential and the height
  module _ (held : given p.account.commits ≡ [] → ⊥) where
    pub crowned : Crown s.tree
    crowned = crown s.tree s.shape x.sentinel-leaf (λ e. held (sym s.held ∙ e))

    -- "Phi + Fibonacci(R + 3) ≤ 2m"
    pub paid_is : phi crowned.tree + fib (rank crowned.tree + 3) ≤ 2 * m_at p
    paid_is = go crowned.tree crowned.e crowned.o crowned.whole (plain-rank crowned.tree crowned.plain)
      where
        go : (a : Tree) (e o : ℕ) → s.tree ≡ node e top_number 255 a (leaf o top_number 0 255) → rank a ≤ 28 → phi a + fib (rank a + 3) ≤ 2 * m_at p
        go a e o w small =
            let q : phi s.tree ≡ (owes 255 (rank a) 255 + phi a) + 0 = ap phi w in
            let three : rank a + 3 ≡ suc (suc (suc (rank a))) = omega arith in
            let f : fib (rank a + 3) ≡ fib (suc (suc (suc (rank a)))) = ap fib three in
            omega (arith, q, f, owes-sentinel (rank a) 255, share_plain (rank a) (omega arith), x.paid, s.m-is)

    -- "height ≤ R + level records"
    pub height-few : height crowned.tree ≤ rank crowned.tree + lev 255 s.tree
    height-few = go crowned.tree crowned.e crowned.o crowned.whole (plain-rank crowned.tree crowned.plain)
      where
        go : (a : Tree) (e o : ℕ) → s.tree ≡ node e top_number 255 a (leaf o top_number 0 255) → rank a ≤ 28 → height a ≤ rank a + lev 255 s.tree
        go a e o w small =
            let ra : Ranked a = (subst Ranked w ranked_is).2 in
            let l : lev 255 s.tree ≡ lev 255 (node e top_number 255 a (leaf o top_number 0 255)) = ap (lev 255) w in
            omega (arith, l, crown-levels e o a, height-levels 255 a ra (omega arith))

    -- figures prints this height
    pub height-printed : (figures_at real p).height ≡ height crowned.tree
    unfolding figures_reached
    height-printed = ap (λ (y : Report). y.figures.height) figures-reached ∙ height-is s.tree crowned

    bounded : ((figures_at real p).height ≤ c_at p) ⊎ (fib (((figures_at real p).height - c_at p) + 3) ≤ 2 * m_at p)
    bounded = go (figures_at real p).height (c_at p) (rank crowned.tree) (omega (arith, height-printed, height-few, levels-few)) (omega (arith, paid_is))
      where
        go : (h c R : ℕ) → h ≤ R + c → fib (R + 3) ≤ 2 * m_at p → (h ≤ c) ⊎ (fib ((h - c) + 3) ≤ 2 * m_at p)
        go h c R le f =
            elim (in_or_out c h) [
              | inr q ↦ inl q
              | inl q ↦ inr (
                  let z : (R - (h - c)) + ((h - c) + 3) ≡ R + 3 = omega arith in
                  let m = rw z at (fib-far ((h - c) + 3) (R - (h - c))) in
                  omega (arith, m)
                  )
            ]

  pub low : Low real p
  unfolding figures_reached count_open
  low = record {
    answers = ap (λ (y : Report). y.answer) figures-reached;
    m_figure = ap (λ (y : Report). y.figures.m) figures-reached ∙ s.m-is;
    c_figure = ap (λ (y : Report). y.figures.c) figures-reached ∙ c_is s;
    m_state = s.m-is;
    c_state = c_is s;
    bound = bounded;
  }

-- THE THEOREM
pub demand_3 : Demand3 real
demand_3 t st cs n e least most = low (rich t st cs n e least most)
