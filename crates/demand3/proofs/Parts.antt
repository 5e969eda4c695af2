-- The parts of demand 3 in the words of figures: level records at most c, the root's rank at most the allowed rank, and that height is the longest way.
use Prim.Native.Nat.{◌*◌, ◌+◌, ◌<◌, ◌≤◌, ℕ}
use borrow.Author.Tests.{eq-eqb, ne_eqb}
use lib.Dec.{eqb}
use lib.ListN.{length}
use mathlib.Core.Bool.{Bool, ◌&&◌, false, not, true}
use mathlib.Core.List.{List, [], ◌∷◌}
use mathlib.Core.Logic.{◌⊎◌, inl, inr}
use mathlib.Core.Path.{◌∙◌, ◌≡◌, ap, refl, subst, sym}
use native.Mathlib.Omega.{arith}
use Rattle.commits.proofs.Grounds.{root-rank}
use Rattle.demand2.proofs.Stands.{Stands, slots-is}
use Rattle.demand3.proofs.Crown.{Crown, Plain}
use Rattle.demand3.proofs.Demand3.{crowned, figures-reached, height-printed, levels-few, low, paid_is, rich}
use Rattle.demand3.proofs.Rich.{Rich}
use Rattle.demand3.specs.Demand3.{figures_at, m_at}
use Rattle.demand3.specs.Longest.{Longest, root_of}
use Rattle.fares.proofs.Whole.{fare-test}
use Rattle.fares.specs.Read.{read}
use Rattle.history.specs.History.{Ask}
use Rattle.history.specs.Ledger.{Point, given, history}
use Rattle.history.specs.Machine.{real}
use Rattle.machine.proofs.Allowed.{allowed_largest}
use Rattle.machine.specs.Allowed.{allowed_rank, fib}
use Rattle.machine.specs.Calls.{figures_reached}
use Rattle.machine.specs.Choice.{if_b}
use Rattle.machine.specs.PutIn.{inner_of}
use Rattle.machine.specs.Reach.{levels}
use Rattle.machine.specs.Record.{is_fare, level, sentinel, top_number}
use Rattle.machine.specs.State.{count_open, one}
use Rattle.machine.specs.Table.{View, slots, view}
use Rattle.potential.specs.Potential.{phi}
use Rattle.routes.specs.Route.{lev, lv, lvs}
use Rattle.terms.specs.declared.Rec.{Rec}
use Rattle.terms.specs.declared.Report.{Report}
use Rattle.terms.specs.declared.State.{State}
use Rattle.trees.proofs.Held.{Carries, root-occ, zero_out}
use Rattle.trees.specs.Marks.{LeafMarks, Marked, NodeMarks}
use Rattle.trees.specs.Rank.{height, rank}
use Rattle.trees.specs.Tree.{Holds, Tree, leaf, leaf_rec, node, occ, root}
use Rattle.trees.specs.Ways.{Leads}
use Rattle.views.proofs.Law.{in_or_out, same_or}
use Rattle.views.specs.Update.{link}

-- ---- level records

eqb_sym : (a b : ℕ) → eqb a b ≡ eqb b a
eqb_sym a b = elim (same_or a b) [ inl e ↦ eq-eqb a b e ∙ sym (eq-eqb b a (sym e)) | inr d ↦ ne_eqb a b d ∙ sym (ne_eqb b a (λ e. d (sym e))) ]

leaf_level : (q : Rec) (k pr rk : ℕ) → LeafMarks k pr rk → one (level q (leaf_rec k pr rk)) ≡ lvs q.rank rk 1
unfolding level sentinel lv if_b
leaf_level q k pr rk (inl m) = rw (m.0, m.1, m.2) (go (eqb q.rank 255))
  where
    go : (b : Bool) → ◌≡◌ {A = ℕ} 0 (if_b (b && not (eqb 255 255)) 1 0)
    go true = refl
    go false = refl
leaf_level q k pr rk (inr m) = rw (ne_eqb k top_number (λ e. omega (arith, m.0)), m.2, eqb_sym 0 q.rank) (go (eqb q.rank 0))
  where
    go : (b : Bool) → one b ≡ if_b (b && not (eqb 0 255)) 1 0
    go true = refl
    go false = refl

node_level : (q : Rec) (k rk l r : ℕ) → NodeMarks k rk → one (level q (inner_of k rk l r)) ≡ lvs q.rank rk 1
unfolding level sentinel lv if_b
node_level q k rk l r (inl m) = rw (m.0, m.1) (go (eqb q.rank 255))
  where
    go : (b : Bool) → ◌≡◌ {A = ℕ} 0 (if_b (b && not (eqb 255 255)) 1 0)
    go true = refl
    go false = refl
node_level q k rk l r (inr m) = rw (ne_eqb k top_number (λ e. omega (arith, m.0)), ne_eqb rk 255 (λ e. omega (arith, m.2)), eqb_sym rk q.rank) (go (eqb q.rank rk))
  where
    go : (b : Bool) → one b ≡ if_b (b && true) 1 0
    go true = refl
    go false = refl

levels-is : (q : Rec) (t : Tree) → Marked t → levels q (read t) ≡ lev q.rank t
levels-is q (leaf s k pr rk) m = leaf_level q k pr rk m
levels-is q (node s k rk l r) m =
    omega (arith, node_level q k rk (root l) (root r) m.0, levels-is (inner_of k rk (root l) (root r)) l m.1, levels-is (inner_of k rk (root l) (root r)) r m.2)

-- ---- ways

module _ (v : View) where
  way_leaf : (s k pr rk : ℕ) → v s ≡ leaf_rec k pr rk → (b : Bool) → link b (v s) ≡ 0
  way_leaf s k pr rk h true = ap (λ r. r.left) h
  way_leaf s k pr rk h false = ap (λ r. r.right) h

  way_short : (t : Tree) → Holds v t → (path : List Bool) (x : ℕ) → Leads v (root t) path x → length path ≤ height t
  way_short (leaf s k pr rk) h [] x w = omega arith
  way_short (leaf s k pr rk) h (b ∷ bs) x w = absurd (w.0 (way_leaf s k pr rk h b))
  way_short (node s k rk l r) h [] x w = omega arith
  way_short (node s k rk l r) h (true ∷ bs) x w =
      omega (arith, way_short l h.1 bs x (subst (λ y. Leads v y bs x) (ap (λ q. q.left) h.0) w.1))
  way_short (node s k rk l r) h (false ∷ bs) x w =
      omega (arith, way_short r h.2 bs x (subst (λ y. Leads v y bs x) (ap (λ q. q.right) h.0) w.1))

  record Deepest (t : Tree) : Type 0 where
    path : List Bool
    fare : ℕ
    leads : Leads v (root t) path fare
    is-fare : is_fare (v fare) ≡ true
    long : length path ≡ height t

  deepest : (t : Tree) → Holds v t → Plain t → occ 0 t ≡ 0 → Deepest t
  deepest (leaf s k pr rk) h p z = record {
    path = [];
    fare = s;
    leads = refl;
    is-fare = rw h (fare-test k pr rk p.0 ∙ ap (λ y. not (eqb y 255)) p.1);
    long = refl;
  }
  deepest (node s k rk l r) h p z =
      pick (deepest l h.1 p.2 (omega arith)) (deepest r h.2 p.3 (omega arith)) (in_or_out (height l) (height r))
    where
      nz : (u : Tree) → occ 0 u ≡ 0 → root u ≡ 0 → ⊥
      nz u y e = let w : 1 ≤ occ 0 u = rw e at (root-occ u) in omega arith

      left_is : link true (v s) ≡ root l
      left_is = ap (λ q. q.left) h.0

      right_is : link false (v s) ≡ root r
      right_is = ap (λ q. q.right) h.0

      pick : Deepest l → Deepest r → (height l < height r) ⊎ (height r ≤ height l) → Deepest (node s k rk l r)
      pick a b (inl lt) = record {
        path = false ∷ b.path;
        fare = b.fare;
        leads = (λ e. nz r (omega arith) (sym right_is ∙ e), subst (λ y. Leads v y b.path b.fare) (sym right_is) b.leads);
        is-fare = b.is-fare;
        long = omega (arith, b.long);
      }
      pick a b (inr le) = record {
        path = true ∷ a.path;
        fare = a.fare;
        leads = (λ e. nz l (omega arith) (sym left_is ∙ e), subst (λ y. Leads v y a.path a.fare) (sym left_is) a.leads);
        is-fare = a.is-fare;
        long = omega (arith, a.long);
      }

-- the root record hangs on the top's left
root-holds : (v : View) (t : Tree) → Carries v t → (x : Tree) (b o : ℕ) → t ≡ node b top_number 255 x (leaf o top_number 0 255) → (root_of v ≡ root x) × Holds v x
root-holds v t i x b o w =
    let i' : Carries v (node b top_number 255 x (leaf o top_number 0 255)) = subst (Carries v) w i in
    (ap (λ y. (v y).left) (ap (λ r. r.left) i'.entry) ∙ ap (λ r. r.left) i'.holds.0, i'.holds.1)

-- ---- on every history

module _ (t : List ℕ) (st : State) (cs : List Ask) (n : ℕ) (e : length t ≡ 6 * n) (least : 8 ≤ n) (most : n ≤ 4096) where
  abbrev here : Point
  here = history real t st cs

  abbrev the_rich : Rich here
  the_rich = rich t st cs n e least most

  abbrev s : Stands here
  s = the_rich.stands

  -- the level records that figures counts
  pub levels-printed : (figures_at real here).level ≤ (figures_at real here).c
  unfolding figures_reached count_open
  levels-printed =
      let f : (figures_at real here).level ≡ levels (view (slots here.table) here.table 0) (read s.tree) = ap (λ (y : Report). y.figures.level) (figures-reached the_rich) in
      let v0 : (view (slots here.table) here.table 0).rank ≡ 255 = ap (λ k. (view k here.table 0).rank) (slots-is s) ∙ ap (λ r. r.rank) s.carries.entry in
      let l : levels (view (slots here.table) here.table 0) (read s.tree) ≡ lev 255 s.tree = levels-is _ s.tree s.shape.marks ∙ ap (λ q. lev q s.tree) v0 in
      omega (arith, f, l, levels-few the_rich, (low the_rich).c_figure)

  module _ (held : given here.account.commits ≡ [] → ⊥) where
    -- "so the root's rank is at most the allowed rank that figures prints"
    pub root-allowed : (view (slots here.table) here.table (root_of (view (slots here.table) here.table))).rank ≤ (figures_at real here).allowed
    unfolding figures_reached
    root-allowed = rw (slots-is s) (go (crowned the_rich held) (paid_is the_rich held))
      where
        go : (k : Crown s.tree) → phi k.tree + fib (rank k.tree + 3) ≤ 2 * m_at here
            → (view s.n here.table (root_of (view s.n here.table))).rank ≤ (figures_at real here).allowed
        go k paid =
            let a : (figures_at real here).allowed ≡ allowed_rank here.state.m = ap (λ (y : Report). y.figures.allowed) (figures-reached the_rich) in
            let r = root-holds (view s.n here.table) s.tree s.carries k.tree k.e k.o k.whole in
            let q : (view s.n here.table (root_of (view s.n here.table))).rank ≡ rank k.tree = ap (λ y. (view s.n here.table y).rank) r.0 ∙ root-rank _ k.tree r.1 in
            omega (arith, q, a, allowed_largest here.state.m (rank k.tree) s.limit (omega (arith, s.m-is)))

    -- height is the longest way
    pub height-longest : Longest (view (slots here.table) here.table) (root_of (view (slots here.table) here.table)) (figures_at real here).height
    height-longest = rw (slots-is s, height-printed the_rich held) (longest (crowned the_rich held))
      where
        longest : (k : Crown s.tree) → Longest (view s.n here.table) (root_of (view s.n here.table)) (height k.tree)
        longest k =
            let r = root-holds (view s.n here.table) s.tree s.carries k.tree k.e k.o k.whole in
            let z : occ 0 k.tree ≡ 0 = none k.tree k.e k.o k.whole in
            let d = deepest (view s.n here.table) k.tree r.1 k.plain z in
            rw r.0 (record {
              none-longer = λ path x w f. way_short (view s.n here.table) k.tree r.1 path x w;
              path = d.path;
              fare = d.fare;
              leads = d.leads;
              is-fare = d.is-fare;
              long = d.long;
            })
          where
            none : (x : Tree) (b o : ℕ) → s.tree ≡ node b top_number 255 x (leaf o top_number 0 255) → occ 0 x ≡ 0
            none x b o w = let y : occ 0 (node b top_number 255 x (leaf o top_number 0 255)) ≡ 0 = subst (λ u. occ 0 u ≡ 0) w (zero_out _ s.tree s.carries) in omega arith
