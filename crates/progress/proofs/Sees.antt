-- A TASK THAT LEFT THE ENTRY IN THE TABLE AS IT IS: where it stands in the tree, what it has noted, and how many steps it has left to its commit or its end.
use Prim.Native.Nat.{◌+◌, ◌≤◌, suc, ℕ}
use borrow.Author.Tests.{eq-eqb, ne_eqb}
use lib.Dec.{eqb}
use mathlib.Core.Bool.{Bool, ◌||◌, false, true}
use mathlib.Core.List.{[]}
use mathlib.Core.Path.{◌≡◌, ap, refl, subst}
use native.Mathlib.Omega.{arith}
use Rattle.commits.proofs.Forms.{root-join}
use Rattle.machine.specs.Commit.{Did}
use Rattle.machine.specs.Record.{is_leaf, leads, links_of}
use Rattle.machine.specs.Rows.{around_of}
use Rattle.machine.specs.Table.{View}
use Rattle.progress.specs.Restarts.{is_start}
use Rattle.steps.specs.Does.{walks}
use Rattle.terms.specs.Task.{busy, no_grand}
use Rattle.terms.specs.declared.Goal.{Goal}
use Rattle.terms.specs.declared.Goal.TheVariants.{Serve, Settle}
use Rattle.terms.specs.declared.Job.{Job}
use Rattle.terms.specs.declared.Operation.TheVariants.{LookUp, PutIn, TakeOut}
use Rattle.terms.specs.declared.Path.{Path}
use Rattle.terms.specs.declared.Phase.{Phase}
use Rattle.terms.specs.declared.Phase.TheVariants.{PuttingIn, Settling, Start, TakingOut, Walk}
use Rattle.terms.specs.declared.PutStage.{PutStage}
use Rattle.terms.specs.declared.PutStage.TheVariants.{PutCommit, PutLeaf, PutParent}
use Rattle.terms.specs.declared.Rec.{Rec}
use Rattle.terms.specs.declared.SettleStage.{SettleStage}
use Rattle.terms.specs.declared.SettleStage.TheVariants.{SettleChoose, SettleDouble, SettleGrand, SettleParent, SettleRotate}
use Rattle.terms.specs.declared.TakeStage.{TakeStage}
use Rattle.terms.specs.declared.TakeStage.TheVariants.{TakeCommit, TakeGrand, TakeLeft, TakeParent, TakeRight}
use Rattle.terms.specs.declared.Turn.{Turn}
use Rattle.terms.specs.declared.Turn.TheVariants.{Done, Hurt, Next}
use Rattle.trees.proofs.Held.{Carries, at_place, occ_c-entry, root-occ, root-one, zero_out}
use Rattle.trees.proofs.Plug.{ind-same, occ-plug}
use Rattle.trees.specs.Rank.{height}
use Rattle.trees.specs.Tree.{Ctx, Holds, HoldsC, Tree, hole, join, leaf, leaf_rec, node, occ, parent, plug, pside, root, top}
use Rattle.views.specs.Update.{link}

-- the record two above the hole; above the entry there is none
abbrev pub grand_of : Ctx → ℕ
grand_of top = no_grand
grand_of (hole b s k rk u c) = parent c

-- a path leads to the place where u stands
pub record At (t : Tree) (q : Path) (u : Tree) : Type 0 where
  pub c : Ctx
  pub whole : t ≡ plug c u
  pub here : q.here ≡ root u
  pub up : q.parent ≡ parent c
  pub grand : q.grand ≡ grand_of c

-- a record in the tree that leads to slot s
abbrev pub Over : View → ℕ → ℕ → Type 0
Over v a s = ((v a).state ≡ 1) × (leads (links_of (v a)) s ≡ true)

-- parent and here, in the tree, and for a take-out and for settling the grandparent
abbrev pub Two : View → Path → Type 0
Two v q = Over v q.parent q.here × ((v q.here).state ≡ 1)

abbrev pub Three : View → Path → Type 0
Three v q = Over v q.grand q.parent × Two v q

-- the links noted so far are those of the records now
abbrev pub PutSees : View → Path → PutStage → Type 0
PutSees v q PutParent = Unit {0}
PutSees v q (PutLeaf a) = a ≡ links_of (v q.parent)
PutSees v q (PutCommit a b) = (a ≡ links_of (v q.parent)) × (b ≡ links_of (v q.here))

abbrev pub TakeSees : View → Path → TakeStage → Type 0
TakeSees v q TakeGrand = Unit {0}
TakeSees v q (TakeParent a) = a ≡ links_of (v q.grand)
TakeSees v q (TakeLeft a b) = (a ≡ links_of (v q.grand)) × (b ≡ links_of (v q.parent))
TakeSees v q (TakeRight a b c) = (a ≡ links_of (v q.grand)) × (b ≡ links_of (v q.parent)) × (c ≡ links_of (v b.left)) × ((v b.left).state ≡ 1)
TakeSees v q (TakeCommit a b c d) =
    (a ≡ links_of (v q.grand)) × (b ≡ links_of (v q.parent)) × (c ≡ links_of (v b.left)) × ((v b.left).state ≡ 1) × (d ≡ links_of (v b.right)) × ((v b.right).state ≡ 1)

abbrev pub SettleSees : View → Path → SettleStage → Type 0
SettleSees v q SettleGrand = Unit {0}
SettleSees v q (SettleParent a) = a ≡ links_of (v q.grand)
SettleSees v q (SettleChoose a b) = (a ≡ links_of (v q.grand)) × (b ≡ links_of (v q.parent))
SettleSees v q (SettleRotate a b c) = (a ≡ links_of (v q.grand)) × (b ≡ links_of (v q.parent)) × (c ≡ links_of (v q.here))
SettleSees v q (SettleDouble a b c d) =
    (a ≡ links_of (v q.grand)) × (b ≡ links_of (v q.parent)) × (c ≡ links_of (v q.here)) × (d ≡ links_of (v (around_of q a b c).y)) × ((v (around_of q a b c).y).state ≡ 1)

-- the steps left after the walk, and at each stage: the readings and the commit
abbrev pub after_walk : Goal → ℕ
after_walk (Serve LookUp) = 0
after_walk (Serve PutIn) = 3
after_walk (Serve TakeOut) = 5
after_walk Settle = 5

abbrev pub put_left : PutStage → ℕ
put_left PutParent = 3
put_left (PutLeaf a) = 2
put_left (PutCommit a b) = 1

abbrev pub take_left : TakeStage → ℕ
take_left TakeGrand = 5
take_left (TakeParent a) = 4
take_left (TakeLeft a b) = 3
take_left (TakeRight a b c) = 2
take_left (TakeCommit a b c d) = 1

abbrev pub settle_left : SettleStage → ℕ
settle_left SettleGrand = 5
settle_left (SettleParent a) = 4
settle_left (SettleChoose a b) = 3
settle_left (SettleRotate a b c) = 2
settle_left (SettleDouble a b c d) = 1

-- with d steps left
abbrev pub Sees : View → Tree → Phase → ℕ → Type 0
Sees v t (Start g) d = d ≡ suc (height t) + after_walk g
Sees v t (Walk g q) d = (u : Tree) × At t q u × (1 ≤ height u) × (d ≡ height u + after_walk g)
Sees v t (PuttingIn q s) d = Two v q × PutSees v q s × (d ≡ put_left s)
Sees v t (TakingOut q s) d = Three v q × TakeSees v q s × (d ≡ take_left s)
Sees v t (Settling q s) d = Three v q × SettleSees v q s × (d ≡ settle_left s)

-- there is always one
pub sees_pos : (v : View) (t : Tree) (f : Phase) (d : ℕ) → Sees v t f d → 1 ≤ d
sees_pos v t (Start g) d s = omega arith
sees_pos v t (Walk g q) d s = omega (arith, s.2, s.3)
sees_pos v t (PuttingIn q PutParent) d s = omega (arith, s.2)
sees_pos v t (PuttingIn q (PutLeaf a)) d s = omega (arith, s.2)
sees_pos v t (PuttingIn q (PutCommit a b)) d s = omega (arith, s.2)
sees_pos v t (TakingOut q TakeGrand) d s = omega (arith, s.2)
sees_pos v t (TakingOut q (TakeParent a)) d s = omega (arith, s.2)
sees_pos v t (TakingOut q (TakeLeft a b)) d s = omega (arith, s.2)
sees_pos v t (TakingOut q (TakeRight a b c)) d s = omega (arith, s.2)
sees_pos v t (TakingOut q (TakeCommit a b c e)) d s = omega (arith, s.2)
sees_pos v t (Settling q SettleGrand) d s = omega (arith, s.2)
sees_pos v t (Settling q (SettleParent a)) d s = omega (arith, s.2)
sees_pos v t (Settling q (SettleChoose a b)) d s = omega (arith, s.2)
sees_pos v t (Settling q (SettleRotate a b c)) d s = omega (arith, s.2)
sees_pos v t (Settling q (SettleDouble a b c e)) d s = omega (arith, s.2)

-- a turn without writes: no walk starts again, no walk finds damage, and there are fewer steps left
abbrev pub Onward : View → Tree → Job → Phase → ℕ → Turn → Type 0
Onward v t j f d Hurt = walks f ≡ false
Onward v t j f d (Next k) = (f' : Phase) × (d' : ℕ) × (k ≡ busy j f') × (is_start f' ≡ false) × Sees v t f' d' × (suc d' ≤ d)
Onward v t j f d (Done a) = Unit {0}

abbrev pub GoesOn : View → Tree → Job → Phase → ℕ → Did → Type 0
GoesOn v t j f d x = x.writes ≡ [] → Onward v t j f d x.turn

-- ---- what the place tells

pub up_facts : (v : View) (c : Ctx) (h : ℕ) → HoldsC v c h → ((v (parent c)).state ≡ 1) × (link (pside c) (v (parent c)) ≡ h)
up_facts v top h g = (ap (λ r. r.state) g, ap (λ r. r.left) g)
up_facts v (hole true s k rk u c) h g = (ap (λ r. r.state) g.0, ap (λ r. r.left) g.0)
up_facts v (hole false s k rk u c) h g = (ap (λ r. r.state) g.0, ap (λ r. r.right) g.0)

either : (a b : Bool) → a ≡ true → (a || b) ≡ true
either true b e = refl
either false b e = absurd (let z : ◌≡◌ {A = ℕ} 0 1 = cc in omega arith)

either_second : (a b : Bool) → b ≡ true → (a || b) ≡ true
either_second true b e = refl
either_second false b e = e

pub link-leads : (r : Rec) (d : Bool) (s : ℕ) → link d r ≡ s → (s ≡ 0 → ⊥) → leads (links_of r) s ≡ true
unfolding leads
link-leads r true s e nz = rw (ne_eqb s 0 nz) (either _ _ (eq-eqb r.left s e))
link-leads r false s e nz = rw (ne_eqb s 0 nz) (either_second (eqb r.left s) _ (eq-eqb r.right s e))

over-at : (v : View) (c : Ctx) (h : ℕ) → HoldsC v c h → (h ≡ 0 → ⊥) → Over v (parent c) h
over-at v c h g nz = let f = up_facts v c h g in (f.0, link-leads (v (parent c)) (pside c) h f.1 nz)

-- no place is the entry's
pub place-pos : (v : View) (c : Ctx) (u : Tree) → Carries v (plug c u) → root u ≡ 0 → ⊥
place-pos v c u i e =
    let z : 1 ≤ occ 0 u = subst (λ y. 1 ≤ occ y u) e (root-occ u) in
    omega (arith, occ-plug 0 c u, zero_out v (plug c u) i, ind-same 0, occ_c-entry c)

pub leaf_is : (v : View) (u : Tree) → Holds v u → is_leaf (v (root u)) ≡ false → 1 ≤ height u
unfolding is_leaf
leaf_is v (leaf s k pr rk) h e = absurd (let z : is_leaf (leaf_rec k pr rk) ≡ false = rw h at e in let y : ◌≡◌ {A = ℕ} 0 1 = cc in omega arith)
leaf_is v (node s k rk l r) h e = omega arith

module _ (v : View) (t : Tree) (i : Carries v t) where
  -- what a place holds
  pub held : (c : Ctx) (u : Tree) → t ≡ plug c u → HoldsC v c (root u) × Holds v u
  held c u w = at_place v c u (subst (Carries v) w i)

  pub two_at : (q : Path) (u : Tree) → At t q u → Two v q
  two_at q u a =
      let h = held a.c u a.whole in
      let nz = place-pos v a.c u (subst (Carries v) a.whole i) in
      rw (a.here, a.up) (over-at v a.c (root u) h.0 nz, root-one v u h.1)

  -- below the top there is a grandparent
  pub three-at : (q : Path) (u : Tree) → At t q u → (q.parent ≡ 0 → ⊥) → Three v q
  three-at q u a low = (over a.c a.whole a.up a.grand, two_at q u a)
    where
      over : (c : Ctx) → t ≡ plug c u → q.parent ≡ parent c → q.grand ≡ grand_of c → Over v q.grand q.parent
      over top w e f = absurd (low e)
      over (hole b s k rk x c) w e f =
          let h = held c (join b s k rk u x) w in
          let nz = place-pos v c (join b s k rk u x) (subst (Carries v) w i) in
          rw (e, f) (subst (Over v (parent c)) (root-join b s k rk u x) (over-at v c (root (join b s k rk u x)) h.0 nz))
