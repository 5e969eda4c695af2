-- THE TREE ALONG A HISTORY: what each call does to the view and its tree, and how a property of them is carried along every history.
use Prim.Native.Nat.{◌*◌, ◌≤◌, ℕ}
use lib.ListN.{length}
use mathlib.Core.List.{List, [], ◌++◌, ◌∷◌}
use mathlib.Core.Logic.{inl}
use mathlib.Core.Path.{◌≡◌, refl, subst, sym}
use native.Mathlib.Omega.{arith}
use Rattle.commits.proofs.Acts.{Act, Kind, proper}
use Rattle.commits.proofs.Shape.{Shape}
use Rattle.demand2.proofs.Demand2.{keeps}
use Rattle.demand2.proofs.Fresh.{fresh-carries, fresh-size, fresh-tree, reset-is, stands-fresh}
use Rattle.demand2.proofs.Lengths.{fits-of}
use Rattle.demand2.proofs.Passes.{Passes, abandons, begins, first_tree, looks, passing, refused, resets, steps, tidies, tree_after, view_at}
use Rattle.demand2.proofs.Seen.{the_seen}
use Rattle.demand2.proofs.Stands.{Stands}
use Rattle.fares.proofs.Tidied.{Swept, swept, swept-carries}
use Rattle.history.specs.History.{Ask, left}
use Rattle.history.specs.Ledger.{Account, Point, advance, goes, history, noted, opening, started}
use Rattle.history.specs.Machine.{real}
use Rattle.machine.specs.Calls.{empty_table, sweep}
use Rattle.machine.specs.Commit.{Did}
use Rattle.machine.specs.State.{fresh_state}
use Rattle.machine.specs.Step.{Left, same}
use Rattle.machine.specs.Table.{View, Write, puts, view}
use Rattle.steps.specs.Does.{Does, put-commits, rests, settle-commits, take-commits}
use Rattle.terms.specs.declared.Answer.TheVariants.{Accepted}
use Rattle.terms.specs.declared.Job.{Job}
use Rattle.terms.specs.declared.Phase.{Phase}
use Rattle.terms.specs.declared.State.{State}
use Rattle.trees.proofs.Held.{Carries}
use Rattle.trees.proofs.OneTree.{one-tree}
use Rattle.trees.specs.Tree.{Tree}
use Rattle.views.proofs.Law.{length_law, view-law}
use Rattle.views.specs.Update.{Within, upds}

-- a call changes nothing, commits, sweeps the slots that are not reachable, or starts anew
pub data Change (n : ℕ) (v : View) (t : Tree) (w : View) : Tree → Type 0 where
  none : w ≡ v → Change n v t w t
  commit : {kind : Kind} {t' : Tree} → Act v kind t w t' → Change n v t w t'
  swept-off : Swept n v w → Change n v t w t
  anew : Carries w first_tree → Change n v t w first_tree

first-shape : Shape first_tree
first-shape = record { ranked = tt; limit = omega arith; order = (omega arith, omega arith); marks = inl (refl, refl, refl) }

pub change-carries : {n : ℕ} {v w : View} {t t' : Tree} → Change n v t w t' → Carries v t → Shape t → Carries w t' × Shape t'
change-carries {t = t} (none e) i sh = (subst (λ x. Carries x t) (sym e) i, sh)
change-carries (commit act) i sh = let r = proper act i sh in (r.surgery.after, r.shape)
change-carries {n = n} {v = v} {w = w} {t = t} (swept-off q) i sh = (swept-carries n v w t q i, sh)
change-carries (anew i') i sh = (i', first-shape)

module _ {p : Point} (s : Stands p) where
  -- a commit, as the table after it reads
  wrote : {kind : Kind} {t' : Tree} (ws : List Write) → Within s.n ws → Act (view_at s) kind s.tree (upds (view_at s) ws) t'
      → Change s.n (view_at s) s.tree (view s.n (puts p.table ws)) t'
  wrote {kind} {t'} ws h act = commit (subst (λ w. Act (view_at s) kind s.tree w t') (sym (view-law s.n p.table ws s.size h)) act)

  step-change : {j : Job} {f : Phase} {d : Did} (does : Does (view_at s) s.tree p.state.m j f d) → Within s.n d.writes
      → Change s.n (view_at s) s.tree (view s.n (puts p.table d.writes)) (tree_after does)
  unfolding puts
  step-change (rests x q) h = none refl
  step-change (put-commits b ws lim g ch) h = wrote ws h ch.act
  step-change (take-commits ws g ch) h = wrote ws h ch.act
  step-change (settle-commits ws g ch) h = wrote ws h ch.act

  -- EVERY call
  pub change : {c : Ask} {l : Left} {a : Account} {t' : Tree} → Passes s c l a t' → Change s.n (view_at s) s.tree (view s.n l.table) t'
  change (refused x h) = none refl
  change (looks x h) = none refl
  change resets = anew (fresh-carries (length p.table) s.n s.size s.least s.most)
  change (begins i o j lt idle f) = none refl
  change (steps i j f d lt at e h does b) = step-change does h
  change (abandons i du x lt b e h) = none refl
  change (tidies e) = swept-off (swept s.n p.table s.tree (the_seen s) s.size)

  pub after-long : {c : Ask} {l : Left} {a : Account} {t' : Tree} → Passes s c l a t' → length l.table ≡ s.n * 6
  after-long (refused x h) = s.size
  after-long (looks x h) = s.size
  after-long resets = fresh-size (length p.table) s.n s.size s.least s.most
  after-long (begins i o j lt idle f) = s.size
  after-long (steps i j f d lt at e h does b) = length_law s.n p.table d.writes s.size
  after-long (abandons i du x lt b e h) = s.size
  after-long (tidies e) = length_law s.n p.table (sweep (the_seen s).marks s.n 0) s.size

  -- what holds of the next point has the same slots, and the tree that the call left
  pub same-slots : {c : Ask} {l : Left} {a : Account} {t' : Tree} → Passes s c l a t' → (s' : Stands (record { table = l.table; state = l.state; account = a })) → s'.n ≡ s.n
  same-slots h s' = omega (arith, after-long h, s'.size)

  pub same-tree : {c : Ask} {l : Left} {a : Account} {t' : Tree} → Passes s c l a t' → (s' : Stands (record { table = l.table; state = l.state; account = a })) → s'.tree ≡ t'
  same-tree {l = l} {t' = t'} h s' =
      one-tree (view s.n l.table) s'.tree t' (subst (λ n. Carries (view n l.table) s'.tree) (same-slots h s') s'.carries) (change-carries (change h) s.carries s.shape).0

-- calls in two parts
pub goes-both : (p : Point) (xs ys : List Ask) → goes real p (xs ++ ys) ≡ goes real (goes real p xs) ys
unfolding goes
goes-both p [] ys = refl
goes-both p (x ∷ xs) ys = goes-both (advance real p x) xs ys

-- THE MECHANISM: what holds of the tree of a reset, and is kept by every call, holds of the tree of every point of every history
module _ (Q : Point → Tree → Type 0) (at-reset : (l n : ℕ) → l ≡ n * 6 → 8 ≤ n → n ≤ 4096 → Q (record { table = empty_table l; state = fresh_state; account = opening }) first_tree)
    (kept : (p : Point) (s : Stands p) (c : Ask) (l : Left) (a : Account) (t' : Tree) → Passes s c l a t' → Q p s.tree → Q (record { table = l.table; state = l.state; account = a }) t') where
  pub carried-once : {p : Point} (s : Stands p) → Q p s.tree → (c : Ask) (s' : Stands (advance real p c)) → Q (advance real p c) s'.tree
  unfolding advance
  carried-once {p} s q c s' =
      let h = (passing s c).passes in
      subst (λ t. Q (noted p c (left real p.table p.state c)) t) (sym (same-tree s h s')) (kept p s c _ _ _ h q)

  pub carried-all : {p : Point} (s : Stands p) → Q p s.tree → (cs : List Ask) (s' : Stands (goes real p cs)) → Q (goes real p cs) s'.tree
  unfolding goes
  carried-all {p} s q [] s' =
      let n-is : s.n ≡ s'.n = omega (arith, s.size, s'.size) in
      subst (Q p) (one-tree (view s'.n p.table) s.tree s'.tree (subst (λ n. Carries (view n p.table) s.tree) n-is s.carries) s'.carries) q
  carried-all {p} s q (c ∷ cs) s' = let r = keeps s c in carried-all {p = advance real p c} r (carried-once s q c r) cs s'

  pub carried : (t : List ℕ) (st : State) (cs : List Ask) (n : ℕ) → length t ≡ 6 * n → 8 ≤ n → n ≤ 4096 → (s : Stands (history real t st cs)) → Q (history real t st cs) s.tree
  unfolding history started
  carried t st cs n e least most s =
      let six : length t ≡ n * 6 = omega arith in
      from six (sym (reset-is t st (fits-of (length t) n six least most))) s
    where
      from : length t ≡ n * 6 → {l : Left} → same (empty_table (length t)) fresh_state Accepted ≡ l → (s : Stands (goes real (record { table = l.table; state = l.state; account = opening }) cs))
          → Q (goes real (record { table = l.table; state = l.state; account = opening }) cs) s.tree
      from six r =
          subst (λ (l : Left). (s : Stands (goes real (record { table = l.table; state = l.state; account = opening }) cs)) → Q (goes real (record { table = l.table; state = l.state; account = opening }) cs) s.tree) r
          (carried-all (stands-fresh (length t) n six least most)
          (subst (Q (record { table = empty_table (length t); state = fresh_state; account = opening })) (sym (fresh-tree (length t) n six least most)) (at-reset (length t) n six least most)) cs)

-- the same of the tree alone: kept by every commit
module _ (Q : Tree → Type 0) (at-reset : Q first_tree) (kept : (v w : View) (kind : Kind) (t t' : Tree) → Act v kind t w t' → Carries v t → Shape t → Q t → Q t') where
  change-keeps : {n : ℕ} {v w : View} {t t' : Tree} → Change n v t w t' → Carries v t → Shape t → Q t → Q t'
  change-keeps (none e) i sh q = q
  change-keeps {v = v} {w = w} {t = t} (commit {kind = kind} {t' = t'} act) i sh q = kept v w kind t t' act i sh q
  change-keeps (swept-off x) i sh q = q
  change-keeps (anew i') i sh q = at-reset

  pub carried-tree : (t : List ℕ) (st : State) (cs : List Ask) (n : ℕ) → length t ≡ 6 * n → 8 ≤ n → n ≤ 4096 → (s : Stands (history real t st cs)) → Q s.tree
  carried-tree = carried (λ p t. Q t) (λ l n e least most. at-reset) (λ p s c l a t' h q. change-keeps (change s h) s.carries s.shape q)
