-- The steps of a put-in and of a take-out never find damage.
use Prim.Native.Nat.{◌<◌, ℕ}
use borrow.Author.Tests.{eq-eqb, eqb-true, ne_eqb, not-false, not-true}
use lib.Dec.{eqb}
use mathlib.Core.Bool.{Bool, ◌&&◌, ◌||◌, false, not, true}
use mathlib.Core.Logic.{◌⊎◌, inl, inr}
use mathlib.Core.Path.{◌∙◌, ◌≡◌, ap, refl, subst, sym}
use native.Mathlib.Omega.{arith}
use Rattle.commits.proofs.Grounds.{route-goes}
use Rattle.machine.proofs.Choice.{if_elim}
use Rattle.machine.proofs.Tests.{both_first, both-second}
use Rattle.machine.specs.Commit.{Did, commit_if, reading}
use Rattle.machine.specs.PutIn.{put_commit, put_grounds, put_limit, put_room, put_step, put_turn, read_put_leaf, read_put_parent}
use Rattle.machine.specs.Record.{entry_form, fare_marks, in_tree, is_inner, is_leaf, is_link, leads, linked, links_of, plain_form, sentinel, well_formed}
use Rattle.machine.specs.Table.{View}
use Rattle.machine.specs.TakeOut.{read_take_grand, read_take_left, read_take_parent, read_take_right, take_apart, take_commit, take_grounds, take_leaf, take_room, take_step}
use Rattle.routes.specs.Route.{Has, route}
use Rattle.steps.proofs.Facts.{both, differ, formed-plain, one_of}
use Rattle.steps.proofs.Putting.{leaf_marks, on-route}
use Rattle.steps.proofs.Taking.{child-here}
use Rattle.steps.specs.Trail.{Fine, Trail}
use Rattle.terms.specs.Task.{busy, noted, restarted}
use Rattle.terms.specs.declared.Job.{Job}
use Rattle.terms.specs.declared.Links.{Links}
use Rattle.terms.specs.declared.Path.{Path}
use Rattle.terms.specs.declared.Phase.TheVariants.{PuttingIn, TakingOut}
use Rattle.terms.specs.declared.PutStage.{PutStage}
use Rattle.terms.specs.declared.PutStage.TheVariants.{PutCommit, PutLeaf, PutParent}
use Rattle.terms.specs.declared.Rec.{Rec}
use Rattle.terms.specs.declared.TakeStage.{TakeStage}
use Rattle.terms.specs.declared.TakeStage.TheVariants.{TakeCommit, TakeGrand, TakeLeft, TakeParent, TakeRight}
use Rattle.terms.specs.declared.Task.{Task}
use Rattle.trees.proofs.Held.{Carries}
use Rattle.trees.proofs.Plug.{Found, find, ind-eq, ind-other, take_apart_lem}
use Rattle.trees.specs.Tree.{Ctx, Tree, hole, leaf, node, plug, root}
use Rattle.undamaged.proofs.Records.{below-facts}
use Rattle.undamaged.proofs.Walks.{formed, inner-links, linked-is, true_false}
use Rattle.undamaged.specs.Memory.{Children, InnerIs, LeafIs, Remembers, TaskRemembers, Way}
use Rattle.undamaged.specs.Records.{Used}
use Rattle.undamaged.specs.Safe.{Ground, Safe}

module _ (v : View) (t : Tree) where
  -- a reading: its record is well formed
  pub read-safe : (k : Task) (form good : Bool) (r : Rec) → form ≡ true → (good ≡ true → TaskRemembers v t (noted k (links_of r)).work) → TaskRemembers v t (restarted k).work → Safe v t (reading k form good r)
  unfolding reading
  read-safe k form good r f on again =
      if_elim (Safe v t) _ (λ e. true_false form f (not-true form e)) (λ e. if_elim (Safe v t) _ (λ h. on h) (λ h. again))

  -- a commit: its grounds hold
  pub commit-safe : (k : Task) (grounds test : Bool) (change : Did) → grounds ≡ true → TaskRemembers v t (restarted k).work → (test ≡ true → Safe v t change.turn) → Safe v t (commit_if k grounds test change).turn
  unfolding commit_if
  commit-safe k grounds test change g again on =
      if_elim (λ (d : Did). Safe v t d.turn) _ (λ e. true_false grounds g (not-true grounds e))
      (λ e. if_elim (λ (d : Did). Safe v t d.turn) _ (λ h. again) (λ h. on (not-false test h)))

-- tests that hold
pub and_true : (a b : Bool) → a ≡ true → b ≡ true → (a && b) ≡ true
and_true a b e f = rw (e, f) refl

pub differs : (a b : ℕ) → (a ≡ b → ⊥) → not (eqb a b) ≡ true
differs a b d = rw (ne_eqb a b d) refl

pub leaf_test : (r : Rec) → r.left ≡ 0 → r.right ≡ 0 → is_leaf r ≡ true
unfolding is_leaf
leaf_test r l m = rw (l, m) refl

pub in_tree_one : (r : Rec) → in_tree r ≡ true → r.state ≡ 1
unfolding in_tree
in_tree_one r e = eqb-true _ _ e

-- which of the two links it is
pub leads-which : (a : Links) (s : ℕ) → leads a s ≡ true → (a.left ≡ s) ⊎ (a.right ≡ s)
unfolding leads
leads-which a s e = elim (one_of (eqb a.left s) (eqb a.right s) (both-second (not (eqb s 0)) _ e)) [ inl h ↦ inl (eqb-true _ _ h) | inr h ↦ inr (eqb-true _ _ h) ]

apart-is : (q : Path) (b : Links) → (q.grand ≡ q.parent → ⊥) → (q.grand ≡ b.left → ⊥) → (q.grand ≡ b.right → ⊥) → (q.parent ≡ b.left → ⊥) → (q.parent ≡ b.right → ⊥)
    → (b.left ≡ b.right → ⊥) → take_apart q b ≡ true
unfolding take_apart
apart-is q b a c d e f h = and_true _ _ (differs _ _ a) (and_true _ _ (differs _ _ c) (and_true _ _ (differs _ _ d) (and_true _ _ (differs _ _ e) (and_true _ _ (differs _ _ f) (differs _ _ h)))))

-- two different links of an inner record
inner-apart : (n s : ℕ) (r : Rec) → well_formed n s r ≡ true → (s ≡ 0 → ⊥) → (r.left ≡ 0 → ⊥) → r.left ≡ r.right → ⊥
unfolding well_formed plain_form is_leaf is_inner
inner-apart n s r f nz l e =
    elim (one_of (eqb s 0 && entry_form n r) _ (both-second (eqb r.state 1 || eqb r.state 2) _ f)) [
      | inl h ↦ nz (eqb-true s 0 (both_first (eqb s 0) _ h))
      | inr h ↦ (elim (one_of ((eqb r.left 0 && eqb r.right 0) && (sentinel r || fare_marks r)) _ (both-second (not (eqb s 0)) _ h)) [
        | inl k ↦ l (eqb-true _ _ (both_first (eqb r.left 0) _ (both_first (eqb r.left 0 && eqb r.right 0) _ k)))
        | inr k ↦ differ r.left r.right (both-second (is_link n r.right) _ (both-second (is_link n r.left) _ (both_first (is_link n r.left && (is_link n r.right && not (eqb r.left r.right))) _ k))) e
      ])
    ]

module _ (n : ℕ) (v : View) (t : Tree) (g : Ground n v t) where
  -- the remembered records are well formed; a grandparent is there under any record but the entry
  pub parent-formed : (q : Path) → Way v q → well_formed n q.parent (v q.parent) ≡ true
  parent-formed q w = formed n v t g q.parent w.parent_in.0

  pub here-linked : (q : Path) → Way v q → linked n q.here (v q.here) ≡ true
  here-linked q w = linked-is n v t g q.here w.here-pos w.here-used

  pub grand_there : (q : Path) → Way v q → (q.parent ≡ 0 → ⊥) → InnerIs v q.grand
  grand_there q w nz = elim w.grand_in [ inl e ↦ absurd (nz (w.top-none e)) | inr h ↦ h ]

  -- ---- put-in

  module _ (m : ℕ) (j : Job) (q : Path) where
    abbrev k : ℕ
    k = j.number

    put-done : (a b : Links) (e : Bool) → Safe v t (put_limit v n m j q e (v q.parent) (v q.here)).turn
    unfolding put_limit put_room put_turn
    put-done a b e =
        if_elim (λ (d : Did). Safe v t d.turn) _ (λ x. tt)
        (λ x. if_elim (λ (d : Did). Safe v t d.turn) _ (λ y. tt) (λ y. if_elim (Safe v t) _ (λ z. tt) (λ z. tt)))

    put-fine : Way v q → LeafIs v q.here → ((v q.here).number ≡ k → ⊥) → (a : Links) → leads a q.here ≡ true → put_grounds n j q a (v q.parent) (v q.here) ≡ true
    unfolding put_grounds
    put-fine w l d a e =
        and_true _ _ (parent-formed q w) (and_true _ _ (here-linked q w)
        (and_true _ _ (differs q.parent q.here (λ z. w.parent_in.1 (ap (λ y. (v y).left) z ∙ l.1)))
        (and_true _ _ e (and_true _ _ (leaf_test (v q.here) l.1 l.2) (differs _ _ d)))))

    pub put-safe : (s : PutStage) → Remembers v t k (PuttingIn q s) → Safe v t (put_step v n m j q s).turn
    unfolding put_step read_put_parent read_put_leaf put_commit
    put-safe PutParent h =
        read-safe v t (busy j (PuttingIn q PutParent)) _ _ (v q.parent) (parent-formed q h.0) (λ e. (h.0, h.1, h.2, both-second (in_tree (v q.parent)) _ e)) tt
    put-safe (PutLeaf a) h = read-safe v t (busy j (PuttingIn q (PutLeaf a))) _ _ (v q.here) (here-linked q h.0) (λ e. h) tt
    put-safe (PutCommit a b) h = commit-safe v t (busy j (PuttingIn q (PutCommit a b))) _ _ _ (put-fine h.0 h.1 h.2 a h.3) tt (λ e. put-done a b _)

  -- ---- take-out

  -- only one child of a record is on the route of a number
  one-child : (k p : ℕ) → (v p).state ≡ 1 → (p ≡ 0 → ⊥) → ((v p).left ≡ 0 → ⊥) → Has (v p).left (route k t) → Has (v p).right (route k t) → ⊥
  one-child k p one nz inner hl hr = at (find p t (omega (arith, g.carries.ones p, ind-other p 0 nz, ind-eq (v p).state 1 one)))
    where
      here : (c : Ctx) (u : Tree) → t ≡ plug c u → root u ≡ p → ⊥
      here c (leaf s key pr rk) w e =
          inner (ap (λ y. (v y).left) (sym e) ∙ ap (λ r. r.left) (take_apart_lem v c (leaf s key pr rk) (rw w at g.carries.entry) (rw w at g.carries.holds)).1)
      here c (node s key rk l r) w e =
          let i : Carries v (plug c (node s key rk l r)) = rw w at g.carries in
          let h = (take_apart_lem v c (node s key rk l r) i.entry i.holds).1 in
          let el : (v p).left ≡ root l = ap (λ y. (v y).left) (sym e) ∙ ap (λ x. x.left) h.0 in
          let er : (v p).right ≡ root r = ap (λ y. (v y).right) (sym e) ∙ ap (λ x. x.right) h.0 in
          let gl = route-goes v k (hole true s key rk r c) l i (subst (λ x. Has x (route k (plug c (node s key rk l r)))) el (rw w at hl)) in
          let gr = route-goes v k (hole false s key rk l c) r i (subst (λ x. Has x (route k (plug c (node s key rk l r)))) er (rw w at hr)) in
          omega (arith, gl.0, gr.0)

      at : Found p t → ⊥
      at f = here f.ctx f.sub f.whole f.at

  -- the two links of an inner record differ
  links-apart : (s : ℕ) → Used v s → (s ≡ 0 → ⊥) → ((v s).left ≡ 0 → ⊥) → (v s).left ≡ (v s).right → ⊥
  links-apart s u nz l e = inner-apart n s (v s) (formed n v t g s u) nz l e

  module _ (j : Job) (lt : j.number < 1000000) (q : Path) (tr : Trail v t j.number q) where
    abbrev kk : ℕ
    kk = j.number

    module _ (w : Way v q) (l : LeafIs v q.here) (is : (v q.here).number ≡ kk) where
      -- a fare hangs on no entry
      parent-pos : q.parent ≡ 0 → ⊥
      parent-pos e =
          elim (leaf_marks n (v q.here) (formed-plain n q.here (v q.here) (formed n v t g q.here w.here-used) w.here-pos) l.1) [
            | inl s ↦ omega (arith, s.0)
            | inr s ↦ omega (arith, s.2, w.top_rank e)
          ]

      grand_is : InnerIs v q.grand
      grand_is = grand_there q w parent-pos

      -- a record in the tree that the task remembers is on the route
      on-way : (s : ℕ) → (s ≡ 0 → ⊥) → (v s).state ≡ 1 → Fine v t kk s → Has s (route kk t)
      on-way s nz one f = on-route v t kk s nz one f

      grand_on : (s : ℕ) → q.grand ≡ s → (s ≡ 0 → ⊥) → (v s).state ≡ 1 → Has s (route kk t)
      grand_on s e nz one =
          elim tr.grand-fine [
            | inl z ↦ absurd (parent-pos (w.top-none z))
            | inr f ↦ on-way s nz one (subst (Fine v t kk) e f)
          ]

      -- the grandparent is none of the children: it is inner, and only one child is on the route
      no-grand : (s o : ℕ) → (v s).state ≡ 1 → (s ≡ 0 → ⊥) → (v o).state ≡ 1 → (s ≡ q.here) ⊎ (o ≡ q.here) → (Has s (route kk t) → Has o (route kk t) → ⊥) → q.grand ≡ s → ⊥
      no-grand s o one nz oone (inl e) both-on z = grand_is.1 (ap (λ y. (v y).left) (z ∙ e) ∙ l.1)
      no-grand s o one nz oone (inr e) both-on z =
          both-on (grand_on s z nz one) (on-way o (λ y. w.here-pos (sym e ∙ y)) oone (subst (Fine v t kk) (sym e) tr.here-fine))

      -- the parent is read: its children are as they should be
      children : (a : Links) → leads a q.parent ≡ true → (q.grand ≡ q.parent → ⊥) → (v q.parent).state ≡ 1 → leads (links_of (v q.parent)) q.here ≡ true → Children v q a (links_of (v q.parent))
      children a to-p gp one to-h =
          let inner = w.parent_in.1 in
          let rightp = inner-links n q.parent (v q.parent) (parent-formed q w) parent-pos inner false in
          let bl = below-facts n v t g.carries g.shape g.bounded q.parent (v q.parent).left true one refl inner in
          let br = below-facts n v t g.carries g.shape g.bounded q.parent (v q.parent).right false one refl rightp in
          let which = leads-which (links_of (v q.parent)) q.here to-h in
          let alone = one-child kk q.parent one parent-pos inner in
          record {
            to-parent = to-p;
            to-here = to-h;
            left-used = λ z. omega (arith, bl.one);
            right-used = λ z. omega (arith, br.one);
            left-pos = inner;
            right-pos = rightp;
            apart = apart-is q (links_of (v q.parent)) gp (no-grand (v q.parent).left (v q.parent).right bl.one inner br.one which alone)
                (no-grand (v q.parent).right (v q.parent).left br.one rightp bl.one (elim which [ inl e ↦ inr e | inr e ↦ inl e ]) (λ x y. alone y x))
                bl.apart br.apart (links-apart q.parent w.parent_in.0 parent-pos inner);
          }

      take_fine : (a b : Links) → Children v q a b → take_grounds n j q a b (v q.grand) (v q.parent) (v b.left) (v b.right) ≡ true
      unfolding take_grounds take_leaf
      take_fine a b c =
          and_true _ _ (formed n v t g q.grand grand_is.0) (and_true _ _ (parent-formed q w)
          (and_true _ _ (linked-is n v t g b.left c.left-pos c.left-used) (and_true _ _ (linked-is n v t g b.right c.right-pos c.right-used)
          (and_true _ _ c.apart (and_true _ _ c.to-parent (and_true _ _ c.to-here
          (rw (child-here v b q.here c.to-here) (and_true _ _ (leaf_test (v q.here) l.1 l.2) (eq-eqb _ _ is)))))))))

    take_done : (a b : Links) (e : Bool) (s : Rec) (o : ℕ) → Safe v t (take_room v n q e s o).turn
    unfolding take_room
    take_done a b e s o = if_elim (λ (d : Did). Safe v t d.turn) _ (λ x. tt) (λ x. tt)

    pub take_safe : (s : TakeStage) → Remembers v t kk (TakingOut q s) → Safe v t (take_step v n j q s).turn
    unfolding take_step read_take_grand read_take_parent read_take_left read_take_right take_commit
    take_safe TakeGrand h =
        read-safe v t (busy j (TakingOut q TakeGrand)) _ _ (v q.grand) (formed n v t g q.grand (grand_is h.0 h.1 h.2).0)
        (λ e. (h.0, h.1, h.2, let b = both (in_tree (v q.grand)) _ e in (b.1, grand-apart (v q.grand) b.0 b.1))) tt
      where
        grand-apart : (r : Rec) → in_tree (v q.grand) ≡ true → leads (links_of (v q.grand)) q.parent ≡ true → q.grand ≡ q.parent → ⊥
        grand-apart r one to =
            let o = in_tree_one (v q.grand) one in
            elim (leads-which (links_of (v q.grand)) q.parent to) [
              | inl e ↦ (below-facts n v t g.carries g.shape g.bounded q.grand q.parent true o e (parent-pos h.0 h.1 h.2)).apart
              | inr e ↦ (below-facts n v t g.carries g.shape g.bounded q.grand q.parent false o e (parent-pos h.0 h.1 h.2)).apart
            ]
    take_safe (TakeParent a) h =
        read-safe v t (busy j (TakingOut q (TakeParent a))) _ _ (v q.parent) (parent-formed q h.0)
        (λ e. (h.0, h.1, h.2, let b = both (in_tree (v q.parent)) _ e in children h.0 h.1 h.2 a h.3.0 h.3.1 (in_tree_one (v q.parent) b.0) b.1)) tt
    take_safe (TakeLeft a b) h =
        read-safe v t (busy j (TakingOut q (TakeLeft a b))) _ _ (v b.left) (linked-is n v t g b.left h.3.left-pos h.3.left-used) (λ e. h) tt
    take_safe (TakeRight a b c) h =
        read-safe v t (busy j (TakingOut q (TakeRight a b c))) _ _ (v b.right) (linked-is n v t g b.right h.3.right-pos h.3.right-used) (λ e. h) tt
    take_safe (TakeCommit a b c d) h =
        commit-safe v t (busy j (TakingOut q (TakeCommit a b c d))) _ _ _ (take_fine h.0 h.1 h.2 a b h.3) tt (λ e. take_done a b _ _ _)
