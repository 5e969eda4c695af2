-- A step of a walk, and a reading: nothing is written, and what the task remembers is where it should be.
use Prim.Native.Nat.{◌<◌, ℕ}
use borrow.Author.Tests.{not-false}
use lib.Dec.{ltb}
use mathlib.Core.Bool.{Bool, false, true}
use mathlib.Core.Logic.{◌⊎◌, inl, inr}
use mathlib.Core.Path.{◌∙◌, ◌≡◌, refl, subst, sym}
use Rattle.machine.proofs.Choice.{if_elim}
use Rattle.machine.specs.Commit.{reading}
use Rattle.machine.specs.Record.{is_leaf, level, linked, links_of}
use Rattle.machine.specs.Table.{View}
use Rattle.machine.specs.Walk.{arrival, at_leaf, serve_arrival, settle_arrival, sought, walk_from, walk_on, walk_to}
use Rattle.routes.specs.Route.{lv, next}
use Rattle.steps.proofs.Facts.{formed-used, leaf_links, linked-formed, not_level}
use Rattle.steps.proofs.Trails.{entry-fine, fine-used, next-sought, step-fine}
use Rattle.steps.specs.Does.{Moves, Quiet, hurts, moves-on, settled, standing, stops, walks}
use Rattle.steps.specs.Trail.{Fine, Lower, PhaseOk, Trail, Upper}
use Rattle.terms.specs.Task.{busy, goal_of, no_grand, noted}
use Rattle.terms.specs.declared.Answer.TheVariants.{Found, HeldAlready, NotHeld}
use Rattle.terms.specs.declared.Goal.{Goal}
use Rattle.terms.specs.declared.Goal.TheVariants.{Serve, Settle}
use Rattle.terms.specs.declared.Job.{Job}
use Rattle.terms.specs.declared.Operation.{Operation}
use Rattle.terms.specs.declared.Operation.TheVariants.{LookUp, PutIn, TakeOut}
use Rattle.terms.specs.declared.Path.{Path}
use Rattle.terms.specs.declared.Phase.{Phase}
use Rattle.terms.specs.declared.Phase.TheVariants.{PuttingIn, Settling, Start, TakingOut, Walk}
use Rattle.terms.specs.declared.PutStage.TheVariants.{PutParent}
use Rattle.terms.specs.declared.Rec.{Rec}
use Rattle.terms.specs.declared.SettleStage.TheVariants.{SettleGrand}
use Rattle.terms.specs.declared.TakeStage.TheVariants.{TakeGrand}
use Rattle.terms.specs.declared.Turn.TheVariants.{Next}
use Rattle.trees.proofs.Held.{Carries}
use Rattle.trees.specs.Tree.{Tree}
use Rattle.views.specs.Update.{link}

-- the record that a walk leaves: slot s, above it `grand`; `f` is the task's phase
module _ (v : View) (t : Tree) (i : Carries v t) (n : ℕ) (j : Job) (lt : j.number < 1000000) (f : Phase) (walk : walks f ≡ true) (grand : ℕ)
    (above : (grand ≡ no_grand) ⊎ Fine v t j.number grand) (fine : Fine v t j.number (standing f)) where
  abbrev k : ℕ
  k = j.number

  abbrev s : ℕ
  s = standing f

  abbrev q : Path
  q = record { grand = grand; parent = s; here = sought k (v s) }

  -- the next record is linked
  module _ (ok : linked n q.here (v q.here) ≡ true) where
    there : next v k s ≡ 0 → ⊥
    there z = (linked-formed n q.here (v q.here) ok).0 (next-sought v k s ∙ z)

    came : Trail v t k q
    came = record { grand-fine = above; parent-fine = fine; here-fine = rw (next-sought v k s) (step-fine v t k s lt i there fine) }

    -- it is no level record
    below : level (v s) (v q.here) ≡ false → Lower v q
    below e = (
      fine-used v t k s lt i fine,
      formed-used n q.here (v q.here) (linked-formed n q.here (v q.here) ok).1,
      not_level (v s) (v q.here) e,
    )

    serve-leaf : (o : Operation) → goal_of f ≡ Serve o → Quiet v t j f (at_leaf o j q (v q.here))
    unfolding at_leaf
    serve-leaf LookUp g = if_elim (Quiet v t j f) _ (λ e. stops LookUp (Found (v q.here).price) g (inl refl)) (λ e. stops LookUp NotHeld g (inr refl))
    serve-leaf PutIn g = if_elim (Quiet v t j f) _ (λ e. stops PutIn HeldAlready g (inl refl)) (λ e. moves-on (PuttingIn q PutParent) (sym g) came tt)
    serve-leaf TakeOut g = if_elim (Quiet v t j f) _ (λ e. moves-on (TakingOut q TakeGrand) (sym g) came tt) (λ e. stops TakeOut NotHeld g (inl refl))

    serve : (o : Operation) → goal_of f ≡ Serve o → Quiet v t j f (serve_arrival o j q (v q.here))
    unfolding serve_arrival
    serve o g = if_elim (Quiet v t j f) _ (λ e. serve-leaf o g) (λ e. moves-on (Walk (Serve o) q) (sym g) came tt)

    -- a leaf leads nowhere
    end : is_leaf (v q.here) ≡ true → next v k (next v k s) ≡ 0
    unfolding next
    end e =
        let l = leaf_links (v q.here) e in
        subst (λ y. next v k y ≡ 0) (next-sought v k s) (nowhere (ltb k (v q.here).number) (v q.here) l.0 l.1)
      where
        nowhere : (b : Bool) (r : Rec) → r.left ≡ 0 → r.right ≡ 0 → link b r ≡ 0
        nowhere true r l m = l
        nowhere false r l m = m

    settle : goal_of f ≡ Settle → Upper v q → Quiet v t j f (settle_arrival j q (v s) (v q.here))
    unfolding settle_arrival
    settle g up =
        if_elim (Quiet v t j f) _ (λ e. hurts)
        (λ e. if_elim (Quiet v t j f) _ (λ l. moves-on (Settling q SettleGrand) (sym g) (came, up) tt)
        (λ l. if_elim (Quiet v t j f) _
        (λ h. settled g walk (subst (λ y. lv (v s).rank (v y).rank ≡ true → ⊥) (next-sought v k s) (not_level (v s) (v q.here) l)) (end h))
        (λ h. moves-on (Walk Settle q) (sym g) (came, up, below l) (walk, next-sought v k s, not_level (v s) (v q.here) l))))

  -- from slot s: for an operation, and for settling, where what is above s isn't level with it
  pub serve-from : (o : Operation) → goal_of f ≡ Serve o → Quiet v t j f (walk_from v n (Serve o) j grand s)
  unfolding walk_from walk_to arrival
  serve-from o g =
      if_elim (Quiet v t j f) _ (λ e. hurts)
      (λ e. if_elim (Quiet v t j f) _ (λ h. hurts) (λ h. serve (not-false (linked n q.here (v q.here)) h) o g))

  pub settle-from : goal_of f ≡ Settle → Upper v q → Quiet v t j f (walk_from v n Settle j grand s)
  unfolding walk_from walk_to arrival
  settle-from g up =
      if_elim (Quiet v t j f) _ (λ e. hurts)
      (λ e. if_elim (Quiet v t j f) _ (λ h. hurts) (λ h. settle (not-false (linked n q.here (v q.here)) h) g up))

-- a walk about to start, and one that goes on
pub start-quiet : (v : View) (t : Tree) → Carries v t → (n : ℕ) (j : Job) → j.number < 1000000 → (g : Goal) → Quiet v t j (Start g) (walk_from v n g j no_grand 0)
start-quiet v t i n j lt (Serve o) = serve-from v t i n j lt (Start (Serve o)) refl no_grand (inl refl) (entry-fine v t j.number) o refl
start-quiet v t i n j lt Settle = settle-from v t i n j lt (Start Settle) refl no_grand (inl refl) (entry-fine v t j.number) refl (inl refl)

pub walk_quiet : (v : View) (t : Tree) → Carries v t → (n : ℕ) (j : Job) → j.number < 1000000 → (g : Goal) (q : Path) → PhaseOk v t j.number (Walk g q)
    → Quiet v t j (Walk g q) (walk_on v n g j q)
unfolding walk_on
walk_quiet v t i n j lt (Serve o) q ok =
    if_elim (Quiet v t j (Walk (Serve o) q)) _ (λ e. hurts)
    (λ e. serve-from v t i n j lt (Walk (Serve o) q) refl q.parent (inr ok.parent-fine) ok.here-fine o refl)
walk_quiet v t i n j lt Settle q ok =
    if_elim (Quiet v t j (Walk Settle q)) _ (λ e. hurts)
    (λ e. settle-from v t i n j lt (Walk Settle q) refl q.parent (inr ok.0.parent-fine) ok.0.here-fine refl (inr ok.2))

-- a reading: its stage goes on, or the walk starts again
pub read-quiet : (v : View) (t : Tree) (j : Job) (f f' : Phase) (formed good : Bool) (r : Rec) → noted (busy j f) (links_of r) ≡ busy j f' → goal_of f' ≡ goal_of f
    → PhaseOk v t j.number f' → Moves v j.number f f' → Quiet v t j f (reading (busy j f) formed good r)
unfolding reading
read-quiet v t j f f' formed good r e g ok mv =
    if_elim (Quiet v t j f) _ (λ a. hurts)
    (λ a. if_elim (Quiet v t j f) _ (λ b. subst (λ k. Quiet v t j f (Next k)) (sym e) (moves-on f' g ok mv)) (λ b. moves-on (Start (goal_of f)) refl tt tt))
