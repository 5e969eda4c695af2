-- A step of a walk never finds damage.
use Prim.Native.Nat.{◌<◌, ◌≤◌, ℕ}
use borrow.Author.Tests.{eqb-false, eqb-true, lt-ltb, ltb-true, ne_eqb, not-true}
use lib.Dec.{eqb, ltb}
use mathlib.Core.Bool.{Bool, ◌&&◌, false, true}
use mathlib.Core.Logic.{◌⊎◌, inl, inr}
use mathlib.Core.Path.{◌∙◌, ◌≡◌, ap, refl, sym}
use native.Mathlib.Omega.{arith}
use Rattle.commits.proofs.Grounds.{root-rank}
use Rattle.machine.proofs.Choice.{if_elim}
use Rattle.machine.specs.Choice.{if_b}
use Rattle.machine.specs.Record.{is_leaf, linked, top_number, well_formed}
use Rattle.machine.specs.Table.{View}
use Rattle.machine.specs.Walk.{arrival, at_leaf, outranks, serve_arrival, settle_arrival, sought, walk_from, walk_on, walk_to}
use Rattle.routes.proofs.Level.{lev_at-le}
use Rattle.routes.specs.Route.{lv, next}
use Rattle.steps.proofs.Facts.{formed-plain, leaf_links, not_level}
use Rattle.steps.proofs.Trails.{next-sought}
use Rattle.terms.specs.Task.{no_grand}
use Rattle.terms.specs.declared.Goal.{Goal}
use Rattle.terms.specs.declared.Goal.TheVariants.{Serve, Settle}
use Rattle.terms.specs.declared.Job.{Job}
use Rattle.terms.specs.declared.Operation.{Operation}
use Rattle.terms.specs.declared.Operation.TheVariants.{LookUp, PutIn, TakeOut}
use Rattle.terms.specs.declared.Path.{Path}
use Rattle.terms.specs.declared.Phase.TheVariants.{Walk}
use Rattle.terms.specs.declared.Rec.{Rec}
use Rattle.trees.proofs.Held.{root-pos, zero_out}
use Rattle.trees.specs.Tree.{Tree}
use Rattle.undamaged.proofs.Records.{used_down, used_formed}
use Rattle.undamaged.specs.Memory.{InnerIs, LeafIs, Remembers, Slope, Way}
use Rattle.undamaged.specs.Records.{Down, NotLevel, Used}
use Rattle.undamaged.specs.Safe.{Ground, Safe}
use Rattle.views.proofs.Law.{same_or}
use Rattle.views.specs.Update.{link}

pub true_false : {A : Type 0} (b : Bool) → b ≡ true → b ≡ false → A
true_false b e f = absurd (let z : ◌≡◌ {A = ℕ} 0 1 = cc in omega arith)

-- a record in use that is no leaf has both links
pub inner-links : (n s : ℕ) (r : Rec) → well_formed n s r ≡ true → (s ≡ 0 → ⊥) → (r.left ≡ 0 → ⊥) → (d : Bool) → link d r ≡ 0 → ⊥
inner-links n s r f nz l true z = l z
inner-links n s r f nz l false z = elim (formed-plain n s r f nz) [ inl h ↦ l h.0 | inr h ↦ h.1 z ]

-- no leaf by the test: it has a left link
pub not_leaf : (n s : ℕ) (r : Rec) → well_formed n s r ≡ true → (s ≡ 0 → ⊥) → is_leaf r ≡ false → r.left ≡ 0 → ⊥
unfolding is_leaf
not_leaf n s r f nz e z =
    elim (formed-plain n s r f nz) [
      | inl h ↦ true_false (eqb r.left 0 && eqb r.right 0) (rw (h.0, h.1) refl) e
      | inr h ↦ h.0 z
    ]

module _ (n : ℕ) (v : View) (t : Tree) (g : Ground n v t) where
  pub formed : (s : ℕ) → Used v s → well_formed n s (v s) ≡ true
  formed s u = used_formed n v t g.carries g.shape g.bounded g.old s u

  pub down : (s : ℕ) → Used v s → Down v t s
  down s u = used_down n v t g.carries g.shape g.bounded g.old s u

  pub linked-is : (s : ℕ) → (s ≡ 0 → ⊥) → Used v s → linked n s (v s) ≡ true
  unfolding linked
  linked-is s nz u = rw (ne_eqb s 0 nz, formed s u) refl

  -- the next record of a walk from an inner record or the entry
  module _ (j : Job) (lt : j.number < 1000000) (grand s : ℕ) (inner : InnerIs v s) (above : (grand ≡ no_grand) ⊎ InnerIs v grand) (none : grand ≡ no_grand → s ≡ 0) where
    abbrev k : ℕ
    k = j.number

    abbrev h : ℕ
    h = sought k (v s)

    abbrev q : Path
    q = record { grand = grand; parent = s; here = h }

    side : Bool
    side = ltb k (v s).number

    link-is : h ≡ link side (v s)
    unfolding side next
    link-is = next-sought v k s

    -- at the entry the sought side is the left one
    next-pos : link side (v s) ≡ 0 → ⊥
    unfolding side
    next-pos z =
        elim (same_or s 0) [
          | inl e ↦ inner.1 (sym (left_at e) ∙ z)
          | inr nz ↦ inner-links n s (v s) (formed s inner.0) nz inner.1 (ltb k (v s).number) z
        ]
      where
        left_at : s ≡ 0 → link (ltb k (v s).number) (v s) ≡ (v s).left
        left_at e =
            let m : (v s).number ≡ top_number = ap (λ y. (v y).number) e ∙ ap (λ r. r.number) g.carries.entry in
            rw (m, lt-ltb k top_number (omega arith)) refl

    here-pos : h ≡ 0 → ⊥
    here-pos z = next-pos (sym link-is ∙ z)

    facts : Used v (link side (v s)) × ((v (link side (v s))).rank ≤ (v s).rank) × ((lv (v s).rank (v (link side (v s))).rank ≡ true → ⊥) → NotLevel v t (link side (v s)))
    facts = down s inner.0 side next-pos

    here-used : Used v h
    here-used = rw link-is facts.0

    lower : (v h).rank ≤ (v s).rank
    lower = rw link-is facts.1

    unlevel : (lv (v s).rank (v h).rank ≡ true → ⊥) → NotLevel v t h
    unlevel = rw link-is facts.2

    -- on the entry hangs the top
    top_rank : s ≡ 0 → (v h).rank ≡ 255
    unfolding sought if_b
    top_rank e =
        let r = g.carries.entry in
        ap (λ y. (v (sought k (v y))).rank) e
        ∙ rw (r, lt-ltb k top_number (omega arith)) (root-rank v t g.carries.holds ∙ g.top)

    came : Way v q
    came = record { grand_in = above; parent_in = inner; top-none = none; top_rank = top_rank; here-used = here-used; here-pos = here-pos }

    formed-here : well_formed n h (v h) ≡ true
    formed-here = formed h here-used

    leaf_here : is_leaf (v h) ≡ true → LeafIs v h
    leaf_here e = let l = leaf_links (v h) e in (here-used, l.0, l.1)

    inner-here : is_leaf (v h) ≡ false → InnerIs v h
    inner-here e = (here-used, not_leaf n h (v h) formed-here here-pos e)

    serve-leaf : (o : Operation) → is_leaf (v h) ≡ true → Safe v t (at_leaf o j q (v h))
    unfolding at_leaf
    serve-leaf LookUp l = if_elim (Safe v t) _ (λ e. tt) (λ e. tt)
    serve-leaf PutIn l = if_elim (Safe v t) _ (λ e. tt) (λ e. (came, leaf_here l, eqb-false _ _ e, tt))
    serve-leaf TakeOut l = if_elim (Safe v t) _ (λ e. (came, leaf_here l, eqb-true _ _ e, tt)) (λ e. tt)

    serve-safe : (o : Operation) → Safe v t (serve_arrival o j q (v h))
    unfolding serve_arrival
    serve-safe o = if_elim (Safe v t) _ (λ l. serve-leaf o l) (λ l. (came, inner-here l))

    settle-safe : Slope v t q → Safe v t (settle_arrival j q (v s) (v h))
    unfolding settle_arrival outranks
    settle-safe sl =
        if_elim (Safe v t) _ (λ o. absurd (let w : (v s).rank < (v h).rank = ltb-true _ _ o in omega (arith, lower)))
        (λ o. if_elim (Safe v t) _ (λ l. (came, sl, l, tt))
        (λ l. if_elim (Safe v t) _ (λ e. tt) (λ e. (came, inner-here e, sl, unlevel (not_level (v s) (v h) l)))))

    -- neither record is damaged
    from-safe : (goal : Goal) → Safe v t (arrival goal j q (v s) (v h)) → Safe v t (walk_from v n goal j grand s)
    unfolding walk_from walk_to
    from-safe goal ok =
        if_elim (Safe v t) _ (λ e. true_false (well_formed n s (v s)) (formed s inner.0) (not-true (well_formed n s (v s)) e))
        (λ e. if_elim (Safe v t) _ (λ f. true_false (linked n h (v h)) (linked-is h here-pos here-used) (not-true (linked n h (v h)) f)) (λ f. ok))

    pub serves_from : (o : Operation) → Safe v t (walk_from v n (Serve o) j grand s)
    unfolding arrival
    serves_from o = from-safe (Serve o) (serve-safe o)

    pub settles_from : ((s ≡ 0) ⊎ ((v s).rank ≤ (v grand).rank)) → ((grand ≡ no_grand) ⊎ NotLevel v t grand) → NotLevel v t s → Safe v t (walk_from v n Settle j grand s)
    unfolding arrival
    settles_from up gl sl = from-safe Settle (settle-safe (record { upper = up; lower = lower; grand-low = gl; parent-low = sl }))

  -- the entry
  entry_in : InnerIs v 0
  entry_in =
      let e = g.carries.entry in
      (λ z. omega (arith, sym (ap (λ r. r.state) e) ∙ z), λ z. root-pos v t g.carries (sym (ap (λ r. r.left) e) ∙ z))

  entry-low : NotLevel v t 0
  entry-low o = omega (arith, lev_at-le 255 0 t, zero_out v t g.carries)

  -- no slot has the number that stands for no grandparent
  no_such : {s : ℕ} → s ≡ no_grand → (v s).state ≡ 0
  no_such {s} e =
      elim (g.old.states s) [
        | inl z ↦ z
        | inr w ↦ absurd (elim w [
          | inl one ↦ (let lt = g.bounded s one in omega (arith, g.few))
          | inr two ↦ (let lt = g.old.inside s two in omega (arith, g.few))
        ])
      ]

  pub start-safe : (j : Job) → j.number < 1000000 → (goal : Goal) → Safe v t (walk_from v n goal j no_grand 0)
  start-safe j lt (Serve o) = serves_from j lt no_grand 0 entry_in (inl refl) (λ e. refl) o
  start-safe j lt Settle = settles_from j lt no_grand 0 entry_in (inl refl) (λ e. refl) (inl refl) (inl refl) entry-low

  pub walk_safe : (j : Job) → j.number < 1000000 → (goal : Goal) (q : Path) → Remembers v t j.number (Walk goal q) → Safe v t (walk_on v n goal j q)
  unfolding walk_on
  walk_safe j lt (Serve o) q m =
      if_elim (Safe v t) _ (λ e. absurd (m.0.here-pos (eqb-true _ _ e)))
      (λ e. serves_from j lt q.parent q.here m.1 (inr m.0.parent_in) (λ z. absurd (m.0.parent_in.0 (no_such z))) o)
  walk_safe j lt Settle q m =
      if_elim (Safe v t) _ (λ e. absurd (m.0.here-pos (eqb-true _ _ e)))
      (λ e. settles_from j lt q.parent q.here m.1 (inr m.0.parent_in) (λ z. absurd (m.0.parent_in.0 (no_such z))) (inr m.2.lower) (inr m.2.parent-low) m.3)
