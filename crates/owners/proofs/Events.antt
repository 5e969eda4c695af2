-- The invariant of owners under every event: a commit, a put-in that leaves its task settling, and the steps of settling tasks.
use Prim.Native.Nat.{◌<◌, ◌≤◌, suc, ℕ}
use borrow.Author.Tests.{eq-eqb, eqb-true, lt-ltb, ltb-true, ne_eqb}
use lib.Dec.{eqb, ltb}
use lib.ListN.{length, length-map}
use mathlib.Core.Bool.{Bool, false, true}
use mathlib.Core.List.{List, [], ◌∷◌, map}
use mathlib.Core.Logic.{◌⊎◌, inl, inr}
use mathlib.Core.Path.{◌∙◌, ◌≡◌, ap, refl, subst, sym}
use native.Mathlib.Omega.{arith}
use Rattle.machine.proofs.Choice.{if_elim, if_false, if_true}
use Rattle.machine.specs.Choice.{if_b}
use Rattle.machine.specs.Table.{View}
use Rattle.owners.proofs.Bound.{meets_leaf, meets_next}
use Rattle.owners.specs.Owners.{Needs, Owner, Owners, Owns, Role, Where, cast, is_settler, other, reads, settler, walking}
use Rattle.routes.proofs.Kept.{walk_full}
use Rattle.routes.proofs.Level.{lev_at-le, level-here, times}
use Rattle.routes.proofs.Surgery.{From, Surgery, at_most, moves, moves-hit, moves-zero, surgery_cover, surgery_has, surgery_meets}
use Rattle.routes.specs.Route.{Has, full, lev_at, lv, next, route, tree}
use Rattle.trees.proofs.Held.{zero_out}
use Rattle.trees.proofs.Plug.{ind-cases, ind-eq}
use Rattle.trees.specs.Tree.{Tree}
use Rattle.views.proofs.Law.{same_or}

cast-hit : {A : Type 0} (f : ℕ → A) (i : ℕ) (y : A) → cast f i y i ≡ y
unfolding cast
cast-hit f i y = rw (eq-eqb i i refl) (if_true y (f i))

cast-miss : {A : Type 0} (f : ℕ → A) (i : ℕ) (y : A) (j : ℕ) → (j ≡ i → ⊥) → cast f i y j ≡ f j
unfolding cast
cast-miss f i y j d = rw (ne_eqb j i d) (if_false y (f j))

-- what holds of the new one at i, and of the old ones elsewhere
cast-one : {A : Type 0} (P : ℕ → A → Type 0) (f : ℕ → A) (i : ℕ) (y : A) → P i y → ((j : ℕ) → P j (f j)) → (j : ℕ) → P j (cast f i y j)
unfolding cast
cast-one P f i y p q j = if_elim (P j) (eqb j i) (λ e. subst (λ m. P m y) (sym (eqb-true j i e)) p) (λ e. q j)

cast-both : {A B : Type 0} (P : A → B → Type 0) (f : ℕ → A) (i : ℕ) (y : A) (g : ℕ → B) (z : B) → P y z → ((j : ℕ) → P (f j) (g j)) → (j : ℕ) → P (cast f i y j) (cast g i z j)
unfolding cast if_b
cast-both P f i y g z p q j = go (eqb j i)
  where
    go : (d : Bool) → P (if_b d y (f j)) (if_b d z (g j))
    go true = p
    go false = q j

-- a token that is level no more is dropped
unfoldable keeps : Tree → ℕ → ℕ
keeps t b = if_b (ltb 0 (lev_at 255 b t)) b 0

-- tokens after a commit
module _ {v w : View} {t t' : Tree} {x y : ℕ} (s : Surgery v w t t' x y) where
  abbrev then : ℕ → ℕ
  then b = keeps t' (moves x y b)

  then-level : (b : ℕ) → 1 ≤ lev_at 255 (moves x y b) t' → then b ≡ moves x y b
  unfolding keeps
  then-level b h = rw (lt-ltb 0 _ h) (if_true _ _)

  needs_kept : (k : ℕ) → k < 4294967295 → (b : ℕ) (p : Where) → 1 ≤ lev_at 255 (moves x y b) t' → Needs v (full k t) k b p → Needs w (full k t') k (moves x y b) p
  needs_kept k lt b (walking h) is m = surgery_meets s k lt b h is m
  needs_kept k lt b reads is m = tt

  owns_kept : (k : ℕ) → k < 4294967295 → (p : Where) (b : ℕ) → Owns v t k p b → Owns w t' k p (then b)
  unfolding keeps
  owns_kept k lt p b (inl e) = inl (if_elim (λ y. y ≡ 0) (ltb 0 (lev_at 255 (moves x y b) t')) (λ q. ap (moves x y) e ∙ moves-zero s) (λ q. refl))
  owns_kept k lt p b (inr h) =
      if_elim (Owns w t' k p) (ltb 0 (lev_at 255 (moves x y b) t'))
      (λ q. inr (ltb-true 0 _ q, surgery_has s k lt b (ltb-true 0 _ q) h.1, needs_kept k lt b p (ltb-true 0 _ q) h.2))
      (λ q. inl refl)

  owner_kept : (τ : Role) (b : ℕ) → Owner v t τ b → Owner w t' τ (then b)
  owner_kept other b o = tt
  owner_kept (settler k p) b o = (o.0, owns_kept k o.0 p b o.1)

  times-map : (b : ℕ) (l : List ℕ) → 1 ≤ times b l → 1 ≤ times (moves x y b) (map (moves x y) l)
  times-map b [] h = absurd (omega arith)
  times-map b (a ∷ l) h =
      elim (ind-cases b a) [
        | inl q ↦ omega (arith, ind-eq (moves x y b) (moves x y a) (ap (moves x y) q.0))
        | inr q ↦ omega (arith, times-map b l (omega (arith, q.1)))
      ]

  -- an owner before is an owner after
  moved_cover : {n u : ℕ} {T : ℕ → Role} (g : Owners n v t u T) (a : ℕ) → 1 ≤ lev_at 255 a t → 1 ≤ lev_at 255 (moves x y a) t'
      → (1 ≤ times (moves x y a) (map (moves x y) g.loose)) ⊎ ((j : ℕ) × (j < n) × (is_settler (T j) ≡ 1) × (then (g.tok j) ≡ moves x y a))
  moved_cover g a h is =
      elim (g.cover a h) [
        | inl p ↦ inl (times-map a g.loose p)
        | inr q ↦ inr (q.0, q.1, q.2, ap then q.3 ∙ then-level a is)
      ]

  -- the same, for a record that is known by its name after
  owner_of : {n u : ℕ} {T : ℕ → Role} (g : Owners n v t u T) (a b : ℕ) → 1 ≤ lev_at 255 a t → moves x y a ≡ b → 1 ≤ lev_at 255 b t'
      → (1 ≤ times b (map (moves x y) g.loose)) ⊎ ((j : ℕ) × (j < n) × (is_settler (T j) ≡ 1) × (then (g.tok j) ≡ b))
  owner_of g a b h e is = rw e at (moved_cover g a h (rw e is))

  few-kept : {n u : ℕ} {T : ℕ → Role} (g : Owners n v t u T) → length (map (moves x y) g.loose) ≤ u
  few-kept g = omega (arith, length-map g.loose (moves x y), g.few)

  -- A COMMIT by any task
  pub owners_commit : {n u : ℕ} {T : ℕ → Role} → From t t' x y → Owners n v t u T → Owners n w t' u T
  owners_commit {n} {u} {T} from g = record {
    inv = s.after;
    tok = λ j. then (g.tok j);
    loose = map (moves x y) g.loose;
    few = few-kept g;
    owner = λ j. owner_kept (T j) (g.tok j) (g.owner j);
    cover = λ b h. elim (surgery_cover s b h) [
      | inl e ↦ owner_of g y b (from (rw e at h)) (moves-hit x y ∙ sym e) h
      | inr q ↦ owner_of g b b q.0 q.1 h
    ];
  }

  -- A PUT-IN that makes a level record: the task settles next, and owns it
  pub owners_put : {n u : ℕ} {T : ℕ → Role} (i k : ℕ) → i < n → T i ≡ other → k < 4294967295 → 1 ≤ lev_at 255 x t' → Has y (route k t)
      → Owners n v t u T → Owners n w t' u (cast T i (settler k (walking 0)))
  owners_put {n} {u} {T} i k lo was lt is at_y g = record {
    inv = s.after;
    tok = cast (λ j. then (g.tok j)) i x;
    loose = map (moves x y) g.loose;
    few = few-kept g;
    owner = cast-both (Owner w t') T i (settler k (walking 0)) (λ j. then (g.tok j)) x
        (lt, inr (is, on, tree (inl (refl, level-here 255 k x t' (at_most w t' x s.after) is on)))) (λ j. owner_kept (T j) (g.tok j) (g.owner j));
    cover = λ b h. elim (surgery_cover s b h) [
      | inl e ↦ inr (i, lo, ap is_settler (cast-hit T i (settler k (walking 0))), cast-hit (λ j. then (g.tok j)) i x ∙ sym e)
      | inr q ↦ (elim (owner_of g b b q.0 q.1 h) [
        | inl p ↦ inl p
        | inr r ↦ (let d = other r.0 r.2 in inr (r.0, r.1, ap is_settler (cast-miss T i (settler k (walking 0)) r.0 d) ∙ r.2, cast-miss (λ j. then (g.tok j)) i x r.0 d ∙ r.3))
      ])
    ];
  }
    where
      on : Has x (route k t')
      on = rw (moves-hit x y) at (surgery_has s k lt y (rw (moves-hit x y) is) at_y)

      other : (j : ℕ) → is_settler (T j) ≡ 1 → j ≡ i → ⊥
      other j one e = omega (arith, sym (ap is_settler (ap T e ∙ was)) ∙ one)

-- ---- the steps of settling tasks: the view and the tree are as before

module _ {n : ℕ} {v : View} {t : Tree} {u : ℕ} {T : ℕ → Role} (g : Owners n v t u T) (i : ℕ) where
  -- the task goes on with its token
  pub owners_on : (k : ℕ) (p : Where) → Owner v t (settler k p) (g.tok i) → Owners n v t u (cast T i (settler k p))
  owners_on k p o = record {
    inv = g.inv;
    tok = g.tok;
    loose = g.loose;
    few = g.few;
    owner = cast-one (λ j τ. Owner v t τ (g.tok j)) T i (settler k p) o g.owner;
    cover = λ b h. elim (g.cover b h) [ inl q ↦ inl q | inr q ↦ inr (q.0, q.1, cast-one (λ j τ. is_settler (T j) ≡ 1 → is_settler τ ≡ 1) T i (settler k p) (λ e. refl) (λ j e. e) q.0 q.2, q.3) ];
  }

  -- the task goes: what it owned is covered by a list that covers all that was loose
  owners_off : (u' : ℕ) (l : List ℕ) → length l ≤ u' → ((b : ℕ) → times b g.loose ≤ times b l) → ((b : ℕ) → 1 ≤ lev_at 255 b t → g.tok i ≡ b → 1 ≤ times b l) → Owners n v t u' (cast T i other)
  owners_off u' l few more own = record {
    inv = g.inv;
    tok = g.tok;
    loose = l;
    few = few;
    owner = cast-one (λ j τ. Owner v t τ (g.tok j)) T i other tt g.owner;
    cover = λ b h. elim (g.cover b h) [
      | inl q ↦ inl (omega (arith, more b))
      | inr q ↦ (elim (same_or q.0 i) [
        | inl e ↦ inl (own b h (ap g.tok (sym e) ∙ q.3))
        | inr d ↦ inr (q.0, q.1, ap is_settler (cast-miss T i other q.0 d) ∙ q.2, q.3)
      ])
    ];
  }

  -- ABANDON, or 6: one more of the u
  pub owners_leave : Owners n v t (suc u) (cast T i other)
  owners_leave = owners_off (suc u) (g.tok i ∷ g.loose) (omega (arith, g.few)) (λ b. omega arith) (λ b h e. omega (arith, ind-eq b (g.tok i) (sym e)))

  module _ (k : ℕ) (p : Where) (is : T i ≡ settler k p) where
    now : (k < 4294967295) × Owns v t k p (g.tok i)
    now = subst (λ τ. Owner v t τ (g.tok i)) is (g.owner i)

    -- RESTART: the entry is above everything
    pub owners_restart : Owners n v t u (cast T i (settler k (walking 0)))
    owners_restart = owners_on k (walking 0) (now.0, elim now.1 [ inl e ↦ inl e | inr q ↦ inr (q.0, q.1, tree (inl (refl, level-here 255 k (g.tok i) t (at_most v t (g.tok i) g.inv) q.0 q.1))) ])

    -- the task reads
    pub owners_read : Owners n v t u (cast T i (settler k reads))
    owners_read = owners_on k reads (now.0, elim now.1 [ inl e ↦ inl e | inr q ↦ inr (q.0, q.1, tt) ])

  module _ (k h : ℕ) (is : T i ≡ settler k (walking h)) (apart : lv (v h).rank (v (next v k h)).rank ≡ true → ⊥) where
    arrives : (k < 4294967295) × Owns v t k (walking (next v k h)) (g.tok i)
    arrives = let o = now k (walking h) is in (o.0, elim o.1 [ inl e ↦ inl e | inr q ↦ inr (q.0, q.1, meets_next v k (g.tok i) (full k t) (walk_full v k t o.0 g.inv) h apart q.2) ])

    -- ARRIVAL at a record that is not level
    pub owners_walk : Owners n v t u (cast T i (settler k (walking (next v k h))))
    owners_walk = owners_on k (walking (next v k h)) arrives

    -- ARRIVAL at a leaf: the task owns nothing, and may end with 3
    pub owners_end : next v k (next v k h) ≡ 0 → Owners n v t u (cast T i other)
    owners_end z = owners_off u g.loose g.few (λ b. omega arith) (λ b lb e. absurd (none b lb e arrives.1))
      where
        none : (b : ℕ) → 1 ≤ lev_at 255 b t → g.tok i ≡ b → Owns v t k (walking (next v k h)) (g.tok i) → ⊥
        none b lb e (inl q) = let lb₀ : 1 ≤ lev_at 255 0 t = subst (λ y. 1 ≤ lev_at 255 y t) (sym e ∙ q) lb in omega (arith, lev_at-le 255 0 t, zero_out v t g.inv)
        none b lb e (inr q) = meets_leaf v k (g.tok i) (full k t) (walk_full v k t arrives.0 g.inv) (next v k h) z q.2
