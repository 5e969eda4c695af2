-- A level record of rank 2 or more has no level child: every commit keeps this, where the record above a promotion or a rotation is not level.
use Prim.Native.Nat.{◌<◌, ◌≤◌, suc, ℕ}
use mathlib.Core.Bool.{Bool, false, true}
use mathlib.Core.Logic.{inl, inr}
use mathlib.Core.Path.{◌∙◌, ◌≡◌, refl, subst, sym}
use native.Mathlib.Omega.{arith}
use Rattle.commits.proofs.Acts.{Act, Kind, above_act, doubles, promotes, puts, rotates1, rotates2, settles, takes}
use Rattle.commits.proofs.Forms.{deep, flat, lean, rank-join, renew, turn}
use Rattle.commits.proofs.Grounds.{InnerRank}
use Rattle.commits.proofs.Shape.{Shape, ranked_join, shape_at}
use Rattle.machine.specs.Table.{View}
use Rattle.routes.proofs.Level.{lev_at-plug, lv-eq, lv-not_255, lv-yes, lvs-yes}
use Rattle.routes.specs.Route.{lev_at, lv, rank_c}
use Rattle.trees.proofs.Plug.{ind-same}
use Rattle.trees.specs.Rank.{rank}
use Rattle.trees.specs.Tree.{Ctx, Tree, hole, ind, join, leaf, node, parent, plug, top}
use Rattle.undamaged.specs.Calm.{Calm, CalmC, NoTwo}

no-two_swap : (q rk x y : ℕ) → NoTwo q rk x y → NoTwo q rk y x
no-two_swap q rk x y h = λ a b. let g = h a b in (g.1, g.0)

calm-join : (b : Bool) (q s k rk : ℕ) (t u : Tree) → Calm q (join b s k rk t u) → NoTwo q rk (rank t) (rank u) × Calm rk t × Calm rk u
calm-join true q s k rk t u h = h
calm-join false q s k rk t u h = (no-two_swap q rk (rank u) (rank t) h.0, h.2, h.1)

join-calm : (b : Bool) (q s k rk : ℕ) (t u : Tree) → NoTwo q rk (rank t) (rank u) → Calm rk t → Calm rk u → Calm q (join b s k rk t u)
join-calm true q s k rk t u n h g = (n, h, g)
join-calm false q s k rk t u n h g = (no-two_swap q rk (rank t) (rank u) n, g, h)

pub calm-apart : (c : Ctx) (t : Tree) → Calm 255 (plug c t) → Calm (rank_c c) t × CalmC (rank t) c
calm-apart top t h = (h, tt)
calm-apart (hole b s k rk u c) t h =
    let g = calm-apart c (join b s k rk t u) h in
    let j = calm-join b (rank_c c) s k rk t u g.0 in
    (j.1, (j.0, j.2, subst (λ r. CalmC r c) (rank-join b s k rk t u) g.1))

calm-together : (c : Ctx) (t : Tree) → Calm (rank_c c) t → CalmC (rank t) c → Calm 255 (plug c t)
calm-together top t h g = h
calm-together (hole b s k rk u c) t h g =
    calm-together c (join b s k rk t u) (join-calm b (rank_c c) s k rk t u g.0 h g.1) (subst (λ r. CalmC r c) (sym (rank-join b s k rk t u)) g.2)

-- under another record: what is level there was level before
calm-under : (q q' : ℕ) (t : Tree) → (lv q' (rank t) ≡ true → 2 ≤ rank t → lv q (rank t) ≡ true) → Calm q t → Calm q' t
calm-under q q' (leaf s k pr rk) h c = tt
calm-under q q' (node s k rk l r) h c = (λ a b. c.0 (h a b) b, c.1, c.2)

calm-off : (q q' : ℕ) (t : Tree) → (q' ≡ rank t → ⊥) → Calm q t → Calm q' t
calm-off q q' t d c = calm-under q q' t (λ a b. absurd (d (lv-eq q' (rank t) a))) c

-- another rank in the hole
around-keep : (c : Ctx) (q q' : ℕ) → (lv (rank_c c) q' ≡ true → 2 ≤ rank_c c → lv (rank_c c) q ≡ true) → CalmC q c → CalmC q' c
around-keep top q q' h g = tt
around-keep (hole b s k rk u c) q q' h g = ((λ x y. let f = g.0 x y in (λ z. f.0 (h z y), f.1)), g.1, g.2)

-- the record above is not level
abbrev pub LowC : Ctx → Type 0
LowC top = Unit {0}
LowC (hole b s k rk u c) = lv (rank_c c) rk ≡ true → ⊥

around-low : (c : Ctx) (q q' : ℕ) → LowC c → CalmC q c → CalmC q' c
around-low top q q' l g = tt
around-low (hole b s k rk u c) q q' l g = ((λ x y. absurd (l x)), g.1, g.2)

pub low-above : (c : Ctx) (t : Tree) → lev_at 255 (parent c) (plug c t) ≡ 0 → LowC c
low-above top t e = tt
low-above (hole b s k rk u c) t e = λ l. omega (arith, lev_at-plug s (hole b s k rk u c) t, lvs-yes (rank_c c) rk (ind s s) l, ind-same s)

-- ---- the commits

apart_by : (q r : ℕ) → (q ≡ r → ⊥) → lv q r ≡ true → ⊥
apart_by q r d e = d (lv-eq q r e)

put-calm : (c : Ctx) (h kh ph rh a l m K RK kl pl rl km pm rm : ℕ) → (lv RK rl ≡ true → ⊥) → (lv RK rm ≡ true → ⊥) → InnerRank rh RK → Calm 255 (plug c (leaf h kh ph rh))
    → Calm 255 (plug c (node a K RK (leaf l kl pl rl) (leaf m km pm rm)))
put-calm c h kh ph rh a l m K RK kl pl rl km pm rm nl nm r g =
    let o = calm-apart c (leaf h kh ph rh) g in
    calm-together c (node a K RK (leaf l kl pl rl) (leaf m km pm rm)) ((λ x y. (nl, nm)), tt, tt)
    (around-keep c rh RK (λ x y. absurd (elim r [ inl e ↦ lv-not_255 (rank_c c) (rw e.1 at x) | inr e ↦ omega (arith, lv-eq (rank_c c) RK x, e.1) ])) o.1)

renew-calm : (q s' : ℕ) (t : Tree) → Calm q t → Calm q (renew s' t)
renew-calm q s' (leaf s k pr rk) h = tt
renew-calm q s' (node s k rk l r) h = h

renew-rank : (s' : ℕ) (t : Tree) → rank (renew s' t) ≡ rank t
renew-rank s' (leaf s k pr rk) = refl
renew-rank s' (node s k rk l r) = refl

-- a copy that is level with the grandparent was level with a level parent
take_calm : (c : Ctx) (b : Bool) (p kp rp l kl pl rl s' : ℕ) (S : Tree) → rank S ≤ rp → rp ≤ rank_c c → Calm 255 (plug c (join b p kp rp (leaf l kl pl rl) S)) → Calm 255 (plug c (renew s' S))
take_calm c b p kp rp l kl pl rl s' S hs hp g =
    let o = calm-apart c (join b p kp rp (leaf l kl pl rl) S) g in
    let j = calm-join b (rank_c c) p kp rp (leaf l kl pl rl) S o.0 in
    let both : lv (rank_c c) (rank S) ≡ true → (lv (rank_c c) rp ≡ true) × (lv rp (rank S) ≡ true) = λ e. same e in
    calm-together c (renew s' S)
    (renew-calm (rank_c c) s' S (calm-under rp (rank_c c) S (λ e two. absurd ((j.0 (both e).0 (omega (arith, lv-eq (rank_c c) (rank S) e))).1 (both e).1)) j.2))
    (subst (λ r. CalmC r c) (sym (renew-rank s' S))
    (around-keep c rp (rank S) (λ e two. (both e).0) (subst (λ r. CalmC r c) (rank-join b p kp rp (leaf l kl pl rl) S) o.1)))
  where
    same : lv (rank_c c) (rank S) ≡ true → (lv (rank_c c) rp ≡ true) × (lv rp (rank S) ≡ true)
    same e =
        let q : rp ≡ rank S = omega (arith, lv-eq (rank_c c) (rank S) e) in
        let r : rp ≡ rank_c c = omega (arith, lv-eq (rank_c c) (rank S) e) in
        (rw q e, subst (λ y. lv y (rank S) ≡ true) (sym r) e)

promote-calm : (c : Ctx) (b : Bool) (z z' k r : ℕ) (X S : Tree) → LowC c → rank X ≡ r → rank S ≤ r → Calm 255 (plug c (join b z k r X S)) → Calm 255 (plug c (join b z' k (suc r) X S))
promote-calm c b z z' k r X S low ex hs g =
    let o = calm-apart c (join b z k r X S) g in
    let j = calm-join b (rank_c c) z k r X S o.0 in
    calm-together c (join b z' k (suc r) X S)
    (join-calm b (rank_c c) z' k (suc r) X S (λ x y. (apart_by (suc r) (rank X) (λ e. omega arith), apart_by (suc r) (rank S) (λ e. omega arith)))
    (calm-off r (suc r) X (λ e. omega arith) j.1) (calm-off r (suc r) S (λ e. omega arith) j.2))
    (around-low c _ _ low o.1)

-- z is not level where x is, and has rank 2 or more
not_level_z : (q rz x y : ℕ) → NoTwo q rz x y → 2 ≤ rz → lv rz x ≡ true → lv q rz ≡ true → ⊥
not_level_z q rz x y n two lx lz = (n lz two).0 lx

rotate1-calm : (c : Ctx) (b : Bool) (z x x' z' kx kz j : ℕ) (W Y S : Tree) → suc j < 255 → suc (rank Y) ≤ j → suc (rank S) ≤ j → Calm 255 (plug c (lean b z x kx kz (suc j) (suc j) W Y S))
    → Calm 255 (plug c (turn b x' z' kx kz (suc j) j W Y S))
rotate1-calm c b z x x' z' kx kz j W Y S small hy hs g =
    let o = calm-apart c (lean b z x kx kz (suc j) (suc j) W Y S) g in
    let jz = calm-join b (rank_c c) z kz (suc j) (join b x kx (suc j) W Y) S o.0 in
    let jx = calm-join b (suc j) x kx (suc j) W Y jz.1 in
    let no-z = not_level_z (rank_c c) (suc j) (rank (join b x kx (suc j) W Y)) (rank S) jz.0 (omega arith) (rw (rank-join b x kx (suc j) W Y) (lv-yes (suc j) (suc j) refl small)) in
    calm-together c (turn b x' z' kx kz (suc j) j W Y S)
    (join-calm b (rank_c c) x' kx (suc j) W (join b z' kz j Y S) (λ x y. absurd (no-z x)) jx.1
    (join-calm b (suc j) z' kz j Y S (λ x y. absurd (apart_by (suc j) j (λ e. omega arith) x)) (calm-off (suc j) j Y (λ e. omega arith) jx.2) (calm-off (suc j) j S (λ e. omega arith) jz.2)))
    (subst (λ r. CalmC r c) (rank-join b z kz (suc j) (join b x kx (suc j) W Y) S ∙ sym (rank-join b x' kx (suc j) W (join b z' kz j Y S))) o.1)

rotate2-calm : (c : Ctx) (b : Bool) (z x x' z' kx kz j : ℕ) (W Y S : Tree) → LowC c → rank Y ≡ j → rank W ≡ j → Calm 255 (plug c (lean b z x kx kz (suc j) (suc j) W Y S))
    → Calm 255 (plug c (turn b x' z' kx kz (suc (suc j)) (suc j) W Y S))
rotate2-calm c b z x x' z' kx kz j W Y S low ey ew g =
    let o = calm-apart c (lean b z x kx kz (suc j) (suc j) W Y S) g in
    let jz = calm-join b (rank_c c) z kz (suc j) (join b x kx (suc j) W Y) S o.0 in
    let jx = calm-join b (suc j) x kx (suc j) W Y jz.1 in
    calm-together c (turn b x' z' kx kz (suc (suc j)) (suc j) W Y S)
    (join-calm b (rank_c c) x' kx (suc (suc j)) W (join b z' kz (suc j) Y S)
    (λ x y. (apart_by (suc (suc j)) (rank W) (λ e. omega arith), apart_by (suc (suc j)) (rank (join b z' kz (suc j) Y S)) (λ e. omega (arith, rank-join b z' kz (suc j) Y S))))
    (calm-off (suc j) (suc (suc j)) W (λ e. omega arith) jx.1)
    (join-calm b (suc (suc j)) z' kz (suc j) Y S (λ x y. absurd (apart_by (suc (suc j)) (suc j) (λ e. omega arith) x)) (calm-off (suc j) (suc j) Y (λ e. omega arith) jx.2) jz.2))
    (around-low c _ _ low o.1)

double-calm : (c : Ctx) (b : Bool) (z x y y' x' z' kx ky kz j : ℕ) (W A B S : Tree) → suc j < 255 → suc (rank W) ≤ j → suc (rank S) ≤ j
    → Calm 255 (plug c (deep b z x y kx ky kz (suc j) (suc j) j W A B S)) → Calm 255 (plug c (flat b y' x' z' kx ky kz (suc j) j j W A B S))
double-calm c b z x y y' x' z' kx ky kz j W A B S small hw hs g =
    let o = calm-apart c (deep b z x y kx ky kz (suc j) (suc j) j W A B S) g in
    let jz = calm-join b (rank_c c) z kz (suc j) (join b x kx (suc j) W (join b y ky j A B)) S o.0 in
    let jx = calm-join b (suc j) x kx (suc j) W (join b y ky j A B) jz.1 in
    let jy = calm-join b (suc j) y ky j A B jx.2 in
    let no-z = not_level_z (rank_c c) (suc j) (rank (join b x kx (suc j) W (join b y ky j A B))) (rank S) jz.0 (omega arith) (rw (rank-join b x kx (suc j) W (join b y ky j A B)) (lv-yes (suc j) (suc j) refl small)) in
    let low = apart_by (suc j) j (λ e. omega arith) in
    calm-together c (flat b y' x' z' kx ky kz (suc j) j j W A B S)
    (join-calm b (rank_c c) y' ky (suc j) (join b x' kx j W A) (join b z' kz j B S) (λ p q. absurd (no-z p))
    (join-calm b (suc j) x' kx j W A (λ p q. absurd (low p)) (calm-off (suc j) j W (λ e. omega arith) jx.1) jy.1)
    (join-calm b (suc j) z' kz j B S (λ p q. absurd (low p)) jy.2 (calm-off (suc j) j S (λ e. omega arith) jz.2)))
    (subst (λ r. CalmC r c) (rank-join b z kz (suc j) (join b x kx (suc j) W (join b y ky j A B)) S ∙ sym (rank-join b y' ky (suc j) (join b x' kx j W A) (join b z' kz j B S))) o.1)

-- EVERY commit
pub act_calm : {v w : View} {kind : Kind} {t t' : Tree} (act : Act v kind t w t') → Shape t → (kind ≡ settles → lev_at 255 (above_act act) t ≡ 0) → Calm 255 t → Calm 255 t'
act_calm (puts c k p h kh ph rh a l m RK kl pl rl km pm rm fa fl fm al lm r two fits on) f low g =
    put-calm c h kh ph rh a l m km RK kl pl rl km pm rm fits.low-apart fits.high-apart r g
act_calm (takes c b p kp rp l kl pl rl s' S free fare) f low g =
    let t = shape_at c (join b p kp rp (leaf l kl pl rl) S) f in
    let r = ranked_join b p kp rp (leaf l kl pl rl) S t.ranks in
    take_calm c b p kp rp l kl pl rl s' S r.1 (rw (rank-join b p kp rp (leaf l kl pl rl) S) at t.under) g
act_calm (promotes c b z z' key r X S free lx near up lim) f low g =
    let t = shape_at c (join b z key r X S) f in
    promote-calm c b z z' key r X S (low-above c (join b z key r X S) (low refl)) (sym (lv-eq r (rank X) lx)) (ranked_join b z key r X S t.ranks).1 g
act_calm (rotates1 c b z x x' z' kx kz rx j W Y S fx fz xz lx hy hs lim) f low g =
    let e : suc j ≡ rx = lv-eq (suc j) rx lx in
    subst (λ r. Calm 255 (plug c (turn b x' z' kx kz r j W Y S))) e
    (rotate1-calm c b z x x' z' kx kz j W Y S (omega arith) hy hs (subst (λ r. Calm 255 (plug c (lean b z x kx kz (suc j) r W Y S))) (sym e) g))
act_calm (rotates2 c b z x x' z' kx kz rx j W Y S fx fz xz lx hy hw hs up lim) f low g =
    let e : suc j ≡ rx = lv-eq (suc j) rx lx in
    subst (λ r. Calm 255 (plug c (turn b x' z' kx kz (suc r) (suc j) W Y S))) e
    (rotate2-calm c b z x x' z' kx kz j W Y S (low-above c (lean b z x kx kz (suc j) rx W Y S) (low refl)) hy hw (subst (λ r. Calm 255 (plug c (lean b z x kx kz (suc j) r W Y S))) (sym e) g))
act_calm (doubles c b z x y y' x' z' kx ky kz rx ry j W A B S fy fx fz up lx ey hw hs lim) f low g =
    let e : suc j ≡ rx = lv-eq (suc j) rx lx in
    double-calm c b z x y y' x' z' kx ky kz j W A B S (omega arith) hw hs
    (subst (λ q. Calm 255 (plug c (deep b z x y kx ky kz (suc j) (suc j) q W A B S))) ey (subst (λ r. Calm 255 (plug c (deep b z x y kx ky kz (suc j) r ry W A B S))) (sym e) g))
