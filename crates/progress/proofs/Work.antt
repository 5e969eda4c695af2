-- THE WORK LEFT falls with every settling commit, and only a level put-in adds to it.
use Prim.Native.Nat.{◌*◌, ◌+◌, ◌-◌, ◌≤◌, suc, ℕ}
use mathlib.Core.Bool.{Bool, false, true}
use mathlib.Core.Logic.{◌⊎◌, inl, inr}
use mathlib.Core.Path.{◌≡◌, ap, refl, sym}
use native.Mathlib.Omega.{arith}
use Rattle.commits.proofs.Acts.{Act, Kind, doubles, level_put, promotes, puts, puts-in, rotates1, rotates2, settles, takes, takes_out}
use Rattle.commits.proofs.Forms.{deep, flat, lean, rank-join, renew, turn}
use Rattle.commits.proofs.Grounds.{InnerRank, two-ranks}
use Rattle.commits.proofs.Shape.{Shape, ranked_join, shape_at}
use Rattle.machine.specs.Table.{View}
use Rattle.progress.specs.Work.{adds_to, takes_off, weight, work, work_c}
use Rattle.routes.proofs.Level.{lv-eq, lv-not_255, lvs-le, lvs-not, lvs-yes}
use Rattle.routes.specs.Route.{lev, lv, lvs, rank_c}
use Rattle.trees.specs.Marks.{Marked}
use Rattle.trees.specs.Rank.{rank}
use Rattle.trees.specs.Tree.{Ctx, Tree, hole, join, leaf, node, plug, top}
use Rattle.views.proofs.Law.{same_or}

-- ---- one record

weight-le : (q r : ℕ) → weight q r ≤ 29 - r
unfolding weight
weight-le q r = lvs-le q r (29 - r)

pub weight-not : (q r : ℕ) → (lv q r ≡ true → ⊥) → weight q r ≡ 0
unfolding weight
weight-not q r h = lvs-not q r (29 - r) h

weight-yes : (q r : ℕ) → lv q r ≡ true → weight q r ≡ 29 - r
unfolding weight
weight-yes q r h = lvs-yes q r (29 - r) h

-- ranks that differ are not level
weight-apart : (q r : ℕ) → (q ≡ r → ⊥) → weight q r ≡ 0
weight-apart q r d = weight-not q r (λ e. d (lv-eq q r e))

weight-top : (q : ℕ) → weight q 255 ≡ 0
weight-top q = weight-not q 255 (lv-not_255 q)

-- a level record that is raised by one, or is level no more
weight-up : (q r : ℕ) → r ≤ 28 → suc (weight q (suc r)) ≤ 29 - r
weight-up q r h = omega (arith, weight-le q (suc r))

-- ---- places

work-join : (b : Bool) (q s k rk : ℕ) (t u : Tree) → work q (join b s k rk t u) ≡ weight q rk + work rk t + work rk u
work-join true q s k rk t u = refl
work-join false q s k rk t u = omega arith

work-plug : (c : Ctx) (t : Tree) → work 255 (plug c t) ≡ work_c c + work (rank_c c) t
work-plug top t = omega arith
work-plug (hole b s k rk u c) t = omega (arith, work-plug c (join b s k rk t u), work-join b (rank_c c) s k rk t u)

-- a tree under another record: only its top counts otherwise
work-under : (q q' : ℕ) (t : Tree) → work q t + weight q' (rank t) ≡ work q' t + weight q (rank t)
work-under q q' (leaf s k pr rk) = omega arith
work-under q q' (node s k rk l r) = omega arith

work-apart : (q q' : ℕ) (t : Tree) → (q' ≡ rank t → ⊥) → work q t ≡ work q' t + weight q (rank t)
work-apart q q' t d = omega (arith, work-under q q' t, weight-apart q' (rank t) d)

work-renew : (q s' : ℕ) (t : Tree) → work q (renew s' t) ≡ work q t
work-renew q s' (leaf s k pr rk) = refl
work-renew q s' (node s k rk l r) = refl

-- ---- the commits

work-lean : (b : Bool) (q z x kx kz rz rx : ℕ) (W Y S : Tree)
    → work q (lean b z x kx kz rz rx W Y S) ≡ weight q rz + weight rz rx + work rx W + work rx Y + work rz S
work-lean b q z x kx kz rz rx W Y S = omega (arith, work-join b q z kz rz (join b x kx rx W Y) S, work-join b rz x kx rx W Y)

work-turn : (b : Bool) (q x z kx kz rx rz : ℕ) (W Y S : Tree)
    → work q (turn b x z kx kz rx rz W Y S) ≡ weight q rx + weight rx rz + work rx W + work rz Y + work rz S
work-turn b q x z kx kz rx rz W Y S = omega (arith, work-join b q x kx rx W (join b z kz rz Y S), work-join b rx z kz rz Y S)

work-deep : (b : Bool) (q z x y kx ky kz rz rx ry : ℕ) (W A B S : Tree)
    → work q (deep b z x y kx ky kz rz rx ry W A B S) ≡ weight q rz + weight rz rx + weight rx ry + work rx W + work ry A + work ry B + work rz S
work-deep b q z x y kx ky kz rz rx ry W A B S =
    omega (arith, work-join b q z kz rz (join b x kx rx W (join b y ky ry A B)) S, work-join b rz x kx rx W (join b y ky ry A B), work-join b rx y ky ry A B)

work-flat : (b : Bool) (q y x z kx ky kz ry rx rz : ℕ) (W A B S : Tree)
    → work q (flat b y x z kx ky kz ry rx rz W A B S) ≡ weight q ry + weight ry rx + weight ry rz + work rx W + work rx A + work rz B + work rz S
work-flat b q y x z kx ky kz ry rx rz W A B S = omega (arith, work-join b q y ky ry (join b x kx rx W A) (join b z kz rz B S), work-join b ry x kx rx W A, work-join b ry z kz rz B S)

-- a put-in: the two leaves are not level, the new inner record has rank 1 or is a sentinel
put-new : (RK rh rl rm : ℕ) → InnerRank rh RK → ((rl ≡ 0) × (rm ≡ rh)) ⊎ ((rl ≡ rh) × (rm ≡ 0)) → (weight RK rl ≡ 0) × (weight RK rm ≡ 0)
put-new RK rh rl rm (inl e) r =
    elim r [
      | inl q ↦ (weight-apart RK rl (λ z. omega (arith, q.0, e.1)), rw (q.1, e.0) (weight-top RK))
      | inr q ↦ (rw (q.0, e.0) (weight-top RK), weight-apart RK rm (λ z. omega (arith, q.1, e.1)))
    ]
put-new RK rh rl rm (inr e) r =
    elim r [
      | inl q ↦ (weight-apart RK rl (λ z. omega (arith, q.0, e.1)), weight-apart RK rm (λ z. omega (arith, q.1, e.0, e.1)))
      | inr q ↦ (weight-apart RK rl (λ z. omega (arith, q.0, e.0, e.1)), weight-apart RK rm (λ z. omega (arith, q.1, e.1)))
    ]

put-top : (q RK rh : ℕ) → InnerRank rh RK → weight q RK ≤ adds_to (lv q RK)
put-top q RK rh r = go (lv q RK) refl
  where
    go : (b : Bool) → lv q RK ≡ b → weight q RK ≤ adds_to b
    go true e = elim r [ inl h ↦ (let z : weight q RK ≡ 0 = rw h.1 (weight-top q) in omega arith) | inr h ↦ omega (arith, weight-le q RK, h.1) ]
    go false e = omega (arith, weight-not q RK (λ y. let z : ◌≡◌ {A = ℕ} 0 1 = cc in omega arith))

pub act_work : {v w : View} {kind : Kind} {t t' : Tree} (act : Act v kind t w t') → Shape t → work 255 t' + takes_off kind ≤ work 255 t + adds_to (level_put act)
act_work (puts c k p h kh ph rh a l m RK kl pl rl km pm rm fa fl fm al lm r two fits on) f =
    let n = put-new RK rh rl rm r (two-ranks k p kh ph rh kl pl rl km pm rm two) in
    omega (arith, work-plug c (node a km RK (leaf l kl pl rl) (leaf m km pm rm)), work-plug c (leaf h kh ph rh), n.0, n.1, put-top (rank_c c) RK rh r)
act_work (takes c b p kp rp l kl pl rl s' S free fare) f =
    let t = shape_at c (join b p kp rp (leaf l kl pl rl) S) f in
    let r = ranked_join b p kp rp (leaf l kl pl rl) S t.ranks in
    let up : rp ≤ rank_c c = rw (rank-join b p kp rp (leaf l kl pl rl) S) at t.under in
    omega (
      arith,
      work-plug c (renew s' S),
      work-renew (rank_c c) s' S,
      work-plug c (join b p kp rp (leaf l kl pl rl) S),
      work-join b (rank_c c) p kp rp (leaf l kl pl rl) S,
      kept (rank_c c) rp S up r.1,
    )
  where
    kept : (q rp : ℕ) (S : Tree) → rp ≤ q → rank S ≤ rp → work q S ≤ work rp S
    kept q rp S up hs =
        elim (same_or q (rank S)) [
          | inl e ↦ (let g : q ≡ rp = omega arith in rw g (omega arith))
          | inr d ↦ omega (arith, work-apart rp q S d)
        ]
act_work (promotes c b z z' key r X S free lx near up lim) f =
    let t = shape_at c (join b z key r X S) f in
    let q = ranked_join b z key r X S t.ranks in
    let e = lv-eq r (rank X) lx in
    omega (
      arith,
      work-plug c (join b z' key (suc r) X S),
      work-join b (rank_c c) z' key (suc r) X S,
      work-plug c (join b z key r X S),
      work-join b (rank_c c) z key r X S,
      work-apart r (suc r) X (λ d. omega arith),
      work-apart r (suc r) S (λ d. omega (arith, q.1)),
      weight-yes r (rank X) lx,
      weight-up (rank_c c) r (omega arith),
    )
act_work (rotates1 c b z x x' z' kx kz rx j W Y S fx fz xz lx hy hs lim) f =
    let e : suc j ≡ rx = lv-eq (suc j) rx lx in
    let g : weight (rank_c c) rx ≡ weight (rank_c c) (suc j) = ap (weight (rank_c c)) (sym e) in
    omega (
      arith,
      work-plug c (turn b x' z' kx kz rx j W Y S),
      work-turn b (rank_c c) x' z' kx kz rx j W Y S,
      work-plug c (lean b z x kx kz (suc j) rx W Y S),
      work-lean b (rank_c c) z x kx kz (suc j) rx W Y S,
      g,
      weight-apart rx j (λ d. omega arith),
      work-apart rx j Y (λ d. omega arith),
      work-apart (suc j) j S (λ d. omega arith),
      weight-yes (suc j) rx lx,
    )
act_work (rotates2 c b z x x' z' kx kz rx j W Y S fx fz xz lx hy hw hs up lim) f =
    let e : suc j ≡ rx = lv-eq (suc j) rx lx in
    omega (
      arith,
      work-plug c (turn b x' z' kx kz (suc rx) (suc j) W Y S),
      work-turn b (rank_c c) x' z' kx kz (suc rx) (suc j) W Y S,
      work-plug c (lean b z x kx kz (suc j) rx W Y S),
      work-lean b (rank_c c) z x kx kz (suc j) rx W Y S,
      weight-apart (suc rx) (suc j) (λ d. omega arith),
      work-apart rx (suc rx) W (λ d. omega arith),
      work-apart rx (suc j) Y (λ d. omega arith),
      weight-yes (suc j) rx lx,
      weight-up (rank_c c) rx (omega arith),
    )
act_work (doubles c b z x y y' x' z' kx ky kz rx ry j W A B S fy fx fz up lx ey hw hs lim) f =
    let e : suc j ≡ rx = lv-eq (suc j) rx lx in
    let a : work ry A ≡ work j A = ap (λ q. work q A) ey in
    let b' : work ry B ≡ work j B = ap (λ q. work q B) ey in
    omega (
      arith,
      work-plug c (flat b y' x' z' kx ky kz (suc j) j j W A B S),
      work-flat b (rank_c c) y' x' z' kx ky kz (suc j) j j W A B S,
      work-plug c (deep b z x y kx ky kz (suc j) rx ry W A B S),
      work-deep b (rank_c c) z x y kx ky kz (suc j) rx ry W A B S,
      a,
      b',
      weight-apart (suc j) j (λ d. omega arith),
      work-apart rx j W (λ d. omega arith),
      work-apart (suc j) j S (λ d. omega arith),
      weight-yes (suc j) rx lx,
    )

-- by kind
settle-level : {v w : View} {t t' : Tree} (act : Act v settles t w t') → level_put act ≡ false
settle-level (promotes c b z z' key r X S free lx near up lim) = refl
settle-level (rotates1 c b z x x' z' kx kz rx j W Y S fx fz xz lx hy hs lim) = refl
settle-level (rotates2 c b z x x' z' kx kz rx j W Y S fx fz xz lx hy hw hs up lim) = refl
settle-level (doubles c b z x y y' x' z' kx ky kz rx ry j W A B S fy fx fz up lx ey hw hs lim) = refl

pub settle-work : {v w : View} {t t' : Tree} (act : Act v settles t w t') → Shape t → suc (work 255 t') ≤ work 255 t
settle-work act f = omega (arith, act_work act f, ap adds_to (settle-level act))

take_level : {v w : View} {k : ℕ} {t t' : Tree} (act : Act v (takes_out k) t w t') → level_put act ≡ false
take_level (takes c b p kp rp l kl pl rl s' S free fare) = refl

pub take_work : {v w : View} {k : ℕ} {t t' : Tree} (act : Act v (takes_out k) t w t') → Shape t → work 255 t' ≤ work 255 t
take_work act f = omega (arith, act_work act f, ap adds_to (take_level act))

pub put-work : {v w : View} {k p : ℕ} {t t' : Tree} (act : Act v (puts-in k p) t w t') → Shape t → work 255 t' ≤ work 255 t + adds_to (level_put act)
put-work act f = omega (arith, act_work act f)

-- ---- at most 28 for each level record

weight-28 : (q r : ℕ) → 1 ≤ q → weight q r ≤ 28 * lvs q r 1
weight-28 q r h = go (lv q r) refl
  where
    go : (b : Bool) → lv q r ≡ b → weight q r ≤ 28 * lvs q r 1
    go true e = omega (arith, weight-le q r, lv-eq q r e, lvs-yes q r 1 e)
    go false e = omega (arith, weight-not q r (λ y. let z : ◌≡◌ {A = ℕ} 0 1 = cc in omega arith))

pub work-28 : (q : ℕ) (t : Tree) → 1 ≤ q → Marked t → work q t ≤ 28 * lev q t
work-28 q (leaf s k pr rk) h m = weight-28 q rk h
work-28 q (node s k rk l r) h m =
    let one : 1 ≤ rk = elim m.0 [ inl e ↦ omega (arith, e.1) | inr e ↦ omega (arith, e.1) ] in
    omega (arith, weight-28 q rk h, work-28 rk l one m.1, work-28 rk r one m.2)
