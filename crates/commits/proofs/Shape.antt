-- No child outranks its parent, and the search order: kept by the six commits. With this the grounds of a commit are those that the settling table tests.
use Prim.Native.Nat.{◌<◌, ◌≤◌, suc, ℕ}
use mathlib.Core.Bool.{Bool, false, true}
use mathlib.Core.Logic.{inl, inr}
use mathlib.Core.Path.{◌≡◌, refl}
use native.Mathlib.Omega.{arith}
use Rattle.commits.proofs.Forms.{deep, flat, lean, rank-join, renew, turn}
use Rattle.routes.specs.Route.{rank_c}
use Rattle.trees.proofs.Mirror.{Toward}
use Rattle.trees.proofs.Search.{ordered_apart, ordered_lt, ordered_together}
use Rattle.trees.specs.Marks.{Marked, MarkedC, NodeMarks}
use Rattle.trees.specs.Order.{ALL, Ordered, high, low}
use Rattle.trees.specs.Rank.{Ranked, rank}
use Rattle.trees.specs.Tree.{Ctx, Tree, hole, join, leaf, node, plug, top}

pub record Shape (t : Tree) : Type 0 where
  pub ranked : Ranked t
  pub limit : rank t ≤ 255
  pub order : Ordered 0 ALL t
  pub marks : Marked t

abbrev pub RanksC : Ctx → Type 0
RanksC top = Unit {0}
RanksC (hole b s k rk u c) = (rk ≤ rank_c c) × (rank u ≤ rk) × Ranked u × RanksC c

-- what is known of a place, and what is to be shown of what comes there
pub record There (c : Ctx) (t : Tree) : Type 0 where
  pub under : rank t ≤ rank_c c
  pub ranks : Ranked t
  pub within : Ordered (low c) (high c) t
  pub labels : Marked t

pub ranked_join : (b : Bool) (s k rk : ℕ) (t u : Tree) → Ranked (join b s k rk t u) → (rank t ≤ rk) × (rank u ≤ rk) × Ranked t × Ranked u
ranked_join true s k rk t u h = h
ranked_join false s k rk t u h = (h.1, h.0, h.3, h.2)

pub join-ranked : (b : Bool) (s k rk : ℕ) (t u : Tree) → rank t ≤ rk → rank u ≤ rk → Ranked t → Ranked u → Ranked (join b s k rk t u)
join-ranked true s k rk t u a b h g = (a, b, h, g)
join-ranked false s k rk t u a b h g = (b, a, g, h)

ranked_apart : (c : Ctx) (t : Tree) → Ranked (plug c t) → rank (plug c t) ≤ 255 → (rank t ≤ rank_c c) × Ranked t × RanksC c
ranked_apart top t h l = (l, h, tt)
ranked_apart (hole b s k rk u c) t h l =
    let g = ranked_apart c (join b s k rk t u) h l in
    let j = ranked_join b s k rk t u g.1 in
    (j.0, j.2, (rw (rank-join b s k rk t u) at g.0, j.1, j.3, g.2))

ranked_together : (c : Ctx) (t : Tree) → RanksC c → rank t ≤ rank_c c → Ranked t → Ranked (plug c t) × (rank (plug c t) ≤ 255)
ranked_together top t g l h = (h, l)
ranked_together (hole b s k rk u c) t g l h =
    ranked_together c (join b s k rk t u) g.3 (rw (rank-join b s k rk t u) g.0) (join-ranked b s k rk t u l g.1 h g.2)

pub marked-join : (b : Bool) (s k rk : ℕ) (t u : Tree) → Marked (join b s k rk t u) → NodeMarks k rk × Marked t × Marked u
marked-join true s k rk t u h = h
marked-join false s k rk t u h = (h.0, h.2, h.1)

pub join-marked : (b : Bool) (s k rk : ℕ) (t u : Tree) → NodeMarks k rk → Marked t → Marked u → Marked (join b s k rk t u)
join-marked true s k rk t u n h g = (n, h, g)
join-marked false s k rk t u n h g = (n, g, h)

marked-apart : (c : Ctx) (t : Tree) → Marked (plug c t) → Marked t × MarkedC c
marked-apart top t h = (h, tt)
marked-apart (hole b s k rk u c) t h =
    let g = marked-apart c (join b s k rk t u) h in
    let j = marked-join b s k rk t u g.0 in
    (j.1, (j.0, j.2, g.1))

marked-together : (c : Ctx) (t : Tree) → MarkedC c → Marked t → Marked (plug c t)
marked-together top t g h = h
marked-together (hole b s k rk u c) t g h = marked-together c (join b s k rk t u) g.2 (join-marked b s k rk t u g.0 h g.1)

-- an inner record that is no sentinel: its number stays right under another rank from 1 to 28
pub other-rank : (k r r' : ℕ) → NodeMarks k r → r < 255 → 1 ≤ r' → r' ≤ 28 → NodeMarks k r'
other-rank k r r' (inl e) h lo hi = absurd (omega arith)
other-rank k r r' (inr e) h lo hi = inr (e.0, lo, hi)

pub shape_at : (c : Ctx) (t : Tree) → Shape (plug c t) → There c t
shape_at c t s = let g = ranked_apart c t s.ranked s.limit in record { under = g.0; ranks = g.1; within = (ordered_apart c t s.order).1; labels = (marked-apart c t s.marks).0 }

-- the rank above a place
ranks_limit : (c : Ctx) → RanksC c → rank_c c ≤ 255
ranks_limit top h = omega arith
ranks_limit (hole b s k rk u c) h = omega (arith, h.0, ranks_limit c h.3)

pub shape_limit : (c : Ctx) (t : Tree) → Shape (plug c t) → rank_c c ≤ 255
shape_limit c t s = ranks_limit c (ranked_apart c t s.ranked s.limit).2

-- the labels around a place
pub shape_marks : (c : Ctx) (t : Tree) → Shape (plug c t) → MarkedC c
shape_marks c t s = (marked-apart c t s.marks).1

pub shape_of : (c : Ctx) (t t' : Tree) → Shape (plug c t) → There c t' → Shape (plug c t')
shape_of c t t' s n =
    let g = ranked_together c t' (ranked_apart c t s.ranked s.limit).2 n.under n.ranks in
    record { ranked = g.0; limit = g.1; order = ordered_together c t' (ordered_apart c t s.order).0 n.within; marks = marked-together c t' (marked-apart c t s.marks).1 n.labels }

-- ---- the moves

pub widen : (lo lo' hi hi' : ℕ) (t : Tree) → lo' ≤ lo → hi ≤ hi' → Ordered lo hi t → Ordered lo' hi' t
widen lo lo' hi hi' (leaf s k pr rk) a b o = (omega arith, omega arith)
widen lo lo' hi hi' (node s k rk l r) a b o = (widen lo lo' k k l a (omega arith) o.0, widen k k hi hi' r (omega arith) b o.1)

renew-ordered : (lo hi s' : ℕ) (t : Tree) → Ordered lo hi t → Ordered lo hi (renew s' t)
renew-ordered lo hi s' (leaf s k pr rk) o = o
renew-ordered lo hi s' (node s k rk l r) o = o

renew-marked : (s' : ℕ) (t : Tree) → Marked t → Marked (renew s' t)
renew-marked s' (leaf s k pr rk) h = h
renew-marked s' (node s k rk l r) h = h

renew-ranked : (s' : ℕ) (t : Tree) → Ranked t → Ranked (renew s' t) × (rank (renew s' t) ≡ rank t)
renew-ranked s' (leaf s k pr rk) h = (tt, refl)
renew-ranked s' (node s k rk l r) h = (h, refl)

take_ordered : (b : Bool) (lo hi p kp rp l kl pl rl : ℕ) (S : Tree) → Ordered lo hi (join b p kp rp (leaf l kl pl rl) S) → Ordered lo hi S
take_ordered true lo hi p kp rp l kl pl rl S o = widen kp lo hi hi S (omega (arith, ordered_lt lo kp (leaf l kl pl rl) o.0)) (omega arith) o.1
take_ordered false lo hi p kp rp l kl pl rl S o = widen lo lo kp hi S (omega arith) (omega (arith, ordered_lt kp hi (leaf l kl pl rl) o.1)) o.0

pub take_there : (b : Bool) (c : Ctx) (p kp rp l kl pl rl s' : ℕ) (S : Tree) → There c (join b p kp rp (leaf l kl pl rl) S) → There c (renew s' S)
take_there b c p kp rp l kl pl rl s' S t =
    let j = ranked_join b p kp rp (leaf l kl pl rl) S t.ranks in
    let n = renew-ranked s' S j.3 in
    record {
      under = omega (arith, n.1, j.1, t.under, rank-join b p kp rp (leaf l kl pl rl) S);
      ranks = n.0;
      within = renew-ordered (low c) (high c) s' S (take_ordered b (low c) (high c) p kp rp l kl pl rl S t.within);
      labels = renew-marked s' S (marked-join b p kp rp (leaf l kl pl rl) S t.labels).2;
    }

pub copy-there : (c : Ctx) (s' : ℕ) (S : Tree) → There c S → There c (renew s' S)
copy-there c s' S t = let n = renew-ranked s' S t.ranks in record { under = omega (arith, n.1, t.under); ranks = n.0; within = renew-ordered (low c) (high c) s' S t.within; labels = renew-marked s' S t.labels }

promote-ordered : (b : Bool) (lo hi z z' key r r' : ℕ) (X S : Tree) → Ordered lo hi (join b z key r X S) → Ordered lo hi (join b z' key r' X S)
promote-ordered true lo hi z z' key r r' X S o = o
promote-ordered false lo hi z z' key r r' X S o = o

pub promote-there : (b : Bool) (c : Ctx) (z z' key r : ℕ) (X S : Tree) → suc r ≤ rank_c c → suc r ≤ 28 → There c (join b z key r X S) → There c (join b z' key (suc r) X S)
promote-there b c z z' key r X S h lim t =
    let n = marked-join b z key r X S t.labels in
    let j = ranked_join b z key r X S t.ranks in
    record {
      under = omega (arith, rank-join b z' key (suc r) X S);
      ranks = join-ranked b z' key (suc r) X S (omega (arith, j.0)) (omega (arith, j.1)) j.2 j.3;
      within = promote-ordered b (low c) (high c) z z' key r (suc r) X S t.within;
      labels = join-marked b z' key (suc r) X S (other-rank key r (suc r) n.0 (omega arith) (omega arith) lim) n.1 n.2;
    }

pub rotate-toward : (b : Bool) (lo hi z x kx kz rz rx : ℕ) (W Y S : Tree) → Ordered lo hi (lean b z x kx kz rz rx W Y S) → Toward b kx kz
rotate-toward true lo hi z x kx kz rz rx W Y S o = omega (arith, ordered_lt kx kz Y o.0.1)
rotate-toward false lo hi z x kx kz rz rx W Y S o = omega (arith, ordered_lt kz kx Y o.1.0)

rot_ordered : (b : Bool) (x z x' z' kx kz rx rz rx' rz' : ℕ) (W Y S : Tree) (lo hi : ℕ) → Ordered lo hi (lean b z x kx kz rz rx W Y S) → Ordered lo hi (turn b x' z' kx kz rx' rz' W Y S)
rot_ordered true x z x' z' kx kz rx rz rx' rz' W Y S lo hi o = (o.0.0, (o.0.1, o.1))
rot_ordered false x z x' z' kx kz rx rz rx' rz' W Y S lo hi o = ((o.0, o.1.0), o.1.1)

pub rotate-there : (b : Bool) (c : Ctx) (z x x' z' kx kz rz rx rx' rz' : ℕ) (W Y S : Tree) → rx' ≤ rank_c c → rank W ≤ rx' → rz' ≤ rx' → rank Y ≤ rz' → rank S ≤ rz'
    → rx < 255 → rz < 255 → 1 ≤ rz' → rx' ≤ 28
    → There c (lean b z x kx kz rz rx W Y S) → There c (turn b x' z' kx kz rx' rz' W Y S)
rotate-there b c z x x' z' kx kz rz rx rx' rz' W Y S hu hw hz hy hs bx bz lo hi t =
    let n = marked-join b z kz rz (join b x kx rx W Y) S t.labels in
    let m = marked-join b x kx rx W Y n.1 in
    let j = ranked_join b z kz rz (join b x kx rx W Y) S t.ranks in
    let g = ranked_join b x kx rx W Y j.2 in
    record {
      under = omega (arith, rank-join b x' kx rx' W (join b z' kz rz' Y S));
      ranks = join-ranked b x' kx rx' W (join b z' kz rz' Y S) hw (omega (arith, rank-join b z' kz rz' Y S)) g.2 (join-ranked b z' kz rz' Y S hy hs g.3 j.3);
      within = rot_ordered b x z x' z' kx kz rx rz rx' rz' W Y S (low c) (high c) t.within;
      labels = join-marked b x' kx rx' W (join b z' kz rz' Y S) (other-rank kx rx rx' m.0 bx (omega arith) hi) m.1
          (join-marked b z' kz rz' Y S (other-rank kz rz rz' n.0 bz lo (omega arith)) m.2 n.2);
    }

pub double-toward : (b : Bool) (lo hi z x y kx ky kz rz rx ry : ℕ) (W A B S : Tree) → Ordered lo hi (deep b z x y kx ky kz rz rx ry W A B S) → Toward b kx ky × Toward b ky kz
double-toward true lo hi z x y kx ky kz rz rx ry W A B S o = (omega (arith, ordered_lt kx ky A o.0.1.0), omega (arith, ordered_lt ky kz B o.0.1.1))
double-toward false lo hi z x y kx ky kz rz rx ry W A B S o = (omega (arith, ordered_lt ky kx A o.1.0.1), omega (arith, ordered_lt kz ky B o.1.0.0))

double-ordered : (b : Bool) (lo hi z x y y' x' z' kx ky kz rz rx ry ry' rx' rz' : ℕ) (W A B S : Tree) → Ordered lo hi (deep b z x y kx ky kz rz rx ry W A B S)
    → Ordered lo hi (flat b y' x' z' kx ky kz ry' rx' rz' W A B S)
double-ordered true lo hi z x y y' x' z' kx ky kz rz rx ry ry' rx' rz' W A B S o = ((o.0.0, o.0.1.0), (o.0.1.1, o.1))
double-ordered false lo hi z x y y' x' z' kx ky kz rz rx ry ry' rx' rz' W A B S o = ((o.0, o.1.0.0), (o.1.0.1, o.1.1))

pub double-there : (b : Bool) (c : Ctx) (z x y y' x' z' kx ky kz rz rx ry j : ℕ) (W A B S : Tree) → rz ≡ suc j → rx ≡ suc j → ry ≡ j → suc (rank W) ≤ j → suc (rank S) ≤ j → suc j ≤ 28
    → There c (deep b z x y kx ky kz rz rx ry W A B S) → There c (flat b y' x' z' kx ky kz (suc j) j j W A B S)
double-there b c z x y y' x' z' kx ky kz rz rx ry j W A B S ez ex ey hw hs lim t =
    let n = marked-join b z kz rz (join b x kx rx W (join b y ky ry A B)) S t.labels in
    let m = marked-join b x kx rx W (join b y ky ry A B) n.1 in
    let p = marked-join b y ky ry A B m.2 in
    let g = ranked_join b z kz rz (join b x kx rx W (join b y ky ry A B)) S t.ranks in
    let h = ranked_join b x kx rx W (join b y ky ry A B) g.2 in
    let f = ranked_join b y ky ry A B h.3 in
    record {
      under = omega (arith, t.under, rank-join b z kz rz (join b x kx rx W (join b y ky ry A B)) S, rank-join b y' ky (suc j) (join b x' kx j W A) (join b z' kz j B S));
      ranks = join-ranked b y' ky (suc j) (join b x' kx j W A) (join b z' kz j B S) (omega (arith, rank-join b x' kx j W A)) (omega (arith, rank-join b z' kz j B S))
          (join-ranked b x' kx j W A (omega arith) (omega (arith, f.0)) h.2 f.2) (join-ranked b z' kz j B S (omega (arith, f.1)) (omega arith) f.3 g.3);
      within = double-ordered b (low c) (high c) z x y y' x' z' kx ky kz rz rx ry (suc j) j j W A B S t.within;
      labels = join-marked b y' ky (suc j) (join b x' kx j W A) (join b z' kz j B S) (other-rank ky ry (suc j) p.0 (omega arith) (omega arith) lim)
          (join-marked b x' kx j W A (other-rank kx rx j m.0 (omega arith) (omega arith) (omega arith)) m.1 p.1)
          (join-marked b z' kz j B S (other-rank kz rz j n.0 (omega arith) (omega arith) (omega arith)) p.2 n.2);
    }
