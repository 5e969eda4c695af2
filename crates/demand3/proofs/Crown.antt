-- The sentinels of a tree: one leaf stays a sentinel, so the top is one, and while a fare is held the root record hangs on its left with everything else below.
use Prim.Native.Nat.{◌+◌, ◌<◌, ◌≤◌, suc, ℕ}
use mathlib.Core.Bool.{Bool, false, true}
use mathlib.Core.List.{[]}
use mathlib.Core.Logic.{inl, inr}
use mathlib.Core.Path.{◌∙◌, ◌≡◌, ap, refl}
use native.Mathlib.Omega.{arith}
use Rattle.commits.proofs.Acts.{Act, Kind, doubles, promotes, puts, rotates1, rotates2, takes}
use Rattle.commits.proofs.Forms.{deep, flat, lean, renew, turn}
use Rattle.commits.proofs.Grounds.{Two, above, below}
use Rattle.commits.proofs.Shape.{Shape, marked-join, shape_at}
use Rattle.fares.specs.Fares.{fares, leaf_fares}
use Rattle.machine.specs.Choice.{if_b}
use Rattle.machine.specs.Record.{top_number}
use Rattle.machine.specs.Table.{View}
use Rattle.trees.proofs.OneTree.{same-node}
use Rattle.trees.proofs.Plug.{ind-cases, ind-other, pos-cases}
use Rattle.trees.proofs.Search.{ordered_lt}
use Rattle.trees.specs.Marks.{LeafMarks, Marked}
use Rattle.trees.specs.Order.{ALL, Ordered}
use Rattle.trees.specs.Rank.{Ranked, rank}
use Rattle.trees.specs.Tree.{Ctx, Tree, hole, ind, join, leaf, node, plug, top}

-- ---- the sentinel leaf

abbrev pub sents : Tree → ℕ
sents (leaf s k pr rk) = ind rk 255
sents (node s k rk l r) = sents l + sents r

abbrev sents_c : Ctx → ℕ
sents_c top = 0
sents_c (hole b s k rk u c) = sents u + sents_c c

sents-join : (b : Bool) (s k rk : ℕ) (t u : Tree) → sents (join b s k rk t u) ≡ sents t + sents u
sents-join true s k rk t u = refl
sents-join false s k rk t u = omega arith

sents-plug : (c : Ctx) (t : Tree) → sents (plug c t) ≡ sents_c c + sents t
sents-plug top t = omega arith
sents-plug (hole b s k rk u c) t = omega (arith, sents-plug c (join b s k rk t u), sents-join b s k rk t u)

sents-renew : (s' : ℕ) (t : Tree) → sents (renew s' t) ≡ sents t
sents-renew s' (leaf s k pr rk) = refl
sents-renew s' (node s k rk l r) = refl

two-sents : (k p kh ph rh kl pl rl km pm rm : ℕ) → Two k p kh ph rh kl pl rl km pm rm → ind rl 255 + ind rm 255 ≡ ind rh 255
two-sents k p kh ph rh _ _ _ _ _ _ (below q) = omega (arith, ind-other 0 255 (λ e. omega arith))
two-sents k p kh ph rh _ _ _ _ _ _ (above q) = omega (arith, ind-other 0 255 (λ e. omega arith))

fare-plain : (k pr rk : ℕ) → LeafMarks k pr rk → k < 1000000 → ind rk 255 ≡ 0
fare-plain k pr rk (inl m) h = absurd (omega (arith, m.0))
fare-plain k pr rk (inr m) h = ind-other rk 255 (λ e. omega (arith, m.2))

turn-sents : (c : Ctx) (b : Bool) (z x x' z' kx kz rz rx rx' rz' : ℕ) (W Y S : Tree) → sents (plug c (turn b x' z' kx kz rx' rz' W Y S)) ≡ sents (plug c (lean b z x kx kz rz rx W Y S))
turn-sents c b z x x' z' kx kz rz rx rx' rz' W Y S =
    omega (
      arith,
      sents-plug c (turn b x' z' kx kz rx' rz' W Y S),
      sents-plug c (lean b z x kx kz rz rx W Y S),
      sents-join b x' kx rx' W (join b z' kz rz' Y S),
      sents-join b z' kz rz' Y S,
      sents-join b z kz rz (join b x kx rx W Y) S,
      sents-join b x kx rx W Y,
    )

pub act_sents : {v w : View} {kind : Kind} {t t' : Tree} → Act v kind t w t' → Shape t → sents t' ≡ sents t
act_sents (puts c k p h kh ph rh a l m RK kl pl rl km pm rm fa fl fm al lm r two fits on) f =
    omega (arith, sents-plug c (node a km RK (leaf l kl pl rl) (leaf m km pm rm)), sents-plug c (leaf h kh ph rh), two-sents k p kh ph rh kl pl rl km pm rm two)
act_sents (takes c b p kp rp l kl pl rl s' S free fare) f =
    let marks = (marked-join b p kp rp (leaf l kl pl rl) S (shape_at c (join b p kp rp (leaf l kl pl rl) S) f).labels).1 in
    omega (
      arith,
      sents-plug c (renew s' S),
      sents-renew s' S,
      sents-plug c (join b p kp rp (leaf l kl pl rl) S),
      sents-join b p kp rp (leaf l kl pl rl) S,
      fare-plain kl pl rl marks fare,
    )
act_sents (promotes c b z z' key r X S free lx near up lim) f =
    omega (arith, sents-plug c (join b z' key (suc r) X S), sents-plug c (join b z key r X S), sents-join b z' key (suc r) X S, sents-join b z key r X S)
act_sents (rotates1 c b z x x' z' kx kz rx j W Y S fx fz xz lx hy hs lim) f = turn-sents c b z x x' z' kx kz (suc j) rx rx j W Y S
act_sents (rotates2 c b z x x' z' kx kz rx j W Y S fx fz xz lx hy hw hs up lim) f = turn-sents c b z x x' z' kx kz (suc j) rx (suc rx) (suc j) W Y S
act_sents (doubles c b z x y y' x' z' kx ky kz rx ry j W A B S fy fx fz up lx ey hw hs lim) f =
    omega (
      arith,
      sents-plug c (flat b y' x' z' kx ky kz (suc j) j j W A B S),
      sents-plug c (deep b z x y kx ky kz (suc j) rx ry W A B S),
      sents-join b y' ky (suc j) (join b x' kx j W A) (join b z' kz j B S),
      sents-join b x' kx j W A,
      sents-join b z' kz j B S,
      sents-join b z kz (suc j) (join b x kx rx W (join b y ky ry A B)) S,
      sents-join b x kx rx W (join b y ky ry A B),
      sents-join b y ky ry A B,
    )

-- ---- the top

-- no child outranks its parent, so what stands above a sentinel is one
pub top_rank : (t : Tree) → Ranked t → 1 ≤ sents t → 255 ≤ rank t
top_rank (leaf s k pr rk) r h = elim (ind-cases rk 255) [ inl q ↦ omega (arith, q.0) | inr q ↦ absurd (omega (arith, q.1)) ]
top_rank (node s k rk l u) r h =
    elim (pos-cases (sents l)) [
      | inl p ↦ omega (arith, top_rank l r.2 p, r.0)
      | inr z ↦ omega (arith, top_rank u r.3 (omega arith), r.1)
    ]

-- a tree whose numbers are below the sentinels': ranks up to 28, every leaf a fare
abbrev pub Plain : Tree → Type 0
Plain (leaf s k pr rk) = LeafMarks k pr rk × (rk ≡ 0)
Plain (node s k rk l r) = (1 ≤ rk) × (rk ≤ 28) × Plain l × Plain r

pub plain-below : (lo hi : ℕ) (t : Tree) → Ordered lo hi t → hi ≤ top_number → Marked t → Plain t
plain-below lo hi (leaf s k pr rk) o h m = elim m [ inl e ↦ absurd (omega (arith, e.0, o.1)) | inr e ↦ (inr e, e.2) ]
plain-below lo hi (node s k rk l r) o h m =
    let lt = ordered_lt k hi r o.1 in
    elim m.0 [
      | inl e ↦ absurd (omega (arith, e.0))
      | inr e ↦ (e.1, e.2, plain-below lo k l o.0 (omega arith) m.1, plain-below k hi r o.1 h m.2)
    ]

-- what hangs on the right of the top: a sentinel leaf alone
right_leaf : (lo : ℕ) (t : Tree) → Ordered lo ALL t → top_number ≤ lo → Marked t → (s : ℕ) × (t ≡ leaf s top_number 0 255)
right_leaf lo (leaf s k pr rk) o h m = elim m [ inl e ↦ (s, rw (e.0, e.1, e.2) refl) | inr e ↦ absurd (omega (arith, e.0, o.0)) ]
right_leaf lo (node s k rk l r) o h m =
    let a = ordered_lt lo k l o.0 in
    elim m.0 [ inl e ↦ absurd (omega (arith, e.0)) | inr e ↦ absurd (omega (arith, e.0)) ]

-- while a fare is held: the top e, the root record's tree on its left, a sentinel leaf o on its right
pub record Crown (t : Tree) : Type 0 where
  pub e : ℕ
  pub o : ℕ
  pub tree : Tree
  pub whole : t ≡ node e top_number 255 tree (leaf o top_number 0 255)
  pub plain : Plain tree

no-fare : (k pr : ℕ) → leaf_fares k pr 255 ≡ []
unfolding leaf_fares if_b
no-fare k pr = refl

pub crown : (t : Tree) → Shape t → 1 ≤ sents t → (fares t ≡ [] → ⊥) → Crown t
crown (leaf s k pr rk) f h held = absurd (held (ap (leaf_fares k pr) (omega (arith, top_rank (leaf s k pr rk) tt h, f.limit)) ∙ no-fare k pr))
crown (node s k rk l r) f h held =
    let big = top_rank (node s k rk l r) f.ranked h in
    let ek : k ≡ top_number = elim f.marks.0 [ inl q ↦ q.0 | inr q ↦ absurd (omega (arith, q.2)) ] in
    let er : rk ≡ 255 = omega (arith, f.limit) in
    let right = right_leaf k r f.order.1 (omega arith) f.marks.2 in
    record {
      e = s;
      o = right.0;
      tree = l;
      whole = same-node refl ek er refl right.1;
      plain = plain-below 0 k l f.order.0 (omega arith) f.marks.1;
    }
