-- From tests on the view to a place of the tree: a commit that finds its records in state 1, each led to by the one before, stands at a hole with the tree's shape below it.
use Prim.Native.Nat.{◌<◌, ◌≤◌, suc, ℕ}
use mathlib.Core.Bool.{Bool, false, not, true}
use mathlib.Core.List.{[], ◌∷◌}
use mathlib.Core.Path.{◌∙◌, ◌≡◌, ap, ap₂, refl, subst, sym}
use native.Mathlib.Omega.{arith}
use Rattle.commits.proofs.Acts.{Act, Kind, above_act, doubles, level_put, promotes, puts, puts-in, rotates1, rotates2, settles, takes, takes_out}
use Rattle.commits.proofs.Order.{Rising}
use Rattle.commits.proofs.Commits.{duo}
use Rattle.commits.proofs.Forms.{deep, lean, rank-join, renew, root-join}
use Rattle.commits.proofs.Grounds.{InnerRank, Steady, Two, outranked, parent-rank, put-fits, root-rank}
use Rattle.commits.proofs.Shape.{Shape}
use Rattle.commits.proofs.Writes.{fresh, freshes, holds_join, wrote}
use Rattle.machine.specs.PutIn.{inner_of}
use Rattle.machine.specs.Table.{View, fill, lead, off}
use Rattle.routes.specs.Route.{Has, lv, rank_c, route}
use Rattle.terms.specs.declared.Rec.{Rec}
use Rattle.trees.proofs.Held.{Carries, Child, child-of, is_leaf_lem}
use Rattle.trees.proofs.Plug.{take_apart_lem}
use Rattle.trees.specs.Rank.{rank}
use Rattle.trees.specs.Tree.{Ctx, Holds, Tree, hole, join, leaf, leaf_rec, node, parent, plug, pside, root, side_rec}
use Rattle.views.specs.Update.{link, upd, upds}

-- an inner record x at the top of a tree, by sides
pub record Split (v : View) (x : ℕ) (b : Bool) (t : Tree) : Type 0 where
  pub L : Tree
  pub R : Tree
  pub whole : t ≡ join b x (v x).number (v x).rank L R
  pub near : root L ≡ link b (v x)
  pub far : root R ≡ link (not b) (v x)

split_root : (v : View) (t : Tree) (b : Bool) → Holds v t → ((v (root t)).left ≡ 0 → ⊥) → Split v (root t) b t
split_root v (leaf s k pr rk) b h n = absurd (n (ap (λ r. r.left) h))
split_root v (node s k rk l r) b h n = side b
  where
    same : node s k rk l r ≡ node s (v s).number (v s).rank l r
    same = ap₂ (λ x y. node s x y l r) (sym (ap (λ q. q.number) h.0)) (sym (ap (λ q. q.rank) h.0))

    side : (b : Bool) → Split v s b (node s k rk l r)
    side true = record { L = l; R = r; whole = same; near = sym (ap (λ q. q.left) h.0); far = sym (ap (λ q. q.right) h.0) }
    side false = record { L = r; R = l; whole = same; near = sym (ap (λ q. q.right) h.0); far = sym (ap (λ q. q.left) h.0) }

pub split : (v : View) (t : Tree) (b : Bool) (x : ℕ) → Holds v t → root t ≡ x → ((v x).left ≡ 0 → ⊥) → Split v x b t
split v t b x h e n = subst (λ y. Split v y b t) e (split_root v t b h (λ z. n (ap (λ y. (v y).left) (sym e) ∙ z)))

-- pz leads to z on side d, and z is inner
pub record Place (v : View) (t : Tree) (pz z : ℕ) (d b : Bool) : Type 0 where
  pub c : Ctx
  pub X : Tree
  pub S : Tree
  pub whole : t ≡ plug c (join b z (v z).number (v z).rank X S)
  pub under : parent c ≡ pz
  pub on : pside c ≡ d
  pub near : root X ≡ link b (v z)
  pub far : root S ≡ link (not b) (v z)
  pub held : Holds v X

held_at : (v : View) (t : Tree) (c : Ctx) (u : Tree) → Carries v t → t ≡ plug c u → Holds v u
held_at v t c u i w = (take_apart_lem v c u (rw w at i.entry) (rw w at i.holds)).1

pub place : (v : View) (t : Tree) → Carries v t → (pz z : ℕ) (d b : Bool) → (v pz).state ≡ 1 → link d (v pz) ≡ z → (z ≡ 0 → ⊥) → ((v z).left ≡ 0 → ⊥) → Place v t pz z d b
place v t i pz z d b one leads nz in-z = found (child-of v t i pz z d one leads nz)
  where
    here : (c : Ctx) (u : Tree) → t ≡ plug c u → parent c ≡ pz → pside c ≡ d → (L R : Tree) → u ≡ join b z (v z).number (v z).rank L R → root L ≡ link b (v z) → root R ≡ link (not b) (v z) → Place v t pz z d b
    here c u w up on L R e n f =
        let all = w ∙ ap (plug c) e in
        record { c = c; X = L; S = R; whole = all; under = up; on = on; near = n; far = f; held = (holds_join v b z (v z).number (v z).rank L R (held_at v t c _ i all)).1 }

    found : Child pz z d t → Place v t pz z d b
    found ch =
        let g = split v ch.sub b z (held_at v t ch.ctx ch.sub i ch.whole) ch.at in-z in
        here ch.ctx ch.sub ch.whole ch.under ch.on g.L g.R g.whole g.near g.far

-- a commit is an act under slot g: the tree after it
pub record Changed (v : View) (kind : Kind) (t : Tree) (g : ℕ) (w : View) : Type 0 where
  pub tree : Tree
  pub act : Act v kind t w tree
  pub under : above_act act ≡ g

-- a put-in, with what it says of the new inner record
pub record PutChanged (v : View) (k p : ℕ) (t : Tree) (w : View) (lev : Bool) : Type 0 where
  pub tree : Tree
  pub act : Act v (puts-in k p) t w tree
  pub level : level_put act ≡ lev

-- A promotion, from what its test sees. The record above outranks z by what the task remembers (`Steady`).
promote-at : (v : View) (t : Tree) → Carries v t → Shape t → (pz z z' x s : ℕ) (d b : Bool) (c : Ctx) (X S : Tree)
    → t ≡ plug c (join b z (v z).number (v z).rank X S) → parent c ≡ pz → pside c ≡ d → root X ≡ x → root S ≡ s
    → suc (v z).rank ≤ 28 → lv (v z).rank (v x).rank ≡ true → (v z).rank ≤ suc (v s).rank → Steady v pz z → (v z').state ≡ 0
    → Changed v settles t pz (upds v (fill z' (side_rec b (v z).number (suc (v z).rank) x s) ∷ off z ∷ lead pz d z' ∷ []))
promote-at v t i f pz z z' x s d b c X S whole under on near far lim lx close st free =
    let i' : Carries v (plug c (join b z (v z).number (v z).rank X S)) = rw whole at i in
    let f' : Shape (plug c (join b z (v z).number (v z).rank X S)) = rw whole at f in
    let h = holds_join v b z (v z).number (v z).rank X S (take_apart_lem v c (join b z (v z).number (v z).rank X S) i'.entry i'.holds).1 in
    let lx' : lv (v z).rank (rank X) ≡ true = rw (← (root-rank v X h.1), near) lx in
    let e = rank-join b z (v z).number (v z).rank X S in
    let up = outranked v c (join b z (v z).number (v z).rank X S) i' f' (rw e (omega arith)) (rw (root-join b z (v z).number (v z).rank X S, under) st) in
    let cl : (v z).rank ≤ suc (rank S) = rw (← (root-rank v S h.2), far) close in
    rw (whole, ← under, ← on, ← near, ← far) (record { tree = plug c (join b z' (v z).number (suc (v z).rank) X S); act = promotes c b z z' (v z).number (v z).rank X S free lx' cl (rw e at up) lim; under = refl {a = parent c} })

pub promote-seen : (v : View) (t : Tree) → Carries v t → Shape t → (pz z z' : ℕ) (d b : Bool)
    → (v pz).state ≡ 1 → link d (v pz) ≡ z → (z ≡ 0 → ⊥) → ((v z).left ≡ 0 → ⊥) → suc (v z).rank ≤ 28 → lv (v z).rank (v (link b (v z))).rank ≡ true → (v z).rank ≤ suc (v (link (not b) (v z))).rank → Steady v pz z → (v z').state ≡ 0
    → Changed v settles t pz (upds v (fill z' (side_rec b (v z).number (suc (v z).rank) (link b (v z)) (link (not b) (v z))) ∷ off z ∷ lead pz d z' ∷ []))
promote-seen v t i f pz z z' d b one leads nz inz lim lx close st free =
    let p = place v t i pz z d b one leads nz inz in
    promote-at v t i f pz z z' (link b (v z)) (link (not b) (v z)) d b p.c p.X p.S p.whole p.under p.on p.near p.far lim lx close st free

-- ---- rotations: x, on side b of z, is inner too

record Leans (v : View) (t : Tree) (pz z x : ℕ) (d b : Bool) : Type 0 where
  c : Ctx
  W : Tree
  Y : Tree
  S : Tree
  whole : t ≡ plug c (lean b z x (v x).number (v z).number (v z).rank (v x).rank W Y S)
  under : parent c ≡ pz
  on : pside c ≡ d
  w_at : root W ≡ link b (v x)
  y_at : root Y ≡ link (not b) (v x)
  s_at : root S ≡ link (not b) (v z)
  held : Holds v W × Holds v Y × Holds v S

-- the rank of a tree that is held, by the slot at its top
rank-at : (v : View) (t : Tree) (s : ℕ) → Holds v t → root t ≡ s → (v s).rank ≡ rank t
rank-at v t s h e = ap (λ y. (v y).rank) (sym e) ∙ root-rank v t h

leans : (v : View) (t : Tree) → Carries v t → (pz z : ℕ) (d b : Bool) → (v pz).state ≡ 1 → link d (v pz) ≡ z → (z ≡ 0 → ⊥) → ((v z).left ≡ 0 → ⊥) → ((v (link b (v z))).left ≡ 0 → ⊥)
    → Leans v t pz z (link b (v z)) d b
leans v t i pz z d b one leads nz inz inx =
    let p = place v t i pz z d b one leads nz inz in
    let q = split v p.X b (link b (v z)) p.held p.near inx in
    here p.c p.X q.L q.R p.S p.whole q.whole p.under p.on q.near q.far p.far
  where
    x : ℕ
    x = link b (v z)

    here : (c : Ctx) (X W Y S : Tree) → t ≡ plug c (join b z (v z).number (v z).rank X S) → X ≡ join b (link b (v z)) (v (link b (v z))).number (v (link b (v z))).rank W Y → parent c ≡ pz → pside c ≡ d
        → root W ≡ link b (v (link b (v z))) → root Y ≡ link (not b) (v (link b (v z))) → root S ≡ link (not b) (v z) → Leans v t pz z (link b (v z)) d b
    here c X W Y S whole deeper under on wa ya sa =
        let all = whole ∙ ap (λ r. plug c (join b z (v z).number (v z).rank r S)) deeper in
        let h = holds_join v b z (v z).number (v z).rank _ S (held_at v t c _ i all) in
        let g = holds_join v b _ _ _ W Y h.1 in
        record { c = c; W = W; Y = Y; S = S; whole = all; under = under; on = on; w_at = wa; y_at = ya; s_at = sa; held = (g.1, g.2, h.2) }

-- the act at the place is the act of the whole
turned : (v : View) (t t' : Tree) (pz z x x' z' w y s kx kz rz rx rx' rz' : ℕ) (d b : Bool) (c : Ctx) (W Y S : Tree)
    → t ≡ plug c (lean b z x kx kz rz rx W Y S) → parent c ≡ pz → pside c ≡ d → root W ≡ w → root Y ≡ y → root S ≡ s
    → (a : Act v settles (plug c (lean b z x kx kz rz rx W Y S)) (wrote v c x' (fresh x' (side_rec b kx rx' (root W) z') ∷ fresh z' (side_rec b kz rz' (root Y) (root S)) ∷ []) (z ∷ x ∷ [])) t') → above_act a ≡ parent c
    → Changed v settles t pz (upds v (fill x' (side_rec b kx rx' w z') ∷ fill z' (side_rec b kz rz' y s) ∷ off z ∷ off x ∷ lead pz d x' ∷ []))
turned v t t' pz z x x' z' w y s kx kz rz rx rx' rz' d b c W Y S all under on wa ya sa a ab = rw (all, ← under, ← on, ← wa, ← ya, ← sa) (record { tree = t'; act = a; under = ab })

module _ (v : View) (t : Tree) (i : Carries v t) (pz z x' z' j : ℕ) (d b : Bool) (one : (v pz).state ≡ 1) (leads : link d (v pz) ≡ z) (nz : z ≡ 0 → ⊥) (inz : (v z).left ≡ 0 → ⊥)
    (inx : (v (link b (v z))).left ≡ 0 → ⊥) (ez : (v z).rank ≡ suc j) (lx : lv (v z).rank (v (link b (v z))).rank ≡ true) (fx : (v x').state ≡ 0) (fz : (v z').state ≡ 0) (up : x' < z') where
  abbrev x : ℕ
  x = link b (v z)

  -- the two rows' writes: the new ranks are r and q
  abbrev pub turning : ℕ → ℕ → View
  turning r q = upds v (fill x' (side_rec b (v x).number r (link b (v x)) z') ∷ fill z' (side_rec b (v z).number q (link (not b) (v x)) (link (not b) (v z))) ∷ off z ∷ off x ∷ lead pz d x' ∷ [])

  spot : Leans v t pz z x d b
  spot = leans v t i pz z d b one leads nz inz inx

  pub rotate1-seen : suc j ≤ 28 → suc (v (link (not b) (v x))).rank ≤ j → suc (v (link (not b) (v z))).rank ≤ j → Changed v settles t pz (turning (v x).rank j)
  rotate1-seen lim hy hs =
      let p = spot in
      turned v t _ pz z x x' z' _ _ _ (v x).number (v z).number (suc j) (v x).rank (v x).rank j d b p.c p.W p.Y p.S (p.whole ∙ ap (λ r. plug p.c (lean b z x (v x).number (v z).number r (v x).rank p.W p.Y p.S)) ez) p.under p.on p.w_at p.y_at p.s_at
      (rotates1 p.c b z x x' z' (v x).number (v z).number (v x).rank j p.W p.Y p.S fx fz up (subst (λ r. lv r (v x).rank ≡ true) ez lx)
      (omega (arith, rank-at v p.Y _ p.held.1 p.y_at)) (omega (arith, rank-at v p.S _ p.held.2 p.s_at)) lim) (refl {a = parent p.c})

  pub rotate2-seen : Shape t → Steady v pz z → suc (suc j) ≤ 28 → (v (link (not b) (v x))).rank ≡ j → (v (link b (v x))).rank ≡ j → suc (v (link (not b) (v z))).rank ≤ j → Changed v settles t pz (turning (suc (v x).rank) (suc j))
  rotate2-seen f st lim hy hw hs =
      let p = spot in
      turned v t _ pz z x x' z' _ _ _ (v x).number (v z).number (suc j) (v x).rank (suc (v x).rank) (suc j) d b p.c p.W p.Y p.S (p.whole ∙ ap (λ r. plug p.c (lean b z x (v x).number (v z).number r (v x).rank p.W p.Y p.S)) ez) p.under p.on p.w_at p.y_at p.s_at
      (rotates2 p.c b z x x' z' (v x).number (v z).number (v x).rank j p.W p.Y p.S fx fz up (subst (λ r. lv r (v x).rank ≡ true) ez lx)
      (sym (rank-at v p.Y _ p.held.1 p.y_at) ∙ hy) (sym (rank-at v p.W _ p.held.0 p.w_at) ∙ hw)
      (omega (arith, rank-at v p.S _ p.held.2 p.s_at)) (above p.c _ p.S p.whole p.under) lim) (refl {a = parent p.c})
    where
      above : (c : Ctx) (X S : Tree) → t ≡ plug c (join b z (v z).number (v z).rank X S) → parent c ≡ pz → suc (suc j) ≤ rank_c c
      above c X S w e =
          let m = join b z (v z).number (v z).rank X S in
          omega (
            arith,
            rank-join b z (v z).number (v z).rank X S,
            outranked v c m (rw w at i) (rw w at f) (rw (rank-join b z (v z).number (v z).rank X S, ez) (omega arith)) (rw (root-join b z (v z).number (v z).rank X S, e) st),
          )

-- ---- double rotation: y, on the other side of x, is inner too

flattened : (v : View) (t t' : Tree) (pz z x y y' x' z' w a e s kx ky kz rz rx ry j : ℕ) (d b : Bool) (c : Ctx) (W A B S : Tree)
    → t ≡ plug c (deep b z x y kx ky kz rz rx ry W A B S) → parent c ≡ pz → pside c ≡ d → root W ≡ w → root A ≡ a → root B ≡ e → root S ≡ s
    → (act : Act v settles (plug c (deep b z x y kx ky kz rz rx ry W A B S))
    (wrote v c y' (fresh y' (side_rec b ky (suc j) x' z') ∷ duo b (fresh x' (side_rec b kx j (root W) (root A))) (fresh z' (side_rec b kz j (root B) (root S)))) (z ∷ x ∷ y ∷ [])) t') → above_act act ≡ parent c
    → Changed v settles t pz (upd (upds (upds v (fill y' (side_rec b ky (suc j) x' z') ∷ freshes (duo b (fresh x' (side_rec b kx j w a)) (fresh z' (side_rec b kz j e s))))) (off z ∷ off x ∷ off y ∷ [])) (lead pz d y'))
flattened v t t' pz z x y y' x' z' w a e s kx ky kz rz rx ry j d b c W A B S all under on wa aa ba sa act ab =
    rw (all, ← under, ← on, ← wa, ← aa, ← ba, ← sa) (record { tree = t'; act = act; under = ab })

module _ (v : View) (t : Tree) (i : Carries v t) (pz z y' x' z' j : ℕ) (d b : Bool) (one : (v pz).state ≡ 1) (leads : link d (v pz) ≡ z) (nz : z ≡ 0 → ⊥) (inz : (v z).left ≡ 0 → ⊥) where
  abbrev xx : ℕ
  xx = link b (v z)

  abbrev yy : ℕ
  yy = link (not b) (v xx)

  pub double-seen : ((v xx).left ≡ 0 → ⊥) → ((v yy).left ≡ 0 → ⊥) → (v z).rank ≡ suc j → lv (v z).rank (v xx).rank ≡ true → (v yy).rank ≡ j
      → suc (v (link b (v xx))).rank ≤ j → suc (v (link (not b) (v z))).rank ≤ j → suc j ≤ 28 → (v y').state ≡ 0 → (v x').state ≡ 0 → (v z').state ≡ 0 → Rising b y' x' z'
      → Changed v settles t pz (upd (upds (upds v (fill y' (side_rec b (v yy).number (suc j) x' z') ∷ freshes (duo b (fresh x' (side_rec b (v xx).number j (link b (v xx)) (link b (v yy))))
      (fresh z' (side_rec b (v z).number j (link (not b) (v yy)) (link (not b) (v z))))))) (off z ∷ off xx ∷ off yy ∷ [])) (lead pz d y'))
  double-seen inx iny ez lx ey hw hs lim fy fx fz up =
      let p = leans v t i pz z d b one leads nz inz inx in
      let q = split v p.Y b yy p.held.1 p.y_at iny in
      let all = p.whole ∙ ap₂ (λ r Y. plug p.c (lean b z xx (v xx).number (v z).number r (v xx).rank p.W Y p.S)) ez q.whole in
      flattened v t _ pz z xx yy y' x' z' _ _ _ _ (v xx).number (v yy).number (v z).number (suc j) (v xx).rank (v yy).rank j d b p.c p.W q.L q.R p.S
      all p.under p.on p.w_at q.near q.far p.s_at
      (doubles p.c b z xx yy y' x' z' (v xx).number (v yy).number (v z).number (v xx).rank (v yy).rank j p.W q.L q.R p.S fy fx fz up (subst (λ r. lv r (v xx).rank ≡ true) ez lx) ey
      (omega (arith, rank-at v p.W _ p.held.0 p.w_at)) (omega (arith, rank-at v p.S _ p.held.2 p.s_at)) lim) (refl {a = parent p.c})

-- ---- take-out: the record on side b of p is a leaf

-- the number in a leaf's place
leaf_number : (v : View) (X : Tree) (k pr rk : ℕ) → X ≡ leaf (root X) k pr rk → Holds v X → (v (root X)).number ≡ k
leaf_number v (leaf x kx px rx) k pr rk eq h = let y : kx ≡ k = cc in ap (λ r. r.number) h ∙ y
leaf_number v (node x kx rx l r) k pr rk eq h = absurd (let z : ◌≡◌ {A = ℕ} 0 1 = cc in omega arith)

taken_out : (v : View) (t : Tree) (g p kp rp l kl pl rl s s' : ℕ) (d b : Bool) (c : Ctx) (X S : Tree) → Holds v X
    → t ≡ plug c (join b p kp rp X S) → X ≡ leaf (root X) kl pl rl → root X ≡ l → parent c ≡ g → pside c ≡ d → root S ≡ s → (v s').state ≡ 0 → (v l).number < 1000000
    → Changed v (takes_out (v l).number) t g (upds v (fill s' (v s) ∷ off p ∷ off l ∷ off s ∷ lead g d s' ∷ []))
taken_out v t g p kp rp l kl pl rl s s' d b c X S held whole lf near under on sa free fare =
    let e : (v l).number ≡ kl = ap (λ y. (v y).number) (sym near) ∙ leaf_number v X kl pl rl lf held in
    rw (e, whole ∙ ap (λ q. plug c (join b p kp rp q S)) (lf ∙ ap (λ y. leaf y kl pl rl) near), ← under, ← on, ← sa)
    (record { tree = plug c (renew s' S); act = takes c b p kp rp l kl pl rl s' S free (omega arith); under = refl })

pub take_seen : (v : View) (t : Tree) → Carries v t → (g p s' : ℕ) (d b : Bool) → (v g).state ≡ 1 → link d (v g) ≡ p → (p ≡ 0 → ⊥) → ((v p).left ≡ 0 → ⊥)
    → (v (link b (v p))).left ≡ 0 → (v (link b (v p))).number < 1000000 → (v s').state ≡ 0
    → Changed v (takes_out (v (link b (v p))).number) t g (upds v (fill s' (v (link (not b) (v p))) ∷ off p ∷ off (link b (v p)) ∷ off (link (not b) (v p)) ∷ lead g d s' ∷ []))
take_seen v t i g p s' d b one leads nz inp end fare free =
    let q = place v t i g p d b one leads nz inp in
    let lf = is_leaf_lem v (hole b p (v p).number (v p).rank q.S q.c) q.X (rw q.whole at i) (ap (λ y. (v y).left) q.near ∙ end) in
    taken_out v t g p (v p).number (v p).rank (link b (v p)) lf.0 lf.1 lf.2 _ s' d b q.c q.X q.S q.held q.whole
    lf.3 q.near q.under q.on q.far free fare

-- ---- put-in: p leads to the leaf h on side d, and the number k of the task belongs there

record Leaf (v : View) (t : Tree) (p h : ℕ) (d : Bool) : Type 0 where
  c : Ctx
  whole : t ≡ plug c (leaf h (v h).number (v h).price (v h).rank)
  under : parent c ≡ p
  on : pside c ≡ d

leaf_place : (v : View) (t : Tree) → Carries v t → (p h : ℕ) (d : Bool) → (v p).state ≡ 1 → link d (v p) ≡ h → (h ≡ 0 → ⊥) → (v h).left ≡ 0 → Leaf v t p h d
leaf_place v t i p h d one leads nz end = found (child-of v t i p h d one leads nz)
  where
    here : (c : Ctx) (sub : Tree) (k pr rk : ℕ) → t ≡ plug c sub → root sub ≡ h → sub ≡ leaf (root sub) k pr rk → parent c ≡ p → pside c ≡ d → Leaf v t p h d
    here c sub k pr rk w e lf up on =
        let all = w ∙ ap (plug c) (lf ∙ ap (λ y. leaf y k pr rk) e) in
        let r = held_at v t c (leaf h k pr rk) i all in
        record {
          c = c;
          whole = all ∙ ap (λ (q : Rec). plug c (leaf h q.number q.price q.rank)) (sym r);
          under = up;
          on = on;
        }

    found : Child p h d t → Leaf v t p h d
    found ch =
        let lf = is_leaf_lem v ch.ctx ch.sub (rw ch.whole at i) (ap (λ y. (v y).left) ch.at ∙ end) in
        here ch.ctx ch.sub lf.0 lf.1 lf.2 ch.whole ch.at lf.3 ch.under ch.on

module _ (v : View) (t : Tree) (i : Carries v t) (f : Shape t) (k pk p h a l m RK kl pl rl km pm rm : ℕ) (d : Bool) (lt : k < 1000000) (lp : pk < 100000)
    (on : Has h (route k t)) (r : InnerRank (v h).rank RK) (two : Two k pk (v h).number (v h).price (v h).rank kl pl rl km pm rm)
    (fa : (v a).state ≡ 0) (fl : (v l).state ≡ 0) (fm : (v m).state ≡ 0) (al : a < l) (lm : l < m) where
  abbrev pub putting : View
  putting = upds v (fill a (inner_of km RK l m) ∷ fill l (leaf_rec kl pl rl) ∷ fill m (leaf_rec km pm rm) ∷ off h ∷ lead p d a ∷ [])

  put-at : (c : Ctx) → t ≡ plug c (leaf h (v h).number (v h).price (v h).rank) → parent c ≡ p → pside c ≡ d → PutChanged v k pk t putting (lv (v p).rank RK)
  put-at c whole under side =
      let fits = put-fits v c k pk h (v h).number (v h).price (v h).rank a l m RK kl pl rl km pm rm (rw whole at i) (rw whole at f) lt lp (rw whole at on) r two in
      let g = take_apart_lem v c (leaf h (v h).number (v h).price (v h).rank) (rw whole at i.entry) (rw whole at i.holds) in
      rw (whole, ← under, ← side)
      (record {
        tree = plug c (node a km RK (leaf l kl pl rl) (leaf m km pm rm));
        act = puts c k pk h (v h).number (v h).price (v h).rank a l m RK kl pl rl km pm rm fa fl fm al lm r two fits (rw whole at on);
        level = ap (λ y. lv y RK) (sym (parent-rank v c h g.0));
      })

  pub put-seen : (v p).state ≡ 1 → link d (v p) ≡ h → (h ≡ 0 → ⊥) → (v h).left ≡ 0 → PutChanged v k pk t putting (lv (v p).rank RK)
  put-seen one leads nz end = let q = leaf_place v t i p h d one leads nz end in put-at q.c q.whole q.under q.on
