-- The six commits at their places, both mirror forms at once. `ran` says that a record of the new tree is not taken off; `once` that none of the old tree stands twice.
use Prim.Native.Nat.{◌≤◌, suc, ℕ}
use lib.Dec.{ltb}
use mathlib.Core.Bool.{Bool, true}
use mathlib.Core.Logic.{inl, inr}
use mathlib.Core.Path.{◌∙◌, ◌≡◌, sym}
use native.Mathlib.Omega.{arith}
use Rattle.commits.proofs.Forms.{deep, flat, lean, lev-deep, lev-flat, lev-lean, lev-renew, lev-renew_top, lev-turn, occ-deep, occ-flat, occ-lean, occ-renew, occ-root, occ-turn, renew, turn}
use Rattle.commits.proofs.Place.{Local, above_none, above_root, lev_at-mono, route-far, route-near}
use Rattle.machine.proofs.Choice.{if_elim}
use Rattle.machine.specs.Table.{View}
use Rattle.routes.proofs.Level.{lev_at-join, lev_at-le, lev_at-root, lv-eq, lvs-le, lvs-not, lvs-pos, lvs-yes}
use Rattle.routes.proofs.Surgery.{Off}
use Rattle.routes.proofs.Swap.{Patch, Swap, add, done, drop, patch, rest}
use Rattle.routes.specs.Route.{Above, Route, lev_at, lv, route}
use Rattle.trees.proofs.Held.{root-occ}
use Rattle.trees.proofs.Mirror.{Toward, far_far, near_near, occ-join, side-or}
use Rattle.trees.proofs.Plug.{ind-other, ind-same, pos-cases}
use Rattle.trees.specs.Rank.{rank}
use Rattle.trees.specs.Tree.{Tree, ind, join, leaf, node, occ, root}

-- a record that is taken off is not in the new tree, and so is not level there
gone : (w : View) (q y : ℕ) (new : Tree) → ((s : ℕ) → 1 ≤ occ s new → (w s).state ≡ 1) → Off w y → lev_at q y new ≡ 0
gone w q y new ran o = elim (pos-cases (occ y new)) [ inl p ↦ absurd (omega (arith, ran y p, o)) | inr z ↦ omega (arith, lev_at-le q y new) ]

not_level : (q r : ℕ) → (q ≡ r → ⊥) → lv q r ≡ true → ⊥
not_level q r d e = d (lv-eq q r e)

-- ---- put-in

module _ (w : View) (q h kh ph rh a K RK l kl pl rl m km pm rm : ℕ) (oh : Off w h)
    (ran : (s : ℕ) → 1 ≤ occ s (node a K RK (leaf l kl pl rl) (leaf m km pm rm)) → (w s).state ≡ 1) where
  pub put_in : (lv RK rl ≡ true → ⊥) → (lv RK rm ≡ true → ⊥) → Local w q a h (leaf h kh ph rh) (node a K RK (leaf l kl pl rl) (leaf m km pm rm))
  put_in nl nm = record {
    paths = λ k. patch (drop oh done);
    y_in = omega (arith, ind-same h);
    x_in = omega (arith, ind-same a);
    y_lost = gone w q h (node a K RK (leaf l kl pl rl) (leaf m km pm rm)) ran oh;
    no-new = λ b d. omega (arith, lvs-le q RK (ind b a), ind-other b a d, lvs-not RK rl (ind b l) nl, lvs-not RK rm (ind b m) nm);
  }

-- ---- promote: x, level with z, stays, and its token goes to the copy of z

module _ (w : View) (q : ℕ) (b : Bool) (z z' key r : ℕ) (X S : Tree) (oz : Off w z) where
  abbrev low : Tree
  low = join b z key r X S

  abbrev high : Tree
  high = join b z' key (suc r) X S

  pub promote : ((s : ℕ) → occ s low ≤ 1) → ((s : ℕ) → occ s high ≤ 1) → lv r (rank X) ≡ true → rank S ≤ r → Local w q z' (root X) low high
  promote once once' lx hs = record {
    paths = λ k. elim (side-or b k key) [
      | inl n ↦ rw (route-near b k z key r X S n, route-near b k z' key (suc r) X S n) (patch (drop oz (add (rest (λ a. above_root k a X (omega (arith, x_once)))))))
      | inr f ↦ rw (route-far b k z key r X S f, route-far b k z' key (suc r) X S f) (patch (drop oz (add (rest (λ a. above_none k (root X) a S (omega (arith, x_once)))))))
    ];
    y_in = omega (arith, occ-join b (root X) z key r X S, root-occ X);
    x_in = omega (arith, occ-join b z' z' key (suc r) X S, ind-same z');
    y_lost = omega (
      arith,
      lev_at-join b q (root X) z' key (suc r) X S,
      lvs-le q (suc r) (ind (root X) z'),
      occ-join b (root X) z' key (suc r) X S,
      once' (root X),
      root-occ X,
      lev_at-root (suc r) X (omega (arith, x_once)),
      lvs-not (suc r) (rank X) 1 far_x,
      lev_at-le (suc r) (root X) S,
    );
    no-new = λ a d. omega (
      arith,
      lev_at-join b q a z' key (suc r) X S,
      lev_at-join b q a z key r X S,
      lvs-le q (suc r) (ind a z'),
      ind-other a z' d,
      lev_at-mono r (suc r) a X (λ e. absurd (far_x e)),
      lev_at-mono r (suc r) a S (λ e. absurd (far_s e)),
    );
  }
    where
      x_once : (occ (root X) X ≤ 1) × (occ (root X) S ≡ 0)
      x_once = (omega (arith, once (root X), occ-join b (root X) z key r X S), omega (arith, once (root X), occ-join b (root X) z key r X S, root-occ X))

      far_x : lv (suc r) (rank X) ≡ true → ⊥
      far_x e = omega (arith, lv-eq (suc r) (rank X) e, lv-eq r (rank X) lx)

      far_s : lv (suc r) (rank S) ≡ true → ⊥
      far_s e = omega (arith, lv-eq (suc r) (rank S) e)

  pub promote-from : ((s : ℕ) → occ s low ≤ 1) → lv r (rank X) ≡ true → 1 ≤ lev_at q (root X) low
  promote-from once lx = omega (arith, lev_at-join b q (root X) z key r X S, lev_at-root r X (omega (arith, once (root X), occ-join b (root X) z key r X S)), lvs-yes r (rank X) 1 lx)

-- ---- rotations: z and x are taken off, and the token of x goes to its copy on top

module _ (w : View) (q : ℕ) (b : Bool) (z x x' z' kx kz rz rx rx' rz' : ℕ) (W Y S : Tree) (oz : Off w z) (ox : Off w x) where
  abbrev before : Tree
  before = lean b z x kx kz rz rx W Y S

  abbrev after : Tree
  after = turn b x' z' kx kz rx' rz' W Y S

  pub rotate : ((s : ℕ) → occ s before ≤ 1) → ((s : ℕ) → 1 ≤ occ s after → (w s).state ≡ 1) → Toward b kx kz
      → (lv rx' rz' ≡ true → ⊥) → (lv rx' (rank W) ≡ true → lv rx (rank W) ≡ true) → (lv rz' (rank Y) ≡ true → lv rx (rank Y) ≡ true) → (lv rz' (rank S) ≡ true → lv rz (rank S) ≡ true)
      → Local w q x' x before after
  rotate once ran o nz nw ny ns = record {
    paths = λ k. elim (side-or b k kx) [
      | inl n ↦ rw (route-near b k z kz rz (join b x kx rx W Y) S (near_near b k kx kz o n), route-near b k x kx rx W Y n, route-near b k x' kx rx' W (join b z' kz rz' Y S) n)
          (patch (drop oz (drop ox (add (rest (λ a. above_none k x a W (omega (arith, x_once))))))))
      | inr f ↦ (elim (side-or b k kz) [
        | inl n ↦ rw (route-near b k z kz rz (join b x kx rx W Y) S n, route-far b k x kx rx W Y f, route-far b k x' kx rx' W (join b z' kz rz' Y S) f, route-near b k z' kz rz' Y S n)
            (patch (drop oz (drop ox (add (add (rest (λ a. above_none k x a Y (omega (arith, x_once)))))))))
        | inr g ↦ rw (route-far b k z kz rz (join b x kx rx W Y) S g, route-far b k x' kx rx' W (join b z' kz rz' Y S) f, route-far b k z' kz rz' Y S g)
            (patch (drop oz (add (add (rest (λ a. above_none k x a S (omega (arith, x_once))))))))
      ])
    ];
    y_in = omega (arith, occ-lean b x z x kx kz rz rx W Y S, ind-same x);
    x_in = omega (arith, occ-turn b x' x' z' kx kz rx' rz' W Y S, ind-same x');
    y_lost = gone w q x after ran ox;
    no-new = λ s d. omega (
      arith,
      lev-lean b q s z x kx kz rz rx W Y S,
      lev-turn b q s x' z' kx kz rx' rz' W Y S,
      lvs-le q rx' (ind s x'),
      ind-other s x' d,
      lvs-not rx' rz' (ind s z') nz,
      lev_at-mono rx rx' s W nw,
      lev_at-mono rx rz' s Y ny,
      lev_at-mono rz rz' s S ns,
    );
  }
    where
      x_once : (occ x W ≡ 0) × (occ x Y ≡ 0) × (occ x S ≡ 0)
      x_once = (omega (arith, once x, occ-lean b x z x kx kz rz rx W Y S, ind-same x), omega (arith, once x, occ-lean b x z x kx kz rz rx W Y S, ind-same x), omega (arith, once x, occ-lean b x z x kx kz rz rx W Y S, ind-same x))

  pub rotate-from : lv rz rx ≡ true → 1 ≤ lev_at q x before
  rotate-from e = omega (arith, lev-lean b q x z x kx kz rz rx W Y S, lvs-yes rz rx (ind x x) e, ind-same x)

  -- the two rows of the settling table
  pub rotate1 : (j : ℕ) → ((s : ℕ) → occ s before ≤ 1) → ((s : ℕ) → 1 ≤ occ s after → (w s).state ≡ 1) → Toward b kx kz
      → rz ≡ suc j → rx ≡ suc j → rx' ≡ suc j → rz' ≡ j → suc (rank Y) ≤ j → suc (rank S) ≤ j → Local w q x' x before after
  rotate1 j once ran o ez ex ex' ez' hy hs =
      rotate once ran o (not_level rx' rz' (λ e. omega arith)) (λ e. rw (ex ∙ sym ex') e)
      (λ e. absurd (not_level rz' (rank Y) (λ d. omega arith) e)) (λ e. absurd (not_level rz' (rank S) (λ d. omega arith) e))

  pub rotate2 : (j : ℕ) → ((s : ℕ) → occ s before ≤ 1) → ((s : ℕ) → 1 ≤ occ s after → (w s).state ≡ 1) → Toward b kx kz
      → rz ≡ suc j → rx ≡ suc j → rx' ≡ suc (suc j) → rz' ≡ suc j → rank Y ≡ j → rank W ≡ j → Local w q x' x before after
  rotate2 j once ran o ez ex ex' ez' hy hw =
      rotate once ran o (not_level rx' rz' (λ e. omega arith)) (λ e. absurd (not_level rx' (rank W) (λ d. omega arith) e))
      (λ e. absurd (not_level rz' (rank Y) (λ d. omega arith) e)) (λ e. rw (ez ∙ sym ez') e)

-- ---- double rotation: z, x and y are taken off, and the token of x goes to the copy of y

module _ (w : View) (q : ℕ) (b : Bool) (z x y y' x' z' kx ky kz rz rx ry : ℕ) (j : ℕ) (W A B S : Tree) (oz : Off w z) (ox : Off w x) (oy : Off w y) where
  abbrev sunk : Tree
  sunk = deep b z x y kx ky kz rz rx ry W A B S

  abbrev level_out : Tree
  level_out = flat b y' x' z' kx ky kz (suc j) j j W A B S

  pub double : ((s : ℕ) → occ s sunk ≤ 1) → ((s : ℕ) → 1 ≤ occ s level_out → (w s).state ≡ 1) → Toward b kx ky → Toward b ky kz
      → ry ≡ j → suc (rank W) ≤ j → suc (rank S) ≤ j → Local w q y' x sunk level_out
  double once ran oxy oyz ey hw hs = record {
    paths = λ k. elim (side-or b k ky) [
      | inl n ↦ (let nz = near_near b k ky kz oyz n in elim (side-or b k kx) [
        | inl m ↦ rw (
          route-near b k z kz rz (join b x kx rx W (join b y ky ry A B)) S nz,
          route-near b k x kx rx W (join b y ky ry A B) m,
          route-near b k y' ky (suc j) (join b x' kx j W A) (join b z' kz j B S) n,
          route-near b k x' kx j W A m,
        )
            (patch (drop oz (drop ox (add (add (rest (λ a. above_none k x a W (omega (arith, x_once)))))))))
        | inr f ↦ rw (
          route-near b k z kz rz (join b x kx rx W (join b y ky ry A B)) S nz,
          route-far b k x kx rx W (join b y ky ry A B) f,
          route-near b k y ky ry A B n,
          route-near b k y' ky (suc j) (join b x' kx j W A) (join b z' kz j B S) n,
          route-far b k x' kx j W A f,
        )
            (patch (drop oz (drop ox (drop oy (add (add (rest (λ a. above_none k x a A (omega (arith, x_once))))))))))
      ])
      | inr f ↦ (let fx = far_far b k kx ky oxy f in elim (side-or b k kz) [
        | inl m ↦ rw (
          route-near b k z kz rz (join b x kx rx W (join b y ky ry A B)) S m,
          route-far b k x kx rx W (join b y ky ry A B) fx,
          route-far b k y ky ry A B f,
          route-far b k y' ky (suc j) (join b x' kx j W A) (join b z' kz j B S) f,
          route-near b k z' kz j B S m,
        )
            (patch (drop oz (drop ox (drop oy (add (add (rest (λ a. above_none k x a B (omega (arith, x_once))))))))))
        | inr g ↦ rw (
          route-far b k z kz rz (join b x kx rx W (join b y ky ry A B)) S g,
          route-far b k y' ky (suc j) (join b x' kx j W A) (join b z' kz j B S) f,
          route-far b k z' kz j B S g,
        )
            (patch (drop oz (add (add (rest (λ a. above_none k x a S (omega (arith, x_once))))))))
      ])
    ];
    y_in = omega (arith, occ-deep b x z x y kx ky kz rz rx ry W A B S, ind-same x);
    x_in = omega (arith, occ-flat b y' y' x' z' kx ky kz (suc j) j j W A B S, ind-same y');
    y_lost = gone w q x level_out ran ox;
    no-new = λ s d. omega (
      arith,
      lev-deep b q s z x y kx ky kz rz rx ry W A B S,
      lev-flat b q s y' x' z' kx ky kz (suc j) j j W A B S,
      lvs-le q (suc j) (ind s y'),
      ind-other s y' d,
      lvs-not (suc j) j (ind s x') (not_level (suc j) j (λ e. omega arith)),
      lvs-not (suc j) j (ind s z') (not_level (suc j) j (λ e. omega arith)),
      lev_at-mono rx j s W (λ e. absurd (not_level j (rank W) (λ d. omega arith) e)),
      lev_at-mono ry j s A (λ e. rw ey e),
      lev_at-mono ry j s B (λ e. rw ey e),
      lev_at-mono rz j s S (λ e. absurd (not_level j (rank S) (λ d. omega arith) e)),
    );
  }
    where
      x_once : (occ x W ≡ 0) × (occ x A ≡ 0) × (occ x B ≡ 0) × (occ x S ≡ 0)
      x_once = (omega (arith, once x, occ-deep b x z x y kx ky kz rz rx ry W A B S, ind-same x), omega (arith, once x, occ-deep b x z x y kx ky kz rz rx ry W A B S, ind-same x), omega (arith, once x, occ-deep b x z x y kx ky kz rz rx ry W A B S, ind-same x), omega (arith, once x, occ-deep b x z x y kx ky kz rz rx ry W A B S, ind-same x))

  pub double-from : lv rz rx ≡ true → 1 ≤ lev_at q x sunk
  double-from e = omega (arith, lev-deep b q x z x y kx ky kz rz rx ry W A B S, lvs-yes rz rx (ind x x) e, ind-same x)

-- ---- take-out: parent p, leaf l and sibling s are taken off, and the token of s goes to its copy

renew-swap : {Off : ℕ → Type 0} {y : ℕ} {L : Route} (k s' : ℕ) (t : Tree) → Patch Off y L (route k (renew s' t)) → Swap Off s' y L (route k (renew s' t))
renew-swap k s' (leaf s key pr rk) p = patch p
renew-swap k s' (node s key rk l r) p = patch p

renew-rest : {Off : ℕ → Type 0} (k s' : ℕ) (t : Tree) → Off (root t) → occ (root t) t ≤ 1 → Patch Off (root t) (route k t) (route k (renew s' t))
renew-rest k s' (leaf s key pr rk) o h = drop o (add (rest (λ a e. e)))
renew-rest k s' (node s key rk l r) o h =
    drop o (add (rest (λ a. if_elim (λ L. Above a s L → ⊥) (ltb k key) (λ q. above_none k s a l (omega (arith, ind-same s))) (λ q. above_none k s a r (omega (arith, ind-same s))))))

module _ (w : View) (q : ℕ) (b : Bool) (p kp rp l kl pl rl s' : ℕ) (S : Tree) (op : Off w p) (ol : Off w l) (os : Off w (root S)) where
  abbrev full-house : Tree
  full-house = join b p kp rp (leaf l kl pl rl) S

  pub take_out : ((a : ℕ) → occ a full-house ≤ 1) → ((a : ℕ) → 1 ≤ occ a (renew s' S) → (w a).state ≡ 1) → Local w q s' (root S) full-house (renew s' S)
  take_out once ran = record {
    paths = λ k. renew-swap k s' S (elim (side-or b k kp) [
      | inl n ↦ rw (route-near b k p kp rp (leaf l kl pl rl) S n) (drop op (drop ol done))
      | inr f ↦ rw (route-far b k p kp rp (leaf l kl pl rl) S f) (drop op (renew-rest k s' S os (omega (arith, once (root S), occ-join b (root S) p kp rp (leaf l kl pl rl) S))))
    ]);
    y_in = omega (arith, occ-join b (root S) p kp rp (leaf l kl pl rl) S, root-occ S);
    x_in = omega (arith, occ-renew s' S s', occ-root S s', ind-same s');
    y_lost = gone w q (root S) (renew s' S) ran os;
    no-new = λ a d. omega (arith, lev_at-join b q a p kp rp (leaf l kl pl rl) S, lev-renew q rp a s' S d);
  }

  -- the copy is level with the grandparent only if the sibling was level with the parent, and the parent with the grandparent
  pub take_out_from : ((a : ℕ) → occ a full-house ≤ 1) → occ s' (renew s' S) ≤ 1 → rank S ≤ rp → rp ≤ q → 1 ≤ lev_at q s' (renew s' S) → 1 ≤ lev_at q (root S) full-house
  take_out_from once once' hs hp h =
      let e : lv q (rank S) ≡ true = lvs-pos q (rank S) 1 (omega (arith, lev-renew_top q s' S once')) in
      let same_rank : rp ≡ q = omega (arith, lv-eq q (rank S) e) in
      omega (arith, lev_at-join b q (root S) p kp rp (leaf l kl pl rl) S, lev_at-root rp S (omega (arith, once (root S), occ-join b (root S) p kp rp (leaf l kl pl rl) S)), lvs-yes rp (rank S) 1 (rw same_rank e))

-- ---- a copy of the top alone, with the same rank, number and links: a new price, say

pub copy : (w : View) (q s' : ℕ) (S : Tree) → Off w (root S) → ((a : ℕ) → occ a S ≤ 1) → ((a : ℕ) → 1 ≤ occ a (renew s' S) → (w a).state ≡ 1) → Local w q s' (root S) S (renew s' S)
copy w q s' S os once ran = record {
  paths = λ k. renew-swap k s' S (renew-rest k s' S os (once (root S)));
  y_in = root-occ S;
  x_in = omega (arith, occ-renew s' S s', occ-root S s', ind-same s');
  y_lost = gone w q (root S) (renew s' S) ran os;
  no-new = λ a d. lev-renew q q a s' S d;
}

pub copy-from : (q s' : ℕ) (S : Tree) → occ (root S) S ≤ 1 → occ s' (renew s' S) ≤ 1 → 1 ≤ lev_at q s' (renew s' S) → 1 ≤ lev_at q (root S) S
copy-from q s' S once once' h = omega (arith, lev-renew_top q s' S once', lev_at-root q S once)
