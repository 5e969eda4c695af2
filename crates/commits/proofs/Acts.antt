-- THE COMMITS. Each with its writes and its grounds, on the tree that the view carries: what a commit did is one of these, and nothing else of the machine is looked at after that.
use Prim.Native.Nat.{◌<◌, ◌≤◌, suc, ℕ}
use mathlib.Core.Bool.{Bool, false, true}
use mathlib.Core.List.{[], ◌∷◌}
use mathlib.Core.Path.{◌≡◌, refl, sym}
use native.Mathlib.Omega.{arith}
use Rattle.commits.proofs.Order.{Rising}
use Rattle.commits.proofs.Commits.{double-surgery, duo, promote-surgery, put-apart, put-level, put-surgery, rotate1-surgery, rotate2-surgery, take_surgery}
use Rattle.commits.proofs.Forms.{deep, flat, lean, rank-join, renew, turn}
use Rattle.commits.proofs.Grounds.{Fits, InnerRank, Two}
use Rattle.commits.proofs.Shape.{Shape, double-there, double-toward, promote-there, ranked_join, rotate-there, rotate-toward, shape_at, shape_of, take_there}
use Rattle.commits.proofs.Writes.{fresh, wrote}
use Rattle.machine.specs.PutIn.{inner_of}
use Rattle.machine.specs.Table.{View}
use Rattle.routes.proofs.Level.{lv-eq}
use Rattle.routes.proofs.Surgery.{From, Surgery}
use Rattle.routes.specs.Route.{Has, lev_at, lv, rank_c, route}
use Rattle.trees.proofs.Held.{Carries}
use Rattle.trees.specs.Order.{high, low}
use Rattle.trees.specs.Rank.{rank}
use Rattle.trees.specs.Tree.{Ctx, Tree, join, leaf, leaf_rec, node, parent, plug, root, side_rec}

-- what a commit means for the fares
pub data Kind : Type 0 where
  puts-in : (k p : ℕ) → Kind
  takes_out : (k : ℕ) → Kind
  settles : Kind

-- Grounds beside the table's: a settling commit that raises the top stands under a record that outranks it (`suc r ≤ rank_c c`); what a put-in puts stands in its place (`Fits`).
pub data Act (v : View) : Kind → Tree → View → Tree → Type 0 where
  puts : (c : Ctx) (k p h kh ph rh a l m RK kl pl rl km pm rm : ℕ) → (v a).state ≡ 0 → (v l).state ≡ 0 → (v m).state ≡ 0 → a < l → l < m
      → InnerRank rh RK → Two k p kh ph rh kl pl rl km pm rm → Fits c a l m RK kl pl rl km pm rm → Has h (route k (plug c (leaf h kh ph rh)))
      → Act v (puts-in k p) (plug c (leaf h kh ph rh))
      (wrote v c a (fresh a (inner_of km RK l m) ∷ fresh l (leaf_rec kl pl rl) ∷ fresh m (leaf_rec km pm rm) ∷ []) (h ∷ [])) (plug c (node a km RK (leaf l kl pl rl) (leaf m km pm rm)))
  takes : (c : Ctx) (b : Bool) (p kp rp l kl pl rl s' : ℕ) (S : Tree) → (v s').state ≡ 0 → kl < 1000000
      → Act v (takes_out kl) (plug c (join b p kp rp (leaf l kl pl rl) S)) (wrote v c s' (fresh s' (v (root S)) ∷ []) (p ∷ l ∷ root S ∷ [])) (plug c (renew s' S))
  promotes : (c : Ctx) (b : Bool) (z z' key r : ℕ) (X S : Tree) → (v z').state ≡ 0 → lv r (rank X) ≡ true → r ≤ suc (rank S) → suc r ≤ rank_c c → suc r ≤ 28
      → Act v settles (plug c (join b z key r X S)) (wrote v c z' (fresh z' (side_rec b key (suc r) (root X) (root S)) ∷ []) (z ∷ [])) (plug c (join b z' key (suc r) X S))
  rotates1 : (c : Ctx) (b : Bool) (z x x' z' kx kz rx j : ℕ) (W Y S : Tree) → (v x').state ≡ 0 → (v z').state ≡ 0 → x' < z' → lv (suc j) rx ≡ true → suc (rank Y) ≤ j → suc (rank S) ≤ j → suc j ≤ 28
      → Act v settles (plug c (lean b z x kx kz (suc j) rx W Y S))
      (wrote v c x' (fresh x' (side_rec b kx rx (root W) z') ∷ fresh z' (side_rec b kz j (root Y) (root S)) ∷ []) (z ∷ x ∷ [])) (plug c (turn b x' z' kx kz rx j W Y S))
  rotates2 : (c : Ctx) (b : Bool) (z x x' z' kx kz rx j : ℕ) (W Y S : Tree) → (v x').state ≡ 0 → (v z').state ≡ 0 → x' < z' → lv (suc j) rx ≡ true → rank Y ≡ j → rank W ≡ j → suc (rank S) ≤ j
      → suc (suc j) ≤ rank_c c → suc (suc j) ≤ 28
      → Act v settles (plug c (lean b z x kx kz (suc j) rx W Y S))
      (wrote v c x' (fresh x' (side_rec b kx (suc rx) (root W) z') ∷ fresh z' (side_rec b kz (suc j) (root Y) (root S)) ∷ []) (z ∷ x ∷ [])) (plug c (turn b x' z' kx kz (suc rx) (suc j) W Y S))
  doubles : (c : Ctx) (b : Bool) (z x y y' x' z' kx ky kz rx ry j : ℕ) (W A B S : Tree) → (v y').state ≡ 0 → (v x').state ≡ 0 → (v z').state ≡ 0 → Rising b y' x' z'
      → lv (suc j) rx ≡ true → ry ≡ j → suc (rank W) ≤ j → suc (rank S) ≤ j → suc j ≤ 28
      → Act v settles (plug c (deep b z x y kx ky kz (suc j) rx ry W A B S))
      (wrote v c y' (fresh y' (side_rec b ky (suc j) x' z') ∷ duo b (fresh x' (side_rec b kx j (root W) (root A))) (fresh z' (side_rec b kz j (root B) (root S)))) (z ∷ x ∷ y ∷ []))
      (plug c (flat b y' x' z' kx ky kz (suc j) j j W A B S))

-- the record above the changed place
abbrev pub above_act : {v w : View} {kind : Kind} {t t' : Tree} → Act v kind t w t' → ℕ
above_act (puts c k p h kh ph rh a l m RK kl pl rl km pm rm fa fl fm al lm r two fits on) = parent c
above_act (takes c b p kp rp l kl pl rl s' S free fare) = parent c
above_act (promotes c b z z' key r X S free lx near up lim) = parent c
above_act (rotates1 c b z x x' z' kx kz rx j W Y S fx fz xz lx hy hs lim) = parent c
above_act (rotates2 c b z x x' z' kx kz rx j W Y S fx fz xz lx hy hw hs up lim) = parent c
above_act (doubles c b z x y y' x' z' kx ky kz rx ry j W A B S fy fx fz up lx ey hw hs lim) = parent c

-- whether a put-in's new inner record is level with its parent: then its task settles next
abbrev pub level_put : {v w : View} {kind : Kind} {t t' : Tree} → Act v kind t w t' → Bool
level_put (puts c k p h kh ph rh a l m RK kl pl rl km pm rm fa fl fm al lm r two fits on) = lv (rank_c c) RK
level_put (takes c b p kp rp l kl pl rl s' S free fare) = false
level_put (promotes c b z z' key r X S free lx near up lim) = false
level_put (rotates1 c b z x x' z' kx kz rx j W Y S fx fz xz lx hy hs lim) = false
level_put (rotates2 c b z x x' z' kx kz rx j W Y S fx fz xz lx hy hw hs up lim) = false
level_put (doubles c b z x y y' x' z' kx ky kz rx ry j W A B S fy fx fz up lx ey hw hs lim) = false

-- the number of a put-in
abbrev pub put_number : Kind → ℕ
put_number (puts-in k p) = k
put_number (takes_out k) = 0
put_number settles = 0

no-put : {A : Type 0} → ◌≡◌ {A = Bool} false true → A
no-put e = absurd (let z : ◌≡◌ {A = ℕ} 0 1 = cc in omega arith)

no-level : (q r : ℕ) → lv q r ≡ false → lv q r ≡ true → ⊥
no-level q r e f = let z : ◌≡◌ {A = ℕ} 0 1 = cc in omega arith

-- what every commit is: a surgery, and ranks, order and labels stay right
-- its new top is level only if the record whose token it takes was, or if a put-in made it so; then the old leaf was on the number's route
pub record Proper {v : View} {kind : Kind} {t : Tree} {w : View} {t' : Tree} (act : Act v kind t w t') : Type 0 where
  pub x : ℕ
  pub y : ℕ
  pub surgery : Surgery v w t t' x y
  pub shape : Shape t'
  pub free : (v x).state ≡ 0
  pub from : level_put act ≡ false → From t t' x y
  pub level : level_put act ≡ true → (1 ≤ lev_at 255 x t') × Has y (route (put_number kind) t)

rank-small : (r q : ℕ) → lv r q ≡ true → r ≤ 28 → q < 255
rank-small r q e h = omega (arith, lv-eq r q e)

pub proper : {v w : View} {kind : Kind} {t t' : Tree} (act : Act v kind t w t') → Carries v t → Shape t → Proper act
proper {v} (puts c k p h kh ph rh a l m RK kl pl rl km pm rm fa fl fm al lm r two fits on) i f = record {
  x = a;
  y = h;
  free = fa;
  surgery = put-surgery v c h kh ph rh a l m km RK kl pl rl km pm rm i fa fl fm al lm fits.low-apart fits.high-apart;
  from = λ e. put-apart v c h kh ph rh a l m km RK kl pl rl km pm rm i fa fl fm al lm fits.low-apart fits.high-apart (no-level (rank_c c) RK e);
  level = λ e. (put-level v c h kh ph rh a l m km RK kl pl rl km pm rm i fa fl fm al lm e, on);
  shape = shape_of c (leaf h kh ph rh) _ f fits.there;
}
proper {v} (takes c b p kp rp l kl pl rl s' S free fare) i f =
    let t = shape_at c (join b p kp rp (leaf l kl pl rl) S) f in
    let r = ranked_join b p kp rp (leaf l kl pl rl) S t.ranks in
    record {
      x = s';
      y = root S;
      free = free;
      surgery = (take_surgery v c b p kp rp l kl pl rl s' S i free r.1 (omega (arith, t.under, rank-join b p kp rp (leaf l kl pl rl) S))).0;
      from = λ e. (take_surgery v c b p kp rp l kl pl rl s' S i free r.1 (omega (arith, t.under, rank-join b p kp rp (leaf l kl pl rl) S))).1;
      level = no-put;
      shape = shape_of c _ _ f (take_there b c p kp rp l kl pl rl s' S t);
    }
proper {v} (promotes c b z z' key r X S free lx near up lim) i f =
    let t = shape_at c (join b z key r X S) f in
    record {
      x = z';
      y = root X;
      free = free;
      surgery = (promote-surgery v c b z z' key r X S i free lx (ranked_join b z key r X S t.ranks).1).0;
      from = λ e. (promote-surgery v c b z z' key r X S i free lx (ranked_join b z key r X S t.ranks).1).1;
      level = no-put;
      shape = shape_of c _ _ f (promote-there b c z z' key r X S up lim t);
    }
proper {v} (rotates1 c b z x x' z' kx kz rx j W Y S fx fz xz lx hy hs lim) i f =
    let t = shape_at c (lean b z x kx kz (suc j) rx W Y S) f in
    let e = lv-eq (suc j) rx lx in
    let r = ranked_join b x kx rx W Y (ranked_join b z kz (suc j) (join b x kx rx W Y) S t.ranks).2 in
    record {
      x = x';
      y = x;
      free = fx;
      surgery = (rotate1-surgery v c b z x x' z' kx kz (suc j) rx rx j W Y S i fx fz xz j (rotate-toward b (low c) (high c) z x kx kz (suc j) rx W Y S t.within) lx refl refl refl hy hs).0;
      from = λ e. (rotate1-surgery v c b z x x' z' kx kz (suc j) rx rx j W Y S i fx fz xz j (rotate-toward b (low c) (high c) z x kx kz (suc j) rx W Y S t.within) lx refl refl refl hy hs).1;
      level = no-put;
      shape = shape_of c _ _ f (rotate-there b c z x x' z' kx kz (suc j) rx rx j W Y S (omega (arith, t.under, rank-join b z kz (suc j) (join b x kx rx W Y) S)) r.0
          (omega arith) (omega arith) (omega arith) (rank-small (suc j) rx lx lim) (omega arith) (omega arith) (omega arith) t);
    }
proper {v} (rotates2 c b z x x' z' kx kz rx j W Y S fx fz xz lx hy hw hs up lim) i f =
    let t = shape_at c (lean b z x kx kz (suc j) rx W Y S) f in
    let e = lv-eq (suc j) rx lx in
    let r = ranked_join b z kz (suc j) (join b x kx rx W Y) S t.ranks in
    record {
      x = x';
      y = x;
      free = fx;
      surgery = (rotate2-surgery v c b z x x' z' kx kz (suc j) rx (suc rx) (suc j) W Y S i fx fz xz j (rotate-toward b (low c) (high c) z x kx kz (suc j) rx W Y S t.within) lx refl refl refl hy hw).0;
      from = λ e. (rotate2-surgery v c b z x x' z' kx kz (suc j) rx (suc rx) (suc j) W Y S i fx fz xz j (rotate-toward b (low c) (high c) z x kx kz (suc j) rx W Y S t.within) lx refl refl refl hy hw).1;
      level = no-put;
      shape = shape_of c _ _ f (rotate-there b c z x x' z' kx kz (suc j) rx (suc rx) (suc j) W Y S (omega arith) (omega arith) (omega arith) (omega arith) r.1
          (omega arith) (omega arith) (omega arith) (omega arith) t);
    }
proper {v} (doubles c b z x y y' x' z' kx ky kz rx ry j W A B S fy fx fz up lx ey hw hs lim) i f =
    let t = shape_at c (deep b z x y kx ky kz (suc j) rx ry W A B S) f in
    let o = double-toward b (low c) (high c) z x y kx ky kz (suc j) rx ry W A B S t.within in
    record {
      x = y';
      y = x;
      free = fy;
      surgery = (double-surgery v c b z x y y' x' z' kx ky kz (suc j) rx ry j W A B S i fy fx fz up o.0 o.1 lx ey hw hs).0;
      from = λ e. (double-surgery v c b z x y y' x' z' kx ky kz (suc j) rx ry j W A B S i fy fx fz up o.0 o.1 lx ey hw hs).1;
      level = no-put;
      shape = shape_of c _ _ f (double-there b c z x y y' x' z' kx ky kz (suc j) rx ry j W A B S refl (sym (lv-eq (suc j) rx lx)) ey hw hs lim t);
    }
