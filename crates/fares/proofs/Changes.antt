-- What each commit makes of the fares: a put-in adds its fare, a take-out removes one, a settling commit leaves all as they are.
use Prim.Native.Nat.{◌<◌, suc, ℕ}
use borrow.Author.Tests.{ne_eqb}
use mathlib.Core.Bool.{Bool, false, true}
use mathlib.Core.List.{List, [], ◌++◌, ◌∷◌}
use mathlib.Core.Logic.{inl, inr}
use mathlib.Core.Path.{◌∙◌, ◌≡◌, ap, refl, sym}
use native.Mathlib.Omega.{arith}
use Rattle.commits.proofs.Acts.{Act, Kind, doubles, promotes, puts, puts-in, rotates1, rotates2, settles, takes, takes_out}
use Rattle.commits.proofs.Forms.{deep, flat, lean, renew, turn}
use Rattle.commits.proofs.Grounds.{Two, above, below}
use Rattle.commits.proofs.Shape.{Shape, marked-join, shape_at}
use Rattle.fares.proofs.Lists.{append_assoc, append_nil}
use Rattle.fares.specs.Fares.{Insert, back, fares, front, leaf_fares}
use Rattle.history.specs.Ledger.{Fare}
use Rattle.machine.specs.Choice.{if_b}
use Rattle.machine.specs.Table.{View}
use Rattle.trees.specs.Marks.{LeafMarks}
use Rattle.trees.specs.Tree.{Ctx, Tree, hole, join, leaf, node, plug, top}

-- the fares of a tree in its surroundings
pub fares-plug : (c : Ctx) (t : Tree) → fares (plug c t) ≡ front c ++ (fares t ++ back c)
fares-plug top t = sym (append_nil (fares t))
fares-plug (hole true s k rk u c) t = fares-plug c (node s k rk t u) ∙ ap (λ r. front c ++ r) (append_assoc (fares t) (fares u) (back c))
fares-plug (hole false s k rk u c) t =
    fares-plug c (node s k rk u t) ∙ ap (λ r. front c ++ r) (append_assoc (fares u) (fares t) (back c)) ∙ sym (append_assoc (front c) (fares u) (fares t ++ back c))

fares-same : (c : Ctx) (t t' : Tree) → fares t' ≡ fares t → fares (plug c t') ≡ fares (plug c t)
fares-same c t t' e = fares-plug c t' ∙ ap (λ r. front c ++ (r ++ back c)) e ∙ sym (fares-plug c t)

-- ---- settling: the fares stand in the same order

promote-fares : (b : Bool) (z z' k r r' : ℕ) (X S : Tree) → fares (join b z' k r' X S) ≡ fares (join b z k r X S)
promote-fares true z z' k r r' X S = refl
promote-fares false z z' k r r' X S = refl

rotate-fares : (b : Bool) (z x x' z' kx kz rz rx rx' rz' : ℕ) (W Y S : Tree) → fares (turn b x' z' kx kz rx' rz' W Y S) ≡ fares (lean b z x kx kz rz rx W Y S)
rotate-fares true z x x' z' kx kz rz rx rx' rz' W Y S = sym (append_assoc (fares W) (fares Y) (fares S))
rotate-fares false z x x' z' kx kz rz rx rx' rz' W Y S = append_assoc (fares S) (fares Y) (fares W)

double-fares : (b : Bool) (z x y y' x' z' kx ky kz rz rx ry ry' rx' rz' : ℕ) (W A B S : Tree)
    → fares (flat b y' x' z' kx ky kz ry' rx' rz' W A B S) ≡ fares (deep b z x y kx ky kz rz rx ry W A B S)
double-fares true z x y y' x' z' kx ky kz rz rx ry ry' rx' rz' W A B S =
    sym (append_assoc (fares W ++ fares A) (fares B) (fares S)) ∙ ap (λ r. r ++ fares S) (append_assoc (fares W) (fares A) (fares B))
double-fares false z x y y' x' z' kx ky kz rz rx ry ry' rx' rz' W A B S =
    append_assoc (fares S) (fares B) (fares A ++ fares W) ∙ ap (λ r. fares S ++ r) (sym (append_assoc (fares B) (fares A) (fares W)))

renew-fares : (s' : ℕ) (S : Tree) → fares (renew s' S) ≡ fares S
renew-fares s' (leaf s k pr rk) = refl
renew-fares s' (node s k rk l r) = refl

-- ---- a put-in: the new leaf before or behind the old one

one-fare : (k p : ℕ) → leaf_fares k p 0 ≡ record { number = k; price = p } ∷ []
unfolding leaf_fares if_b
one-fare k p = refl

put-fares : (c : Ctx) (k p h kh ph rh a l m RK kl pl rl km pm rm : ℕ) → Two k p kh ph rh kl pl rl km pm rm
    → Insert k p (fares (plug c (leaf h kh ph rh))) (fares (plug c (node a km RK (leaf l kl pl rl) (leaf m km pm rm))))
put-fares c k p h kh ph rh a l m RK _ _ _ _ _ _ (below q) = record {
  xs = front c;
  ys = leaf_fares kh ph rh ++ back c;
  without = fares-plug c (leaf h kh ph rh);
  with_it = fares-plug c (node a kh RK (leaf l k p 0) (leaf m kh ph rh)) ∙ ap (λ r. front c ++ ((r ++ leaf_fares kh ph rh) ++ back c)) (one-fare k p);
}
put-fares c k p h kh ph rh a l m RK _ _ _ _ _ _ (above q) = record {
  xs = front c ++ leaf_fares kh ph rh;
  ys = back c;
  without = fares-plug c (leaf h kh ph rh) ∙ sym (append_assoc (front c) (leaf_fares kh ph rh) (back c));
  with_it = fares-plug c (node a k RK (leaf l kh ph rh) (leaf m k p 0)) ∙ ap (λ r. front c ++ ((leaf_fares kh ph rh ++ r) ++ back c)) (one-fare k p)
      ∙ ap (λ r. front c ++ r) (append_assoc (leaf_fares kh ph rh) (record { number = k; price = p } ∷ []) (back c))
      ∙ sym (append_assoc (front c) (leaf_fares kh ph rh) (record { number = k; price = p } ∷ back c));
}

-- ---- a take-out: the leaf of its number goes

fare-leaf : (k pr rk : ℕ) → LeafMarks k pr rk → k < 1000000 → leaf_fares k pr rk ≡ record { number = k; price = pr } ∷ []
unfolding leaf_fares if_b
fare-leaf k pr rk (inl m) h = absurd (omega (arith, m.0))
fare-leaf k pr rk (inr m) h = rw (ne_eqb rk 255 (λ e. omega (arith, m.2))) refl

take_fares : (c : Ctx) (b : Bool) (p kp rp l kl pl rl s' : ℕ) (S : Tree) → leaf_fares kl pl rl ≡ record { number = kl; price = pl } ∷ []
    → Insert kl pl (fares (plug c (renew s' S))) (fares (plug c (join b p kp rp (leaf l kl pl rl) S)))
take_fares c true p kp rp l kl pl rl s' S e = record {
  xs = front c;
  ys = fares S ++ back c;
  without = fares-plug c (renew s' S) ∙ ap (λ r. front c ++ (r ++ back c)) (renew-fares s' S);
  with_it = fares-plug c (node p kp rp (leaf l kl pl rl) S) ∙ ap (λ r. front c ++ ((r ++ fares S) ++ back c)) e;
}
take_fares c false p kp rp l kl pl rl s' S e = record {
  xs = front c ++ fares S;
  ys = back c;
  without = fares-plug c (renew s' S) ∙ ap (λ r. front c ++ (r ++ back c)) (renew-fares s' S) ∙ sym (append_assoc (front c) (fares S) (back c));
  with_it = fares-plug c (node p kp rp S (leaf l kl pl rl)) ∙ ap (λ r. front c ++ ((fares S ++ r) ++ back c)) e
      ∙ ap (λ r. front c ++ r) (append_assoc (fares S) (record { number = kl; price = pl } ∷ []) (back c))
      ∙ sym (append_assoc (front c) (fares S) (record { number = kl; price = pl } ∷ back c));
}

-- ---- every commit

abbrev pub Changes : Kind → List Fare → List Fare → Type 0
Changes (puts-in k p) old new = Insert k p old new
Changes (takes_out k) old new = (p : ℕ) × Insert k p new old
Changes settles old new = new ≡ old

pub act_fares : {v w : View} {kind : Kind} {t t' : Tree} → Act v kind t w t' → Shape t → Changes kind (fares t) (fares t')
act_fares (puts c k p h kh ph rh a l m RK kl pl rl km pm rm fa fl fm al lm r two fits on) f = put-fares c k p h kh ph rh a l m RK kl pl rl km pm rm two
act_fares (takes c b p kp rp l kl pl rl s' S free fare) f =
    let marks = (marked-join b p kp rp (leaf l kl pl rl) S (shape_at c (join b p kp rp (leaf l kl pl rl) S) f).labels).1 in
    (pl, take_fares c b p kp rp l kl pl rl s' S (fare-leaf kl pl rl marks fare))
act_fares (promotes c b z z' key r X S free lx near up lim) f = fares-same c _ _ (promote-fares b z z' key r (suc r) X S)
act_fares (rotates1 c b z x x' z' kx kz rx j W Y S fx fz xz lx hy hs lim) f = fares-same c _ _ (rotate-fares b z x x' z' kx kz (suc j) rx rx j W Y S)
act_fares (rotates2 c b z x x' z' kx kz rx j W Y S fx fz xz lx hy hw hs up lim) f = fares-same c _ _ (rotate-fares b z x x' z' kx kz (suc j) rx (suc rx) (suc j) W Y S)
act_fares (doubles c b z x y y' x' z' kx ky kz rx ry j W A B S fy fx fz up lx ey hw hs lim) f = fares-same c _ _ (double-fares b z x y y' x' z' kx ky kz (suc j) rx ry (suc j) j j W A B S)
