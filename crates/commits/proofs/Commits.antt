-- The six commits as surgeries of the whole table: from the tree before, free slots and the grounds of the settling table. Both mirror forms at once.
use Prim.Native.Nat.{◌+◌, ◌<◌, ◌≤◌, suc, ℕ}
use mathlib.Core.Bool.{Bool, false, true}
use mathlib.Core.List.{List, [], ◌∷◌}
use mathlib.Core.Logic.{inl, inr}
use mathlib.Core.Path.{◌∙◌, ◌≡◌, ap, ap₂, refl, subst, sym}
use native.Mathlib.Omega.{arith}
use Rattle.commits.proofs.Forms.{deep, flat, lean, occ-deep, occ-flat, occ-lean, occ-renew, occ-root, occ-turn, renew, root-join, root-renew, turn}
use Rattle.commits.proofs.Moves.{copy, copy-from, double, double-from, promote, promote-from, put_in, rotate-from, rotate1, rotate2, take_out, take_out_from}
use Rattle.commits.proofs.Order.{Rising}
use Rattle.commits.proofs.Place.{Local, from_at, lev_c-le, surgery_at}
use Rattle.commits.proofs.Writes.{AllFree, AllOne, Among, Commit, Fresh, Rise, all_free, commit-fate, commit-inv, commit-off, commit-ran, fresh, fresh-hit, freshes, holds_join, join-holds, new_once, old_once, part_held, rise_once, slots, wrote}
use Rattle.machine.specs.PutIn.{inner_of}
use Rattle.machine.specs.Table.{View}
use Rattle.routes.proofs.Level.{lev_at-plug, lv-eq, lvs-not, lvs-yes, times}
use Rattle.routes.proofs.Surgery.{From, Off, Surgery}
use Rattle.routes.specs.Route.{lev_at, lv, rank_c}
use Rattle.trees.proofs.Held.{Carries, ind-le, root-one}
use Rattle.trees.proofs.Mirror.{Toward, occ-join}
use Rattle.trees.proofs.Plug.{ind-same, occ-plug, take_apart_lem}
use Rattle.trees.specs.Rank.{rank}
use Rattle.trees.specs.Tree.{Ctx, Holds, Tree, ind, join, leaf, leaf_rec, node, occ, plug, root, side_rec}
use Rattle.views.specs.Update.{upds}

side-one : (b : Bool) (k rk l r : ℕ) → (side_rec b k rk l r).state ≡ 1
side-one true k rk l r = refl
side-one false k rk l r = refl

held_at : (v : View) (c : Ctx) (t : Tree) → Carries v (plug c t) → Holds v t
held_at v c t i = (take_apart_lem v c t i.entry i.holds).1

-- the commit, from its lists; the surgery, from what is shown of the place
commit-by : {v : View} {old new : Tree} {N : List Fresh} {R : List ℕ} → AllOne N → Rise 0 N → AllFree v N → (v (root new)).state ≡ 0 → ((s : ℕ) → times s R ≤ occ s old)
    → ((s : ℕ) → occ s new + times s R ≡ occ s old + times s (slots N)) → Holds (upds v (freshes N)) new → Commit v old new N R
commit-by {v} {old} {new} {N} ones up free lead-free sub count holds =
    record { all_one = ones; once = rise_once 0 N up; free = all_free v N free; from_old = sub; count = count; holds = holds; top-free = lead-free }

surgery_by : (v : View) (c : Ctx) (old new : Tree) (N : List Fresh) (R : List ℕ) {x y : ℕ} (i : Carries v (plug c old)) (m : Commit v old new N R)
    → Local (wrote v c (root new) N R) (rank_c c) x y old new → Surgery v (wrote v c (root new) N R) (plug c old) (plug c new) x y
surgery_by v c old new N R i m l = surgery_at c i (commit-inv v c old new N R i m) (commit-fate v c old new N R i m) l

-- a surgery whose new top, if it is level, takes over from y
abbrev pub Both : View → View → Tree → Tree → ℕ → ℕ → Type 0
Both v w t t' x y = Surgery v w t t' x y × From t t' x y

both_by : (v : View) (c : Ctx) (old new : Tree) (N : List Fresh) (R : List ℕ) {x y : ℕ} (i : Carries v (plug c old)) (m : Commit v old new N R)
    → Local (wrote v c (root new) N R) (rank_c c) x y old new → (1 ≤ lev_at (rank_c c) x new → 1 ≤ lev_at (rank_c c) y old) → root new ≡ x → Both v (wrote v c x N R) (plug c old) (plug c new) x y
both_by v c old new N R {x} {y} i m l f e =
    subst (λ a. Both v (wrote v c a N R) (plug c old) (plug c new) x y) e (surgery_by v c old new N R i m l, from_at c i (commit-inv v c old new N R i m) l f)

-- ---- put-in

module _ (v : View) (c : Ctx) (h kh ph rh a l m K RK kl pl rl km pm rm : ℕ) (i : Carries v (plug c (leaf h kh ph rh)))
    (fa : (v a).state ≡ 0) (fl : (v l).state ≡ 0) (fm : (v m).state ≡ 0) (al : a < l) (lm : l < m) where
  abbrev pub two : Tree
  two = node a K RK (leaf l kl pl rl) (leaf m km pm rm)

  abbrev pub N₀ : List Fresh
  N₀ = fresh a (inner_of K RK l m) ∷ fresh l (leaf_rec kl pl rl) ∷ fresh m (leaf_rec km pm rm) ∷ []

  put-commit : Commit v (leaf h kh ph rh) two N₀ (h ∷ [])
  put-commit =
      let up : Rise 0 N₀ = (omega arith, (al, (lm, tt))) in
      commit-by (refl, (refl, (refl, tt))) up (fa, (fl, (fm, tt))) fa (λ s. omega arith) (λ s. omega arith)
      (fresh-hit v N₀ a _ (rise_once 0 N₀ up a) (inl (refl, refl)), fresh-hit v N₀ l _ (rise_once 0 N₀ up l) (inr (inl (refl, refl))), fresh-hit v N₀ m _ (rise_once 0 N₀ up m) (inr (inr (inl (refl, refl)))))

  pub put-surgery : (lv RK rl ≡ true → ⊥) → (lv RK rm ≡ true → ⊥) → Surgery v (wrote v c a N₀ (h ∷ [])) (plug c (leaf h kh ph rh)) (plug c two) a h
  put-surgery nl nm =
      let q = put-commit in
      surgery_by v c (leaf h kh ph rh) two N₀ (h ∷ []) i q
      (put_in (wrote v c a N₀ (h ∷ [])) (rank_c c) h kh ph rh a K RK l kl pl rl m km pm rm (commit-off v c (leaf h kh ph rh) two N₀ (h ∷ []) i q h (omega (arith, ind-same h)))
      (commit-ran v c (leaf h kh ph rh) two N₀ (h ∷ []) i q) nl nm)

  pub put-level : lv (rank_c c) RK ≡ true → 1 ≤ lev_at 255 a (plug c two)
  put-level e = omega (arith, lev_at-plug a c two, lvs-yes (rank_c c) RK (ind a a) e, ind-same a)

  pub put-apart : (lv RK rl ≡ true → ⊥) → (lv RK rm ≡ true → ⊥) → (lv (rank_c c) RK ≡ true → ⊥) → From (plug c (leaf h kh ph rh)) (plug c two) a h
  put-apart nl nm na e =
      absurd (omega (
        arith,
        lev_at-plug a c two,
        lev_c-le a c,
        occ-plug a c two,
        new_once v c (leaf h kh ph rh) two N₀ (h ∷ []) i put-commit a,
        (commit-inv v c (leaf h kh ph rh) two N₀ (h ∷ []) i put-commit).ones a,
        ind-le (wrote v c a N₀ (h ∷ []) a).state 1,
        ind-same a,
        lvs-not (rank_c c) RK (ind a a) na,
        lvs-not RK rl (ind a l) nl,
        lvs-not RK rm (ind a m) nm,
      ))

-- ---- promote

module _ (v : View) (c : Ctx) (b : Bool) (z z' key r : ℕ) (X S : Tree) (i : Carries v (plug c (join b z key r X S))) (free : (v z').state ≡ 0) where
  abbrev pub small : Tree
  small = join b z key r X S

  abbrev pub tall : Tree
  tall = join b z' key (suc r) X S

  abbrev pub N₁ : List Fresh
  N₁ = fresh z' (side_rec b key (suc r) (root X) (root S)) ∷ []

  low_part : (T : Tree) → ((s : ℕ) → occ s T ≤ occ s X + occ s S) → Holds v T → Holds (upds v (freshes N₁)) T
  low_part T le h = part_held v c small N₁ i (free, tt) T (λ s. omega (arith, occ-join b s z key r X S, le s)) h

  promote-commit : Commit v small tall N₁ (z ∷ [])
  promote-commit =
      let h = holds_join v b z key r X S (held_at v c small i) in
      commit-by (side-one b key (suc r) (root X) (root S), tt) (omega arith, tt) (free, tt) (rw (root-join b z' key (suc r) X S) free) (λ s. omega (arith, occ-join b s z key r X S))
      (λ s. omega (arith, occ-join b s z key r X S, occ-join b s z' key (suc r) X S))
      (join-holds _ b z' key (suc r) X S (fresh-hit v N₁ z' _ (rise_once 0 N₁ (omega arith, tt) z') (inl (refl, refl)))
      (low_part X (λ s. omega arith) h.1) (low_part S (λ s. omega arith) h.2))

  pub promote-surgery : lv r (rank X) ≡ true → rank S ≤ r → Both v (wrote v c z' N₁ (z ∷ [])) (plug c small) (plug c tall) z' (root X)
  promote-surgery lx hs =
      let w = wrote v c (root tall) N₁ (z ∷ []) in
      let oz : Off w z = commit-off v c small tall N₁ (z ∷ []) i promote-commit z (omega (arith, ind-same z)) in
      let once = old_once v c small tall N₁ (z ∷ []) i promote-commit in
      both_by v c small tall N₁ (z ∷ []) i promote-commit
      (promote w (rank_c c) b z z' key r X S oz once (new_once v c small tall N₁ (z ∷ []) i promote-commit) lx hs)
      (λ e. promote-from w (rank_c c) b z z' key r X S oz once lx) (root-join b z' key (suc r) X S)

-- ---- rotations

module _ (v : View) (c : Ctx) (b : Bool) (z x x' z' kx kz rz rx rx' rz' : ℕ) (W Y S : Tree) (i : Carries v (plug c (join b z kz rz (join b x kx rx W Y) S)))
    (fx : (v x').state ≡ 0) (fz : (v z').state ≡ 0) (up : x' < z') where
  abbrev pub leant : Tree
  leant = lean b z x kx kz rz rx W Y S

  abbrev pub turned : Tree
  turned = turn b x' z' kx kz rx' rz' W Y S

  abbrev pub N₂ : List Fresh
  N₂ = fresh x' (side_rec b kx rx' (root W) z') ∷ fresh z' (side_rec b kz rz' (root Y) (root S)) ∷ []

  abbrev pub R₂ : List ℕ
  R₂ = z ∷ x ∷ []

  abbrev w₂ : View
  w₂ = wrote v c (root turned) N₂ R₂

  leant-part : (T : Tree) → ((s : ℕ) → occ s T ≤ occ s W + occ s Y + occ s S) → Holds v T → Holds (upds v (freshes N₂)) T
  leant-part T le h = part_held v c leant N₂ i (fx, (fz, tt)) T (λ s. omega (arith, occ-lean b s z x kx kz rz rx W Y S, le s)) h

  rotate-commit : Commit v leant turned N₂ R₂
  rotate-commit =
      let h = holds_join v b z kz rz (join b x kx rx W Y) S (held_at v c leant i) in
      let g = holds_join v b x kx rx W Y h.1 in
      let rise : Rise 0 N₂ = (omega arith, (up, tt)) in
      commit-by (side-one b kx rx' (root W) z', (side-one b kz rz' (root Y) (root S), tt)) rise (fx, (fz, tt)) (rw (root-join b x' kx rx' W (join b z' kz rz' Y S)) fx) (λ s. omega (arith, occ-lean b s z x kx kz rz rx W Y S))
      (λ s. omega (arith, occ-lean b s z x kx kz rz rx W Y S, occ-turn b s x' z' kx kz rx' rz' W Y S))
      (join-holds _ b x' kx rx' W (join b z' kz rz' Y S)
      (fresh-hit v N₂ x' _ (rise_once 0 N₂ rise x') (inl (refl, ap (side_rec b kx rx' (root W)) (sym (root-join b z' kz rz' Y S)))))
      (leant-part W (λ s. omega arith) g.1)
      (join-holds _ b z' kz rz' Y S (fresh-hit v N₂ z' _ (rise_once 0 N₂ rise z') (inr (inl (refl, refl)))) (leant-part Y (λ s. omega arith) g.2) (leant-part S (λ s. omega arith) h.2)))

  z_off : Off w₂ z
  z_off = commit-off v c leant turned N₂ R₂ i rotate-commit z (omega (arith, ind-same z))

  x_off : Off w₂ x
  x_off = commit-off v c leant turned N₂ R₂ i rotate-commit x (omega (arith, ind-same x))

  turned_by : Local w₂ (rank_c c) x' x leant turned → lv rz rx ≡ true → Both v (wrote v c x' N₂ R₂) (plug c leant) (plug c turned) x' x
  turned_by l lx = both_by v c leant turned N₂ R₂ i rotate-commit l (λ e. rotate-from w₂ (rank_c c) b z x x' z' kx kz rz rx rx' rz' W Y S z_off x_off lx) (root-join b x' kx rx' W (join b z' kz rz' Y S))

  pub rotate1-surgery : (j : ℕ) → Toward b kx kz → lv rz rx ≡ true → rz ≡ suc j → rx' ≡ rx → rz' ≡ j → suc (rank Y) ≤ j → suc (rank S) ≤ j
      → Both v (wrote v c x' N₂ R₂) (plug c leant) (plug c turned) x' x
  rotate1-surgery j o lx ez ex' ez' hy hs =
      let ex : rz ≡ rx = lv-eq rz rx lx in
      turned_by (rotate1 w₂ (rank_c c) b z x x' z' kx kz rz rx rx' rz' W Y S z_off x_off j (old_once v c leant turned N₂ R₂ i rotate-commit) (commit-ran v c leant turned N₂ R₂ i rotate-commit)
      o ez (omega arith) (omega arith) ez' hy hs) lx

  pub rotate2-surgery : (j : ℕ) → Toward b kx kz → lv rz rx ≡ true → rz ≡ suc j → rx' ≡ suc rx → rz' ≡ rz → rank Y ≡ j → rank W ≡ j
      → Both v (wrote v c x' N₂ R₂) (plug c leant) (plug c turned) x' x
  rotate2-surgery j o lx ez ex' ez' hy hw =
      let ex : rz ≡ rx = lv-eq rz rx lx in
      turned_by (rotate2 w₂ (rank_c c) b z x x' z' kx kz rz rx rx' rz' W Y S z_off x_off j (old_once v c leant turned N₂ R₂ i rotate-commit) (commit-ran v c leant turned N₂ R₂ i rotate-commit)
      o ez (omega arith) (omega arith) (omega arith) hy hw) lx

-- ---- double rotation: the new left record takes the lower slot, on either side

abbrev pub duo : Bool → Fresh → Fresh → List Fresh
duo true A B = A ∷ B ∷ []
duo false A B = B ∷ A ∷ []

duo-times : (b : Bool) (A B : Fresh) (s : ℕ) → times s (slots (duo b A B)) ≡ ind s A.slot + ind s B.slot
duo-times true A B s = omega arith
duo-times false A B s = omega arith

duo-one : (b : Bool) (A B : Fresh) → A.rec.state ≡ 1 → B.rec.state ≡ 1 → AllOne (duo b A B)
duo-one true A B e f = (e, (f, tt))
duo-one false A B e f = (f, (e, tt))

duo-free : (v : View) (b : Bool) (A B : Fresh) → (v A.slot).state ≡ 0 → (v B.slot).state ≡ 0 → AllFree v (duo b A B)
duo-free v true A B e f = (e, (f, tt))
duo-free v false A B e f = (f, (e, tt))

duo-rise : (b : Bool) (y : ℕ) (A B : Fresh) → Rising b y A.slot B.slot → Rise (suc y) (duo b A B)
duo-rise true y A B h = (h.0, (h.1, tt))
duo-rise false y A B h = (h.0, (h.1, tt))

duo-near : (b : Bool) (A B : Fresh) → Among A.slot A.rec (duo b A B)
duo-near true A B = inl (refl, refl)
duo-near false A B = inr (inl (refl, refl))

duo-far : (b : Bool) (A B : Fresh) → Among B.slot B.rec (duo b A B)
duo-far true A B = inr (inl (refl, refl))
duo-far false A B = inl (refl, refl)

module _ (v : View) (c : Ctx) (b : Bool) (z x y y' x' z' kx ky kz rz rx ry j : ℕ) (W A B S : Tree) (i : Carries v (plug c (join b z kz rz (join b x kx rx W (join b y ky ry A B)) S)))
    (fy : (v y').state ≡ 0) (fx : (v x').state ≡ 0) (fz : (v z').state ≡ 0) (up : Rising b y' x' z') where
  abbrev pub sunk : Tree
  sunk = deep b z x y kx ky kz rz rx ry W A B S

  abbrev pub level_out : Tree
  level_out = flat b y' x' z' kx ky kz (suc j) j j W A B S

  abbrev X₃ : Fresh
  X₃ = fresh x' (side_rec b kx j (root W) (root A))

  abbrev Z₃ : Fresh
  Z₃ = fresh z' (side_rec b kz j (root B) (root S))

  free₃ : AllFree v (duo b X₃ Z₃)
  free₃ = duo-free v b X₃ Z₃ fx fz

  abbrev pub N₃ : List Fresh
  N₃ = fresh y' (side_rec b ky (suc j) x' z') ∷ duo b X₃ Z₃

  abbrev pub R₃ : List ℕ
  R₃ = z ∷ x ∷ y ∷ []

  abbrev w₃ : View
  w₃ = wrote v c (root level_out) N₃ R₃

  deep-part : (T : Tree) → ((s : ℕ) → occ s T ≤ occ s W + occ s A + occ s B + occ s S) → Holds v T → Holds (upds v (freshes N₃)) T
  deep-part T le h = part_held v c sunk N₃ i (fy, free₃) T (λ s. omega (arith, occ-deep b s z x y kx ky kz rz rx ry W A B S, le s)) h

  double-commit : Commit v sunk level_out N₃ R₃
  double-commit =
      let h = holds_join v b z kz rz (join b x kx rx W (join b y ky ry A B)) S (held_at v c sunk i) in
      let g = holds_join v b x kx rx W (join b y ky ry A B) h.1 in
      let f = holds_join v b y ky ry A B g.2 in
      let rise : Rise 0 N₃ = (omega arith, duo-rise b y' X₃ Z₃ up) in
      commit-by (side-one b ky (suc j) x' z', duo-one b X₃ Z₃ (side-one b kx j (root W) (root A)) (side-one b kz j (root B) (root S))) rise (fy, free₃) (rw (root-join b y' ky (suc j) (join b x' kx j W A) (join b z' kz j B S)) fy) (λ s. omega (arith, occ-deep b s z x y kx ky kz rz rx ry W A B S))
      (λ s. omega (arith, occ-deep b s z x y kx ky kz rz rx ry W A B S, occ-flat b s y' x' z' kx ky kz (suc j) j j W A B S, duo-times b X₃ Z₃ s))
      (join-holds _ b y' ky (suc j) (join b x' kx j W A) (join b z' kz j B S)
      (fresh-hit v N₃ y' _ (rise_once 0 N₃ rise y') (inl (refl, ap₂ (side_rec b ky (suc j)) (sym (root-join b x' kx j W A)) (sym (root-join b z' kz j B S)))))
      (join-holds _ b x' kx j W A (fresh-hit v N₃ x' _ (rise_once 0 N₃ rise x') (inr (duo-near b X₃ Z₃))) (deep-part W (λ s. omega arith) g.1) (deep-part A (λ s. omega arith) f.1))
      (join-holds _ b z' kz j B S (fresh-hit v N₃ z' _ (rise_once 0 N₃ rise z') (inr (duo-far b X₃ Z₃))) (deep-part B (λ s. omega arith) f.2) (deep-part S (λ s. omega arith) h.2)))

  deep-off : (s : ℕ) → 1 ≤ times s R₃ → Off w₃ s
  deep-off = commit-off v c sunk level_out N₃ R₃ i double-commit

  pub double-surgery : Toward b kx ky → Toward b ky kz → lv rz rx ≡ true → ry ≡ j → suc (rank W) ≤ j → suc (rank S) ≤ j → Both v (wrote v c y' N₃ R₃) (plug c sunk) (plug c level_out) y' x
  double-surgery oxy oyz lx ey hw hs =
      let oz : Off w₃ z = deep-off z (omega (arith, ind-same z)) in
      let ox : Off w₃ x = deep-off x (omega (arith, ind-same x)) in
      let oy : Off w₃ y = deep-off y (omega (arith, ind-same y)) in
      both_by v c sunk level_out N₃ R₃ i double-commit
      (double w₃ (rank_c c) b z x y y' x' z' kx ky kz rz rx ry j W A B S oz ox oy (old_once v c sunk level_out N₃ R₃ i double-commit) (commit-ran v c sunk level_out N₃ R₃ i double-commit) oxy oyz ey hw hs)
      (λ e. double-from w₃ (rank_c c) b z x y y' x' z' kx ky kz rz rx ry j W A B S oz ox oy lx) (root-join b y' ky (suc j) (join b x' kx j W A) (join b z' kz j B S))

-- ---- take-out

-- the copy: the sibling's record in a fresh slot
renew-held : (v w : View) (s' : ℕ) (S : Tree) → w s' ≡ v (root S) → Holds v S → ((T : Tree) → ((s : ℕ) → occ s T ≤ occ s S) → Holds v T → Holds w T) → Holds w (renew s' S)
renew-held v w s' (leaf s k pr rk) e h part = e ∙ h
renew-held v w s' (node s k rk l r) e h part = (e ∙ h.0, part l (λ x. omega arith) h.1, part r (λ x. omega arith) h.2)

module _ (v : View) (c : Ctx) (b : Bool) (p kp rp l kl pl rl s' : ℕ) (S : Tree) (i : Carries v (plug c (join b p kp rp (leaf l kl pl rl) S))) (free : (v s').state ≡ 0) where
  abbrev pub four : Tree
  four = join b p kp rp (leaf l kl pl rl) S

  abbrev pub N₄ : List Fresh
  N₄ = fresh s' (v (root S)) ∷ []

  abbrev pub R₄ : List ℕ
  R₄ = p ∷ l ∷ root S ∷ []

  abbrev w₄ : View
  w₄ = wrote v c (root (renew s' S)) N₄ R₄

  four-occ : (s : ℕ) → occ s four ≡ ind s p + ind s l + occ s S
  four-occ s = occ-join b s p kp rp (leaf l kl pl rl) S

  take_commit_lem : Commit v four (renew s' S) N₄ R₄
  take_commit_lem =
      let h = holds_join v b p kp rp (leaf l kl pl rl) S (held_at v c four i) in
      commit-by (root-one v S h.2, tt) (omega arith, tt) (free, tt) (rw (root-renew s' S) free) (λ s. omega (arith, four-occ s, occ-root S s)) (λ s. omega (arith, four-occ s, occ-renew s' S s))
      (renew-held v (upds v (freshes N₄)) s' S (fresh-hit v N₄ s' (v (root S)) (rise_once 0 N₄ (omega arith, tt) s') (inl (refl, refl))) h.2
      (λ T le g. part_held v c four N₄ i (free, tt) T (λ s. omega (arith, four-occ s, le s)) g))

  take_off : (s : ℕ) → 1 ≤ times s R₄ → Off w₄ s
  take_off = commit-off v c four (renew s' S) N₄ R₄ i take_commit_lem

  pub take_surgery : rank S ≤ rp → rp ≤ rank_c c → Both v (wrote v c s' N₄ R₄) (plug c four) (plug c (renew s' S)) s' (root S)
  take_surgery hs hp =
      let op : Off w₄ p = take_off p (omega (arith, ind-same p)) in
      let ol : Off w₄ l = take_off l (omega (arith, ind-same l)) in
      let os : Off w₄ (root S) = take_off (root S) (omega (arith, ind-same (root S))) in
      let once = old_once v c four (renew s' S) N₄ R₄ i take_commit_lem in
      both_by v c four (renew s' S) N₄ R₄ i take_commit_lem
      (take_out w₄ (rank_c c) b p kp rp l kl pl rl s' S op ol os once (commit-ran v c four (renew s' S) N₄ R₄ i take_commit_lem))
      (take_out_from w₄ (rank_c c) b p kp rp l kl pl rl s' S op ol os once (new_once v c four (renew s' S) N₄ R₄ i take_commit_lem s') hs hp) (root-renew s' S)

-- ---- a copy of one record in its place

module _ (v : View) (c : Ctx) (s' : ℕ) (S : Tree) (i : Carries v (plug c S)) (free : (v s').state ≡ 0) where
  abbrev pub N₅ : List Fresh
  N₅ = fresh s' (v (root S)) ∷ []

  copy-commit : Commit v S (renew s' S) N₅ (root S ∷ [])
  copy-commit =
      let h = held_at v c S i in
      commit-by (root-one v S h, tt) (omega arith, tt) (free, tt) (rw (root-renew s' S) free) (λ s. omega (arith, occ-root S s)) (λ s. omega (arith, occ-renew s' S s))
      (renew-held v (upds v (freshes N₅)) s' S (fresh-hit v N₅ s' (v (root S)) (rise_once 0 N₅ (omega arith, tt) s') (inl (refl, refl))) h
      (λ T le g. part_held v c S N₅ i (free, tt) T (λ s. omega (arith, le s)) g))

  pub copy-surgery : Both v (wrote v c s' N₅ (root S ∷ [])) (plug c S) (plug c (renew s' S)) s' (root S)
  copy-surgery =
      let w = wrote v c (root (renew s' S)) N₅ (root S ∷ []) in
      let os : Off w (root S) = commit-off v c S (renew s' S) N₅ (root S ∷ []) i copy-commit (root S) (omega (arith, ind-same (root S))) in
      let once = old_once v c S (renew s' S) N₅ (root S ∷ []) i copy-commit in
      both_by v c S (renew s' S) N₅ (root S ∷ []) i copy-commit
      (copy w (rank_c c) s' S os once (commit-ran v c S (renew s' S) N₅ (root S ∷ []) i copy-commit))
      (copy-from (rank_c c) s' S (once (root S)) (new_once v c S (renew s' S) N₅ (root S ∷ []) i copy-commit s')) (root-renew s' S)
