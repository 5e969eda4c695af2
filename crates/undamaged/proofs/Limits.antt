-- No new rank passes 28, and some row of the settling table always fits.
use Prim.Native.Nat.{◌+◌, ◌-◌, ◌<◌, ◌≤◌, suc, zero, ℕ}
use mathlib.Core.Bool.{Bool, false, not, true}
use mathlib.Core.Logic.{inl, inr}
use mathlib.Core.Path.{◌∙◌, ◌≡◌, ap, ap₂, refl, subst, sym}
use native.Mathlib.Omega.{arith}
use Rattle.commits.proofs.Forms.{lean, rank-join, root-join}
use Rattle.commits.proofs.Grounds.{outranked, root-rank}
use Rattle.commits.proofs.Place.{lev_c-le}
use Rattle.commits.proofs.Shape.{Shape, shape_limit, shape_marks}
use Rattle.commits.proofs.Sight.{Place, place, split}
use Rattle.commits.proofs.Writes.{holds_join}
use Rattle.machine.proofs.Fibonacci.{table_is_fib}
use Rattle.machine.specs.Allowed.{fib, fibonacci}
use Rattle.machine.specs.PutIn.{inner_of}
use Rattle.machine.specs.Table.{View}
use Rattle.potential.proofs.Moves.{owes-plain, owes-sentinel, phi-join, phi-plug, share_plain}
use Rattle.potential.proofs.Weights.{fib-step, fib-up}
use Rattle.potential.specs.Potential.{owes, phi, phi_c, root_share, weight}
use Rattle.routes.proofs.Level.{lev_at-plug, lev_at-root, lvs-pos}
use Rattle.routes.proofs.Surgery.{at_most}
use Rattle.routes.specs.Route.{lev_at, lv, lvs, rank_c}
use Rattle.steps.proofs.Settling.{Pair}
use Rattle.trees.proofs.Held.{root-occ}
use Rattle.trees.proofs.Plug.{Found, find, ind-eq, ind-other, occ-plug, take_apart_lem}
use Rattle.trees.specs.Marks.{MarkedC}
use Rattle.trees.specs.Rank.{rank}
use Rattle.trees.specs.Tree.{Ctx, Tree, hole, join, leaf, leaf_rec, node, occ, parent, plug, root, top}
use Rattle.undamaged.proofs.Calm.{calm-apart}
use Rattle.undamaged.specs.Safe.{Ground}
use Rattle.views.specs.Update.{link}

fib-30 : fib 30 ≡ 832040
unfolding fibonacci
fib-30 = sym (table_is_fib 29 (omega arith)) ∙ refl

fib-31 : fib 31 ≡ 1346269
unfolding fibonacci
fib-31 = sym (table_is_fib 30 (omega arith)) ∙ refl

-- a tree of rank 28 under a sentinel owes too much if it owes Fibonacci number 30 by itself
too_much : (c : Ctx) (u : Tree) → rank u ≡ 28 → rank_c c ≡ 255 → rank (plug c u) ≡ 255 → fib 30 ≤ phi u → phi (plug c u) ≤ 2000000 → ⊥
too_much top u e r t own paid = omega (arith, e, t)
too_much (hole b s k rk w c) u e r t own paid =
    let q : phi_c (rank u) (hole b s k rk w c) ≡ (owes rk (rank u) (rank w) + phi w) + phi_c rk c = refl in
    let o : owes rk (rank u) (rank w) ≡ root_share 28 + root_share (rank w) = rw (r, e) (owes-sentinel 28 (rank w)) in
    let h : root_share 28 ≡ fib 31 = share_plain 28 (omega arith) in
    omega (arith, phi-plug (hole b s k rk w c) u, q, o, h, fib-30, fib-31)

-- what z and x owe by themselves
promote-owes : (b : Bool) (z key : ℕ) (X S : Tree) → rank X ≡ 28 → rank S ≤ 28 → 28 ≤ suc (rank S) → fib 30 ≤ phi (join b z key 28 X S)
promote-owes b z key X S ex hs near =
    let o : owes 28 (rank X) (rank S) ≡ weight 28 0 (28 - rank S) = owes-plain 28 (rank X) (rank S) (omega arith) ∙ rw ex refl in
    let w : fib 30 ≤ weight 28 0 (28 - rank S) = own (28 - rank S) (omega arith) in
    omega (arith, phi-join b z key 28 X S, o, w)
  where
    own : (d : ℕ) → d ≤ 1 → fib 30 ≤ weight 28 0 d
    own zero h = fib-up 30
    own (suc zero) h = omega arith
    own (suc (suc d)) h = absurd (omega arith)

rotate-owes : (b : Bool) (z x kx kz : ℕ) (W Y S : Tree) → rank Y ≡ 27 → rank W ≡ 27 → suc (rank S) ≤ 27 → fib 30 ≤ phi (lean b z x kx kz 28 28 W Y S)
rotate-owes b z x kx kz W Y S ey ew hs =
    let e : 28 - rank S ≡ suc (suc (26 - rank S)) = omega arith in
    let oz : owes 28 28 (rank S) ≡ fib 29 = owes-plain 28 28 (rank S) (omega arith) ∙ ap (weight 28 0) e in
    let ox : owes 28 (rank W) (rank Y) ≡ fib 28 = owes-plain 28 (rank W) (rank Y) (omega arith) ∙ rw (ew, ey) refl in
    let pz : phi (lean b z x kx kz 28 28 W Y S) ≡ (owes 28 28 (rank S) + phi (join b x kx 28 W Y)) + phi S = phi-join b z kz 28 (join b x kx 28 W Y) S ∙ ap (λ r. (owes 28 r (rank S) + phi (join b x kx 28 W Y)) + phi S) (rank-join b x kx 28 W Y) in
    omega (arith, pz, phi-join b x kx 28 W Y, oz, ox, fib-step 28)

module _ (n : ℕ) (v : View) (t : Tree) (g : Ground n v t) (paid : phi t ≤ 2000000) where
  -- above rank 28 there are only sentinels
  high-rank : (c : Ctx) → MarkedC c → rank_c c ≤ 255 → 29 ≤ rank_c c → rank_c c ≡ 255
  high-rank top m l h = refl
  high-rank (hole b s k rk u c) m l h = elim m.0 [ inl e ↦ e.1 | inr e ↦ absurd (omega (arith, e.2)) ]

  -- a place of rank 28 under a record that outranks it
  no-28 : (c : Ctx) (u : Tree) → t ≡ plug c u → rank u ≡ 28 → 29 ≤ rank_c c → fib 30 ≤ phi u → ⊥
  no-28 c u w e up own =
      let f : Shape (plug c u) = rw w at g.shape in
      too_much c u e (high-rank c (shape_marks c u f) (shape_limit c u f) up) (ap rank (sym w) ∙ g.top) own (rw w at paid)

  module _ (pz z x o : ℕ) (e b : Bool) (p : Pair v pz z x o e b) where
    -- the record above z outranks it
    above_z : (c : Ctx) (u : Tree) → t ≡ plug c u → root u ≡ z → parent c ≡ pz → rank u < 255 → suc (rank u) ≤ rank_c c
    above_z c u w at under small = outranked v c u (rw w at g.carries) (rw w at g.shape) small (rw (under, at) p.steady)

    the_place : Place v t pz z e b
    the_place = place v t g.carries pz z e b p.above p.to-z p.z_pos p.inner

    -- promote: s is level with z or one below
    pub promote-limit : (v o).rank ≤ (v z).rank → (v z).rank ≤ suc (v o).rank → 28 ≤ (v z).rank → ⊥
    promote-limit le near big = go the_place.c the_place.X the_place.S the_place.whole the_place.under the_place.near the_place.far
      where
        z28 : (v z).rank ≡ 28
        z28 = omega (arith, p.ranks, p.small)

        go : (c : Ctx) (X S : Tree) → t ≡ plug c (join b z (v z).number (v z).rank X S) → parent c ≡ pz → root X ≡ link b (v z) → root S ≡ link (not b) (v z) → ⊥
        go c X S w under nx ns =
            let u = join b z (v z).number (v z).rank X S in
            let h = holds_join v b z (v z).number (v z).rank X S (take_apart_lem v c u (rw w at g.carries.entry) (rw w at g.carries.holds)).1 in
            let rx : rank X ≡ 28 = sym (root-rank v X h.1) ∙ ap (λ y. (v y).rank) (nx ∙ p.to-x) ∙ sym p.ranks ∙ z28 in
            let rs : rank S ≡ (v o).rank = sym (root-rank v S h.2) ∙ ap (λ y. (v y).rank) (ns ∙ sym p.to-o) in
            let ru : rank u ≡ 28 = rank-join b z (v z).number (v z).rank X S ∙ z28 in
            let own : fib 30 ≤ phi u = subst (λ r. fib 30 ≤ phi (join b z (v z).number r X S)) (sym z28) (promote-owes b z (v z).number X S rx (omega (arith, rs, z28)) (omega (arith, rs, z28))) in
            no-28 c u w ru (omega (arith, ru, above_z c u w (root-join b z (v z).number (v z).rank X S) under (omega (arith, ru)))) own

    -- rotate case 2: y and w are one below x
    pub rotate-limit : (y w : ℕ) → y ≡ link (not b) (v x) → w ≡ link b (v x) → ((v x).left ≡ 0 → ⊥) → suc (suc (v o).rank) ≤ (v z).rank → suc (v y).rank ≡ (v x).rank → suc (v w).rank ≡ (v x).rank → 28 ≤ (v x).rank → ⊥
    rotate-limit y w ey ew inx wide hy hw big =
        let l = split v the_place.X b x the_place.held (the_place.near ∙ p.to-x) inx in
        go the_place.c the_place.X the_place.S l.L l.R the_place.whole l.whole the_place.under l.near l.far the_place.far
      where
        x28 : (v x).rank ≡ 28
        x28 = omega (arith, p.small)

        z28 : (v z).rank ≡ 28
        z28 = omega (arith, p.ranks, x28)

        go : (c : Ctx) (X S W Y : Tree) → t ≡ plug c (join b z (v z).number (v z).rank X S) → X ≡ join b x (v x).number (v x).rank W Y → parent c ≡ pz → root W ≡ link b (v x) → root Y ≡ link (not b) (v x) → root S ≡ link (not b) (v z) → ⊥
        go c X S W Y w₁ w₂ under nw ny ns =
            let all : t ≡ plug c (lean b z x (v x).number (v z).number 28 28 W Y S) = w₁ ∙ ap (λ q. plug c (join b z (v z).number (v z).rank q S)) w₂ ∙ ap₂ (λ r q. plug c (lean b z x (v x).number (v z).number r q W Y S)) z28 x28 in
            let u = lean b z x (v x).number (v z).number 28 28 W Y S in
            let h = holds_join v b z (v z).number 28 (join b x (v x).number 28 W Y) S (take_apart_lem v c u (rw all at g.carries.entry) (rw all at g.carries.holds)).1 in
            let k = holds_join v b x (v x).number 28 W Y h.1 in
            let rw₁ : rank W ≡ 27 = omega (arith, sym (root-rank v W k.1) ∙ ap (λ q. (v q).rank) (nw ∙ sym ew), hw, x28) in
            let ry : rank Y ≡ 27 = omega (arith, sym (root-rank v Y k.2) ∙ ap (λ q. (v q).rank) (ny ∙ sym ey), hy, x28) in
            let rs : suc (rank S) ≤ 27 = omega (arith, sym (root-rank v S h.2) ∙ ap (λ q. (v q).rank) (ns ∙ sym p.to-o), wide, z28) in
            let ru : rank u ≡ 28 = rank-join b z (v z).number 28 (join b x (v x).number 28 W Y) S in
            no-28 c u all ru (omega (arith, ru, above_z c u all (root-join b z (v z).number 28 (join b x (v x).number 28 W Y) S) under (omega (arith, ru)))) (rotate-owes b z x (v x).number (v z).number W Y S ry rw₁ rs)

  -- ---- a level record of rank 2 or more has no level child

  pub no-level_child : (x y : ℕ) (d : Bool) → (v x).state ≡ 1 → (x ≡ 0 → ⊥) → 1 ≤ lev_at 255 x t → 2 ≤ (v x).rank → link d (v x) ≡ y → (y ≡ 0 → ⊥) → lv (v x).rank (v y).rank ≡ true → ⊥
  no-level_child x y d one nz lev two to ny l = at (find x t (omega (arith, g.carries.ones x, ind-other x 0 nz, ind-eq (v x).state 1 one)))
    where
      level-at : (c : Ctx) (u : Tree) → t ≡ plug c u → root u ≡ x → lv (rank_c c) (rank u) ≡ true
      level-at c u w e =
          let ot : occ x (plug c u) ≤ 1 = subst (λ q. occ x q ≤ 1) w (at_most v t x g.carries) in
          let ou : 1 ≤ occ x u = subst (λ q. 1 ≤ occ q u) e (root-occ u) in
          let top-level = subst (λ q. occ q u ≤ 1 → lev_at (rank_c c) q u ≡ lvs (rank_c c) (rank u) 1) e (lev_at-root (rank_c c) u) (omega (arith, occ-plug x c u, ind-other x 0 nz)) in
          let all : lev_at 255 x (plug c u) ≡ lev_at 255 x t = ap (lev_at 255 x) (sym w) in
          lvs-pos (rank_c c) (rank u) 1 (omega (arith, lev_at-plug x c u, lev_c-le x c, occ-plug x c u, ind-other x 0 nz, top-level, all))

      here : (c : Ctx) (u : Tree) → t ≡ plug c u → root u ≡ x → ⊥
      here c (leaf s k pr rk) w e =
          ny (sym to ∙ no-link d (ap (λ q. v q) (sym e) ∙ (take_apart_lem v c (leaf s k pr rk) (rw w at g.carries.entry) (rw w at g.carries.holds)).1))
        where
          no-link : (d : Bool) → v x ≡ leaf_rec k pr rk → link d (v x) ≡ 0
          no-link true h = ap (λ r. r.left) h
          no-link false h = ap (λ r. r.right) h
      here c (node s k rk a b) w e =
          let h = (take_apart_lem v c (node s k rk a b) (rw w at g.carries.entry) (rw w at g.carries.holds)).1 in
          let vx : v x ≡ inner_of k rk (root a) (root b) = ap v (sym e) ∙ h.0 in
          let rx : (v x).rank ≡ rk = ap (λ r. r.rank) vx in
          let calm = (calm-apart c (node s k rk a b) (rw w at g.calm)).0.0 (level-at c (node s k rk a b) w e) (omega (arith, rx)) in
          both d calm.0 calm.1 vx rx (root-rank v a h.1) (root-rank v b h.2) to
        where
          both : (d : Bool) → (lv rk (rank a) ≡ true → ⊥) → (lv rk (rank b) ≡ true → ⊥) → v x ≡ inner_of k rk (root a) (root b) → (v x).rank ≡ rk → (v (root a)).rank ≡ rank a → (v (root b)).rank ≡ rank b → link d (v x) ≡ y → ⊥
          both true na nb vx rx ra rb to = na (subst (λ q. lv rk q ≡ true) (ap (λ q. (v q).rank) (sym to ∙ ap (λ r. r.left) vx) ∙ ra) (subst (λ q. lv q (v y).rank ≡ true) rx l))
          both false na nb vx rx ra rb to = nb (subst (λ q. lv rk q ≡ true) (ap (λ q. (v q).rank) (sym to ∙ ap (λ r. r.right) vx) ∙ rb) (subst (λ q. lv q (v y).rank ≡ true) rx l))

      at : Found x t → ⊥
      at f = here f.ctx f.sub f.whole f.at
