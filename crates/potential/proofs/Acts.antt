-- THE POTENTIAL of every commit.
use Prim.Native.Nat.{◌+◌, ◌≤◌, suc, ℕ}
use mathlib.Core.Bool.{Bool}
use mathlib.Core.Logic.{◌⊎◌, inl, inr}
use mathlib.Core.Path.{◌∙◌, ◌≡◌, ap, refl, subst, sym}
use native.Mathlib.Omega.{arith}
use Rattle.commits.proofs.Acts.{Act, Kind, doubles, promotes, puts, puts-in, rotates1, rotates2, settles, takes, takes_out}
use Rattle.commits.proofs.Forms.{deep, flat, lean, rank-join, renew, turn}
use Rattle.commits.proofs.Grounds.{InnerRank, two-ranks}
use Rattle.commits.proofs.Shape.{Shape, ranked_join, shape_at, shape_limit}
use Rattle.machine.specs.Allowed.{fib}
use Rattle.machine.specs.Table.{View}
use Rattle.potential.proofs.Moves.{double-phi, lower, lower-sentinel, owes-plain, owes-sentinel, phi-join, phi-plug, promote-phi, raise, rotate1-phi, rotate2-phi, share_plain, share_sentinel}
use Rattle.potential.specs.Potential.{owes, phi, phi_c, root_share}
use Rattle.routes.proofs.Level.{lv-eq}
use Rattle.routes.specs.Route.{rank_c}
use Rattle.trees.specs.Rank.{rank}
use Rattle.trees.specs.Tree.{Ctx, Tree, join, leaf, node, plug}
use Rattle.views.proofs.Law.{in_or_out}

-- 2 for a put-in, otherwise nothing
abbrev pub pays : Kind → ℕ
pays (puts-in k p) = 2
pays (takes_out k) = 0
pays settles = 0

-- a new inner record over two leaves
fib-3 : fib 3 ≡ 2
unfolding fib
fib-3 = refl

fib-2 : fib 2 ≡ 1
unfolding fib
fib-2 = refl

owes-1 : owes 1 0 0 ≡ 1
unfolding fib
owes-1 = owes-plain 1 0 0 (omega arith)

share_0 : root_share 0 ≡ 2
share_0 = share_plain 0 (omega arith) ∙ fib-3

owes-255 : (rl rm : ℕ) → ((rl ≡ 0) × (rm ≡ 255)) ⊎ ((rl ≡ 255) × (rm ≡ 0)) → owes 255 rl rm ≡ 2
owes-255 rl rm (inl e) = owes-sentinel rl rm ∙ rw (e.0, e.1) (omega (arith, share_0, share_sentinel))
owes-255 rl rm (inr e) = owes-sentinel rl rm ∙ rw (e.0, e.1) (omega (arith, share_0, share_sentinel))

put-phi : (c : Ctx) (h kh ph rh a l m RK kl pl rl km pm rm : ℕ) → rank_c c ≤ 255 → RK ≤ rank_c c → InnerRank rh RK → ((rl ≡ 0) × (rm ≡ rh)) ⊎ ((rl ≡ rh) × (rm ≡ 0))
    → phi (plug c (node a km RK (leaf l kl pl rl) (leaf m km pm rm))) ≤ phi (plug c (leaf h kh ph rh)) + 2
put-phi c h kh ph rh a l m RK kl pl rl km pm rm lim up (inl e) r =
    let o : owes RK rl rm ≡ 2 = rw e.1 (owes-255 rl rm (elim r [ inl q ↦ inl (q.0, q.1 ∙ e.0) | inr q ↦ inr (q.0 ∙ e.0, q.1) ])) in
    let g : phi_c RK c ≡ phi_c rh c = ap (λ q. phi_c q c) (e.1 ∙ sym e.0) in
    omega (arith, phi-plug c (node a km RK (leaf l kl pl rl) (leaf m km pm rm)), phi-plug c (leaf h kh ph rh), o, g)
put-phi c h kh ph rh a l m RK kl pl rl km pm rm lim up (inr e) r =
    let o : owes RK rl rm ≡ 1 = elim r [ inl q ↦ rw (e.1, q.0, q.1, e.0) owes-1 | inr q ↦ rw (e.1, q.0, q.1, e.0) owes-1 ] in
    let g : phi_c RK c ≤ phi_c rh c + 1 = rw (e.1, e.0) (rw fib-2 at (raise c 0 (omega (arith, e.1)) lim (omega arith))) in
    omega (arith, phi-plug c (node a km RK (leaf l kl pl rl) (leaf m km pm rm)), phi-plug c (leaf h kh ph rh), o, g)

renew-phi : (s' : ℕ) (t : Tree) → (phi (renew s' t) ≡ phi t) × (rank (renew s' t) ≡ rank t)
renew-phi s' (leaf s k pr rk) = (refl, refl)
renew-phi s' (node s k rk l r) = (refl, refl)

take_phi : (c : Ctx) (b : Bool) (p kp rp l kl pl rl s' : ℕ) (S : Tree) → rank_c c ≤ 255 → rp ≤ rank_c c → rank S ≤ rp
    → phi (plug c (renew s' S)) ≤ phi (plug c (join b p kp rp (leaf l kl pl rl) S))
take_phi c b p kp rp l kl pl rl s' S lim up hs =
    let n = renew-phi s' S in
    let new : phi (plug c (renew s' S)) ≡ phi_c (rank S) c + phi S = phi-plug c (renew s' S) ∙ rw (n.0, n.1) refl in
    let old : phi (plug c (join b p kp rp (leaf l kl pl rl) S)) ≡ phi_c rp c + (owes rp rl (rank S) + 0 + phi S) = phi-plug c (join b p kp rp (leaf l kl pl rl) S) ∙ rw (rank-join b p kp rp (leaf l kl pl rl) S, phi-join b p kp rp (leaf l kl pl rl) S) refl in
    elim (in_or_out rp 255) [
      | inl small ↦ omega (arith, new, old, lower c (rank S) rp hs up lim small)
      | inr big ↦ (
          let e : rp ≡ 255 = omega arith in
          let o : owes rp rl (rank S) ≡ root_share rl + root_share (rank S) = rw e (owes-sentinel rl (rank S)) in
          let g : phi_c rp c ≡ phi_c 255 c = ap (λ q. phi_c q c) e in
          omega (arith, new, old, o, g, lower-sentinel c (rank S) (omega arith))
          )
    ]

pub act_phi : {v w : View} {kind : Kind} {t t' : Tree} → Act v kind t w t' → Shape t → phi t' ≤ phi t + pays kind
act_phi (puts c k p h kh ph rh a l m RK kl pl rl km pm rm fa fl fm al lm r two fits on) f =
    put-phi c h kh ph rh a l m RK kl pl rl km pm rm (shape_limit c (leaf h kh ph rh) f) fits.there.under r (two-ranks k p kh ph rh kl pl rl km pm rm two)
act_phi (takes c b p kp rp l kl pl rl s' S free fare) f =
    let t = shape_at c (join b p kp rp (leaf l kl pl rl) S) f in
    let r = ranked_join b p kp rp (leaf l kl pl rl) S t.ranks in
    omega (arith, take_phi c b p kp rp l kl pl rl s' S (shape_limit c _ f) (rw (rank-join b p kp rp (leaf l kl pl rl) S) at t.under) r.1)
act_phi (promotes c b z z' key r X S free lx near up lim) f =
    let t = shape_at c (join b z key r X S) f in
    let q = ranked_join b z key r X S t.ranks in
    omega (arith, promote-phi b c z z' key r X S up (shape_limit c _ f) lim (sym (lv-eq r (rank X) lx)) q.1 near)
act_phi (rotates1 c b z x x' z' kx kz rx j W Y S fx fz xz lx hy hs lim) f =
    let e : suc j ≡ rx = lv-eq (suc j) rx lx in
    omega (arith, subst (λ r. phi (plug c (turn b x' z' kx kz r j W Y S)) ≤ phi (plug c (lean b z x kx kz (suc j) r W Y S))) e (rotate1-phi b c z x x' z' kx kz j W Y S lim hy hs))
act_phi (rotates2 c b z x x' z' kx kz rx j W Y S fx fz xz lx hy hw hs up lim) f =
    let e : suc j ≡ rx = lv-eq (suc j) rx lx in
    omega (arith, subst (λ r. phi (plug c (turn b x' z' kx kz (suc r) (suc j) W Y S)) ≤ phi (plug c (lean b z x kx kz (suc j) r W Y S))) e (rotate2-phi b c z x x' z' kx kz j W Y S up (shape_limit c _ f) lim hy hw hs))
act_phi (doubles c b z x y y' x' z' kx ky kz rx ry j W A B S fy fx fz up lx ey hw hs lim) f =
    let e : suc j ≡ rx = lv-eq (suc j) rx lx in
    omega (
      arith,
      subst (λ q. phi (plug c (flat b y' x' z' kx ky kz (suc j) j j W A B S)) ≤ phi (plug c (deep b z x y kx ky kz (suc j) rx q W A B S))) (sym ey)
          (subst (λ r. phi (plug c (flat b y' x' z' kx ky kz (suc j) j j W A B S)) ≤ phi (plug c (deep b z x y kx ky kz (suc j) r j W A B S))) e (double-phi b c z x y x' y' z' kx ky kz j W A B S lim hw hs)),
    )
