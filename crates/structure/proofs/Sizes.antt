-- A tree with n fares has 2n + 1 records: kept by every commit.
use Prim.Native.Nat.{◌*◌, ◌+◌, ◌≤◌, suc, ℕ}
use lib.ListN.{length, length-append}
use mathlib.Core.Bool.{Bool, false, true}
use mathlib.Core.List.{List, ◌∷◌}
use mathlib.Core.Path.{◌≡◌, ap, refl}
use native.Mathlib.Omega.{arith}
use Rattle.commits.proofs.Acts.{Act, Kind, doubles, promotes, puts, puts-in, rotates1, rotates2, settles, takes, takes_out}
use Rattle.commits.proofs.Forms.{deep, flat, lean, renew, turn}
use Rattle.demand2.proofs.Carried.{carried-tree}
use Rattle.demand2.proofs.Passes.{first_tree}
use Rattle.demand2.proofs.Stands.{Stands}
use Rattle.fares.proofs.Changes.{Changes, act_fares}
use Rattle.fares.specs.Fares.{Insert, fares, leaf_fares}
use Rattle.history.specs.History.{Ask}
use Rattle.history.specs.Ledger.{Fare, history}
use Rattle.history.specs.Machine.{real}
use Rattle.machine.specs.Choice.{if_b}
use Rattle.machine.specs.Table.{View}
use Rattle.terms.specs.declared.State.{State}
use Rattle.trees.specs.Count.{size}
use Rattle.trees.specs.Tree.{Ctx, Tree, hole, join, leaf, node, plug, top}

size-join : (b : Bool) (s k rk : ℕ) (t u : Tree) → size (join b s k rk t u) ≡ 1 + size t + size u
size-join true s k rk t u = refl
size-join false s k rk t u = omega arith

size-plug : (c : Ctx) (t u : Tree) → size (plug c t) + size u ≡ size (plug c u) + size t
size-plug top t u = omega arith
size-plug (hole b s k rk x c) t u = omega (arith, size-plug c (join b s k rk t x) (join b s k rk u x), size-join b s k rk t x, size-join b s k rk u x)

size-renew : (s' : ℕ) (t : Tree) → size (renew s' t) ≡ size t
size-renew s' (leaf s k pr rk) = refl
size-renew s' (node s k rk l r) = refl

size-lean : (b : Bool) (z x kx kz rz rx : ℕ) (W Y S : Tree) → size (lean b z x kx kz rz rx W Y S) ≡ 2 + size W + size Y + size S
size-lean b z x kx kz rz rx W Y S = omega (arith, size-join b z kz rz (join b x kx rx W Y) S, size-join b x kx rx W Y)

size-turn : (b : Bool) (x z kx kz rx rz : ℕ) (W Y S : Tree) → size (turn b x z kx kz rx rz W Y S) ≡ 2 + size W + size Y + size S
size-turn b x z kx kz rx rz W Y S = omega (arith, size-join b x kx rx W (join b z kz rz Y S), size-join b z kz rz Y S)

size-deep : (b : Bool) (z x y kx ky kz rz rx ry : ℕ) (W A B S : Tree) → size (deep b z x y kx ky kz rz rx ry W A B S) ≡ 3 + size W + size A + size B + size S
size-deep b z x y kx ky kz rz rx ry W A B S = omega (arith, size-join b z kz rz (join b x kx rx W (join b y ky ry A B)) S, size-join b x kx rx W (join b y ky ry A B), size-join b y ky ry A B)

size-flat : (b : Bool) (y x z kx ky kz ry rx rz : ℕ) (W A B S : Tree) → size (flat b y x z kx ky kz ry rx rz W A B S) ≡ 3 + size W + size A + size B + size S
size-flat b y x z kx ky kz ry rx rz W A B S = omega (arith, size-join b y ky ry (join b x kx rx W A) (join b z kz rz B S), size-join b x kx rx W A, size-join b z kz rz B S)

-- a put-in adds two records, a take-out removes two, settling keeps their number
abbrev Sizes : Kind → ℕ → ℕ → Type 0
Sizes (puts-in k p) old new = new ≡ old + 2
Sizes (takes_out k) old new = old ≡ new + 2
Sizes settles old new = new ≡ old

act_size : {v w : View} {kind : Kind} {t t' : Tree} → Act v kind t w t' → Sizes kind (size t) (size t')
act_size (puts c k p h kh ph rh a l m RK kl pl rl km pm rm fa fl fm al lm r two fits on) =
    omega (arith, size-plug c (leaf h kh ph rh) (node a km RK (leaf l kl pl rl) (leaf m km pm rm)))
act_size (takes c b p kp rp l kl pl rl s' S free fare) =
    omega (arith, size-plug c (join b p kp rp (leaf l kl pl rl) S) (renew s' S), size-join b p kp rp (leaf l kl pl rl) S, size-renew s' S)
act_size (promotes c b z z' key r X S free lx near up lim) =
    omega (arith, size-plug c (join b z key r X S) (join b z' key (suc r) X S), size-join b z key r X S, size-join b z' key (suc r) X S)
act_size (rotates1 c b z x x' z' kx kz rx j W Y S fx fz xz lx hy hs lim) =
    omega (arith, size-plug c (lean b z x kx kz (suc j) rx W Y S) (turn b x' z' kx kz rx j W Y S), size-lean b z x kx kz (suc j) rx W Y S, size-turn b x' z' kx kz rx j W Y S)
act_size (rotates2 c b z x x' z' kx kz rx j W Y S fx fz xz lx hy hw hs up lim) =
    omega (arith, size-plug c (lean b z x kx kz (suc j) rx W Y S) (turn b x' z' kx kz (suc rx) (suc j) W Y S), size-lean b z x kx kz (suc j) rx W Y S, size-turn b x' z' kx kz (suc rx) (suc j) W Y S)
act_size (doubles c b z x y y' x' z' kx ky kz rx ry j W A B S fy fx fz up lx ey hw hs lim) =
    omega (
      arith,
      size-plug c (deep b z x y kx ky kz (suc j) rx ry W A B S) (flat b y' x' z' kx ky kz (suc j) j j W A B S),
      size-deep b z x y kx ky kz (suc j) rx ry W A B S,
      size-flat b y' x' z' kx ky kz (suc j) j j W A B S,
    )

insert_long : (k p : ℕ) (less more : List Fare) → Insert k p less more → length more ≡ length less + 1
insert_long k p less more i =
    omega (
      arith,
      ap (λ (x : List Fare). length x) i.without,
      ap (λ (x : List Fare). length x) i.with_it,
      length-append i.xs i.ys,
      length-append i.xs (record { number = k; price = p } ∷ i.ys),
    )

abbrev Sized : Tree → Type 0
Sized t = size t ≡ 2 * length (fares t) + 1

by_kind : (kind : Kind) (t t' : Tree) → Changes kind (fares t) (fares t') → Sizes kind (size t) (size t') → Sized t → Sized t'
by_kind (puts-in k p) t t' c n e = omega (arith, insert_long k p (fares t) (fares t') c)
by_kind (takes_out k) t t' c n e = omega (arith, insert_long k c.0 (fares t') (fares t) c.1)
by_kind settles t t' c n e = omega (arith, ap (λ (x : List Fare). length x) c)

first-sized : Sized first_tree
unfolding leaf_fares if_b
first-sized = refl

pub tree_sized : (t : List ℕ) (st : State) (cs : List Ask) (n : ℕ) → length t ≡ 6 * n → 8 ≤ n → n ≤ 4096 → (s : Stands (history real t st cs)) → size s.tree ≡ 2 * length (fares s.tree) + 1
tree_sized = carried-tree Sized first-sized (λ v w kind t t' act i sh q. by_kind kind t t' (act_fares act sh) (act_size act) q)
