-- The route of a number as a list of slots and ranks; level records, in a tree and on a route.
use Rattle.std.specs.Prelude.{◌+◌, ℕ, eqb, ltb, Bool, ◌&&◌, not, true, ◌⊎◌, ◌≡◌}
use Rattle.machine.specs.Choice.{if_b}
use Rattle.machine.specs.Table.{View}
use Rattle.trees.specs.Tree.{Ctx, Tree, hole, ind, leaf, node, top}
use Rattle.views.specs.Update.{link}

-- a record of rank r under one of rank q is level; a sentinel never is
unfoldable pub lv : ℕ → ℕ → Bool
lv q r = eqb q r && not (eqb r 255)

-- n, if the pair is level
abbrev pub lvs : ℕ → ℕ → ℕ → ℕ
lvs q r n = if_b (lv q r) n 0

-- the level records of a tree that hangs under a record of rank q: how many, and how often slot x is one
abbrev pub lev : ℕ → Tree → ℕ
lev q (leaf s k pr rk) = lvs q rk 1
lev q (node s k rk l r) = lvs q rk 1 + lev rk l + lev rk r

abbrev pub lev_at : ℕ → ℕ → Tree → ℕ
lev_at q x (leaf s k pr rk) = lvs q rk (ind x s)
lev_at q x (node s k rk l r) = lvs q rk (ind x s) + lev_at rk x l + lev_at rk x r

-- the rank of the record above the hole; the level records of the surroundings, where a tree of rank q stands in the hole
abbrev pub rank_c : Ctx → ℕ
rank_c top = 255
rank_c (hole b s k rk u c) = rk

abbrev pub lev_c : ℕ → Ctx → ℕ
lev_c x top = 0
lev_c x (hole b s k rk u c) = lvs (rank_c c) rk (ind x s) + lev_at rk x u + lev_c x c

-- the route of a number: the records that its search meets, from the top down to a leaf
pub data Route : Type 0 where
  stop : Route
  via : (s rk : ℕ) → Route → Route

abbrev pub route : ℕ → Tree → Route
route k (leaf s key pr rk) = via s rk stop
route k (node s key rk l r) = via s rk (if_b (ltb k key) (route k l) (route k r))

-- with the entry
abbrev pub full : ℕ → Tree → Route
full k t = via 0 255 (route k t)

abbrev pub first : Route → ℕ
first stop = 0
first (via s rk l) = s

-- b stands on the route; a stands above b on it
abbrev pub Has : ℕ → Route → Type 0
Has b stop = ⊥
Has b (via s rk l) = (b ≡ s) ⊎ Has b l

abbrev pub Above : ℕ → ℕ → Route → Type 0
Above a b stop = ⊥
Above a b (via s rk l) = ((a ≡ s) × Has b l) ⊎ Above a b l

-- the same, where b is level with the record before it; the route hangs under a record of rank q
abbrev pub Level : ℕ → ℕ → Route → Type 0
Level q b stop = ⊥
Level q b (via s rk l) = ((b ≡ s) × (lv q rk ≡ true)) ⊎ Level rk b l

abbrev pub Below : ℕ → ℕ → Route → Type 0
Below a b stop = ⊥
Below a b (via s rk l) = ((a ≡ s) × Level rk b l) ⊎ Below a b l

-- where a search for k goes from slot x
unfoldable pub next : View → ℕ → ℕ → ℕ
next v k x = link (ltb k (v x).number) (v x)

-- THE OWNERS' PREDICATE: the walk of k from slot a, by the links as they now stand, meets b or a frozen level pair
pub data Meets (v : View) (L : Route) (k b : ℕ) : ℕ → Type 0 where
  tree : {a : ℕ} → Below a b L → Meets v L k b a
  pair : {a : ℕ} → (v a).state ≡ 2 → (next v k a ≡ 0 → ⊥) → ((v (next v k a)).state ≡ 0 → ⊥) → lv (v a).rank (v (next v k a)).rank ≡ true → Meets v L k b a
  gone : {a : ℕ} → (v a).state ≡ 2 → (next v k a ≡ 0 → ⊥) → Meets v L k b (next v k a) → Meets v L k b a

-- THE SEARCH ARGUMENT: a remembered record is on the route of k now, or was taken off and leads there, or was taken off and is a leaf; W is what the number and
-- the price of such a leaf tell
pub data Good (W : ℕ → ℕ → Type 0) (v : View) (L : Route) (k : ℕ) : ℕ → Type 0 where
  here : {a : ℕ} → Has a L → Good W v L k a
  last : {a : ℕ} → (v a).state ≡ 2 → next v k a ≡ 0 → W (v a).number (v a).price → Good W v L k a
  led : {a : ℕ} → (v a).state ≡ 2 → (next v k a ≡ 0 → ⊥) → Good W v L k (next v k a) → Good W v L k a
