-- The fares of a tree, written in their order.
use mathlib.Core.Path.{◌≡◌, refl, sym, ◌∙◌}
use mathlib.Core.Bool.{Bool, true, false}
use mathlib.Core.List.{List, [], ◌∷◌, ◌++◌}
use Prim.Native.Nat.{ℕ, zero, suc, ◌+◌, ◌-◌, ◌*◌, ◌≤◌}
use native.Mathlib.Omega.{arith}
use native.Mathlib.Nat.{add-zero, not-suc-le-zero}
use lib.ListN.{length, set, length-append}
use lib.Seq.{sets}
use Rattle.terms.specs.declared.Rec.{Rec}
use Rattle.machine.specs.Record.{is_leaf, is_fare}
use Rattle.machine.specs.State.{one}
use Rattle.machine.specs.Table.{View}
use Rattle.machine.specs.Reach.{Tree, leaf, node, count_fares, fare_line, fare_list}
use Rattle.reach.specs.declared.Written.{Written}
use Rattle.reach.specs.Tree.{size, tree_from}
use Rattle.reach.specs.Writing.{Line, Wrote}

pub size-some : (u : Tree) → 1 ≤ size u
size-some (leaf s r) = omega arith
size-some (node s r a b) = omega arith

line_length : (b : Bool) (r : Rec) → length (fare_line b r) ≡ 2 * one b
line_length true r = refl
line_length false r = refl

-- two numbers a fare
pub list_length : (u : Tree) → length (fare_list u) ≡ 2 * count_fares u
list_length (leaf s r) = line_length (is_fare r) r
list_length (node s r a b) = length-append (fare_list a) (fare_list b) ∙ omega (arith, list_length a, list_length b)

sets_append : (vs ws l : List ℕ) (i : ℕ) → sets l i (vs ++ ws) ≡ sets (sets l i vs) (i + length vs) ws
sets_append [] ws l i = rw (add-zero i) refl
sets_append (a ∷ vs) ws l i =
    let e : i + suc (length vs) ≡ suc i + length vs = omega arith in
    rw e (sets_append vs ws (set l i a) (suc i))

-- gas that lasts does not matter
pub gas-leaf : (k : ℕ) (v : View) (s : ℕ) → is_leaf (v s) ≡ true → tree_from k v s ≡ leaf s (v s)
unfolding tree_from
gas-leaf zero v s e = refl
gas-leaf (suc k) v s e = simp (tree_from, e)

pub gas-inner : (k : ℕ) (v : View) (s : ℕ) → is_leaf (v s) ≡ false → tree_from (suc k) v s ≡ node s (v s) (tree_from k v (v s).left) (tree_from k v (v s).right)
unfolding tree_from
gas-inner k v s e = simp (tree_from, e)

tree_gas_by :
    (b : Bool) (k j : ℕ) (v : View) (s : ℕ) → is_leaf (v s) ≡ b → ((i : ℕ) → size (tree_from k v i) ≤ j → tree_from j v i ≡ tree_from k v i)
    → size (tree_from (suc k) v s) ≤ suc j → tree_from (suc j) v s ≡ tree_from (suc k) v s
tree_gas_by true k j v s e ih h = gas-leaf (suc j) v s e ∙ sym (gas-leaf (suc k) v s e)
tree_gas_by false k j v s e ih h =
    let z : size (node s (v s) (tree_from k v (v s).left) (tree_from k v (v s).right)) ≤ suc j = rw (gas-inner k v s e) at h in
    gas-inner j v s e ∙ rw (ih (v s).left (omega arith), ih (v s).right (omega arith)) (sym (gas-inner k v s e))

tree_gas : (k j : ℕ) (v : View) (s : ℕ) → size (tree_from k v s) ≤ j → j ≤ k → tree_from j v s ≡ tree_from k v s
tree_gas zero zero v s h l = refl
tree_gas zero (suc j) v s h l = absurd (not-suc-le-zero l)
tree_gas (suc k) zero v s h l = absurd (omega (arith, size-some (tree_from (suc k) v s)))
tree_gas (suc k) (suc j) v s h l = tree_gas_by (is_leaf (v s)) k j v s refl (λ i g. tree_gas k j v i g (omega arith)) h

gas-less : (k : ℕ) (v : View) (s : ℕ) → 1 ≤ k → is_leaf (v s) ≡ false → tree_from k v s ≡ node s (v s) (tree_from (k - 1) v (v s).left) (tree_from (k - 1) v (v s).right)
gas-less zero v s h e = absurd (not-suc-le-zero h)
gas-less (suc k) v s h e = let z : suc k - 1 ≡ k = omega arith in rw z (gas-inner k v s e)

pub some-slot : (v : View) (s left : ℕ) → size (tree_from left v s) ≤ left → 1 ≤ left
some-slot v s left h = omega (arith, size-some (tree_from left v s))

module _ (v : View) (s left : ℕ) (r : Rec) (er : r ≡ v s) (fits : size (tree_from left v s) ≤ left) (b : Bool) (eb : b ≡ is_leaf r) where
  slot_left : 1 ≤ left
  slot_left = some-slot v s left fits

  leaf_is : b ≡ true → tree_from left v s ≡ leaf s r
  leaf_is t = rw er (gas-leaf left v s (rw (← er) (sym eb ∙ t)))

  -- a leaf: its line
  module _ (t : b ≡ true) (at : ℕ) (room : List ℕ) where
    pub line_fits : at + 2 * count_fares (tree_from left v s) ≤ length room → at + 2 * one (is_fare r) ≤ length room
    line_fits h = rw (leaf_is t) at h

    pub leaf_wrote : (x : ℕ) (later : List ℕ) → Line r at room x later → Wrote (tree_from left v s) left at room (record { at = x; left = left - 1 }) later
    leaf_wrote x later l = rw (leaf_is t) record { next = l.next; used = omega (arith, slot_left); lines = l.lines }

  module _ (f : b ≡ false) where
    inner-is : tree_from left v s ≡ node s r (tree_from (left - 1) v r.left) (tree_from (left - 1) v r.right)
    inner-is = rw er (gas-less left v s slot_left (rw (← er) (sym eb ∙ f)))

    inner-size : suc (size (tree_from (left - 1) v r.left) + size (tree_from (left - 1) v r.right)) ≤ left
    inner-size = rw inner-is at fits

    pub left-fits : size (tree_from (left - 1) v r.left) ≤ left - 1
    left-fits = omega (arith, inner-size)

    module _ (at : ℕ) (room : List ℕ) (h : at + 2 * count_fares (tree_from left v s) ≤ length room) where
      inner_room : at + 2 * (count_fares (tree_from (left - 1) v r.left) + count_fares (tree_from (left - 1) v r.right)) ≤ length room
      inner_room = rw inner-is at h

      pub left-room : at + 2 * count_fares (tree_from (left - 1) v r.left) ≤ length room
      left-room = omega (arith, inner_room)

      module _ (a : Written) (mid : List ℕ) (wa : Wrote (tree_from (left - 1) v r.left) (left - 1) at room a mid) where
        right_is : tree_from a.left v r.right ≡ tree_from (left - 1) v r.right
        right_is = tree_gas (left - 1) a.left v r.right (omega (arith, inner-size)) (omega arith)

        pub right_fits : size (tree_from a.left v r.right) ≤ a.left
        right_fits = rw right_is (omega (arith, inner-size))

        pub right_room : length mid ≡ length room → a.at + 2 * count_fares (tree_from a.left v r.right) ≤ length mid
        right_room l = rw right_is (omega (arith, inner_room))

        pub inner-wrote :
            (x : Written) (later : List ℕ) → Wrote (tree_from a.left v r.right) a.left a.at mid x later
            → Wrote (tree_from left v s) left at room x later
        inner-wrote x later w =
            let c : Wrote (tree_from (left - 1) v r.right) a.left a.at mid x later = rw right_is at w in
            let n : at + length (fare_list (tree_from (left - 1) v r.left)) ≡ a.at = omega (arith, list_length (tree_from (left - 1) v r.left)) in
            rw inner-is
            record {
              next = omega (arith, c.next);
              used = omega (arith, c.used, slot_left);
              lines = c.lines ∙ rw (wa.lines, ← n) (sym (sets_append (fare_list (tree_from (left - 1) v r.left)) _ room at));
            }
