-- One law for each exit of the way down.
use mathlib.Core.Path.{◌≡◌, refl, sym, ◌∙◌}
use mathlib.Core.Bool.{Bool, true, false, ◌&&◌}
use mathlib.Core.List.{List}
use Prim.Native.Nat.{ℕ, zero, suc, ◌-◌, ◌≤◌, ◌<◌}
use native.Mathlib.Omega.{arith}
use lib.Dec.{eqb}
use lib.ListN.{length, get_or, set}
use Rattle.terms.specs.declared.Rec.{Rec}
use Rattle.machine.specs.Record.{is_leaf, linked, in_tree, level, is_fare}
use Rattle.machine.specs.Table.{view}
use Rattle.machine.specs.Reach.{hurt, join_left, reachable, reach_from, larger}
use Rattle.machine.proofs.Reach.{reach-hurt, reach-leaf, reach-inner, reach-unmarked, reach-in}
use Rattle.machine.proofs.Marks.{unmarked, unmarked-set}
use Rattle.reach.specs.declared.Below.{Below}
use Rattle.reach.specs.Down.{leaf_below, inner_below, Tells, Lost, Way}
use Rattle.reach.proofs.Joins.{one-most, larger-most, deeper-most, leaf_told, right-hurt, tells_inner}

module _
    (n : ℕ) (t : List ℕ) (p : Rec) (s : ℕ) (marks : List ℕ) (left : ℕ) (len : length marks ≡ n) (el : left ≡ unmarked marks)
    (r : Rec) (er : r ≡ view n t s) (ok : Bool) (eok : ok ≡ (linked n s r && (in_tree r && eqb (get_or marks s 0) 0)))
  where
    reach-is : reachable n (view n t) marks s ≡ ok
    unfolding reachable
    reach-is = rw (← er) (sym eok)

    pub no_way : ok ≡ false → Lost (view n t) n s marks left
    no_way f = record { same = λ g h. reach-hurt n (view n t) marks s (reach-is ∙ f) g }

    module _ (ft : ok ≡ true) where
      reaches : reachable n (view n t) marks s ≡ true
      reaches = reach-is ∙ ft

      -- the slot has a mark, and had none
      pub inside : s < length marks
      inside = rw len (reach-in n t marks s reaches)

      one_less : left ≡ suc (unmarked (set marks s 1))
      one_less = el ∙ unmarked-set marks s inside (reach-unmarked n (view n t) marks s reaches)

      pub some_left : 1 ≤ left
      some_left = omega (arith, one_less)

      pub less : left - 1 ≡ unmarked (set marks s 1)
      less = omega (arith, one_less)

      gas : (P : ℕ → Type 0) → ((g : ℕ) → left - 1 ≤ g → P (suc g)) → (g : ℕ) → left ≤ g → P g
      gas P f zero h = absurd (omega (arith, one_less))
      gas P f (suc g) h = f g (omega arith)

      pub at_leaf_lem : (b : Bool) → b ≡ is_leaf r → b ≡ true → (x : Below) → x ≡ leaf_below p r (left - 1) → Way (view n t) n p s marks left x (set marks s 1)
      unfolding leaf_below
      at_leaf_lem b eb tb x e =
          rw e
          record {
            rest = omega (arith, one_less);
            fewer = omega arith;
            level = omega (arith, one_less, one-most (level p r));
            fares = omega (arith, one_less, one-most (is_fare r));
            depth = omega (arith, one_less, one-most (is_fare r));
            same =
                gas (λ g. Tells p left (leaf_below p r (left - 1)) (set marks s 1) (reach_from g n (view n t) marks s))
                (λ g h.
                rw (reach-leaf n (view n t) marks s reaches (rw (← er) (sym eb ∙ tb)) g, ← er)
                (leaf_told p r s left (set marks s 1) (omega (arith, one_less))));
          }

      module _ (b : Bool) (eb : b ≡ is_leaf r) (fb : b ≡ false) where
        inner : (g : ℕ) → reach_from (suc g) n (view n t) marks s ≡ join_left s r (reach_from g n (view n t) (set marks s 1) r.left) (λ m. reach_from g n (view n t) m r.right)
        inner g = rw er (reach-inner n (view n t) marks s reaches (rw (← er) (sym eb ∙ fb)) g)

        pub left-lost : Lost (view n t) n r.left (set marks s 1) (left - 1) → Lost (view n t) n s marks left
        left-lost d =
            record {
              same = gas (λ g. reach_from g n (view n t) marks s ≡ hurt) (λ g h. inner g ∙ rw (d.same g h) refl);
            }

        module _ (a : Below) (ma : List ℕ) (da : Way (view n t) n r r.left (set marks s 1) (left - 1) a ma) where
          pub right_lost : Lost (view n t) n r.right ma a.left → Lost (view n t) n s marks left
          right_lost d =
              record {
                same =
                    gas (λ g. reach_from g n (view n t) marks s ≡ hurt)
                    (λ g h.
                    inner g
                    ∙ right-hurt p r s left (left - 1) a ma (reach_from g n (view n t) (set marks s 1) r.left) (λ m. reach_from g n (view n t) m r.right) (da.same g h)
                    (d.same g (omega arith)));
              }

          pub both-told :
              (c : Below) (mc : List ℕ) → Way (view n t) n r r.right ma a.left c mc → (x : Below) → x ≡ inner_below p r a c
              → Way (view n t) n p s marks left x mc
          unfolding inner_below
          both-told c mc dc x e =
              let l : left ≡ suc (left - 1) = omega (arith, one_less) in
              let m = larger-most a.depth c.depth (left - 1 - c.left) (omega arith) (omega arith) in
              rw e
              record {
                rest = dc.rest;
                fewer = omega arith;
                level = omega (arith, one-most (level p r));
                fares = omega arith;
                depth = omega (arith, deeper-most (larger a.depth c.depth) (left - 1 - c.left) m);
                same =
                    gas (λ g. Tells p left (inner_below p r a c) mc (reach_from g n (view n t) marks s))
                    (λ g h.
                    rw (inner g)
                    (tells_inner p r s left (left - 1) a ma c mc (reach_from g n (view n t) (set marks s 1) r.left) (λ m. reach_from g n (view n t) m r.right) (da.same g h) l (dc.same g (omega arith))));
              }
