-- A tidy frees the slots without a mark, and the tree stays as it was.
use Prim.Native.Nat.{◌*◌, ◌+◌, ◌<◌, ◌≤◌, suc, zero, ℕ}
use borrow.Author.Tests.{eqb-false, eqb-true}
use lib.Dec.{eqb}
use lib.ListN.{get_or, length}
use mathlib.Core.Bool.{Bool, false, true}
use mathlib.Core.List.{List, ◌∷◌}
use mathlib.Core.Logic.{◌⊎◌, inl, inr}
use mathlib.Core.Path.{◌∙◌, ◌≡◌, ap, refl, subst, sym}
use native.Mathlib.Omega.{arith}
use Rattle.fares.proofs.Whole.{Seen}
use Rattle.machine.specs.Calls.{sweep}
use Rattle.machine.specs.Record.{free_rec}
use Rattle.machine.specs.Table.{View, fill, puts, view}
use Rattle.routes.proofs.Surgery.{in_tree_lem}
use Rattle.trees.proofs.Held.{Carries}
use Rattle.trees.proofs.Plug.{frame, ind-other}
use Rattle.trees.specs.Tree.{Tree, ind}
use Rattle.views.proofs.Law.{in_or_out, outside, same_or, upd-hit, upd-miss, view-law}
use Rattle.views.specs.Update.{Within, upd, upds}

pub sweep-within : (n : ℕ) (marks : List ℕ) (d s : ℕ) → s + d ≤ n → Within n (sweep marks d s)
unfolding sweep
sweep-within n marks zero s h = tt
sweep-within n marks (suc d) s h = go (eqb (get_or marks s 0) 0) (sweep-within n marks d (s + 1) (omega arith))
  where
    go : (b : Bool) → Within n (sweep marks d (s + 1)) → Within n (elim b [ true ↦ fill s free_rec ∷ sweep marks d (s + 1) | false ↦ sweep marks d (s + 1) ])
    go true i = (omega arith, i)
    go false i = i

-- a slot outside the sweep, or with a mark, stays
pub sweep-kept : (v : View) (marks : List ℕ) (d s x : ℕ) → (x < s) ⊎ (get_or marks x 0 ≡ 1) → upds v (sweep marks d s) x ≡ v x
unfolding sweep
sweep-kept v marks zero s x h = refl
sweep-kept v marks (suc d) s x h = go (eqb (get_or marks s 0) 0) refl (λ w. sweep-kept w marks d (s + 1) x (later h))
  where
    later : (x < s) ⊎ (get_or marks x 0 ≡ 1) → (x < s + 1) ⊎ (get_or marks x 0 ≡ 1)
    later (inl l) = inl (omega arith)
    later (inr e) = inr e

    apart : eqb (get_or marks s 0) 0 ≡ true → (x < s) ⊎ (get_or marks x 0 ≡ 1) → x ≡ s → ⊥
    apart z (inl l) e = omega arith
    apart z (inr o) e = let w : get_or marks s 0 ≡ 1 = subst (λ y. get_or marks y 0 ≡ 1) e o in omega (arith, eqb-true (get_or marks s 0) 0 z)

    go : (b : Bool) → eqb (get_or marks s 0) 0 ≡ b → ((w : View) → upds w (sweep marks d (s + 1)) x ≡ w x)
        → upds v (elim b [ true ↦ fill s free_rec ∷ sweep marks d (s + 1) | false ↦ sweep marks d (s + 1) ]) x ≡ v x
    go true z ih = ih (upd v (fill s free_rec)) ∙ upd-miss v (fill s free_rec) x (apart z h)
    go false z ih = ih v

-- every other one is free after it
pub sweep-freed : (v : View) (marks : List ℕ) (d s x : ℕ) → s ≤ x → x < s + d → get_or marks x 0 ≡ 0 → upds v (sweep marks d s) x ≡ free_rec
unfolding sweep
sweep-freed v marks zero s x l h z = absurd (omega arith)
sweep-freed v marks (suc d) s x l h z = go (eqb (get_or marks s 0) 0) refl (λ w o. sweep-freed w marks d (s + 1) x o (omega arith) z)
  where
    go : (b : Bool) → eqb (get_or marks s 0) 0 ≡ b → ((w : View) → s + 1 ≤ x → upds w (sweep marks d (s + 1)) x ≡ free_rec)
        → upds v (elim b [ true ↦ fill s free_rec ∷ sweep marks d (s + 1) | false ↦ sweep marks d (s + 1) ]) x ≡ free_rec
    go true e ih =
        elim (same_or x s) [
          | inl q ↦ sweep-kept (upd v (fill s free_rec)) marks d (s + 1) x (inl (omega arith)) ∙ upd-hit v (fill s free_rec) x q
          | inr q ↦ ih (upd v (fill s free_rec)) (strict q)
        ]
      where
        strict : (x ≡ s → ⊥) → s + 1 ≤ x
        strict n = omega arith
    go false e ih =
        elim (same_or x s) [
          | inl q ↦ absurd (eqb-false _ _ e (subst (λ y. get_or marks y 0 ≡ 0) q z))
          | inr q ↦ ih v (strict q)
        ]
      where
        strict : (x ≡ s → ⊥) → s + 1 ≤ x
        strict n = omega arith

-- the view after a tidy: state 1 stays, everything else is free
pub record Swept (n : ℕ) (v w : View) : Type 0 where
  pub stays : (x : ℕ) → (v x).state ≡ 1 → w x ≡ v x
  pub freed : (x : ℕ) → ((v x).state ≡ 1 → ⊥) → w x ≡ free_rec

pub swept : (n : ℕ) (table : List ℕ) (t : Tree) (s : Seen n (view n table) t) → length table ≡ n * 6 → Swept n (view n table) (view n (puts table (sweep s.marks n 0)))
swept n table t s e =
    let law = view-law n table (sweep s.marks n 0) e (sweep-within n s.marks n 0 (omega arith)) in
    record {
      stays = λ x one. ap (λ w. w x) law ∙ sweep-kept (view n table) s.marks n 0 x (inr (s.marked x one));
      freed = λ x d. elim (in_or_out x n) [
        | inl h ↦ ap (λ w. w x) law ∙ sweep-freed (view n table) s.marks n 0 x (omega arith) (omega arith) (s.unmarked x d)
        | inr h ↦ outside n (puts table (sweep s.marks n 0)) x h
      ];
    }

pub swept-carries : (n : ℕ) (v w : View) (t : Tree) → Swept n v w → Carries v t → Carries w t
swept-carries n v w t s i = record {
  entry = s.stays 0 (ap (λ r. r.state) i.entry) ∙ i.entry;
  holds = frame v w t (λ x o. s.stays x (in_tree_lem v t x i o)) i.holds;
  ones = λ x. elim (same_or (v x).state 1) [
    | inl e ↦ i.ones x ∙ ap (λ r. ind r.state 1) (sym (s.stays x e))
    | inr d ↦ i.ones x ∙ ind-other (v x).state 1 d ∙ ap (λ r. ind r.state 1) (sym (s.freed x d))
  ];
}
