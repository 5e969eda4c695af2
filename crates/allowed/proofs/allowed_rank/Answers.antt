use Rattle.std.proofs.Common.{◌≡◌, ◌∙◌, refl, ℕ, suc, ◌+◌, ◌*◌, ap, ◌-◌, arith, List, [], ◌∷◌, Bool, true, false, cond, leb, drop}
use Rattle.std.specs.List.{prefix_len}
use Rattle.machine.specs.Allowed.{fibonacci, at_most, allowed_rank}
use Rattle.allowed.proofs.allowed_rank.Goals as goal

by-test : (b : Bool) (k : ℕ) → cond b (1 + k) 0 ≡ elim b [ true ↦ suc k | false ↦ 0 ]
by-test true k = omega arith
by-test false k = refl

-- how many numbers at most b a list begins with
at-most-begins : (xs : List ℕ) (b : ℕ) → prefix_len (λ x. leb x b) xs ≡ at_most xs b
unfolding at_most
at-most-begins [] b = refl
at-most-begins (x ∷ xs) b = rw (at-most-begins xs b) (by-test (leb x b) (at_most xs b))

pub returns : goal.returns
unfolding allowed_rank fibonacci
returns c =
    c.saturating_sub.ensures
    ∙ ap (λ (x : ℕ). x - 1) (rw c.fibonacci.ensures.table at c.count_at_most-fit.ensures.value ∙ at-most-begins (drop 2 fibonacci) (2 * c.args.m))
