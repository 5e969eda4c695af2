-- From a call that looks at one ground after another to the theorem on its refusals.
use Prim.Native.Nat.{ℕ}
use mathlib.Core.Path.{◌≡◌, refl}
use mathlib.Core.Bool.{Bool, true, false, ◌&&◌, not}
use mathlib.Core.List.{List, [], ◌∷◌, ◌++◌}
use mathlib.Core.Logic.{inl, inr}
use lib.Dec.{eqb}
use borrow.Author.Tests.{eqb-false, not-true}
use Rattle.machine.specs.Choice.{if_b}
use Rattle.machine.proofs.Tests.{both_first, both-second}
use Rattle.grounds.specs.Order.{Refusal, None, Each, Among, numbers, Ruled}
use Rattle.grounds.proofs.Says.{Says}
use Rattle.grounds.proofs.Lists.{among_as, among_left, among_right}

-- the first ground that holds gives its number; where none does the call is served
pub data Falls (served : List ℕ) (a : ℕ) : List Refusal → Type 1 where
  serves : Among served a → Falls served a []
  strikes : {r : Refusal} {rs : List Refusal} → r.reason → a ≡ r.number → Falls served a (r ∷ rs)
  passes : {r : Refusal} {rs : List Refusal} → ¬ r.reason → Falls served a rs → Falls served a (r ∷ rs)

-- no number of the list is k
abbrev pub without : ℕ → List ℕ → Bool
without k [] = true
without k (i ∷ is) = not (eqb k i) && without k is

-- no two refusals have a number in common, and none has one of the answers
abbrev pub apart : List Refusal → List ℕ → Bool
apart [] served = true
apart (r ∷ rs) served = without r.number (numbers rs ++ served) && apart rs served

pub not_among : (k : ℕ) (is : List ℕ) → without k is ≡ true → ¬ (Among is k)
not_among k [] e h = h
not_among k (i ∷ is) e (inl q) = eqb-false k i (not-true _ (both_first (not (eqb k i)) _ e)) q
not_among k (i ∷ is) e (inr h) = not_among k is (both-second (not (eqb k i)) _ e) h

module _ (served : List ℕ) (a : ℕ) where
  pub falls-among : (rs : List Refusal) → Falls served a rs → Among (numbers rs ++ served) a
  falls-among [] (serves h) = h
  falls-among (r ∷ rs) (strikes g e) = inl e
  falls-among (r ∷ rs) (passes g h) = inr (falls-among rs h)

  none-served : (rs : List Refusal) → Falls served a rs → None rs → Among served a
  none-served [] (serves f) h = f
  none-served (r ∷ rs) (strikes g e) h = absurd (h.0 g)
  none-served (r ∷ rs) (passes g f) h = none-served rs f h.1

  served-none : (rs : List Refusal) → apart rs served ≡ true → Falls served a rs → Among served a → None rs
  served-none [] e f h = tt
  served-none (r ∷ rs) e (strikes g q) h =
      absurd
      (not_among r.number (numbers rs ++ served) (both_first (without r.number (numbers rs ++ served)) _ e)
      (among_right (numbers rs) served r.number (among_as served _ _ q h)))
  served-none (r ∷ rs) e (passes g f) h = (g, served-none rs (both-second (without r.number (numbers rs ++ served)) _ e) f h)

none-snoc : (before : List Refusal) (r : Refusal) → None before → ¬ r.reason → None (before ++ (r ∷ []))
none-snoc [] r h g = (g, tt)
none-snoc (b ∷ bs) r h g = (h.0, none-snoc bs r h.1 g)

-- where a ground has held, no later refusal is given
module _ (a : ℕ) where
  barred : (before rs : List Refusal) → ¬ (None before) → ¬ (Among (numbers rs) a) → Each a before rs
  barred before [] h k = tt
  barred before (r ∷ rs) h k =
      ((λ e. absurd (k (inl e)), λ p. absurd (h p.1)), barred (before ++ (r ∷ [])) rs (λ n. h (drop-last before n)) (λ q. k (inr q)))
    where
      drop-last : (bs : List Refusal) → None (bs ++ (r ∷ [])) → None bs
      drop-last [] n = tt
      drop-last (b ∷ bs) n = (n.0, drop-last bs n.1)

last_out : (bs : List Refusal) (r : Refusal) → None (bs ++ (r ∷ [])) → ¬ r.reason
last_out [] r n = n.0
last_out (b ∷ bs) r n = last_out bs r n.1

module _ (served : List ℕ) (a : ℕ) where
  each_of : (before rs : List Refusal) → apart rs served ≡ true → None before → Falls served a rs → Each a before rs
  each_of before [] e n f = tt
  each_of before (r ∷ rs) e n (strikes g f) = (
    (λ q. (g, n), λ p. f),
    barred a (before ++ (r ∷ [])) rs (λ h. last_out before r h g)
        (λ h.
        not_among r.number (numbers rs ++ served) (both_first (without r.number (numbers rs ++ served)) _ e)
        (among_left (numbers rs) served r.number (among_as (numbers rs) _ _ f h))),
  )
  each_of before (r ∷ rs) e n (passes g f) = (
    (
      λ q.
          absurd
          (not_among r.number (numbers rs ++ served) (both_first (without r.number (numbers rs ++ served)) _ e)
          (among_as (numbers rs ++ served) _ _ q (falls-among served a rs f))),
      λ p. absurd (g p.0),
    ),
    each_of (before ++ (r ∷ [])) rs (both-second (without r.number (numbers rs ++ served)) _ e) (none-snoc before r n g) f,
  )

  pub ruled : (rs : List Refusal) → apart rs served ≡ true → Falls served a rs → Ruled a served rs
  ruled rs e f =
      record {
        each = each_of [] rs e tt f;
        total = falls-among served a rs f;
        otherwise = (served-none served a rs e f, none-served served a rs f);
      }

-- a choice by its cases, for `Falls`
module _ {A : Type 0} (P : A → Type 1) where
  pub if_falls : (b : Bool) {x y : A} → (b ≡ true → P x) → (b ≡ false → P y) → P (if_b b x y)
  unfolding if_b
  if_falls true f g = f refl
  if_falls false f g = g refl

-- one look: the test says the ground; where it holds its number is answered, otherwise the next looks follow
pub look :
    {A : Type 0} (number : A → ℕ) (served : List ℕ) {r : Refusal} {rs : List Refusal} (b : Bool) {x y : A}
    → Says b r.reason → number x ≡ r.number → (¬ r.reason → Falls served (number y) rs) → Falls served (number (if_b b x y)) (r ∷ rs)
look number served {r} {rs} b s e f =
    if_falls (λ z. Falls served (number z) (r ∷ rs)) b (λ h. strikes (s.holds h) e) (λ h. passes (s.fails h) (f (s.fails h)))
