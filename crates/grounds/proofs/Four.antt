-- What a step's phase comes to: 17, 16, 15, 6, or an answer from 0 to 5; and what readings and commits share.
use Prim.Native.Nat.{ℕ}
use mathlib.Core.Path.{◌≡◌, refl}
use mathlib.Core.Bool.{Bool, not}
use mathlib.Core.List.{List, [], ◌∷◌}
use mathlib.Core.Logic.{◌⊎◌, inl, inr, ◌↔◌}
use Rattle.terms.specs.declared.Rec.{Rec}
use Rattle.terms.specs.declared.Task.{Task}
use Rattle.terms.specs.declared.Turn.{Turn}
use Rattle.machine.specs.Choice.{if_b}
use Rattle.terms.specs.Answers.{number_of}
use Rattle.machine.specs.Commit.{reading, Did, commit_if}
use Rattle.machine.specs.Step.{answered}
use Rattle.grounds.specs.Order.{Refusal, Among}
use Rattle.grounds.specs.Calls.{refuse}
use Rattle.grounds.proofs.Says.{Says, unless, when_not, Denies, says_struck}
use Rattle.grounds.proofs.Falls.{Falls, serves, strikes, passes, if_falls}

-- the answers 0 to 5 of a step
abbrev pub plain_answers : List ℕ
plain_answers = 0 ∷ 1 ∷ 2 ∷ 3 ∷ 4 ∷ 5 ∷ []

abbrev pub number_turn : Turn → ℕ
number_turn a = number_of (answered a)

abbrev pub number_did : Did → ℕ
number_did d = number_of (answered d.turn)

-- 17 alone: a turn that writes nothing
abbrev pub Hurts : ℕ → Type 0 → Type 1
Hurts a G = Falls plain_answers a (refuse 17 G ∷ [])

-- 17, 16, 15, 6
abbrev pub Fours : ℕ → Type 0 → Type 0 → Type 0 → Type 0 → Type 1
Fours a G L R X = Falls plain_answers a (refuse 17 G ∷ refuse 16 L ∷ refuse 15 R ∷ refuse 6 X ∷ [])

module _ {k : ℕ} {a : ℕ} {rs : List Refusal} where
  -- the same ground in other words
  pub falls-as : {G H : Type 0} → (G → H) → (H → G) → Falls plain_answers a (refuse k G ∷ rs) → Falls plain_answers a (refuse k H ∷ rs)
  falls-as f g (strikes x e) = strikes (f x) e
  falls-as f g (passes x r) = passes (λ h. x (g h)) r

-- the next ground in other words
pub falls-next :
    {a k i : ℕ} {F G H : Type 0} {rs : List Refusal} → (G → H) → (H → G) → Falls plain_answers a (refuse k F ∷ refuse i G ∷ rs)
    → Falls plain_answers a (refuse k F ∷ refuse i H ∷ rs)
falls-next f g (strikes x e) = strikes x e
falls-next f g (passes x r) = passes x (falls-as f g r)

module _ {a : ℕ} where
  pub fours_as :
      {G L R X G' L' R' X' : Type 0} → (G ↔ G') → (L ↔ L') → (R ↔ R') → (X ↔ X') → Fours a G L R X → Fours a G' L' R' X'
  fours_as g l r x (strikes h e) = strikes (g.0 h) e
  fours_as g l r x (passes h (strikes i e)) = passes (λ k. h (g.1 k)) (strikes (l.0 i) e)
  fours_as g l r x (passes h (passes i (strikes o e))) = passes (λ k. h (g.1 k)) (passes (λ k. i (l.1 k)) (strikes (r.0 o) e))
  fours_as g l r x (passes h (passes i (passes o (strikes p e)))) =
      passes (λ k. h (g.1 k)) (passes (λ k. i (l.1 k)) (passes (λ k. o (r.1 k)) (strikes (x.0 p) e)))
  fours_as g l r x (passes h (passes i (passes o (passes p (serves z))))) =
      passes (λ k. h (g.1 k)) (passes (λ k. i (l.1 k)) (passes (λ k. o (r.1 k)) (passes (λ k. p (x.1 k)) (serves z))))

  -- a turn that gives neither 16 nor 15 nor 6
  pub only_hurts : {G L R X : Type 0} → ¬ L → ¬ R → ¬ X → Hurts a G → Fours a G L R X
  only_hurts l r x (strikes h e) = strikes h e
  only_hurts l r x (passes h (serves z)) = passes h (passes l (passes r (passes x (serves z))))

  -- a turn that is served
  pub served-now : {G L R X : Type 0} → ¬ G → ¬ L → ¬ R → ¬ X → Among plain_answers a → Fours a G L R X
  served-now g l r x z = passes g (passes l (passes r (passes x (serves z))))

-- one look of several for the same number
pub either-falls :
    {A : Type 0} (number : A → ℕ) {G H : Type 0} {k : ℕ} {rs : List Refusal} (b : Bool) {x y : A} → Says b G → number x ≡ k
    → (¬ G → Falls plain_answers (number y) (refuse k H ∷ rs)) → Falls plain_answers (number (if_b b x y)) (refuse k (G ⊎ H) ∷ rs)
either-falls number {G} {H} {k} {rs} b s e f =
    if_falls (λ z. Falls plain_answers (number z) (refuse k (G ⊎ H) ∷ rs)) b (λ h. strikes (inl (s.holds h)) e)
    (λ h. falls-as inr (λ g. elim g [ inl x ↦ absurd (s.fails h x) | inr x ↦ x ]) (f (s.fails h)))

-- A READING: 17 where its record is hurt, otherwise 0
pub read-hurts : {G : Type 0} (k : Task) (formed good : Bool) (r : Rec) → Denies formed G → Hurts (number_turn (reading k formed good r)) G
unfolding reading
read-hurts {G} k formed good r d =
    if_falls (λ z. Hurts (number_turn z) G) (not formed) (λ e. strikes ((says_struck formed d).holds e) refl)
    (λ e.
    passes ((says_struck formed d).fails e)
    (if_falls (λ z. Falls plain_answers (number_turn z) []) good (λ h. serves (inl refl)) (λ h. serves (inl refl))))

-- A COMMIT: B before its test T; then what the change says, each ground with the test
pub commit-falls :
    {B T A L R X : Type 0} (k : Task) (g t : Bool) (change : Did) → Denies g B → Says t T → (¬ B → T → Fours (number_did change) A L R X)
    → Fours (number_did (commit_if k g t change)) (B ⊎ (T × A)) (T × L) (T × R) (T × X)
unfolding commit_if
commit-falls {B} {T} {A} {L} {R} {X} k g t change b s f =
    either-falls number_did (not g) (says_struck g b) refl
    (λ h.
    if_falls (λ z. Fours (number_did z) (T × A) (T × L) (T × R) (T × X)) (not t)
    (λ e.
    let no : ¬ T = when_not t s e in
    served-now (λ x. no x.0) (λ x. no x.0) (λ x. no x.0) (λ x. no x.0) (inl refl))
    (λ e.
    let holds : T = unless t s e in
    fours_as (λ x. (holds, x), λ x. x.1) (λ x. (holds, x), λ x. x.1) (λ x. (holds, x), λ x. x.1) (λ x. (holds, x), λ x. x.1) (f h holds)))
