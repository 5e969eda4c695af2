-- A test says a proposition: it is true where the proposition holds, and false where it does not.
use Prim.Native.Nat.{ℕ, ◌≤◌, ◌<◌}
use mathlib.Core.Path.{◌≡◌, refl}
use mathlib.Core.Bool.{Bool, true, false, ◌&&◌, ◌||◌, not, true≢false, false≢true}
use mathlib.Core.Logic.{◌⊎◌, inl, inr}
use native.Mathlib.Omega.{arith}
use lib.Dec.{ltb, leb, eqb}
use borrow.Author.Tests.{ltb-true, ltb-false, leb-true, leb-false, eqb-true, eqb-false}

pub record Says (b : Bool) (P : Type 0) : Type 0 where
  pub holds : b ≡ true → P
  pub fails : b ≡ false → ¬ P

module _ {P : Type 0} where
  pub true_if : (b : Bool) → Says b P → P → b ≡ true
  true_if true s p = refl
  true_if false s p = absurd (s.fails refl p)

  pub false_if : (b : Bool) → Says b P → ¬ P → b ≡ false
  false_if true s p = absurd (p (s.holds refl))
  false_if false s p = refl

  pub says_not : (b : Bool) → Says b P → Says (not b) (¬ P)
  says_not true s = record { holds = λ e. absurd (false≢true e); fails = λ e h. h (s.holds refl) }
  says_not false s = record { holds = λ e. s.fails refl; fails = λ e. absurd (true≢false e) }

  -- what a negated test tells where it is false
  pub unless : (b : Bool) → Says b P → not b ≡ false → P
  unless true s e = s.holds refl
  unless false s e = absurd (true≢false e)

  pub when_not : (b : Bool) → Says b P → not b ≡ true → ¬ P
  when_not true s e = absurd (false≢true e)
  when_not false s e = s.fails refl

  module _ {Q : Type 0} where
    -- the same in other words
    pub says_as : (b : Bool) → Says b P → (P → Q) → (Q → P) → Says b Q
    says_as b s f g = record { holds = λ e. f (s.holds e); fails = λ e q. s.fails e (g q) }

    pub says_both : (a b : Bool) → Says a P → Says b Q → Says (a && b) (P × Q)
    says_both true b s r = record { holds = λ e. (s.holds refl, r.holds e); fails = λ e h. r.fails e h.1 }
    says_both false b s r = record { holds = λ e. absurd (false≢true e); fails = λ e h. s.fails refl h.0 }

    pub says_either : (a b : Bool) → Says a P → Says b Q → Says (a || b) (P ⊎ Q)
    says_either true b s r = record { holds = λ e. inl (s.holds refl); fails = λ e. absurd (true≢false e) }
    says_either false b s r =
        record { holds = λ e. inr (r.holds e); fails = λ e h. elim h [ inl p ↦ s.fails refl p | inr q ↦ r.fails e q ] }

-- A test denies a ground: it is false exactly where the ground holds.
pub record Denies (b : Bool) (G : Type 0) : Type 0 where
  pub clear : b ≡ true → ¬ G
  pub struck : b ≡ false → G

module _ {G : Type 0} where
  pub denies-not : (b : Bool) → Says b G → Denies b (¬ G)
  denies-not b s = record { clear = λ e h. h (s.holds e); struck = s.fails }

  pub denies : (b : Bool) → Says b G → Denies (not b) G
  denies true s = record { clear = λ e. absurd (false≢true e); struck = λ e. s.holds refl }
  denies false s = record { clear = λ e. s.fails refl; struck = λ e. absurd (true≢false e) }

  -- the negated test says the ground
  pub says_struck : (b : Bool) → Denies b G → Says (not b) G
  says_struck true d = record { holds = λ e. absurd (false≢true e); fails = λ e. d.clear refl }
  says_struck false d = record { holds = λ e. d.struck refl; fails = λ e. absurd (true≢false e) }

  pub struck_if : (b : Bool) → Denies b G → not b ≡ true → G
  struck_if true d e = absurd (false≢true e)
  struck_if false d e = d.struck refl

  pub clear_if : (b : Bool) → Denies b G → not b ≡ false → ¬ G
  clear_if true d e = d.clear refl
  clear_if false d e = absurd (true≢false e)

  module _ {H : Type 0} where
    pub denies-as : (b : Bool) → Denies b G → (G → H) → (H → G) → Denies b H
    denies-as b d f g = record { clear = λ e h. d.clear e (g h); struck = λ e. f (d.struck e) }

    pub denies-both : (a b : Bool) → Denies a G → Denies b H → Denies (a && b) (G ⊎ H)
    denies-both true b d k =
        record { clear = λ e h. elim h [ inl g ↦ d.clear refl g | inr g ↦ k.clear e g ]; struck = λ e. inr (k.struck e) }
    denies-both false b d k = record { clear = λ e. absurd (false≢true e); struck = λ e. inl (d.struck refl) }

-- the second test is looked at only where the first is clear
pub denies-then : {G H : Type 0} (a b : Bool) → Denies a G → (¬ G → Denies b H) → Denies (a && b) (G ⊎ H)
denies-then true b d k =
    let c = k (d.clear refl) in
    record { clear = λ e h. elim h [ inl g ↦ d.clear refl g | inr g ↦ c.clear e g ]; struck = λ e. inr (c.struck e) }
denies-then false b d k = record { clear = λ e. absurd (false≢true e); struck = λ e. inl (d.struck refl) }

pub says_eq : (a b : ℕ) → Says (eqb a b) (a ≡ b)
says_eq a b = record { holds = eqb-true a b; fails = eqb-false a b }

pub says_lt : (a b : ℕ) → Says (ltb a b) (a < b)
says_lt a b = record { holds = ltb-true a b; fails = λ e h. let z : b ≤ a = ltb-false a b e in omega arith }

pub says_le : (a b : ℕ) → Says (leb a b) (a ≤ b)
says_le a b = record { holds = leb-true a b; fails = λ e h. let z : b < a = leb-false a b e in omega arith }
