-- Two outcomes of one promise are equal. Every promise of the interface is `told .. ≡ ..` or `shown .. ≡ ..`.
use mathlib.Core.Path.{◌≡◌, sym, ap, ◌∙◌}
use mathlib.Core.List.{List}
use Prim.Native.Nat.{ℕ}
use Rattle.tiebeamer.specs.Interface.{Told, told, Shown, shown}

pub told-strict :
    (x : Told) (a₁ a₂ p₁ p₂ : ℕ) (t₁ t₂ w₁ w₂ : List ℕ) → told a₁ p₁ t₁ w₁ ≡ x → told a₂ p₂ t₂ w₂ ≡ x
    → (a₁ ≡ a₂) × (p₁ ≡ p₂) × (t₁ ≡ t₂) × (w₁ ≡ w₂)
unfolding told
told-strict x a₁ a₂ p₁ p₂ t₁ t₂ w₁ w₂ e f =
    let d : told a₁ p₁ t₁ w₁ ≡ told a₂ p₂ t₂ w₂ = e ∙ sym f in
    (ap (λ (y : Told). y.answer) d, ap (λ (y : Told). y.price) d, ap (λ (y : Told). y.table) d, ap (λ (y : Told). y.state) d)

pub shown-strict : (x : Shown) (a₁ a₂ : ℕ) (l₁ l₂ : List ℕ) → shown a₁ l₁ ≡ x → shown a₂ l₂ ≡ x → (a₁ ≡ a₂) × (l₁ ≡ l₂)
unfolding shown
shown-strict x a₁ a₂ l₁ l₂ e f =
    let d : shown a₁ l₁ ≡ shown a₂ l₂ = e ∙ sym f in (ap (λ (y : Shown). y.answer) d, ap (λ (y : Shown). y.places) d)
