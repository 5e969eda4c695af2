-- A choice by a test, for the proofs: by its cases.
use mathlib.Core.Path.{◌≡◌, refl}
use mathlib.Core.Bool.{Bool, true, false}
use Rattle.machine.specs.Choice.{if_b}

pub if_elim {ℓ} : {A : Type ℓ} (P : A → Type 0) (b : Bool) {x y : A} → (b ≡ true → P x) → (b ≡ false → P y) → P (if_b b x y)
unfolding if_b
if_elim P true f g = f refl
if_elim P false f g = g refl

-- a test that is known
pub if_true {ℓ} : {A : Type ℓ} (x y : A) → if_b true x y ≡ x
unfolding if_b
if_true x y = refl

pub if_false {ℓ} : {A : Type ℓ} (x y : A) → if_b false x y ≡ y
unfolding if_b
if_false x y = refl
