-- A choice by a test. It is shut, so that a goal shows the choice.
use Rattle.std.specs.Prelude.{Bool, true, false}

-- the first where the test holds, otherwise the second
unfoldable pub if_b {ℓ} : {A : Type ℓ} → Bool → A → A → A
if_b true x y = x
if_b false x y = y
