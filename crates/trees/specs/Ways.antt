-- Ways of links: from slot s, by a list of sides (true is left), to slot x.
use Rattle.std.specs.Prelude.{ℕ, Bool, List, [], ◌∷◌, ◌≡◌}
use Rattle.machine.specs.Table.{View}
use Rattle.views.specs.Update.{link}

abbrev pub Leads : View → ℕ → List Bool → ℕ → Type 0
Leads v s [] x = x ≡ s
Leads v s (b ∷ bs) x = (link b (v s) ≡ 0 → ⊥) × Leads v (link b (v s)) bs x
