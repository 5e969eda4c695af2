-- How figures print.
use Rattle.std.specs.Prelude.{ℕ, List, ◌∷◌, ◌++◌}
use Rattle.std.specs.Fmt.{decimal}
use Rattle.terms.specs.declared.Figures.{Figures}

-- "end, height, level records, c, m, fares, free slots, allowed rank": the seven numbers, with a space between
abbrev pub figures_text : Figures → List ℕ
figures_text f =
    decimal f.height ++ (32 ∷ (decimal f.level ++ (32 ∷ (decimal f.c ++ (32 ∷ (decimal f.m
    ++ (32 ∷ (decimal f.fares ++ (32 ∷ (decimal f.free ++ (32 ∷ decimal f.allowed)))))))))))
