-- The figures of what the entry reaches, or 17.
use Rattle.std.proofs.Common.{rules, sym, ◌∙◌}
use Rattle.whole.proofs.Rows.{figures-found, figures-hurt}
use Rattle.whole.proofs.counted.Goals as goal

pub returns-in_err-b : goal.returns-in_err-b
returns-in_err-b c =
    let s = sym c.is_sound.ensures ∙ c.if-not-is_sound.false in
    let f = c.in_ok-n.ensures.fits in
    figures-hurt _ _ _ f.0 f.1 s _ c.in_err-b.ensures _ (search rules)

pub returns : goal.returns
returns c =
    let s = sym c.is_sound.ensures ∙ c.if-not-is_sound.false in
    let f = c.in_ok-n.ensures.fits in
    figures-found _ _ _ f.0 f.1 s _ c.in_ok-b.ensures _ c.figures_out.ensures
