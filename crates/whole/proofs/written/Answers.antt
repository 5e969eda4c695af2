-- The fares fit into the room lent, and are written from its first place on.
use Rattle.std.proofs.Common.{rules, sym, ◌∙◌}
use Rattle.whole.proofs.Rows.{list-found, list-hurt, list-room, list-short, list-tree}
use Rattle.whole.proofs.written.Goals as goal

pub returns-in_err-b : goal.returns-in_err-b
returns-in_err-b c =
    let s = sym c.is_sound.ensures ∙ c.if-not-is_sound.false in
    let f = c.in_ok-n.ensures.fits in
    list-hurt _ _ _ f.0 f.1 s _ _ c.in_err-b.ensures _ (search rules)

pub returns-then-room-b : goal.returns-then-room-b
returns-then-room-b c =
    let s = sym c.is_sound.ensures ∙ c.if-not-is_sound.false in
    let f = c.in_ok-n.ensures.fits in
    list-short _ _ _ f.0 f.1 s _ _ c.in_ok-b.ensures c.if-room-b.true

pub write_fares-requires : goal.write_fares-requires
write_fares-requires c =
    let s = sym c.is_sound.ensures ∙ c.if-not-is_sound.false in
    let f = c.in_ok-n.ensures.fits in (
      list-tree _ c.args.st _ f.0 f.1 s c.args.room.now _ c.in_ok-b.ensures c.if-room-b.false _ c.at.ensures,
      list-room _ c.args.st _ f.0 f.1 s c.args.room.now _ c.in_ok-b.ensures c.if-room-b.false _ c.at.ensures,
    )

pub returns : goal.returns
returns c =
    let s = sym c.is_sound.ensures ∙ c.if-not-is_sound.false in
    let f = c.in_ok-n.ensures.fits in
    list-found _ _ _ f.0 f.1 s _ _ c.in_ok-b.ensures c.if-room-b.false _ c.at.ensures _ c.write_fares.ensures.lines
