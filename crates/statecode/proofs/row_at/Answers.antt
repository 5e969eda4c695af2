use Rattle.std.proofs.Common.{◌≡◌, ◌/◌, length, ap}
use Rattle.statecode.proofs.Own.{row_part}
use Rattle.statecode.proofs.row_at.Goals as goal

pub returns : goal.returns
returns c =
    let e : length c.args.w.now / 15 ≡ 8 = ap (λ n. n / 15) c.told-w in
    rw (c.as_chunks.ensures.front, e) (row_part 8 c.args.i c.args.w.now _ c.requires)
