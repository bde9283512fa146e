use Rattle.std.proofs.Common.{◌≤◌, length, arith, inr}
use Rattle.mon_io.proofs.Told.{took_piece}
use Rattle.mon_io.proofs.contents.read_rest.Goals as goal

pub returns-then-count-room-clause-reads : goal.returns-then-count-room-clause-reads
returns-then-count-room-clause-reads g c =
    let piece = took_piece _ _ c.loop-count.invariant.0 c.in-Ok.ensures.bytes.0 c.in-Ok.ensures.bound.0 in
    let within : length c.loop-count.bytes.items ≤ c.args.limit = c.loop-count.invariant.0.within in
    (_, omega (arith, piece.0, c.in-Ok.ensures.bound.1, c.loop-count.bytes.ok.0), piece.1)

pub returns-in_default-extend_from_slice-clause-reads : goal.returns-in_default-extend_from_slice-clause-reads
returns-in_default-extend_from_slice-clause-reads g c =
    let piece = took_piece _ _ c.loop-count.invariant.0 c.in-Ok.ensures.bytes.0 c.in-Ok.ensures.bound.0 in
    let within : length c.loop-count.bytes.items ≤ c.args.limit = c.loop-count.invariant.0.within in
    inr (_, omega (arith, piece.0, c.if-count-room.false, c.loop-count.bytes.ok.0), piece.1)
