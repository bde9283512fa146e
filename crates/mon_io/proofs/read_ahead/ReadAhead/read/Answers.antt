use Rattle.mon_io.specs.ReadAhead.{bytes_ahead}
use Rattle.mon_io.proofs.Ahead.{none_ahead, reads_past}
use Rattle.mon_io.proofs.read_ahead.ReadAhead.read.Goals as goal

pub returns-then-buf-ge-AHEAD-clause-bytes : goal.returns-then-buf-ge-AHEAD-clause-bytes
returns-then-buf-ge-AHEAD-clause-bytes g c =
    let before = c.args.self.now in
    reads_past (bytes_ahead before) (g.S.Read.remaining before.stream) (g.S.Read.remaining c.read.new.self) _ _
    (none_ahead before c.if-self.true) c.read.ensures.bytes
