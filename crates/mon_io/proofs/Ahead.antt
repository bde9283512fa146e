-- What is left of a stream that is read ahead.
use Rattle.std.proofs.Common.{◌≡◌, ℕ, List, [], take, drop, Option, Result, ap, arith}
use Rattle.std.specs.Io.KnownBytes.{ReadConsumes, prepend_known}
use Rattle.std.proofs.KnownBytes.{prepend_known-nil}
use Rattle.mon_io.specs.ReadAhead.{bytes_ahead}
use Rattle.mon_io.specs.declared.read_ahead.ReadAhead.{ReadAhead}

-- nothing is ahead where all was taken
pub none_ahead : {S : Type 0} (stream : ReadAhead S) → stream.start ≡ stream.end → bytes_ahead stream ≡ []
none_ahead stream is = ap (λ n. take n (drop stream.start stream.ahead)) {y = 0} (omega (arith, is))

-- with nothing ahead, a read of the stream is a read of the whole
pub reads_past : {E : Type 0} (ahead : List ℕ) (old new : Option (List ℕ)) (result : Result ℕ E) (buf : List ℕ)
    → ahead ≡ [] → ReadConsumes old new result buf
    → ReadConsumes (prepend_known ahead old) (prepend_known ahead new) result buf
reads_past ahead old new result buf none reads = rw (none, prepend_known-nil old, prepend_known-nil new) reads
