-- What is left of a stream that is read ahead.
use Rattle.std.specs.Prelude.{ℕ, List, slice_range, Option}
use Rattle.std.specs.Io.KnownBytes.{prepend_known}
use Rattle.mon_io.specs.declared.read_ahead.ReadAhead.{ReadAhead}

-- the bytes that were read and not yet taken
abbrev pub bytes_ahead : {S : Type 0} → ReadAhead S → List ℕ
bytes_ahead stream = slice_range stream.ahead stream.start stream.end

-- what is ahead, and then what the stream will give from here on, where it tells that
abbrev pub remaining_behind : {S : Type 0} → (S → Option (List ℕ)) → ReadAhead S → Option (List ℕ)
remaining_behind remaining stream = prepend_known (bytes_ahead stream) (remaining stream.stream)
