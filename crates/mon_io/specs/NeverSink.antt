-- What clauses see of a sink in memory that fails only where it is full.
use Rattle.std.specs.Prelude.{ℕ, List, Some}
use Rattle.mon_io.specs.Sink.{SinkState}
use Rattle.mon_io.specs.Room.{room_bytes, free_room}
use Rattle.mon_io.specs.declared.never_sink.NeverSink.{NeverSink}

abbrev pub never_sink_state : NeverSink → SinkState
never_sink_state sink = record { written = Some (room_bytes sink.room); faults = sink.faults.count }

abbrev pub never_sink_bytes : NeverSink → List ℕ
never_sink_bytes sink = room_bytes sink.room

-- how many more bytes fit
abbrev pub never_sink_room : NeverSink → ℕ
never_sink_room sink = free_room sink.room
