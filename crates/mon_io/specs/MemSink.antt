-- What clauses see of a sink in memory.
use Rattle.std.specs.Prelude.{ℕ, List, Some}
use Rattle.mon_io.specs.Sink.{SinkState}
use Rattle.mon_io.specs.Room.{room_bytes, free_room}
use Rattle.mon_io.specs.declared.mem_sink.MemSink.{MemSink}

abbrev pub mem_sink_state : MemSink → SinkState
mem_sink_state sink = record { written = Some (room_bytes sink.room); faults = sink.faults.count }

abbrev pub mem_sink_bytes : MemSink → List ℕ
mem_sink_bytes sink = room_bytes sink.room

-- how many more bytes fit
abbrev pub mem_sink_room : MemSink → ℕ
mem_sink_room sink = free_room sink.room

-- the numbers of the writes that are to fail
abbrev pub failing_writes : MemSink → List ℕ
failing_writes sink = sink.script.fails.items

-- how many writes were made
abbrev pub writes_made : MemSink → ℕ
writes_made sink = sink.script.calls
