-- What a reader has read, and what its calls add.
use Rattle.std.specs.Prelude.{◌≡◌, ℕ, ◌+◌, List, [], ◌∷◌, ◌++◌, length, take, Option, Some, None, Result, Ok, Err, IfSome}
use Rattle.mon_io.specs.Inputs.{Took, IsRestOf, IsLeft, IsOver}
use Rattle.pcap_reader.specs.declared.fault.PcapStop.{PcapStop}
use Rattle.pcap_reader.specs.declared.fault.PcapStop.TheVariants.{Read, Bad, Memory}
use Rattle.pcap_reader.specs.declared.header.Header.{Header}
use Rattle.pcap_reader.specs.declared.packet.Packet.{Packet}
use Rattle.pcap_reader.specs.declared.reader.PcapReader.{PcapReader}
use Rattle.pcap_reader.specs.Trace.{Record, Begins, Broken, packet_of}

-- the header of the trace that is read
abbrev pub header_read : PcapReader → Header
header_read reader = reader.header

-- the stop that every further call answers, if there is one
abbrev pub stop_of : PcapReader → Option PcapStop
stop_of reader = reader.stop

-- the captured bytes of the last packet
abbrev pub captured_of : PcapReader → List ℕ
captured_of reader = take reader.captured_bytes reader.buffer.items

-- a reader that goes on is behind one more record
pub record GoesPast (old new : PcapReader) (captured : ℕ) : Type 0 where
  pub header : new.header ≡ old.header
  pub buffer : new.buffer.items ≡ old.buffer.items
  pub captured_bytes : new.captured_bytes ≡ captured
  pub count : new.count ≡ old.count + 1
  pub at : new.at ≡ old.at + (16 + captured)
  pub stop : new.stop ≡ old.stop

-- A reader goes on behind these records: what was taken off the contents is the header and the records.
pub record SoFar (contents rest : Option (List ℕ)) (reader : PcapReader) (members : List Record) : Type 0 where
  pub front : List ℕ
  pub took : Took contents rest front
  pub begins : Begins front reader.header members []
  pub count : reader.count ≡ length members
  pub offset : reader.at ≡ length front
  pub going : reader.stop ≡ None

-- how beginning to read ended: at the first record, before the contents or within them, or at a refused header
abbrev pub Begun : Option (List ℕ) → Option (List ℕ) → Option (List ℕ) → Result PcapReader PcapStop → Type 0
Begun contents before now (Ok reader) = SoFar contents now reader []
Begun contents before now (Err Read) = IsLeft contents before now
Begun contents before now (Err (Bad fault)) = IfSome contents (λ bytes. Broken bytes [] fault)
Begun contents before now (Err Memory) = IsLeft contents before now

-- how a step behind these records ended: with the next record, at the end, or at a fault behind them
abbrev pub Advanced : Option (List ℕ) → Option (List ℕ) → PcapReader → List Record → Result (Option Packet) PcapStop
    → Type 0
Advanced contents now reader members (Ok (Some packet)) =
    (member : Record) × SoFar contents now reader (members ++ member ∷ [])
    × (packet ≡ packet_of reader.header member) × (captured_of reader ≡ member.captured)
Advanced contents now reader members (Ok None) = SoFar contents now reader members × IsOver now
Advanced contents now reader members (Err Read) = IsRestOf contents now
Advanced contents now reader members (Err (Bad fault)) = IfSome contents (λ bytes. Broken bytes members fault)
Advanced contents now reader members (Err Memory) = ⊥

-- The captured bytes behind a call: those of the packet that it gave, those of the last packet still at the end, and
-- none behind a stop. Which a given packet's are is said by Advanced.
abbrev pub KeepsCaptured : List ℕ → List ℕ → Result (Option Packet) PcapStop → Type 0
KeepsCaptured before now (Ok (Some packet)) = Unit {0}
KeepsCaptured before now (Ok None) = now ≡ before
KeepsCaptured before now (Err stop) = now ≡ []
