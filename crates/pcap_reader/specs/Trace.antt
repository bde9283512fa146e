-- Traces as lists of records, and where bytes are no trace.
use Rattle.std.specs.Prelude.{◌≡◌, ◌≢◌, ◌⊎◌, ℕ, ◌+◌, ◌-◌, ◌≤◌, ◌==◌, nat_lt, List, [], ◌++◌, length, take, drop, flat_map, Option, Some, None, Ok, Err, if◌then◌else◌}
use Rattle.std.specs.List.{AllByRecursion}
use Rattle.pcap_reader.specs.declared.fault.PcapFault.{PcapFault}
use Rattle.pcap_reader.specs.declared.fault.PcapFault.TheVariants.{ShortRecord, LongRecord, TooMany}
use Rattle.pcap_reader.specs.declared.header.Header.{Header}
use Rattle.pcap_reader.specs.declared.order.Order.{Order}
use Rattle.pcap_reader.specs.declared.packet.Packet.{Packet}
use Rattle.pcap_reader.specs.Header.{header_of}
use Rattle.pcap_reader.specs.Numbers.{number_32}

-- a record: a head of 16 bytes (seconds 4, fraction 4, captured length 4, original length 4) and the captured bytes
pub record Record : Type 0 where
  pub head : List ℕ
  pub captured : List ℕ

abbrev pub spelling : Record → List ℕ
spelling member = member.head ++ member.captured

-- the head says how many bytes were captured
pub record IsRecord (order : Order) (member : Record) : Type 0 where
  pub size : length member.head ≡ 16
  pub says : number_32 order member.head 8 ≡ length member.captured
  pub fits : length member.captured ≤ 262144

-- what a record tells besides its captured bytes
abbrev pub packet_of : Header → Record → Packet
packet_of header member = record {
  seconds = number_32 header.order member.head 0;
  original = number_32 header.order member.head 12;
  link = header.link;
}

-- bytes are an accepted header, these records, and a rest
pub record Begins (bytes : List ℕ) (header : Header) (members : List Record) (rest : List ℕ) : Type 0 where
  pub accepted : header_of bytes ≡ Ok header
  pub each : AllByRecursion (IsRecord header.order) members
  pub parts : drop 24 bytes ≡ flat_map spelling members ++ rest
  pub few : length members ≤ 1048576

-- bytes are an accepted header and these records
abbrev pub IsTrace : List ℕ → Header → List Record → Type 0
IsTrace bytes header members = Begins bytes header members []

-- why a rest that is not empty begins with no record, behind this many records, at this offset
unfoldable pub fault_at : Order → ℕ → ℕ → List ℕ → Option PcapFault
fault_at order count offset rest =
    if count == 1048576 then Some TooMany
    else if nat_lt (length rest) 16 then Some (ShortRecord offset)
    else if nat_lt 262144 (number_32 order (take 16 rest) 8) then Some
    (LongRecord offset (number_32 order (take 16 rest) 8))
    else if nat_lt (length rest) (16 + number_32 order (take 16 rest) 8) then Some (ShortRecord offset)
    else None

-- bytes are a header and these records, and then come to a fault
pub record BreaksOff (bytes : List ℕ) (header : Header) (members : List Record) (fault : PcapFault) : Type 0 where
  pub rest : List ℕ
  pub more : rest ≢ []
  pub begins : Begins bytes header members rest
  pub fault_is : fault_at header.order (length members) (length bytes - length rest) rest ≡ Some fault

-- bytes are no trace: the header is refused, or something behind these records is no record
abbrev pub Broken : List ℕ → List Record → PcapFault → Type 0
Broken bytes members fault =
    ((members ≡ []) × (header_of bytes ≡ Err fault))
    ⊎ ((header : Header) × BreaksOff bytes header members fault)
