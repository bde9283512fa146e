-- How many readings bytes have.
use Rattle.std.specs.Prelude.{◌≡◌, ℕ, List, ◌++◌}
use Rattle.pcap_reader.specs.declared.fault.PcapFault.{PcapFault}
use Rattle.pcap_reader.specs.declared.header.Header.{Header}
use Rattle.pcap_reader.specs.declared.order.Order.{Order}
use Rattle.pcap_reader.specs.Trace.{Record, IsRecord, IsTrace, Broken, spelling}

-- bytes are the trace of some records
abbrev pub HasTrace : List ℕ → Type 0
HasTrace bytes = (header : Header) × (members : List Record) × IsTrace bytes header members

-- bytes come to some fault
abbrev pub HasFault : List ℕ → Type 0
HasFault bytes = (members : List Record) × (fault : PcapFault) × Broken bytes members fault

-- bytes begin with a whole record
pub record StartsRecord (order : Order) (bytes : List ℕ) : Type 0 where
  pub member : Record
  pub rest : List ℕ
  pub is_record : IsRecord order member
  pub parts : bytes ≡ spelling member ++ rest
