-- The first fault of a trace that is divided into epochs and weighed.
use Rattle.std.specs.Prelude.{◌≡◌, ◌⊎◌, ◌<◌, ◌≤◌, ◌^◌, ℕ, List, [], ◌∷◌, ◌++◌, length, Err}
use Rattle.pcap_reader.specs.declared.fault.PcapFault.{PcapFault}
use Rattle.pcap_reader.specs.declared.header.Header.{Header}
use Rattle.pcap_reader.specs.Header.{header_of}
use Rattle.pcap_reader.specs.Trace.{Record, Begins, BreaksOff, IsTrace}
use Rattle.routed_trace.specs.Routed.{IsDivided, epoch_of, limited_bytes}
use Rattle.routed_trace.specs.declared.division.Division.{Division}
use Rattle.routed_trace.specs.declared.fault.TraceFault.{TraceFault}
use Rattle.routed_trace.specs.declared.fault.TraceFault.TheVariants.{Pcap, Epochs, Weight}

-- bytes that come to this fault at the header, or behind records none of which is late or heavy
abbrev pub BreaksWithin : Division → List ℕ → PcapFault → Type 0
BreaksWithin division bytes fault =
    (header_of bytes ≡ Err fault)
    ⊎ ((header : Header) × (members : List Record) × BreaksOff bytes header members fault
    × IsDivided division header members)

-- the record of this number stands behind records none of which is late or heavy
pub record HasNext (division : Division) (bytes : List ℕ) (number : ℕ) : Type 0 where
  pub header : Header
  pub members : List Record
  pub member : Record
  pub rest : List ℕ
  pub begins : Begins bytes header (members ++ member ∷ []) rest
  pub number_is : number ≡ length members
  pub divided : IsDivided division header members

-- the epoch of that record
abbrev pub epoch_of_next : {division : Division} {bytes : List ℕ} {number : ℕ} → HasNext division bytes number → ℕ
epoch_of_next {division} next = epoch_of division.seconds next.header (next.members ++ next.member ∷ []) next.member

-- it is late: in an epoch above the eighth
pub record HasLate (division : Division) (bytes : List ℕ) (number index : ℕ) : Type 0 where
  pub next : HasNext division bytes number
  pub index_is : index ≡ epoch_of_next next
  pub late : 7 < index

-- it is heavy and not late: with it the bytes that are counted are above 2^44
pub record HasHeavy (division : Division) (bytes : List ℕ) (number : ℕ) : Type 0 where
  pub next : HasNext division bytes number
  pub early : epoch_of_next next ≤ 7
  pub heavy : 2 ^ 44 < limited_bytes division next.header (next.members ++ next.member ∷ [])

-- bytes whose first fault in the order of the file is this one
abbrev pub HasTraceFault : Division → List ℕ → TraceFault → Type 0
HasTraceFault division bytes (Pcap fault) = BreaksWithin division bytes fault
HasTraceFault division bytes (Epochs number index) = HasLate division bytes number index
HasTraceFault division bytes (Weight number) = HasHeavy division bytes number

-- bytes that are a trace of records none of which is late or heavy
abbrev pub HasDividedTrace : Division → List ℕ → Type 0
HasDividedTrace division bytes =
    (header : Header) × (members : List Record) × IsTrace bytes header members × IsDivided division header members
