-- A trace that is read to its end, or to a stop.
use Rattle.std.proofs.Common.{◌≡◌, ℕ, List, [], ◌∷◌, ◌++◌, length, Option, Some, None, Err, IfSome, sym, ◌∙◌, ap, subst, append-nil, inl, inr}
use Rattle.mon_io.specs.Inputs.{IsOver}
use Rattle.pcap_reader.specs.Trace.{Record, Begins, Broken, IsTrace}
use Rattle.pcap_reader.specs.Reader.{SoFar, Advanced, Begun}
use Rattle.pcap_reader.specs.declared.fault.PcapFault.{PcapFault}
use Rattle.pcap_reader.specs.declared.fault.PcapStop.TheVariants.{Bad}
use Rattle.pcap_reader.specs.declared.header.Header.{Header}
use Rattle.pcap_reader.specs.declared.reader.PcapReader.{PcapReader}
use Rattle.pcap_reader.proofs.Records.{begins_more}
use Rattle.topology.specs.Topology.{Topo}
use Rattle.routed_trace.specs.Counts.{Added}
use Rattle.routed_trace.specs.Routed.{IsDivided}
use Rattle.routed_trace.specs.Scan.{BreaksWithin, HasNext, HasTraceFault}
use Rattle.routed_trace.proofs.Records.{none_divided}
use Rattle.routed_trace.specs.declared.counts.TraceCounts.{TraceCounts}
use Rattle.routed_trace.specs.declared.division.Division.{Division}
use Rattle.routed_trace.specs.declared.fault.TraceFault.{TraceFault}
use Rattle.routed_trace.specs.declared.fault.TraceFault.TheVariants.{Pcap, Epochs, Weight}

-- at the end of the input the told contents are a trace of the records
pub whole_trace : {contents : Option (List ℕ)} (now : Option (List ℕ)) {reader : PcapReader} {members : List Record}
    → SoFar contents now reader members → IsOver now
    → IfSome contents (λ bytes. IsTrace bytes reader.header members)
whole_trace None {reader} {members} so_far over =
    subst (λ (told : Option (List ℕ)). IfSome told (λ bytes. IsTrace bytes reader.header members))
    (sym so_far.took.taken) tt
whole_trace (Some rest) {reader} {members} so_far over =
    subst (λ (told : Option (List ℕ)). IfSome told (λ bytes. IsTrace bytes reader.header members))
    (sym (so_far.took.taken ∙ ap (λ (l : List ℕ). Some (so_far.front ++ l)) over ∙ ap Some (append-nil so_far.front)))
    so_far.begins

-- told contents begin with the records that were read
told_begins : {contents : Option (List ℕ)} (now : Option (List ℕ)) {reader : PcapReader} {members : List Record}
    → SoFar contents now reader members
    → IfSome contents (λ bytes. (rest : List ℕ) × Begins bytes reader.header members rest)
told_begins None {reader} {members} so_far =
    subst (λ (told : Option (List ℕ)). IfSome told (λ bytes. (rest : List ℕ) × Begins bytes reader.header members rest))
    (sym so_far.took.taken) tt
told_begins (Some rest) {reader} {members} so_far =
    subst (λ (told : Option (List ℕ)). IfSome told (λ bytes. (left : List ℕ) × Begins bytes reader.header members left))
    (sym so_far.took.taken)
    (rest, begins_more rest so_far.begins)

-- a fault at the header, or at the first record
header_breaks : (division : Division) (bytes : List ℕ) (fault : PcapFault) → Broken bytes [] fault
    → BreaksWithin division bytes fault
header_breaks division bytes fault (inl refused) = inl refused.1
header_breaks division bytes fault (inr (header, off)) = inr (header, [], off, none_divided division header)

-- a refused header, or a fault at the first record
pub begun_badly : (division : Division) (contents before now : Option (List ℕ)) (fault : PcapFault)
    → Begun contents before now (Err (Bad fault))
    → IfSome contents (λ bytes. HasTraceFault division bytes (Pcap fault))
begun_badly division None before now fault broken = tt
begun_badly division (Some bytes) before now fault broken = header_breaks division bytes fault broken

breaks_behind : (division : Division) (bytes rest : List ℕ) (header : Header) (members : List Record)
    (fault : PcapFault)
    → Begins bytes header members rest → IsDivided division header members → Broken bytes members fault
    → BreaksWithin division bytes fault
breaks_behind division bytes rest header members fault begins divided (inl refused) = inl refused.1
breaks_behind division bytes rest header members fault begins divided (inr (other, off)) =
    let same : header ≡ other = cc (begins.accepted, off.begins.accepted) in
    inr (other, members, off, subst (λ (h : Header). IsDivided division h members) same divided)

-- a fault behind records none of which is late or heavy
pub advanced_badly : (division : Division) (contents rest now : Option (List ℕ)) (reader next : PcapReader)
    (members : List Record) (fault : PcapFault)
    → SoFar contents rest reader members → IsDivided division reader.header members
    → Advanced contents now next members (Err (Bad fault))
    → IfSome contents (λ bytes. HasTraceFault division bytes (Pcap fault))
advanced_badly division None rest now reader next members fault so_far divided broken = tt
advanced_badly division (Some bytes) rest now reader next members fault so_far divided broken =
    let begins = told_begins rest so_far in
    breaks_behind division bytes begins.0 reader.header members fault begins.1 divided broken

-- a record that is late or heavy
pub stopped_at : (division : Division) (topology : Option Topo) (counts : TraceCounts) (contents now : Option (List ℕ))
    (next : PcapReader) (header : Header) (members : List Record) (member : Record) (fault : TraceFault)
    → next.header ≡ header → SoFar contents now next (members ++ member ∷ []) → IsDivided division header members
    → Added division topology counts header members member (Err fault)
    → IfSome contents (λ bytes. HasTraceFault division bytes fault)
stopped_at division topology counts None now next header members member fault same so_far divided added = tt
stopped_at division topology counts (Some bytes) now next header members member fault same so_far divided
    added = at_fault fault added
  where
    next_is : (number : ℕ) → number ≡ length members → (rest : List ℕ)
        × Begins bytes next.header (members ++ member ∷ []) rest → HasNext division bytes number
    next_is number is begins = record {
      header = header;
      members = members;
      member = member;
      rest = begins.0;
      begins = subst (λ (h : Header). Begins bytes h (members ++ member ∷ []) begins.0) same begins.1;
      number_is = is;
      divided = divided;
    }

    at_fault : (f : TraceFault) → Added division topology counts header members member (Err f)
        → HasTraceFault division bytes f
    at_fault (Pcap f) is = absurd is
    at_fault (Epochs number index) is =
        record { next = next_is number is.0 (told_begins now so_far); index_is = is.1; late = is.2 }
    at_fault (Weight number) is =
        record { next = next_is number is.0 (told_begins now so_far); early = is.1; heavy = is.2 }
