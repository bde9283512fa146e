-- The numbers of the packets that were read.
use Rattle.std.proofs.Common.{◌≡◌, ◌⊎◌, ℕ, ◌+◌, ◌<◌, ◌≤◌, List, [], ◌∷◌, ◌++◌, length, cond, Bool, is_some, Option, Some, None, Ok, Err, refl, inl, inr, sym, ◌∙◌, ap, arith, length-append}
use Rattle.flow_keys.specs.Frame.{frame_key}
use Rattle.flow_keys.specs.declared.link.Link.{Link}
use Rattle.pcap_reader.specs.Trace.{Record}
use Rattle.mon_io.specs.Faults.{Rose}
use Rattle.mon_io.specs.Inputs.{InputState}
use Rattle.pcap_reader.specs.Reader.{SoFar, Advanced, Begun, captured_of}
use Rattle.pcap_reader.specs.declared.fault.PcapStop.{PcapStop}
use Rattle.pcap_reader.specs.declared.fault.PcapStop.TheVariants as stops
use Rattle.mon_call.specs.Trace.{ReadsTrace, status_at}
use Rattle.mon_command.specs.Total.{IsBroken, IsCount}
use Rattle.pcap_reader.specs.declared.header.Header.{Header}
use Rattle.pcap_reader.specs.declared.packet.Packet.{Packet}
use Rattle.pcap_reader.specs.declared.reader.PcapReader.{PcapReader}
use Rattle.routed_trace.specs.Routed.{keyed_in}
use Rattle.routed_trace.proofs.Records.{keyed_push}

-- the numbers are those of the records that a reader has read
pub record Counting (contents rest : Option (List ℕ)) (reader : PcapReader) (packets keyed : ℕ) : Type 0 where
  pub members : List Record
  pub so_far : SoFar contents rest reader members
  pub packets_is : packets ≡ length members
  pub keyed_is : keyed ≡ keyed_in reader.header members

-- one more packet
pub counted_more : {contents rest now : Option (List ℕ)} {reader next : PcapReader} {packets keyed : ℕ}
    (packet : Packet) (b : Bool) (more : ℕ)
    → (counting : Counting contents rest reader packets keyed)
    → Advanced contents now next counting.members (Ok (Some packet)) → next.header ≡ reader.header
    → is_some (frame_key packet.link (captured_of next)) ≡ b → more ≡ keyed + cond {A = ℕ} b 1 0
    → Counting contents now next (packets + 1) more × (packets < 1048576)
counted_more {reader = reader} {next = next} {packets = packets} {keyed = keyed} packet b more counting advanced same is
    more_is =
    let member = advanced.0 in
    let link : packet.link ≡ next.header.link = ap (λ (p : Packet). p.link) advanced.2 in
    let key : is_some (frame_key next.header.link member.captured) ≡ b =
    ap (λ (l : Link). is_some (frame_key l member.captured)) (sym link)
    ∙ ap (λ (bytes : List ℕ). is_some (frame_key packet.link bytes)) (sym advanced.3) ∙ is in
    let before : keyed_in reader.header counting.members ≡ keyed_in next.header
    counting.members = ap (λ (h : Header). keyed_in h counting.members) (sym same) in (
      record {
        members = counting.members ++ member ∷ [];
        so_far = advanced.1;
        packets_is = omega (arith, counting.packets_is, length-append counting.members (member ∷ []));
        keyed_is = omega (
          arith,
          more_is,
          counting.keyed_is,
          before,
          keyed_push next.header counting.members member b
              key,
        );
      },
      omega (arith, counting.packets_is, length-append counting.members (member ∷ []), advanced.1.begins.few),
    )

-- where reading stops, at its beginning
pub begun_stop : (contents : Option (List ℕ)) (before now : InputState) (stop : PcapStop)
    → Begun contents before.rest now.rest (Err stop)
    → (stop ≡ stops.Read → Rose before.faults now.faults)
    → ReadsTrace (IsCount contents) (IsBroken contents) contents before now (Err (status_at stop))
begun_stop contents before now stops.Read begun cause = (cause refl, begun)
begun_stop None before now (stops.Bad fault) begun cause = tt
begun_stop (Some bytes) before now (stops.Bad fault) begun cause = ([], begun)
begun_stop contents before now stops.Memory begun cause = tt

-- behind some records
pub advanced_stop : (contents : Option (List ℕ)) (before mid now : InputState) (reader next : PcapReader)
    (members : List Record) (stop : PcapStop)
    → SoFar contents mid.rest reader members → Advanced contents now.rest next members (Err stop)
    → before.faults ≤ mid.faults
    → (stop ≡ stops.Read → (reader.stop ≡ Some stops.Read) ⊎ Rose mid.faults now.faults)
    → ReadsTrace (IsCount contents) (IsBroken contents) contents before now (Err (status_at stop))
advanced_stop contents before mid now reader next members stops.Read so_far advanced later
    cause = (rose (cause refl), inr advanced)
  where
    rose : (reader.stop ≡ Some stops.Read) ⊎ Rose mid.faults now.faults → Rose before.faults now.faults
    rose (inl stopped) = absurd (cc (sym so_far.going ∙ stopped))
    rose (inr r) = omega (arith, later, r)
advanced_stop None before mid now reader next members (stops.Bad fault) so_far advanced later cause = tt
advanced_stop (Some bytes) before mid now reader next members (stops.Bad fault) so_far advanced later
    cause = (members, advanced)
advanced_stop contents before mid now reader next members stops.Memory so_far advanced later cause = tt
