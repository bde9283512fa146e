-- Made records are records, and their spellings are the made bytes.
use Rattle.std.proofs.Common.{◌≡◌, ℕ, zero, suc, ◌+◌, ◌≤◌, List, [], ◌∷◌, ◌++◌, map, flat_map, length, drop, Ok, refl, sym, ◌∙◌, ap, arith, append-nil}
use Rattle.std.proofs.lemmas.List.FromFn.{length-map-range_with_len}
use Rattle.std.specs.List.{AllByRecursion, range_with_len}
use Rattle.maker_laws.specs.Members.{made_header, member_of, members_of}
use Rattle.pcap_reader.specs.Header.{header_in, header_of, link_of, order_of}
use Rattle.pcap_reader.specs.Trace.{IsRecord, IsTrace, spelling}
use Rattle.pcap_reader.specs.declared.order.Order.TheVariants.{Little}
use Rattle.trace_maker.specs.Trace.{frame_bytes, generated_trace, head_bytes, record_bytes}

is_record : (seed flows n : ℕ) → IsRecord Little (member_of seed flows n)
unfolding head_bytes frame_bytes
is_record seed flows n = record { size = refl; says = refl; fits = omega arith }

are_records : (seed flows from number : ℕ)
    → AllByRecursion (IsRecord Little) (map (member_of seed flows) (range_with_len from number))
are_records seed flows from zero = tt
are_records seed flows from (suc number) = (is_record seed flows from, are_records seed flows (from + 1) number)

spelling-member_of : (seed flows n : ℕ) → spelling (member_of seed flows n) ≡ record_bytes seed flows n
unfolding record_bytes
spelling-member_of seed flows n = refl

spellings : (seed flows : ℕ) (ns : List ℕ)
    → flat_map spelling (map (member_of seed flows) ns) ≡ flat_map (record_bytes seed flows) ns
spellings seed flows [] = refl
spellings seed flows (n ∷ ns) =
    ap (λ (bytes : List ℕ). bytes ++ flat_map spelling (map (member_of seed flows) ns))
    (spelling-member_of seed flows n)
    ∙ ap (λ (bytes : List ℕ). record_bytes seed flows n ++ bytes) (spellings seed flows ns)

header_of-generated_trace : (seed packets flows : ℕ)
    → header_of (generated_trace seed packets flows) ≡ Ok made_header
unfolding generated_trace header_in order_of link_of
header_of-generated_trace seed packets flows = refl

drop-generated_trace : (seed packets flows : ℕ)
    → drop 24 (generated_trace seed packets flows) ≡ flat_map (record_bytes seed flows) (range_with_len 0 packets)
unfolding generated_trace
drop-generated_trace seed packets flows = refl

pub length-members_of : (seed packets flows : ℕ) → length (members_of seed packets flows) ≡ packets
length-members_of seed packets flows = length-map-range_with_len (member_of seed flows) 0 packets

pub is_trace : (seed packets flows : ℕ) → packets ≤ 1048576
    → IsTrace (generated_trace seed packets flows) made_header (members_of seed packets flows)
is_trace seed packets flows few = record {
  accepted = header_of-generated_trace seed packets flows;
  each = are_records seed flows 0 packets;
  parts =
      drop-generated_trace seed packets flows
      ∙ sym (spellings seed flows (range_with_len 0 packets))
      ∙ sym (append-nil (flat_map spelling (members_of seed packets flows)));
  few = omega (arith, length-members_of seed packets flows);
}
