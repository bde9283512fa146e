-- Traces with more bytes behind them.
use Rattle.std.proofs.Common.{◌≡◌, ℕ, ◌<◌, ◌≤◌, List, [], ◌∷◌, ◌++◌, length, take, flat_map, Ok, Err, sym, ◌∙◌, ap, arith, append-nil, length-take, inl, inr}
use Rattle.std.proofs.lemmas.List.{take-append-le, drop-append-le, length_push}
use Rattle.std.proofs.lemmas.Grind.{flat_map-append}
use Rattle.std.proofs.lemmas.Bool.{cases_lt}
use Rattle.std.specs.List.{AllByRecursion}
use Rattle.pcap_reader.specs.Header.{header_in, header_of}
use Rattle.pcap_reader.specs.Trace.{Record, IsRecord, Begins, spelling}
use Rattle.pcap_reader.specs.declared.fault.PcapFault.TheVariants.{ShortHeader}
use Rattle.pcap_reader.specs.declared.header.Header.{Header}
use Rattle.pcap_reader.proofs.Faults.{header_short}

-- an accepted header is whole
pub header_long : (bytes : List ℕ) (header : Header) → header_of bytes ≡ Ok header → 24 ≤ length bytes
header_long bytes header is = elim (cases_lt (length bytes) 24) [
  | inl short ↦ absurd (refused short)
  | inr long ↦ long
]
  where
    refused : length bytes < 24 → ⊥
    refused short =
        let err : header_of bytes ≡ Err (ShortHeader (length (take 24 bytes))) = header_short (take 24 bytes)
        (omega (arith, length-take 24 bytes)) in
        cc

-- what follows an accepted header doesn't change it
pub header_more : (bytes more : List ℕ) (header : Header) → header_of bytes ≡ Ok header
    → header_of (bytes ++ more) ≡ Ok header
header_more bytes more header is = ap header_in (take-append-le 24 bytes more (header_long bytes header is)) ∙ is

pub All-push : (P : Record → Type 0) (members : List Record) (member : Record) → AllByRecursion P members → P member
    → AllByRecursion P (members ++ member ∷ [])
All-push P [] member each holds = (holds, tt)
All-push P (m ∷ members) member each holds = (each.0, All-push P members member each.1 holds)

-- a rest behind a trace
pub begins_more : {front : List ℕ} {header : Header} {members : List Record} (more : List ℕ)
    → Begins front header members [] → Begins (front ++ more) header members more
begins_more {front} {header} {members} more begins = record {
  accepted = header_more front more header begins.accepted;
  each = begins.each;
  parts =
      drop-append-le 24 front more (header_long front header begins.accepted)
      ∙ ap (λ (l : List ℕ). l ++ more) (begins.parts ∙ append-nil (flat_map spelling members));
  few = begins.few;
}

-- one more record behind a trace
pub begins_push : {front : List ℕ} {header : Header} {members : List Record} (member : Record)
    → Begins front header members [] → IsRecord header.order member → length members < 1048576
    → Begins (front ++ spelling member) header (members ++ member ∷ []) []
begins_push {front} {header} {members} member begins is room = record {
  accepted = header_more front (spelling member) header begins.accepted;
  each = All-push (IsRecord header.order) members member begins.each is;
  parts =
      (begins_more (spelling member) begins).parts
      ∙ ap (λ (l : List ℕ). flat_map spelling members ++ l) (sym (append-nil (spelling member)))
      ∙ sym (flat_map-append spelling members (member ∷ []))
      ∙ sym (append-nil (flat_map spelling (members ++ member ∷ [])));
  few = omega (arith, length_push members member);
}
