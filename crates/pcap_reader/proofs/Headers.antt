-- The header, as it was read from the front of the contents.
use Rattle.std.proofs.Common.{◌≡◌, ℕ, ◌≤◌, ◌<◌, List, [], ◌++◌, length, take, Option, Some, None, Ok, Err, IfSome, refl, sym, ◌∙◌, ap, subst, arith, append-nil, length-take, inl, inr}
use Rattle.std.proofs.lemmas.Bool.{cases_lt}
use Rattle.std.proofs.lemmas.List.{take_all, take_at, drop_all}
use Rattle.pcap_reader.specs.Filling.{Filled}
use Rattle.pcap_reader.specs.Header.{header_in, header_of}
use Rattle.pcap_reader.specs.Trace.{Begins, Broken}
use Rattle.pcap_reader.specs.declared.fault.PcapFault.{PcapFault}
use Rattle.pcap_reader.specs.declared.header.Header.{Header}
use Rattle.pcap_reader.proofs.Records.{header_long}
use Rattle.pcap_reader.proofs.Steps.{none_left}

-- the first 24 bytes of the contents are what was read
front_is : (buf : List ℕ) (count : ℕ) (more : List ℕ) → length buf ≡ 24 → count ≤ length buf
    → (count < length buf → more ≡ []) → take 24 (take count buf ++ more) ≡ take count buf
front_is buf count more size within over = elim (cases_lt count (length buf)) [
  | inl short ↦
      ap (λ (l : List ℕ). take 24 (take count buf ++ l)) (over short)
      ∙ ap (λ (l : List ℕ). take 24 l) (append-nil (take count buf))
      ∙ take_all 24 (take count buf) (omega (arith, length-take count buf))
  | inr full ↦ take_at (take count buf) more 24 (omega (arith, length-take count buf))
]

-- a header that is refused, and so the told contents
pub header_refused : {contents picked : Option (List ℕ)} (now : Option (List ℕ)) (buf : List ℕ) (count : ℕ)
    (fault : PcapFault) → picked ≡ contents → Filled picked now buf count → length buf ≡ 24 → header_in
    (take count buf) ≡ Err fault
    → IfSome contents (λ bytes. Broken bytes [] fault)
header_refused None buf count fault is filled size refused =
    subst (λ (told : Option (List ℕ)). IfSome told (λ bytes. Broken bytes [] fault)) (sym filled.took.taken ∙ is) tt
header_refused (Some more) buf count fault is filled size refused =
    subst (λ (told : Option (List ℕ)). IfSome told (λ bytes. Broken bytes [] fault)) (sym filled.took.taken ∙ is)
    (inl (
      refl,
      ap header_in
          (front_is buf count more size filled.within
          (λ short. none_left (Some more) more (filled.over short) refl)) ∙ refused,
    ))

-- a header that is accepted, and no record yet
pub header_accepted : (front : List ℕ) (header : Header) → length front ≤ 24 → header_in front ≡ Ok header
    → Begins front header [] [] × (length front ≡ 24)
header_accepted front header within accepted =
    let is : header_of front ≡ Ok header = ap header_in (take_all 24 front within) ∙ accepted in (
      record { accepted = is; each = tt; parts = drop_all 24 front within; few = omega arith },
      omega (arith, within, header_long front header is),
    )
