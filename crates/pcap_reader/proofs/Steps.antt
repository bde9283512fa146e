-- One step of a reader that goes on.
use Rattle.std.proofs.Common.{◌≡◌, ℕ, ◌-◌, ◌<◌, ◌≤◌, List, [], ◌∷◌, ◌++◌, length, take, Option, Some, None, Err, IfSome, refl, sym, ◌∙◌, ap, subst, arith, append_assoc, append-nil, length-append, inr}
use Rattle.std.proofs.lemmas.List.{take_all}
use Rattle.mon_io.specs.Inputs.{Took, IsRestOf, IsOver}
use Rattle.mon_io.proofs.Told.{took_more}
use Rattle.pcap_reader.specs.Numbers.{number_32}
use Rattle.pcap_reader.specs.Trace.{Record, IsRecord, Begins, Broken, fault_at}
use Rattle.pcap_reader.specs.Reader.{SoFar, GoesPast, Advanced}
use Rattle.pcap_reader.specs.declared.fault.PcapFault.{PcapFault}
use Rattle.pcap_reader.specs.declared.fault.PcapFault.TheVariants.{ShortRecord}
use Rattle.pcap_reader.specs.declared.fault.PcapStop.{PcapStop}
use Rattle.pcap_reader.specs.declared.fault.PcapStop.TheVariants.{Read, Bad, Memory}
use Rattle.pcap_reader.specs.declared.header.Header.{Header}
use Rattle.pcap_reader.specs.declared.reader.PcapReader.{PcapReader}
use Rattle.pcap_reader.proofs.Records.{begins_more, begins_push}
use Rattle.pcap_reader.proofs.Faults.{cut_record}

-- what is left of an input that is over
pub none_left : (told : Option (List ℕ)) (more : List ℕ) → IsOver told → told ≡ Some more → more ≡ []
none_left None more over is = cc
none_left (Some bytes) more over is = cc

-- a rest of a rest
pub rest_of_rest : {contents rest now : Option (List ℕ)} {front : List ℕ} → Took contents rest front
    → IsRestOf rest now → IsRestOf contents now
rest_of_rest took left = (_, took_more took left.1)

-- all of a buffer was taken
pub took_all : {rest now : Option (List ℕ)} {buf : List ℕ} {n : ℕ} → length buf ≤ n → Took rest now (take n buf)
    → Took rest now buf
took_all {rest} {now} {buf} {n} all took = subst (λ (piece : List ℕ). Took rest now piece) (take_all n buf all) took

-- a reader at whose place nothing was left
pub at_end : {contents rest now : Option (List ℕ)} {reader : PcapReader} {members : List Record}
    → SoFar contents rest reader members → Took rest now [] → SoFar contents now reader members
at_end so_far took = record {
  front = so_far.front;
  took = subst (λ (front : List ℕ). Took _ _ front) (append-nil so_far.front) (took_more so_far.took took);
  begins = so_far.begins;
  count = so_far.count;
  offset = so_far.offset;
  going = so_far.going;
}

-- where the told contents break off, behind the records, with a piece that was read and all that follows it
pub breaks_off : {contents rest : Option (List ℕ)} {reader : PcapReader} {members : List Record}
    (now : Option (List ℕ)) (piece : List ℕ) (fault : PcapFault) → SoFar contents rest reader members
    → Took rest now piece → 0 < length piece
    → ((more : List ℕ) → now ≡ Some more
    → fault_at reader.header.order reader.count reader.at (piece ++ more) ≡ Some fault)
    → IfSome contents (λ bytes. Broken bytes members fault)
breaks_off {members = members} None piece fault so_far took nonempty why =
    subst (λ (told : Option (List ℕ)). IfSome told (λ bytes. Broken bytes members fault))
    (sym (took_more so_far.took took).taken) tt
breaks_off {reader = reader} {members = members} (Some more) piece fault so_far took nonempty why =
    subst (λ (told : Option (List ℕ)). IfSome told (λ bytes. Broken bytes members fault))
    (sym ((took_more so_far.took took).taken ∙ ap Some (append_assoc so_far.front piece more)))
    (inr (
      reader.header,
      record {
        rest = piece ++ more;
        more = λ empty. absurd (omega (arith, nonempty, ap length empty, length-append piece more));
        begins = begins_more (piece ++ more) so_far.begins;
        fault_is =
            ap (λ (n : ℕ). fault_at reader.header.order n
            (length (so_far.front ++ (piece ++ more)) - length (piece ++ more)) (piece ++ more)) (sym so_far.count)
            ∙ ap (λ (n : ℕ). fault_at reader.header.order reader.count n (piece ++ more)) offset
            ∙ why more refl;
      },
    ))
  where
    offset : length (so_far.front ++ (piece ++ more)) - length (piece ++ more) ≡ reader.at
    offset = omega (arith, so_far.offset, length-append so_far.front (piece ++ more))

-- a record whose captured bytes end early
pub cut_off : {contents rest mid : Option (List ℕ)} {reader : PcapReader} {members : List Record}
    (now : Option (List ℕ)) (head captured : List ℕ) → SoFar contents rest reader members → Took rest mid head
    → Took mid now captured → IsOver now
    → length head ≡ 16 → number_32 reader.header.order head 8 ≤ 262144
    → length captured < number_32 reader.header.order head 8 → reader.count < 1048576
    → IfSome contents (λ bytes. Broken bytes members (ShortRecord reader.at))
cut_off {reader = reader} now head captured so_far first second over size fits cut room =
    breaks_off now (head ++ captured) (ShortRecord reader.at) so_far (took_more first second)
    (omega (arith, size, length-append head captured)) why
  where
    why : (more : List ℕ) → now ≡ Some more → fault_at reader.header.order reader.count reader.at
        ((head ++ captured) ++ more) ≡ Some (ShortRecord reader.at)
    why more is =
        let none : more ≡ [] = none_left now more over is in
        ap (λ (l : List ℕ). fault_at reader.header.order reader.count reader.at ((head ++ captured) ++ l)) none
        ∙ ap (λ (l : List ℕ). fault_at reader.header.order reader.count reader.at l) (append-nil (head ++ captured))
        ∙ cut_record reader.header.order reader.count reader.at head captured
        (λ full. absurd (omega (arith, room, full))) size fits cut

-- a reader that went past one more record
pub went_past : {contents rest mid now : Option (List ℕ)} {reader old new : PcapReader} {members : List Record}
    (head captured : List ℕ) (n : ℕ) → SoFar contents rest reader members → Took rest mid head
    → Took mid now captured → GoesPast old new n
    → old.header ≡ reader.header → old.count ≡ reader.count → old.at ≡ reader.at → old.stop ≡ reader.stop
    → length head ≡ 16 → n ≡ number_32 reader.header.order head 8 → n ≤ 262144 → length captured ≡ n
    → reader.count < 1048576
    → SoFar contents now new (members ++ record { head = head; captured = captured } ∷ [])
went_past {reader = reader} {new = new} {members = members} head captured n so_far first second past header count at
    stop
    size says fits captures room =
    record {
      front = so_far.front ++ (head ++ captured);
      took = took_more so_far.took (took_more first second);
      begins =
          subst (λ (h : Header). Begins (so_far.front ++ (head ++ captured)) h (members ++ member ∷ []) [])
          (sym (past.header ∙ header)) (begins_push member so_far.begins is_record (omega (arith, room, so_far.count)));
      count = omega (arith, past.count, count, so_far.count, length-append members (member ∷ []));
      offset =
          omega (
            arith,
            past.at,
            at,
            so_far.offset,
            size,
            captures,
            length-append so_far.front (head ++ captured),
            length-append head captured,
          );
      going = past.stop ∙ stop ∙ so_far.going;
    }
  where
    member : Record
    member = record { head = head; captured = captured }

    is_record : IsRecord reader.header.order member
    is_record = record { size = size; says = sym says ∙ sym captures; fits = omega (arith, fits, captures) }

-- how a step ended at a stop says nothing of the reader
pub advanced_stop : (contents now : Option (List ℕ)) (reader other : PcapReader) (members : List Record)
    (stop : PcapStop)
    → Advanced contents now reader members (Err stop) → Advanced contents now other members (Err stop)
advanced_stop contents now reader other members Read ended = ended
advanced_stop contents now reader other members (Bad fault) ended = ended
advanced_stop contents now reader other members Memory ended = ended
