-- Of two readings of the same bytes the lesser one is divided where the greater one is, so that only one thing is said
-- of bytes: that they are a divided trace, or their first fault.
use Rattle.std.proofs.Common.{◌≡◌, zero, suc, ℕ, ◌<◌, ◌≤◌, ◌+◌, max, List, [], ◌∷◌, ◌++◌, length, take, drop, map, fold, get_or, Option, refl, sym, ◌∙◌, ap, subst, arith, inl, inr, length-append, take-append-drop}
use Rattle.std.proofs.lemmas.Bool.{cases_lt}
use Rattle.std.proofs.Math.Seq.{take-length}
use Rattle.std.proofs.lemmas.List.{get_or_push, take-append-le}
use Rattle.pcap_reader.specs.Trace.{Record, Begins, Broken, IsTrace}
use Rattle.pcap_reader.specs.declared.fault.PcapFault.{PcapFault}
use Rattle.pcap_reader.specs.declared.header.Header.{Header}
use Rattle.pcap_reader.proofs.Traces.{longest_broken, longest_trace, not_both, one_fault, one_front}
use Rattle.routed_trace.specs.Routed.{IsDivided, epoch_of, limited_bytes, number_of_epochs}
use Rattle.routed_trace.specs.Scan.{BreaksWithin, HasDividedTrace, HasHeavy, HasLate, HasNext, HasTraceFault, epoch_of_next}
use Rattle.routed_trace.specs.declared.division.Division.{Division}
use Rattle.routed_trace.specs.declared.fault.TraceFault.{TraceFault}
use Rattle.routed_trace.specs.declared.fault.TraceFault.TheVariants.{Pcap, Epochs, Weight}
use Rattle.routed_trace.proofs.Records.{bytes_less, number_of_epochs-push}

low : (e : Record → ℕ) (n : ℕ) (ys : List Record) → n ≤ fold max n (map e ys)
low e n [] = omega arith
low e n (y ∷ ys) = omega (arith, low e (max n (e y)) ys)

front_low : (e : Record → ℕ) (n k : ℕ) (ys : List Record) → fold max n (map e (take k ys)) ≤ fold max n (map e ys)
front_low e n zero ys = low e n ys
front_low e n (suc k) [] = omega arith
front_low e n (suc k) (y ∷ ys) = front_low e (max n (e y)) k ys

-- the front of a trace has no more epochs
number_of_epochs-front : (seconds : Option ℕ) (header : Header) (k : ℕ) (ys : List Record)
    → number_of_epochs seconds header (take k ys) ≤ number_of_epochs seconds header ys
unfolding number_of_epochs
number_of_epochs-front seconds header zero ys = omega arith
number_of_epochs-front seconds header (suc k) [] = omega arith
number_of_epochs-front seconds header (suc k) (y ∷ ys) =
    omega (arith, front_low (epoch_of seconds header (y ∷ ys)) 0 (suc k) (y ∷ ys))

-- and no more bytes that are counted
limited_bytes-front : (division : Division) (header : Header) (k : ℕ) (ys : List Record)
    → limited_bytes division header (take k ys) ≤ limited_bytes division header ys
limited_bytes-front division header k ys =
    subst (λ (all : List Record). limited_bytes division header (take k ys) ≤ limited_bytes division header all)
    (take-append-drop k ys) (bytes_less division.bytes header (take k ys) (drop k ys))

-- so it is divided where the whole is
divided_front : (division : Division) (header : Header) (k : ℕ) (ys : List Record)
    → IsDivided division header ys → IsDivided division header (take k ys)
divided_front division header k ys divided = record {
  few = omega (arith, divided.few, number_of_epochs-front division.seconds header k ys);
  light = omega (arith, divided.light, limited_bytes-front division header k ys);
}

-- the lesser reading is divided where the greater one is
divided_less : {bytes : List ℕ} {h k : Header} {xs ys : List Record} {r s : List ℕ} (division : Division)
    → Begins bytes h xs r → Begins bytes k ys s → length xs ≤ length ys → IsDivided division k ys
    → IsDivided division h xs
divided_less {h = h} {k = k} {xs = xs} {ys = ys} division first second few divided =
    let front = one_front first second few in
    subst (λ (o : Header). IsDivided division o xs) (sym front.0)
    (subst (λ (l : List Record). IsDivided division k l) (sym front.1)
    (divided_front division k (length xs) ys divided))

-- the record of this number is late or heavy
record IsStop {division : Division} {bytes : List ℕ} {number : ℕ} (next : HasNext division bytes number) : Type 0 where
  undivided : IsDivided division next.header (next.members ++ next.member ∷ []) → ⊥

late_stops : {division : Division} {bytes : List ℕ} {number index : ℕ} (late : HasLate division bytes number index)
    → IsStop late.next
late_stops {division} late = record {
  undivided = λ divided. absurd (omega (
    arith,
    divided.few,
    late.late,
    late.index_is,
    number_of_epochs-push division.seconds late.next.header late.next.members late.next.member,
  ));
}

heavy_stops : {division : Division} {bytes : List ℕ} {number : ℕ} (heavy : HasHeavy division bytes number)
    → IsStop heavy.next
heavy_stops heavy = record { undivided = λ divided. absurd (omega (arith, divided.light, heavy.heavy)) }

-- a divided trace has no such record
no_stop_trace : {division : Division} {bytes : List ℕ} {number : ℕ} {header : Header} {members : List Record}
    (next : HasNext division bytes number)
    → IsStop next → IsTrace bytes header members → IsDivided division header members → ⊥
no_stop_trace {division} next stop trace divided =
    stop.undivided (divided_less division next.begins trace (longest_trace next.begins trace) divided)

-- nor have bytes that come to a fault behind divided records
no_stop_fault : {division : Division} {bytes : List ℕ} {number : ℕ} (next : HasNext division bytes number)
    (fault : PcapFault)
    → IsStop next → BreaksWithin division bytes fault → ⊥
no_stop_fault next fault stop (inl refused) = let accepted = next.begins.accepted in absurd (cc)
no_stop_fault {division} next fault stop (inr (header, members, off, divided)) =
    stop.undivided (divided_less division next.begins off.begins (longest_broken next.begins off) divided)

-- the fault of bytes that come to one
broken_within : (division : Division) (bytes : List ℕ) (fault : PcapFault) → BreaksWithin division bytes fault
    → (members : List Record) × Broken bytes members fault
broken_within division bytes fault (inl refused) = ([], inl (refl, refused))
broken_within division bytes fault (inr (header, members, off, divided)) = (members, inr (header, off))

one_break : (division : Division) {bytes : List ℕ} (fault other : PcapFault)
    → BreaksWithin division bytes fault → BreaksWithin division bytes other → fault ≡ other
one_break division {bytes} fault other first second =
    let a = broken_within division bytes fault first in
    let b = broken_within division bytes other second in
    (one_fault bytes a.0 b.0 fault other a.1 b.1).1

trace_no_break : (division : Division) {bytes : List ℕ} {header : Header} {members : List Record} (fault : PcapFault)
    → IsTrace bytes header members → BreaksWithin division bytes fault → ⊥
trace_no_break division {bytes} {header} {members} fault trace breaks =
    let broken = broken_within division bytes fault breaks in
    not_both bytes header members broken.0 fault trace broken.1

-- no late or heavy record stands before another
not_before : {division : Division} {bytes : List ℕ} {number n : ℕ} (first : HasNext division bytes number)
    (second : HasNext division bytes n)
    → IsStop first → length first.members < length second.members → ⊥
not_before {division} first second stop before =
    let xs = first.members ++ first.member ∷ [] in
    let size : length xs ≡ length first.members + 1 = length-append first.members (first.member ∷ []) in
    let front = one_front first.begins second.begins (omega
    (arith, before, size, length-append second.members (second.member ∷ []))) in
    let is : xs ≡ take (length xs) second.members =
    front.1 ∙ take-append-le (length xs) second.members (second.member ∷ []) (omega (arith, before, size)) in
    stop.undivided (subst (λ (h : Header). IsDivided division h xs) (sym front.0)
    (subst (λ (l : List Record). IsDivided division second.header l) (sym is)
    (divided_front division second.header (length xs) second.members second.divided)))

-- two such records behind as many others are one
same_next : {division : Division} {bytes : List ℕ} {number n : ℕ} (first : HasNext division bytes number)
    (second : HasNext division bytes n)
    → length first.members ≡ length second.members → (number ≡ n) × (epoch_of_next first ≡ epoch_of_next second)
same_next {division} first second same =
    let xs = first.members ++ first.member ∷ [] in
    let ys = second.members ++ second.member ∷ [] in
    let size : length xs ≡ length ys =
    length-append first.members (first.member ∷ []) ∙ ap (λ (n : ℕ). n + 1) same
    ∙ sym (length-append second.members (second.member ∷ [])) in
    let front = one_front first.begins second.begins (omega (arith, size)) in
    let all : xs ≡ ys = front.1 ∙ ap (λ (k : ℕ). take k ys) size ∙ take-length ys in
    let member : first.member ≡ second.member =
    sym (get_or_push first.members first.member first.member (length first.members) refl)
    ∙ ap (λ (l : List Record). get_or l (length first.members) first.member) all
    ∙ get_or_push second.members second.member first.member (length first.members) (sym same) in (
      first.number_is ∙ same ∙ sym second.number_is,
      λ j. epoch_of division.seconds (front.0 j) (all j) (member j),
    )

-- two late or heavy records are one
one_next : {division : Division} {bytes : List ℕ} {number n : ℕ} (first : HasNext division bytes number)
    (second : HasNext division bytes n)
    → IsStop first → IsStop second → (number ≡ n) × (epoch_of_next first ≡ epoch_of_next second)
one_next first second stop other = elim (cases_lt (length first.members) (length second.members)) [
  | inl before ↦ absurd (not_before first second stop before)
  | inr behind ↦ elim (cases_lt (length second.members) (length first.members)) [
    | inl before ↦ absurd (not_before second first other before)
    | inr within ↦ same_next first second (omega (arith, behind, within))
  ]
]

late_late : {division : Division} {bytes : List ℕ} {number index n i : ℕ} → HasLate division bytes number index
    → HasLate division bytes n i
    → (number ≡ n) × (index ≡ i)
late_late first second =
    let same = one_next first.next second.next (late_stops first) (late_stops second) in
    (same.0, first.index_is ∙ same.1 ∙ sym second.index_is)

late_heavy : {division : Division} {bytes : List ℕ} {number index n : ℕ} → HasLate division bytes number index
    → HasHeavy division bytes n → ⊥
late_heavy first second =
    let same = one_next first.next second.next (late_stops first) (heavy_stops second) in
    absurd (omega (arith, same.1, first.index_is, first.late, second.early))

heavy_heavy : {division : Division} {bytes : List ℕ} {number n : ℕ} → HasHeavy division bytes number
    → HasHeavy division bytes n → number ≡ n
heavy_heavy first second = (one_next first.next second.next (heavy_stops first) (heavy_stops second)).0

-- a divided trace has no fault
pub accepted_trace : (division : Division) (bytes : List ℕ) (fault : TraceFault) → HasDividedTrace division bytes
    → HasTraceFault division bytes fault → ⊥
accepted_trace division bytes (Pcap fault) trace has = trace_no_break division fault trace.2 has
accepted_trace division bytes (Epochs number index) trace has = no_stop_trace has.next (late_stops has) trace.2 trace.3
accepted_trace division bytes (Weight number) trace has = no_stop_trace has.next (heavy_stops has) trace.2 trace.3

-- bytes have one fault
pub one_trace_fault : (division : Division) (bytes : List ℕ) (fault other : TraceFault)
    → HasTraceFault division bytes fault → HasTraceFault division bytes other → other ≡ fault
one_trace_fault division bytes (Pcap fault) (Pcap other) first second = ap Pcap
    (one_break division other fault second first)
one_trace_fault division bytes (Pcap fault) (Epochs number index) first
    second = absurd (no_stop_fault second.next fault (late_stops second) first)
one_trace_fault division bytes (Pcap fault) (Weight number) first
    second = absurd (no_stop_fault second.next fault (heavy_stops second) first)
one_trace_fault division bytes (Epochs number index) (Pcap other) first
    second = absurd (no_stop_fault first.next other (late_stops first) second)
one_trace_fault division bytes (Epochs number index) (Epochs n i) first second =
    let same = late_late second first in
    λ j. Epochs (same.0 j) (same.1 j)
one_trace_fault division bytes (Epochs number index) (Weight n) first second = absurd (late_heavy first second)
one_trace_fault division bytes (Weight number) (Pcap other) first
    second = absurd (no_stop_fault first.next other (heavy_stops first) second)
one_trace_fault division bytes (Weight number) (Epochs n i) first second = absurd (late_heavy second first)
one_trace_fault division bytes (Weight number) (Weight n) first second = ap Weight (heavy_heavy second first)
