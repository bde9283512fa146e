-- How many readings bytes have.
use Rattle.std.proofs.Common.{zero, suc, ◌≡◌, ◌≢◌, ◌⊎◌, ℕ, ◌+◌, ◌-◌, ◌≤◌, List, [], ◌∷◌, ◌++◌, length, take, drop, flat_map, Some, None, Ok, Err, refl, sym, ◌∙◌, ap, subst, arith, append-nil, append_assoc, length-append, length-drop, length-take-le, inl, inr}
use Rattle.std.proofs.lemmas.Bool.Decides.{nat_tests}
use Rattle.std.proofs.lemmas.Grind.{flat_map-append}
use Rattle.std.proofs.lemmas.List.{length_push, take-append-drop}
use Rattle.std.specs.List.{AllByRecursion}
use Rattle.pcap_reader.specs.Header.{header_of}
use Rattle.pcap_reader.specs.Laws.{HasTrace, HasFault, StartsRecord}
use Rattle.pcap_reader.specs.Numbers.{number_32}
use Rattle.pcap_reader.specs.Trace.{Record, IsRecord, Begins, BreaksOff, IsTrace, Broken, fault_at, spelling}
use Rattle.pcap_reader.specs.declared.fault.PcapFault.{PcapFault}
use Rattle.pcap_reader.specs.declared.header.Header.{Header}
use Rattle.pcap_reader.specs.declared.order.Order.{Order}
use Rattle.pcap_reader.proofs.Readings.{Ends, ends_nil, ends_fault, longest, same_front, same_reading}
use Rattle.pcap_reader.proofs.Records.{All-push}

-- two readings, each up to a place where no further record begins
same_begins : {bytes : List ℕ} {h k : Header} {xs ys : List Record} {r s : List ℕ} → Begins bytes h xs r
    → Begins bytes k ys s → Ends h.order (length xs) r → Ends k.order (length ys) s → (h ≡ k) × (xs ≡ ys) × (r ≡ s)
same_begins {bytes} {h} {k} {xs} {ys} {r} {s} first second ends_x ends_y =
    let header : h ≡ k = cc (first.accepted, second.accepted) in
    let each : AllByRecursion (IsRecord h.order) ys = subst (λ (o : Header). AllByRecursion (IsRecord o.order) ys)
    (sym header) second.each in
    let ends : Ends h.order (length ys) s = subst (λ (o : Header). Ends o.order (length ys) s) (sym header) ends_y in
    let ends_0 : Ends h.order (0 + length xs) r = subst (λ (n : ℕ). Ends h.order n r) (omega arith) ends_x in
    let ends_1 : Ends h.order (0 + length ys) s = subst (λ (n : ℕ). Ends h.order n s) (omega arith) ends in
    let same = same_reading h.order 0 xs ys r s first.each each (omega (arith, first.few))
    (omega (arith, second.few)) ends_0 ends_1 (sym first.parts ∙ second.parts) in
    (header, same.0, same.1)

pub one_trace : {bytes : List ℕ} {h k : Header} {xs ys : List Record} → Begins bytes h xs [] → Begins bytes k ys []
    → (h ≡ k) × (xs ≡ ys)
one_trace first second =
    let same = same_begins first second (ends_nil _ _) (ends_nil _ _) in
    (same.0, same.1)

ends_off : {bytes : List ℕ} {header : Header} {members : List Record} {fault : PcapFault}
    (off : BreaksOff bytes header members fault) → Ends header.order (length members) off.rest
ends_off {bytes} {header} {members} {fault} off =
    ends_fault header.order (length members) (length bytes - length off.rest) off.rest fault off.fault_is

pub not_both : (bytes : List ℕ) (header : Header) (xs ys : List Record) (fault : PcapFault) → IsTrace bytes header xs
    → Broken bytes ys fault → ⊥
not_both bytes header xs ys fault is (inl refused) = let accepted = is.accepted in let err = refused.1 in cc
not_both bytes header xs ys fault is (inr (other, off)) =
    off.more (sym (same_begins is off.begins (ends_nil header.order (length xs)) (ends_off off)).2)

one_place : {bytes : List ℕ} {h k : Header} {xs ys : List Record} {fault other : PcapFault}
    → BreaksOff bytes h xs fault → BreaksOff bytes k ys other → (xs ≡ ys) × (fault ≡ other)
one_place {bytes} {h} {k} {xs} {ys} {fault} {other} first second =
    let same = same_begins first.begins second.begins (ends_off first) (ends_off second) in
    let at_header : fault_at h.order (length xs) (length bytes - length first.rest) first.rest ≡ fault_at k.order
    (length xs) (length bytes - length first.rest) first.rest = ap
    (λ (o : Header). fault_at o.order (length xs) (length bytes - length first.rest) first.rest) same.0 in
    let at_members : fault_at k.order (length xs) (length bytes - length first.rest) first.rest ≡ fault_at k.order
    (length ys) (length bytes - length first.rest) first.rest = ap
    (λ (l : List Record). fault_at k.order (length l) (length bytes - length first.rest) first.rest) same.1 in
    let at_rest : fault_at k.order (length ys) (length bytes - length first.rest) first.rest ≡ fault_at k.order
    (length ys) (length bytes - length second.rest) second.rest = ap
    (λ (l : List ℕ). fault_at k.order (length ys) (length bytes - length l) l) same.2 in
    let both : Some fault ≡ Some other = sym first.fault_is ∙ at_header ∙ at_members ∙ at_rest ∙ second.fault_is in
    (same.1, cc both)

pub one_fault : (bytes : List ℕ) (xs ys : List Record) (fault other : PcapFault) → Broken bytes xs fault
    → Broken bytes ys other → (xs ≡ ys) × (fault ≡ other)
one_fault bytes xs ys fault other (inl first) (inl second) = (first.0 ∙ sym second.0, cc (first.1, second.1))
one_fault bytes xs ys fault other (inl first) (inr (header, second)) =
    let accepted = second.begins.accepted in let err = first.1 in absurd (cc)
one_fault bytes xs ys fault other (inr (header, first)) (inl second) =
    let accepted = first.begins.accepted in let err = second.1 in absurd (cc)
one_fault bytes xs ys fault other (inr (h, first)) (inr (k, second)) = one_place first second

clear_few : (order : Order) (count offset : ℕ) (rest : List ℕ) → fault_at order count offset rest ≡ None
    → count ≢ 1048576
unfolding fault_at
clear_few order count offset rest none = grind (arith, nat_tests)

clear_head : (order : Order) (count offset : ℕ) (rest : List ℕ) → fault_at order count offset rest ≡ None
    → 16 ≤ length rest
unfolding fault_at
clear_head order count offset rest none = grind (arith, nat_tests)

clear_fits : (order : Order) (count offset : ℕ) (rest : List ℕ) → fault_at order count offset rest ≡ None
    → number_32 order (take 16 rest) 8 ≤ 262144
unfolding fault_at
clear_fits order count offset rest none = grind (arith, nat_tests)

clear_whole : (order : Order) (count offset : ℕ) (rest : List ℕ) → fault_at order count offset rest ≡ None
    → 16 + number_32 order (take 16 rest) 8 ≤ length rest
unfolding fault_at
clear_whole order count offset rest none = grind (arith, nat_tests)

-- a place without a fault is one where a record begins
pub starts_record : (order : Order) (count offset : ℕ) (rest : List ℕ) → fault_at order count offset rest ≡ None
    → StartsRecord order rest
starts_record order count offset rest none =
    let n : ℕ = number_32 order (take 16 rest) 8 in
    let size : length (take n (drop 16 rest)) ≡ n = length-take-le n (drop 16 rest)
    (omega (arith, clear_whole order count offset rest none, length-drop 16 rest)) in
    record {
      member = record { head = take 16 rest; captured = take n (drop 16 rest) };
      rest = drop n (drop 16 rest);
      is_record = record {
        size = length-take-le 16 rest (clear_head order count offset rest none);
        says = sym size;
        fits = omega (arith, size, clear_fits order count offset rest none);
      };
      parts = sym (
          append_assoc (take 16 rest) (take n (drop 16 rest)) (drop n (drop 16 rest))
          ∙ ap (λ (l : List ℕ). take 16 rest ++ l) (take-append-drop n (drop 16 rest))
          ∙ take-append-drop 16 rest);
    }

-- one more record of what is left
begins_next : {bytes : List ℕ} {header : Header} {members : List Record} {rest : List ℕ}
    → Begins bytes header members rest → length members ≢ 1048576 → (starts : StartsRecord header.order rest)
    → Begins bytes header (members ++ starts.member ∷ []) starts.rest
begins_next {bytes} {header} {members} {rest} begins few starts = record {
  accepted = begins.accepted;
  each = All-push (IsRecord header.order) members starts.member begins.each starts.is_record;
  parts =
      begins.parts
      ∙ ap (λ (l : List ℕ). flat_map spelling members ++ l) starts.parts
      ∙ sym (append_assoc (flat_map spelling members) (spelling starts.member) starts.rest)
      ∙ ap (λ (l : List ℕ). (flat_map spelling members ++ l) ++ starts.rest) (sym (append-nil (spelling starts.member)))
      ∙ ap (λ (l : List ℕ). l ++ starts.rest) (sym (flat_map-append spelling members (starts.member ∷ [])));
  few = omega (arith, begins.few, few, length_push members starts.member);
}

rest_falls : (order : Order) (fuel : ℕ) (bytes : List ℕ) (starts : StartsRecord order bytes)
    → length bytes ≤ fuel + 1 → length starts.rest ≤ fuel
rest_falls order fuel bytes starts bound =
    omega (
      arith,
      bound,
      ap length starts.parts,
      starts.is_record.size,
      length-append
          (spelling starts.member) starts.rest,
      length-append starts.member.head starts.member.captured,
    )

-- reading goes on to the end or to a fault
read_on : (fuel : ℕ) (bytes : List ℕ) (header : Header) (members : List Record) (rest : List ℕ) → length rest ≤ fuel
    → Begins bytes header members rest → HasTrace bytes ⊎ HasFault bytes
read_on fuel bytes header members [] bound begins = inl (header, members, begins)
read_on zero bytes header members (b ∷ rest) bound begins = absurd (omega (arith, bound))
read_on (suc fuel) bytes header members (b ∷ rest) bound begins =
    let offset : ℕ = length bytes - length (b ∷ rest) in
    (elim (fault_at header.order (length members) offset (b ∷ rest)) as
    (λ o. fault_at header.order (length members) offset (b ∷ rest) ≡ o → HasTrace bytes ⊎ HasFault bytes) [
      | Some fault ↦ λ is. inr (
        members,
        fault,
        inr (
          header,
          record {
            rest =
                b ∷ rest;
            more = λ empty. cc;
            begins = begins;
            fault_is = is;
          },
        ),
      )
      | None ↦ λ none.
          let starts : StartsRecord header.order (b ∷ rest) = starts_record header.order (length members) offset
          (b ∷ rest) none in
          read_on fuel bytes header (members ++ starts.member ∷ []) starts.rest
          (rest_falls header.order fuel (b ∷ rest) starts (omega (arith, bound)))
          (begins_next begins (clear_few header.order (length members) offset (b ∷ rest) none) starts)
    ]) refl

pub always_one : (bytes : List ℕ) → HasTrace bytes ⊎ HasFault bytes
always_one bytes =
    (elim (header_of bytes) as (λ r. header_of bytes ≡ r → HasTrace bytes ⊎ HasFault bytes) [
      | Err fault ↦ λ is. inr ([], fault, inl (refl, is))
      | Ok header ↦ λ is. read_on (length bytes) bytes header [] (drop 24 bytes) (omega (arith, length-drop 24 bytes))
          (record { accepted = is; each = tt; parts = refl; few = omega arith })
    ]) refl

-- of two readings of the same bytes the lesser one is the front of the other
pub one_front : {bytes : List ℕ} {h k : Header} {xs ys : List Record} {r s : List ℕ} → Begins bytes h xs r
    → Begins bytes k ys s → length xs ≤ length ys → (h ≡ k) × (xs ≡ take (length xs) ys)
one_front {bytes} {h} {k} {xs} {ys} {r} {s} first second few =
    let header : h ≡ k = cc (first.accepted, second.accepted) in
    let each : AllByRecursion (IsRecord h.order) ys = subst (λ (o : Header). AllByRecursion (IsRecord o.order) ys)
    (sym header) second.each in
    (header, same_front h.order xs ys r s first.each each few (sym first.parts ∙ second.parts))

-- no reading is longer than one up to a place where no further record begins
longest_begins : {bytes : List ℕ} {h k : Header} {xs ys : List Record} {r s : List ℕ} → Begins bytes h xs r
    → Begins bytes k ys s → Ends k.order (length ys) s → length xs ≤ length ys
longest_begins {bytes} {h} {k} {xs} {ys} {r} {s} first second ends =
    let header : k ≡ h = cc (first.accepted, second.accepted) in
    let each : AllByRecursion (IsRecord h.order) ys = subst
    (λ (o : Header). AllByRecursion (IsRecord o.order) ys) header second.each in
    let ends_0 : Ends h.order (0 + length ys) s = subst (λ (n : ℕ). Ends h.order n s) (omega arith)
    (subst (λ (o : Header). Ends o.order (length ys) s) header ends) in
    longest h.order 0 xs ys r s first.each each (omega (arith, first.few)) ends_0 (sym first.parts ∙ second.parts)

pub longest_trace : {bytes : List ℕ} {h k : Header} {xs ys : List Record} {r : List ℕ} → Begins bytes h xs r
    → IsTrace bytes k ys → length xs ≤ length ys
longest_trace {k = k} {ys = ys} first trace = longest_begins first trace (ends_nil k.order (length ys))

pub longest_broken : {bytes : List ℕ} {h k : Header} {xs ys : List Record} {r : List ℕ} {fault : PcapFault}
    → Begins bytes h xs r → BreaksOff bytes k ys fault → length xs ≤ length ys
longest_broken first off = longest_begins first off.begins (ends_off off)
