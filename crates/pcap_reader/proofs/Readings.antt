-- Two readings of the same bytes.
use Rattle.std.proofs.Common.{◌≡◌, ℕ, ◌+◌, ◌<◌, ◌≤◌, List, [], ◌∷◌, ◌++◌, length, take, drop, flat_map, Some, None, refl, sym, ◌∙◌, ap, subst, arith, append_assoc, length-append}
use Rattle.std.proofs.lemmas.List.{take_at, drop_at}
use Rattle.std.specs.List.{AllByRecursion}
use Rattle.pcap_reader.specs.Laws.{StartsRecord}
use Rattle.pcap_reader.specs.Numbers.{number_32}
use Rattle.pcap_reader.specs.Trace.{Record, IsRecord, fault_at, spelling}
use Rattle.pcap_reader.specs.declared.fault.PcapFault.{PcapFault}
use Rattle.pcap_reader.specs.declared.order.Order.{Order}
use Rattle.pcap_reader.proofs.Faults.{no_fault}

-- behind this many records no further one begins
pub record Ends (order : Order) (count : ℕ) (rest : List ℕ) : Type 0 where
  pub none : count < 1048576 → StartsRecord order rest → ⊥

-- a place where a record begins has no fault
pub record_no_fault : (order : Order) (count offset : ℕ) (rest : List ℕ) → count < 1048576 → StartsRecord order rest
    → fault_at order count offset rest ≡ None
record_no_fault order count offset rest few starts =
    let m = starts.member in
    let is = starts.is_record in
    ap (λ (l : List ℕ). fault_at order count offset l) (starts.parts ∙ append_assoc m.head m.captured starts.rest)
    ∙ no_fault order count offset m.head (m.captured ++ starts.rest) (λ full. absurd (omega (arith, few, full))) is.size
    (omega (arith, is.says, is.fits)) (omega (arith, is.says, length-append m.captured starts.rest))

pub ends_nil : (order : Order) (count : ℕ) → Ends order count []
ends_nil order count = record {
  none =
      λ few starts. absurd
      (omega (
        arith,
        starts.is_record.size,
        ap length starts.parts,
        length-append
            (spelling starts.member) starts.rest,
        length-append starts.member.head starts.member.captured,
      ));
}

pub ends_fault : (order : Order) (count offset : ℕ) (rest : List ℕ) (fault : PcapFault)
    → fault_at order count offset rest ≡ Some fault → Ends order count rest
ends_fault order count offset rest fault is = record {
  none = λ few starts. let clear = record_no_fault order count offset rest few starts in cc;
}

-- a record at the front of bytes is determined
same_record : (order : Order) (x y : Record) (xs ys : List ℕ) → IsRecord order x → IsRecord order y
    → spelling x ++ xs ≡ spelling y ++ ys → (x ≡ y) × (xs ≡ ys)
same_record order x y xs ys is_x is_y same =
    let flat : x.head ++ (x.captured ++ xs) ≡ y.head ++ (y.captured ++ ys) = sym (append_assoc x.head x.captured xs)
    ∙ same ∙ append_assoc y.head y.captured ys in
    let head : x.head ≡ y.head = sym (take_at x.head (x.captured ++ xs) 16 is_x.size)
    ∙ ap (λ (l : List ℕ). take 16 l) flat ∙ take_at y.head (y.captured ++ ys) 16 is_y.size in
    let behind : x.captured ++ xs ≡ y.captured ++ ys = sym (drop_at x.head (x.captured ++ xs) 16 is_x.size)
    ∙ ap (λ (l : List ℕ). drop 16 l) flat ∙ drop_at y.head (y.captured ++ ys) 16 is_y.size in
    let size : length x.captured ≡ length y.captured = sym is_x.says ∙ ap (λ (l : List ℕ). number_32 order l 8) head
    ∙ is_y.says in
    let captured : x.captured ≡ y.captured = sym (take_at x.captured xs (length x.captured) refl)
    ∙ ap (λ (l : List ℕ). take (length x.captured) l) behind ∙ take_at y.captured ys (length x.captured) (sym size) in
    let rests : xs ≡ ys = sym (drop_at x.captured xs (length x.captured) refl)
    ∙ ap (λ (l : List ℕ). drop (length x.captured) l) behind ∙ drop_at y.captured ys (length x.captured) (sym size) in
    (λ i. record { head = head i; captured = captured i }, rests)

starts_here : (order : Order) (member : Record) (members : List Record) (rest bytes : List ℕ) → IsRecord order member
    → bytes ≡ flat_map spelling (member ∷ members) ++ rest → StartsRecord order bytes
starts_here order member members rest bytes is same = record {
  member = member;
  rest = flat_map spelling members ++ rest;
  is_record = is;
  parts = same ∙ append_assoc (spelling member) (flat_map spelling members) rest;
}

-- records and a rest where no further one begins are determined
pub same_reading : (order : Order) (count : ℕ) (xs ys : List Record) (r s : List ℕ)
    → AllByRecursion (IsRecord order) xs → AllByRecursion (IsRecord order) ys
    → count + length xs ≤ 1048576 → count + length ys ≤ 1048576 → Ends order (count + length xs) r
    → Ends order (count + length ys) s
    → flat_map spelling xs ++ r ≡ flat_map spelling ys ++ s → (xs ≡ ys) × (r ≡ s)
same_reading order count [] [] r s each_x each_y few_x few_y ends_x ends_y same = (refl, same)
same_reading order count [] (y ∷ ys) r s each_x each_y few_x few_y ends_x ends_y same =
    absurd (ends_x.none (omega (arith, few_y)) (starts_here order y ys s r each_y.0 same))
same_reading order count (x ∷ xs) [] r s each_x each_y few_x few_y ends_x ends_y same =
    absurd (ends_y.none (omega (arith, few_x)) (starts_here order x xs r s each_x.0 (sym same)))
same_reading order count (x ∷ xs) (y ∷ ys) r s each_x each_y few_x few_y ends_x ends_y same =
    let first = same_record order x y (flat_map spelling xs ++ r) (flat_map spelling ys ++ s) each_x.0 each_y.0
    (sym (append_assoc (spelling x) (flat_map spelling xs) r) ∙ same
    ∙ append_assoc (spelling y) (flat_map spelling ys) s) in
    let ends_r : Ends order (count + 1 + length xs) r = subst (λ (n : ℕ). Ends order n r) (omega arith) ends_x in
    let ends_s : Ends order (count + 1 + length ys) s = subst (λ (n : ℕ). Ends order n s) (omega arith) ends_y in
    let later = same_reading order (count + 1) xs ys r s each_x.1 each_y.1 (omega (arith, few_x))
    (omega (arith, few_y)) ends_r ends_s first.1 in
    (λ i. first.0 i ∷ later.0 i, later.1)

-- of two readings the lesser one is the front of the other
pub same_front : (order : Order) (xs ys : List Record) (r s : List ℕ) → AllByRecursion (IsRecord order) xs
    → AllByRecursion (IsRecord order) ys
    → length xs ≤ length ys → flat_map spelling xs ++ r ≡ flat_map spelling ys ++ s → xs ≡ take (length xs) ys
same_front order [] ys r s each_x each_y few same = refl
same_front order (x ∷ xs) [] r s each_x each_y few same = absurd (omega (arith, few))
same_front order (x ∷ xs) (y ∷ ys) r s each_x each_y few same =
    let first = same_record order x y (flat_map spelling xs ++ r) (flat_map spelling ys ++ s) each_x.0 each_y.0
    (sym (append_assoc (spelling x) (flat_map spelling xs) r) ∙ same
    ∙ append_assoc (spelling y) (flat_map spelling ys) s) in
    let later = same_front order xs ys r s each_x.1 each_y.1 (omega (arith, few)) first.1 in
    λ i. first.0 i ∷ later i

-- no reading is longer than one up to a place where no further record begins
pub longest : (order : Order) (count : ℕ) (xs ys : List Record) (r s : List ℕ) → AllByRecursion (IsRecord order) xs
    → AllByRecursion (IsRecord order) ys
    → count + length xs ≤ 1048576 → Ends order (count + length ys) s
    → flat_map spelling xs ++ r ≡ flat_map spelling ys ++ s → length xs ≤ length ys
longest order count [] ys r s each_x each_y few ends same = omega arith
longest order count (x ∷ xs) [] r s each_x each_y few ends same =
    absurd (ends.none (omega (arith, few)) (starts_here order x xs r s each_x.0 (sym same)))
longest order count (x ∷ xs) (y ∷ ys) r s each_x each_y few ends same =
    let first = same_record order x y (flat_map spelling xs ++ r) (flat_map spelling ys ++ s) each_x.0 each_y.0
    (sym (append_assoc (spelling x) (flat_map spelling xs) r) ∙ same
    ∙ append_assoc (spelling y) (flat_map spelling ys) s) in
    let behind : Ends order (count + 1 + length ys) s = subst (λ (n : ℕ). Ends order n s) (omega arith) ends in
    omega (arith, longest order (count + 1) xs ys r s each_x.1 each_y.1 (omega (arith, few)) behind first.1)
