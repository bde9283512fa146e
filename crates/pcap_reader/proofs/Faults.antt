-- Which fault a rest has.
use Rattle.std.proofs.Common.{◌≡◌, ◌≢◌, ℕ, ◌+◌, ◌<◌, ◌≤◌, List, ◌++◌, length, take, Some, None, Err, subst, arith, length-append}
use Rattle.std.proofs.lemmas.Bool.Decides.{nat_tests}
use Rattle.std.proofs.lemmas.List.{take_at}
use Rattle.pcap_reader.specs.Header.{header_in}
use Rattle.pcap_reader.specs.Numbers.{number_32}
use Rattle.pcap_reader.specs.Trace.{fault_at}
use Rattle.pcap_reader.specs.declared.fault.PcapFault.TheVariants.{ShortHeader, ShortRecord, LongRecord, TooMany}
use Rattle.pcap_reader.specs.declared.order.Order.{Order}

pub header_short : (header : List ℕ) → length header < 24 → header_in header ≡ Err (ShortHeader (length header))
unfolding header_in
header_short header short = grind (arith, nat_tests)

module _ (order : Order) (count offset : ℕ) where
  pub too_many : (rest : List ℕ) → count ≡ 1048576 → fault_at order count offset rest ≡ Some TooMany
  unfolding fault_at
  too_many rest is = grind (arith, nat_tests)

  pub short_head : (rest : List ℕ) → count ≢ 1048576 → length rest < 16
      → fault_at order count offset rest ≡ Some (ShortRecord offset)
  unfolding fault_at
  short_head rest few short = grind (arith, nat_tests)

  long_rest : (rest : List ℕ) → count ≢ 1048576 → 16 ≤ length rest → 262144 < number_32 order (take 16 rest) 8
      → fault_at order count offset rest ≡ Some (LongRecord offset (number_32 order (take 16 rest) 8))
  unfolding fault_at
  long_rest rest few whole long = grind (arith, nat_tests)

  cut_rest : (rest : List ℕ) → count ≢ 1048576 → 16 ≤ length rest → number_32 order (take 16 rest) 8 ≤ 262144
      → length rest < 16 + number_32 order (take 16 rest) 8
      → fault_at order count offset rest ≡ Some (ShortRecord offset)
  unfolding fault_at
  cut_rest rest few whole fits cut = grind (arith, nat_tests)

  whole_rest : (rest : List ℕ) → count ≢ 1048576 → 16 ≤ length rest → number_32 order (take 16 rest) 8 ≤ 262144
      → 16 + number_32 order (take 16 rest) 8 ≤ length rest → fault_at order count offset rest ≡ None
  unfolding fault_at
  whole_rest rest few whole fits all = grind (arith, nat_tests)

  pub long_record : (head more : List ℕ) → count ≢ 1048576 → length head ≡ 16 → 262144 < number_32 order head 8
      → fault_at order count offset (head ++ more) ≡ Some (LongRecord offset (number_32 order head 8))
  long_record head more few size =
      subst (λ (front : List ℕ). 262144 < number_32 order front 8 → fault_at order count offset (head ++ more) ≡ Some
      (LongRecord offset (number_32 order front 8)))
      (take_at head more 16 size) (λ long. long_rest (head ++ more) few (omega (arith, length-append head more)) long)

  pub cut_record : (head more : List ℕ) → count ≢ 1048576 → length head ≡ 16 → number_32 order head 8 ≤ 262144
      → length more < number_32 order head 8 → fault_at order count offset (head ++ more) ≡ Some (ShortRecord offset)
  cut_record head more few size =
      subst (λ (front : List ℕ). number_32 order front 8 ≤ 262144 → length more < number_32 order front 8
      → fault_at order count offset (head ++ more) ≡ Some (ShortRecord offset))
      (take_at head more 16 size)
      (λ fits cut. cut_rest (head ++ more) few (omega (arith, length-append head more)) fits
      (omega (arith, length-append head more)))

  -- a whole record has no fault
  pub no_fault : (head more : List ℕ) → count ≢ 1048576 → length head ≡ 16 → number_32 order head 8 ≤ 262144
      → number_32 order head 8 ≤ length more → fault_at order count offset (head ++ more) ≡ None
  no_fault head more few size =
      subst (λ (front : List ℕ). number_32 order front 8 ≤ 262144 → number_32 order front 8 ≤ length more
      → fault_at order count offset (head ++ more) ≡ None)
      (take_at head more 16 size)
      (λ fits all. whole_rest (head ++ more) few (omega (arith, length-append head more)) fits
      (omega (arith, length-append head more)))
