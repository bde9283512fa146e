use Rattle.std.proofs.Common.{◌≡◌, ℕ, ◌+◌, ◌*◌, ◌^◌, ◌<◌, ◌≤◌, ◌==◌, Bool, false, List, take, length, length-take, get_or, sym, ap, ◌∙◌, arith, Some, take_all}
use Rattle.std.specs.Char.{digit_value}
use Rattle.std.specs.Str.Parse.{AllDigits, digits_value}
use Rattle.std.proofs.lemmas.Bool.Decides.{nat_tests}
use Rattle.std.proofs.lemmas.Int.Digits.{digits_value-lt, digits_more, digits_value_more}
use Rattle.std.proofs.Math.Nat.{pow-le-pow_right}
use Rattle.flow_keys.specs.Prefix.{number_of}
use Rattle.flow_keys.proofs.Parts.{are_digits}
use Rattle.flow_keys.proofs.numerals.number.Goals as goal

-- few digits spell a number of 16 bits
small : (base most : ℕ) (digits : List ℕ) → 2 ≤ base → base ^ most ≤ 65536 → length digits ≤ most
    → AllDigits base digits → digits_value base digits < 65536
small base most digits low fits few all =
    let bound = digits_value-lt base digits all in
    let grows = pow-le-pow_right {n = base} (omega arith) few in omega arith

-- the number of one more digit
record More (base : ℕ) (digits : List ℕ) (value : ℕ) : Type 0 where
  all : AllDigits base digits
  is : value ≡ digits_value base digits
  bound : value < 65536

more : (base most : ℕ) (digits : List ℕ) (i value digit byte : ℕ) → 2 ≤ base → base ^ most ≤ 65536
    → length digits ≤ most → i < length digits → AllDigits base (take i digits)
    → value ≡ digits_value base (take i digits)
    → byte ≡ get_or digits i 0 → (digit_value byte < base) × (digit ≡ digit_value byte)
    → More base (take (i + 1) digits) (value * base + digit)
more base most digits i value digit byte low fits few within all is read found =
    let here : digit_value (get_or digits i 0) < base = omega (arith, found.0, ap digit_value read) in
    let each = digits_more base digits i within all here in
    let next = digits_value_more base digits i within in
    let same : value * base + digit ≡ digits_value base (take (i + 1) digits) = omega
    (arith, next, ap (λ n. n * base) is, found.1, ap digit_value read) in
    let size = length-take (i + 1) digits in
    let bound = small base most (take (i + 1) digits) low fits (omega arith) each in
    record { all = each; is = same; bound = omega arith }

spelled : (base most : ℕ) (digits : List ℕ) → 1 ≤ length digits → length digits ≤ most → AllDigits base digits
    → number_of base most digits ≡ Some (digits_value base digits)
spelled base most digits some few all = grind (arith, nat_tests, are_digits base digits all)

next_digit : (c : goal.In_ok-digit) → More c.args.base (take (c.loop-byte.byte-index + 1) c.args.digits.now)
    (c.loop-byte.value * c.args.base + c.in_ok-digit.digit)
next_digit c =
    more _ c.args.most _ _ _ _ _ c.requires.low c.requires.fits (omega arith)
    c.loop-byte-test.true c.loop-byte.invariant.0 c.loop-byte.invariant.1 c.from.ensures c.in_ok-digit.ensures.value

pub overflow_mul-value : goal.overflow_mul-value
overflow_mul-value c = omega (arith, (next_digit c).bound)

pub overflow_add-value : goal.overflow_add-value
overflow_add-value c = omega (arith, (next_digit c).bound)

pub loop-byte-preserved : goal.loop-byte-preserved
loop-byte-preserved c = ((next_digit c).all, (next_digit c).is)

-- the loop has read all digits
whole : (base : ℕ) (digits : List ℕ) (i value : ℕ) → length digits ≤ i → AllDigits base (take i digits)
    → value ≡ digits_value base (take i digits) → AllDigits base digits × (value ≡ digits_value base digits)
whole base digits i value end all is = let same = take_all i digits end in (rw same at all, rw same at is)

pub overflow_cast-result : goal.overflow_cast-result
overflow_cast-result c =
    let read = whole _ _ _ _ c.loop-byte-test.false c.loop-byte.invariant.0 c.loop-byte.invariant.1 in
    omega (arith, read.1, small _ c.args.most _ c.requires.low c.requires.fits (omega arith) read.0)

some_digit : (n : ℕ) (b : Bool) → b ≡ (n == 0) → b ≡ false → 1 ≤ n
some_digit n b test none = grind (arith, nat_tests)

pub returns : goal.returns
returns c =
    let read = whole _ _ _ _ c.loop-byte-test.false c.loop-byte.invariant.0 c.loop-byte.invariant.1 in
    record {
      value =
          ap Some read.1 ∙ sym
          (spelled c.args.base c.args.most c.args.digits.now (some_digit _ _ c.is_empty.ensures c.if-is_empty.false)
          (omega arith) read.0);
    }
