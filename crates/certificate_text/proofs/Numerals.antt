-- A number in decimal digits, and what stands behind it.
use Rattle.std.proofs.Common.{◌≡◌, ℕ, ◌+◌, ◌<◌, ◌≤◌, ◌^◌, Bool, true, false, cond, List, [], ◌∷◌, ◌++◌, length, take, drop, refl, sym, ◌∙◌, ap, arith, suc, zero, length-take, ◌*◌, ◌-◌, get_or, ◌≢◌}
use Rattle.std.proofs.Math.Seq.{take-append_seam}
use Rattle.std.specs.Char.{is_ascii_digit}
use Rattle.std.specs.Fmt.{decimal}
use Rattle.std.specs.List.{prefix_len}
use Rattle.std.specs.Str.{all_ascii_digits}
use Rattle.std.specs.Str.Parse.{digits_value}
use Rattle.std.proofs.lemmas.Bool.{and_parts}
use Rattle.std.proofs.lemmas.Fmt.{digits_decimal, decimal_injective, decimal-digits_value, decimal_digit, first_decimal}
use Rattle.std.proofs.lemmas.Str.Parse.{IsNumeralModel, digits_value_short, digit_at, numerals_by_value, tells_all_ascii_digits}
use Rattle.std.specs.Int.{IsInRange}
use Rattle.std.proofs.lemmas.Str.{digit_value_digit}
use Rattle.std.proofs.lemmas.Int.Digits.{digits_value_more}
use Rattle.certificate_text.specs.Numeral.{IsParted}

pub own : IsNumeralModel (λ ds. all_ascii_digits ds ≡ true) (digits_value 10)
own = numerals_by_value _ tells_all_ascii_digits

-- fronts of one length are told apart from what follows
pub append_apart : {A : Type 0} (a b c d : List A) → length a ≡ length c → a ++ b ≡ c ++ d → (a ≡ c) × (b ≡ d)
append_apart [] b [] d long same = (refl, same)
append_apart [] b (y ∷ c) d long same = absurd (omega arith)
append_apart (x ∷ a) b [] d long same = absurd (omega arith)
append_apart {A} (x ∷ a) b (y ∷ c) d long same =
    let rest : a ++ b ≡ c ++ d = cc in
    let parts = append_apart a b c d (omega arith) rest in
    (cc (parts.0), parts.1)

-- digits lengthen the digits at the front
pub prefix_len-digits : (ds after : List ℕ) → all_ascii_digits ds ≡ true
    → prefix_len is_ascii_digit (ds ++ after) ≡ length ds + prefix_len is_ascii_digit after
prefix_len-digits [] after all = omega arith
prefix_len-digits (c ∷ cs) after all =
    let parts = and_parts (is_ascii_digit c) (all_ascii_digits cs) all in
    let rest = prefix_len-digits cs after parts.1 in
    rw parts.0 (omega (arith, rest))

-- the digits at the front are digits
digits-take_one : (b : Bool) (c : ℕ) (cs : List ℕ) (n : ℕ) → is_ascii_digit c ≡ b → all_ascii_digits (take n cs) ≡ true
    → all_ascii_digits (take (cond b (1 + n) 0) (c ∷ cs)) ≡ true
digits-take_one false c cs n is rest = refl
digits-take_one true c cs n is rest =
    let one : 1 + n ≡ suc n = omega arith in
    rw one (rw is rest)

pub digits-take : (bytes : List ℕ) → all_ascii_digits (take (prefix_len is_ascii_digit bytes) bytes) ≡ true
digits-take [] = refl
digits-take (c ∷ cs) = digits-take_one (is_ascii_digit c) c cs (prefix_len is_ascii_digit cs) refl (digits-take cs)

-- and none follows them
parted-drop_one : (b : Bool) (c : ℕ) (cs : List ℕ) (n : ℕ) → is_ascii_digit c ≡ b → IsParted (drop n cs)
    → IsParted (drop (cond b (1 + n) 0) (c ∷ cs))
parted-drop_one false c cs n is rest = rw is refl
parted-drop_one true c cs n is rest =
    let one : 1 + n ≡ suc n = omega arith in
    rw one rest

pub parted-drop : (bytes : List ℕ) → IsParted (drop (prefix_len is_ascii_digit bytes) bytes)
parted-drop [] = refl
parted-drop (c ∷ cs) = parted-drop_one (is_ascii_digit c) c cs (prefix_len is_ascii_digit cs) refl (parted-drop cs)

pub prefix_len-number : (n : ℕ) (after : List ℕ) → n < 2 ^ 64 → IsParted after
    → prefix_len is_ascii_digit (decimal n ++ after) ≡ length (decimal n)
prefix_len-number n after small parted =
    let all = prefix_len-digits (decimal n) after (digits_decimal own n small) in
    omega (arith, all, parted)

-- the number at the front, and what stands behind it, are told apart
pub number_apart : (m n : ℕ) (u v : List ℕ) → m < 2 ^ 64 → n < 2 ^ 64 → IsParted u → IsParted v
    → decimal m ++ u ≡ decimal n ++ v → (m ≡ n) × (u ≡ v)
number_apart m n u v small_m small_n parted_u parted_v same =
    let long : length (decimal m) ≡ length (decimal n) =
    sym (prefix_len-number m u small_m parted_u)
    ∙ (ap (λ bytes. prefix_len is_ascii_digit bytes) same ∙ prefix_len-number n v small_n parted_v) in
    let parts = append_apart (decimal m) u (decimal n) v long same in
    (decimal_injective m n small_m small_n parts.0, parts.1)

-- the number at the front is written by the digits at the front
pub front_is_number : (n : ℕ) (bytes after : List ℕ) → n < 2 ^ 64 → IsParted after → bytes ≡ decimal n ++ after
    → take (prefix_len is_ascii_digit bytes) bytes ≡ decimal n
front_is_number n bytes after small parted spelled =
    let size : prefix_len is_ascii_digit bytes ≡ length (decimal n) =
    ap (λ bs. prefix_len is_ascii_digit bs) spelled ∙ prefix_len-number n after small parted in
    rw (size, spelled) (take-append_seam (decimal n) after)

-- what follows the first digit of a zero
pub zero_alone : (n : ℕ) → n < 2 ^ 64 → get_or (decimal n) 0 0 ≡ 48 → length (decimal n) ≡ 1
zero_alone zero small first = ap (λ ds. length ds) (decimal_digit 0 (omega arith))
zero_alone (suc n) small first = absurd (omega (arith, first_decimal (suc n) (omega arith) small))

-- the front of digits is digits
pub digits-front : (ds : List ℕ) (i : ℕ) → all_ascii_digits ds ≡ true → all_ascii_digits (take i ds) ≡ true
digits-front ds zero all = refl
digits-front [] (suc i) all = refl
digits-front (c ∷ cs) (suc i) all =
    let parts = and_parts (is_ascii_digit c) (all_ascii_digits cs) all in
    rw parts.0 (digits-front cs i parts.1)

-- so many digits write no more than a power of ten
pub value_below : (ds : List ℕ) (i k : ℕ) → all_ascii_digits ds ≡ true → i ≤ k → digits_value 10 (take i ds) < 10 ^ k
value_below ds i k all few =
    digits_value_short own (take i ds) k (digits-front ds i all) (simp length-take (omega arith))

-- one more digit
pub value_more : (ds : List ℕ) (i : ℕ) → all_ascii_digits ds ≡ true → i < length ds
    → IsInRange 48 57 (get_or ds i 0) ×
    (digits_value 10 (take (i + 1) ds) ≡ digits_value 10 (take i ds) * 10 + (get_or ds i 0 - 48))
value_more ds i all less =
    let digit = digit_at ds i (own.to ds all) less in
    (digit, omega (arith, digits_value_more 10 ds i less, digit_value_digit (get_or ds i 0) digit, digit.0, digit.1))

-- digits that begin with no zero are a numeral
pub numeral_is_value : (ds : List ℕ) → all_ascii_digits ds ≡ true → 0 < length ds → length ds ≤ 17 → get_or ds 0 0 ≢ 48
    → decimal (digits_value 10 ds) ≡ ds
numeral_is_value ds all some few first =
    decimal-digits_value own ds all some (λ zero_first. absurd (first zero_first))
    (omega (arith, digits_value_short own ds 17 all few))

-- a zero digit alone is the numeral of zero
pub zero_is : (ds : List ℕ) → length ds ≡ 1 → get_or ds 0 0 ≡ 48 → decimal 0 ≡ ds
zero_is [] one first = absurd (omega arith)
zero_is (c ∷ []) one first =
    let zero_first : c ≡ 48 = first in
    rw zero_first (decimal_digit 0 (omega arith))
zero_is (c ∷ d ∷ cs) one first = absurd (omega arith)
