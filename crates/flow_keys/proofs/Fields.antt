-- Lemmas that tell the parts of a text by its separators.
use Rattle.std.proofs.Common.{◌≡◌, ℕ, ◌+◌, ◌/◌, ◌%◌, ◌^◌, ◌<◌, ◌≤◌, false, List, [], ◌∷◌, ◌++◌, ap, sym, ◌∙◌, arith, append_assoc, refl, slice_index}
use Rattle.std.specs.Fmt.{digits, decimal}
use Rattle.std.specs.Char.{digit_value}
use Rattle.std.specs.Str.Parse.{AllDigits, digits_value}
use Rattle.std.proofs.lemmas.Fmt.{digits_is_IsNumeral}
use Rattle.flow_keys.specs.Text.{hexadecimal, two_groups, ipv4_text, ipv6_text}

-- two fields, each with a separator and a rest behind it, are the same
pub record SameField {A : Type 0} (x y : A) (s t : ℕ) (c d : List ℕ) : Type 0 where
  pub value : x ≡ y
  pub separator : s ≡ t
  pub rest : c ≡ d

-- digits end at the first byte that is none
same_digits : (base : ℕ) (a b : List ℕ) (s t : ℕ) (c d : List ℕ) → AllDigits base a → AllDigits base b
    → base ≤ digit_value s → base ≤ digit_value t → a ++ (s ∷ c) ≡ b ++ (t ∷ d) → SameField a b s t c d
same_digits base [] [] s t c d p q u v e = record { value = cc; separator = cc; rest = cc }
same_digits base [] (y ∷ b) s t c d p q u v e =
    let same : s ≡ y = cc in absurd (omega (arith, q.0, ap digit_value same))
same_digits base (x ∷ a) [] s t c d p q u v e =
    let same : x ≡ t = cc in absurd (omega (arith, p.0, ap digit_value same))
same_digits base (x ∷ a) (y ∷ b) s t c d p q u v e =
    let first : x ≡ y = cc in
    let others : a ++ (s ∷ c) ≡ b ++ (t ∷ d) = cc in
    let more = same_digits base a b s t c d p.1 q.1 u v others in
    let behind : a ≡ b = more.value in
    record { value = cc; separator = more.separator; rest = more.rest }

-- a number in a base ends at the first byte that is no digit
same_number : (base : ℕ) → 2 ≤ base → base ≤ 16 → (m n s t : ℕ) (c d : List ℕ) → m < base ^ 64 → n < base ^ 64
    → base ≤ digit_value s → base ≤ digit_value t
    → digits base false m ++ (s ∷ c) ≡ digits base false n ++ (t ∷ d) → SameField m n s t c d
same_number base low high m n s t c d p q u v e =
    let first = digits_is_IsNumeral base false low high m p in
    let second = digits_is_IsNumeral base false low high n q in
    let same = same_digits base (digits base false m) (digits base false n) s t c d first.0.1 second.0.1 u v e in
    record {
      value =
          sym first.1 ∙ ap (digits_value base) same.value ∙ second.1;
      separator = same.separator;
      rest = same.rest;
    }

pub same_decimal : (m n s t : ℕ) (c d : List ℕ) → m < 2 ^ 32 → n < 2 ^ 32 → 10 ≤ digit_value s → 10 ≤ digit_value t
    → decimal m ++ (s ∷ c) ≡ decimal n ++ (t ∷ d) → SameField m n s t c d
same_decimal m n s t c d p q u v e =
    same_number 10 (omega arith) (omega arith) m n s t c d (omega arith) (omega arith) u v e

same_hexadecimal : (m n s t : ℕ) (c d : List ℕ) → m < 2 ^ 32 → n < 2 ^ 32 → 16 ≤ digit_value s → 16 ≤ digit_value t
    → hexadecimal m ++ (s ∷ c) ≡ hexadecimal n ++ (t ∷ d) → SameField m n s t c d
same_hexadecimal m n s t c d p q u v e =
    same_number 16 (omega arith) (omega arith) m n s t c d (omega arith) (omega arith) u v e

same_two_groups : (v w s t : ℕ) (c d : List ℕ) → v < 2 ^ 32 → w < 2 ^ 32 → 16 ≤ digit_value s → 16 ≤ digit_value t
    → two_groups v ++ (s ∷ c) ≡ two_groups w ++ (t ∷ d) → SameField v w s t c d
same_two_groups v w s t c d p q u k e =
    let spread : hexadecimal (v / 65536) ++ (58 ∷ (hexadecimal (v % 65536) ++ (s ∷ c))) ≡ hexadecimal (w / 65536) ++
    (58 ∷ (hexadecimal (w % 65536) ++ (t ∷ d))) =
    sym (append_assoc (hexadecimal (v / 65536)) (58 ∷ hexadecimal (v % 65536)) (s ∷ c)) ∙ e
    ∙ append_assoc (hexadecimal (w / 65536)) (58 ∷ hexadecimal (w % 65536)) (t ∷ d) in
    let high = same_hexadecimal (v / 65536) (w / 65536) 58 58 _ _ (omega arith) (omega arith) (omega arith)
    (omega arith) spread in
    let low = same_hexadecimal (v % 65536) (w % 65536) s t c d (omega arith) (omega arith) u k high.rest in
    record { value = omega (arith, high.value, low.value); separator = low.separator; rest = low.rest }

ipv4-append : (x : ℕ) (rest : List ℕ) → ipv4_text x ++ rest ≡ decimal (x / 16777216) ++
    (46 ∷ (decimal (x / 65536 % 256) ++ (46 ∷ (decimal (x / 256 % 256) ++ (46 ∷ (decimal (x % 256) ++ rest))))))
unfolding ipv4_text
ipv4-append x rest = simp append_assoc

-- an IPv4 address ends at the space behind it
pub same_ipv4 : (x y : ℕ) (c d : List ℕ) → x < 2 ^ 32 → y < 2 ^ 32
    → ipv4_text x ++ (32 ∷ c) ≡ ipv4_text y ++ (32 ∷ d) → SameField x y 32 32 c d
same_ipv4 x y c d p q e =
    let spread = sym (ipv4-append x (32 ∷ c)) ∙ e ∙ ipv4-append y (32 ∷ d) in
    let one = same_decimal (x / 16777216) (y / 16777216) 46 46 _ _ (omega arith) (omega arith) (omega arith)
    (omega arith) spread in
    let two = same_decimal (x / 65536 % 256) (y / 65536 % 256) 46 46 _ _ (omega arith) (omega arith) (omega arith)
    (omega arith) one.rest in
    let three = same_decimal (x / 256 % 256) (y / 256 % 256) 46 46 _ _ (omega arith) (omega arith) (omega arith)
    (omega arith) two.rest in
    let four = same_decimal (x % 256) (y % 256) 32 32 c d (omega arith) (omega arith) (omega arith)
    (omega arith) three.rest in
    record { value = omega (arith, one.value, two.value, three.value, four.value); separator = refl; rest = four.rest }

-- two IPv6 addresses, each with a rest behind it, are the same
pub record SameAddress (xs ys : List ℕ) (at : ℕ) (c d : List ℕ) : Type 0 where
  pub first : slice_index xs at ≡ slice_index ys at
  pub second : slice_index xs (at + 1) ≡ slice_index ys (at + 1)
  pub third : slice_index xs (at + 2) ≡ slice_index ys (at + 2)
  pub fourth : slice_index xs (at + 3) ≡ slice_index ys (at + 3)
  pub rest : c ≡ d

ipv6-append : (words : List ℕ) (at : ℕ) (rest : List ℕ) → ipv6_text words at ++ rest
    ≡ two_groups (slice_index words at) ++
    (58 ∷ (two_groups (slice_index words (at + 1)) ++
    (58 ∷ (two_groups (slice_index words (at + 2)) ++ (58 ∷ (two_groups (slice_index words (at + 3)) ++ rest))))))
unfolding ipv6_text
ipv6-append words at rest = simp append_assoc

-- an IPv6 address ends at the space behind it
pub same_ipv6 : (xs ys : List ℕ) (at : ℕ) (c d : List ℕ) → ((k : ℕ) → slice_index xs k < 2 ^ 32)
    → ((k : ℕ) → slice_index ys k < 2 ^ 32)
    → ipv6_text xs at ++ (32 ∷ c) ≡ ipv6_text ys at ++ (32 ∷ d) → SameAddress xs ys at c d
same_ipv6 xs ys at c d p q e =
    let spread = sym (ipv6-append xs at (32 ∷ c)) ∙ e ∙ ipv6-append ys at (32 ∷ d) in
    let one = same_two_groups _ _ 58 58 _ _ (p at) (q at) (omega arith) (omega arith) spread in
    let two = same_two_groups _ _ 58 58 _ _ (p (at + 1)) (q (at + 1)) (omega arith) (omega arith) one.rest in
    let three = same_two_groups _ _ 58 58 _ _ (p (at + 2)) (q (at + 2)) (omega arith) (omega arith) two.rest in
    let four = same_two_groups _ _ 32 32 c d (p (at + 3)) (q (at + 3)) (omega arith) (omega arith) three.rest in
    record { first = one.value; second = two.value; third = three.value; fourth = four.value; rest = four.rest }

more_digits : (xs : List ℕ) → AllDigits 10 xs → AllDigits 16 xs
more_digits [] h = tt
more_digits (x ∷ xs) h = (omega (arith, h.0), more_digits xs h.1)

-- no text begins with an IPv4 and an IPv6 address
pub ipv4-is_no-ipv6 : (x : ℕ) (ys : List ℕ) (at : ℕ) (c d : List ℕ) → x < 2 ^ 32
    → ((k : ℕ) → slice_index ys k < 2 ^ 32) → ipv4_text x ++ c ≡ ipv6_text ys at ++ d → ⊥
ipv4-is_no-ipv6 x ys at c d p q e =
    let y : ℕ = slice_index ys at in
    let spread = sym (ipv4-append x c) ∙ e ∙ ipv6-append ys at d
    ∙ append_assoc (hexadecimal (y / 65536)) (58 ∷ hexadecimal (y % 65536)) _ in
    let first = (digits_is_IsNumeral 10 false (omega arith) (omega arith) (x / 16777216) (omega arith)).0.1 in
    let second = (digits_is_IsNumeral 16 false (omega arith) (omega arith) (y / 65536) (omega (arith, q at))).0.1 in
    let same = same_digits 16 (decimal (x / 16777216)) (hexadecimal (y / 65536)) 46 58 _ _
    (more_digits _ first) second (omega arith) (omega arith) spread in
    omega (arith, same.separator)
