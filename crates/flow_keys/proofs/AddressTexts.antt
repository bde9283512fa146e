-- The text of an address reads back.
use Rattle.std.proofs.Common.{◌≡◌, ℕ, ◌+◌, ◌*◌, ◌/◌, ◌%◌, ◌^◌, ◌<◌, ◌≤◌, ◌==◌, Bool, true, false, List, [], ◌∷◌, ◌++◌, length, map, take, drop, slice_index, Some, None, Ok, refl, sym, ap, ◌∙◌, arith, codes, append_assoc, append-nil, length-append, subst}
use Rattle.std.specs.Prelude.{option_and_then}
use Rattle.std.specs.Fmt.{digits, decimal}
use Rattle.std.specs.Char.{digit_value}
use Rattle.std.specs.List.{All, AllByRecursion, list_all, slice_split, position_or_len}
use Rattle.std.specs.Str.Parse.{AllDigits, digits_value}
use Rattle.std.proofs.Math.Seq.{get_or-append_seam}
use Rattle.std.proofs.lemmas.Bool.Decides.{nat_tests}
use Rattle.std.proofs.lemmas.Fmt.{digits_is_IsNumeral, length-decimal-le}
use Rattle.std.proofs.lemmas.List.{get_or_append_left, length-map, take_at, drop_at, drop-drop}
use Rattle.std.proofs.lemmas.List.Elements.{All-nil, All-cons, All-head, All-tail, All-append}
use Rattle.std.proofs.lemmas.List.Splits.{slice_split_at, slice_split_none}
use Rattle.std.proofs.lemmas.List.Sums.{position_or_len_is}
use Rattle.flow_keys.specs.Prefix.{is_colon, is_dot, is_number, is_slash, numbers_of, ipv4_address, ipv4_words, ipv6_address, groups_of, gap_place, eight_groups, group_words, bits_of, with_length, prefix_between, prefix_of, words_from}
use Rattle.flow_keys.specs.Text.{hexadecimal, ipv4_text, ipv6_text, two_groups}
use Rattle.flow_keys.proofs.Hexadecimal.{length_hexadecimal}
use Rattle.flow_keys.proofs.Parts.{are_digits}
use borrow.Author.Tests.{eq-eqb, le-ltb, lt-ltb, ne_eqb}

-- no byte of the text is this one
abbrev IsFree : ℕ → List ℕ → Type 0
IsFree byte text = All (λ b. (b == byte) ≡ false) text

-- digits are free of a byte that is none
free_digits : (base byte : ℕ) (text : List ℕ) → base ≤ digit_value byte → AllDigits base text → IsFree byte text
free_digits base byte [] none each = All-nil (λ b. (b == byte) ≡ false)
free_digits base byte (c ∷ cs) none each =
    All-cons (λ b. (b == byte) ≡ false) c cs (ne_eqb c byte (λ same. omega (arith, each.0, none, ap digit_value same)))
    (free_digits base byte cs none each.1)

free_both : (byte : ℕ) (xs ys : List ℕ) → IsFree byte xs → IsFree byte ys → IsFree byte (xs ++ ys)
free_both byte xs ys p q = All-append (λ b. (b == byte) ≡ false) xs ys p q

-- a separator that is another byte stands between
free_around : (byte separator : ℕ) (xs ys : List ℕ) → (separator == byte) ≡ false → IsFree byte xs → IsFree byte ys
    → IsFree byte (xs ++ (separator ∷ ys))
free_around byte separator xs ys other p q =
    free_both byte xs (separator ∷ ys) p (All-cons (λ b. (b == byte) ≡ false) separator ys other q)

-- a number, as its digits in a base
record IsRead (base most n : ℕ) : Type 0 where
  is_one : is_number base most (digits base false n) ≡ true
  value : digits_value base (digits base false n) ≡ n
  each : AllDigits base (digits base false n)
  some : 0 < length (digits base false n)

reads_number : (base most n : ℕ) → 2 ≤ base → base ≤ 16 → n < base ^ 64 → length (digits base false n) ≤ most
    → IsRead base most n
reads_number base most n low high small fits =
    let numeral = digits_is_IsNumeral base false low high n small in
    let some = numeral.0.0 in
    let all = are_digits base (digits base false n) numeral.0.1 in
    record { is_one = grind (arith, nat_tests); value = numeral.1; each = numeral.0.1; some = some }

reads_byte : (n : ℕ) → n < 256 → IsRead 10 3 n
reads_byte n small = reads_number 10 3 n (omega arith) (omega arith) (omega arith)
    (length-decimal-le 3 n (omega arith) (omega arith) (omega arith))

reads_group : (n : ℕ) → n < 65536 → IsRead 16 4 n
reads_group n small = reads_number 16 4 n (omega arith) (omega arith) (omega arith) (length_hexadecimal n small)

-- numbers, each as its digits
are_numbers : (base most : ℕ) (numbers : List ℕ) → AllByRecursion (IsRead base most) numbers
    → list_all (is_number base most) (map (digits base false) numbers) ≡ true
are_numbers base most [] each = refl
are_numbers base most (n ∷ numbers) each =
    let first = each.0.is_one in let others = are_numbers base most numbers each.1 in grind (arith, nat_tests)

have_values : (base most : ℕ) (numbers : List ℕ) → AllByRecursion (IsRead base most) numbers
    → map (digits_value base) (map (digits base false) numbers) ≡ numbers
have_values base most [] each = refl
have_values base most (n ∷ numbers) each =
    let first = each.0.value in let others = have_values base most numbers each.1 in λ i. first i ∷ others i

read_back : (base most : ℕ) (numbers : List ℕ) → AllByRecursion (IsRead base most) numbers → length numbers ≤ 8
    → numbers_of base most (map (digits base false) numbers) ≡ Some numbers
unfolding numbers_of
read_back base most numbers each few =
    let all = are_numbers base most numbers each in
    let values = have_values base most numbers each in
    let size : length (map (digits base false) numbers) ≤ 8 = omega
    (arith, few, length-map numbers (digits base false)) in
    grind (arith, nat_tests)

-- the slash behind an address
at_slash : (address length_text : List ℕ) → IsFree 47 address
    → position_or_len is_slash (address ++ (47 ∷ length_text)) ≡ length address
at_slash address length_text free =
    position_or_len_is is_slash (address ++ (47 ∷ length_text)) (length address) 0
    (omega (arith, length-append address (47 ∷ length_text)))
    (λ k before. ap is_slash (get_or_append_left address (47 ∷ length_text) 0 k before) ∙ free k 0 before)
    (λ within. ap is_slash (get_or-append_seam address 47 length_text 0))

split_slash : (address length_text : List ℕ) → IsFree 47 address
    → prefix_of (address ++ (47 ∷ length_text)) ≡ prefix_between address length_text
unfolding prefix_of
split_slash address length_text free =
    let text = address ++ (47 ∷ length_text) in
    let place = at_slash address length_text free in
    let within : position_or_len is_slash text < length text = omega
    (arith, place, length-append address (47 ∷ length_text)) in
    let front : take (position_or_len is_slash text) text ≡ address =
    ap (λ n. take n text) place ∙ take_at address (47 ∷ length_text) (length address) refl in
    let back : drop (position_or_len is_slash text + 1) text ≡ length_text =
    ap (λ n. drop (n + 1) text) place
    ∙ sym (drop-drop 1 (length address) text)
    ∙ ap (λ l. drop 1 l) (drop_at address (47 ∷ length_text) (length address) refl) in
    rw (lt-ltb _ _ within, front, back) refl

-- the four bytes of an IPv4 address
ipv4_bytes : ℕ → List ℕ
ipv4_bytes word = word / 16777216 ∷ word / 65536 % 256 ∷ word / 256 % 256 ∷ word % 256 ∷ []

read_bytes : (word : ℕ) → word < 2 ^ 32 → AllByRecursion (IsRead 10 3) (ipv4_bytes word)
unfolding ipv4_bytes
read_bytes word small = (
  reads_byte _ (omega arith),
  (reads_byte _ (omega arith), (reads_byte _ (omega arith), (reads_byte _ (omega arith), tt))),
)

ipv4-free : (byte word : ℕ) → word < 2 ^ 32 → 10 ≤ digit_value byte → (46 == byte) ≡ false
    → IsFree byte (ipv4_text word)
unfolding ipv4_text
ipv4-free byte word small none other =
    let free : (n : ℕ) → n < 256 → IsFree byte (decimal n) = λ n few. free_digits 10 byte _ none
    (reads_byte n few).each in
    free_around byte 46 _ _ other (free _ (omega arith))
    (free_around byte 46 _ _ other (free _ (omega arith))
    (free_around byte 46 _ _ other (free _ (omega arith)) (free _ (omega arith))))

split_dot : (n : ℕ) (rest : List ℕ) → n < 256
    → slice_split is_dot (decimal n ++ (46 ∷ rest)) ≡ decimal n ∷ slice_split is_dot rest
split_dot n rest small =
    slice_split_at is_dot (decimal n) 46 rest (free_digits 10 46 _ (omega arith) (reads_byte n small).each) refl

last_dot : (n : ℕ) → n < 256 → slice_split is_dot (decimal n) ≡ decimal n ∷ []
last_dot n small = slice_split_none is_dot (decimal n) (free_digits 10 46 _ (omega arith) (reads_byte n small).each)

ipv4_parts : (word : ℕ) → word < 2 ^ 32 → slice_split is_dot (ipv4_text word) ≡ map decimal (ipv4_bytes word)
unfolding ipv4_text ipv4_bytes
ipv4_parts word small =
    split_dot _ _ (omega arith)
    ∙ ap (λ l. decimal (word / 16777216) ∷ l) (split_dot _ _ (omega arith)
    ∙ ap (λ l. decimal (word / 65536 % 256) ∷ l) (split_dot _ _ (omega arith)
    ∙ ap (λ l. decimal (word / 256 % 256) ∷ l) (last_dot _ (omega arith))))

bytes_of_word : (a b c d word : ℕ) → a ≤ 255 → b ≤ 255 → c ≤ 255 → d ≤ 255
    → 65536 * (256 * a + b) + (256 * c + d) ≡ word
    → ipv4_words (a ∷ b ∷ c ∷ d ∷ []) ≡ Some (word ∷ 0 ∷ 0 ∷ 0 ∷ [])
unfolding ipv4_words
bytes_of_word a b c d word p q r s is = grind (arith, nat_tests)

ipv4_reads : (word : ℕ) → word < 2 ^ 32 → ipv4_address (ipv4_text word) ≡ Some (word ∷ 0 ∷ 0 ∷ 0 ∷ [])
unfolding ipv4_address ipv4_bytes
ipv4_reads word small =
    ap (λ parts. option_and_then ipv4_words (numbers_of 10 3 parts)) (ipv4_parts word small)
    ∙ ap (option_and_then ipv4_words) (read_back 10 3 (ipv4_bytes word) (read_bytes word small) (omega arith))
    ∙ bytes_of_word _ _ _ _ word (omega arith) (omega arith) (omega arith) (omega arith) (omega arith)

between_ipv4 : (word : ℕ) → word < 2 ^ 32
    → prefix_between (ipv4_text word) (codes "32")
    ≡ Ok (record { family = 4; words = word ∷ 0 ∷ 0 ∷ 0 ∷ []; bits = 32 })
unfolding prefix_between with_length bits_of
between_ipv4 word small = rw (ipv4_reads word small) refl

-- the text of an IPv4 address with its whole length
pub whole_ipv4 : (word : ℕ) → word < 2 ^ 32
    → prefix_of (ipv4_text word ++ codes "/32") ≡ Ok (record { family = 4; words = word ∷ 0 ∷ 0 ∷ 0 ∷ []; bits = 32 })
whole_ipv4 word small =
    split_slash (ipv4_text word) (codes "32") (ipv4-free 47 word small (omega arith) refl) ∙ between_ipv4 word small

-- no gap begins within digits
gap_past : (xs rest : List ℕ) → IsFree 58 xs → gap_place (xs ++ rest) ≡ length xs + gap_place rest
gap_past [] rest free = omega arith
gap_past (c ∷ cs) rest free =
    let others = gap_past cs rest (All-tail (λ b. (b == 58) ≡ false) c cs free) in
    let step : gap_place (c ∷ (cs ++ rest)) ≡ 1 + gap_place (cs ++ rest) = rw
    (All-head (λ b. (b == 58) ≡ false) c cs free) refl in
    omega (arith, others, step)

no_gap : (xs : List ℕ) → IsFree 58 xs → gap_place xs ≡ length xs
no_gap [] free = refl
no_gap (c ∷ cs) free =
    let others = no_gap cs (All-tail (λ b. (b == 58) ≡ false) c cs free) in
    let step : gap_place (c ∷ cs) ≡ 1 + gap_place cs = rw (All-head (λ b. (b == 58) ≡ false) c cs free) refl in
    omega (arith, others, step)

first_free : (byte : ℕ) (xs rest : List ℕ) → 0 < length xs → IsFree byte xs
    → (slice_index (xs ++ rest) 0 == byte) ≡ false
first_free byte [] rest some free = absurd (omega (arith, some))
first_free byte (c ∷ cs) rest some free = All-head (λ b. (b == byte) ≡ false) c cs free

-- a text of hexadecimal groups with colons
record IsGroups (text groups : List ℕ) : Type 0 where
  parts : slice_split is_colon text ≡ map hexadecimal groups
  whole : gap_place text ≡ length text
  first : (slice_index text 0 == 58) ≡ false
  some : 0 < length text
  no_dot : IsFree 46 text
  no_slash : IsFree 47 text
  each : AllByRecursion (IsRead 16 4) groups

last_group : (n : ℕ) → n < 65536 → IsGroups (hexadecimal n) (n ∷ [])
last_group n small =
    let read = reads_group n small in
    let free : (byte : ℕ) → 16 ≤ digit_value byte → IsFree byte
    (hexadecimal n) = λ byte none. free_digits 16 byte _ none read.each in
    let colon = free 58 (omega arith) in
    record {
      parts = slice_split_none is_colon (hexadecimal n) colon;
      whole = no_gap (hexadecimal n) colon;
      first =
          ap (λ l. slice_index l 0 == 58) (sym (append-nil (hexadecimal n)))
          ∙ first_free 58 (hexadecimal n) [] read.some colon;
      some = read.some;
      no_dot = free 46 (omega arith);
      no_slash = free 47 (omega arith);
      each = (read, tt);
    }

next_group : (n : ℕ) (text groups : List ℕ) → n < 65536 → IsGroups text groups
    → IsGroups (hexadecimal n ++ (58 ∷ text)) (n ∷ groups)
next_group n text groups small behind =
    let read = reads_group n small in
    let free : (byte : ℕ) → 16 ≤ digit_value byte → IsFree byte
    (hexadecimal n) = λ byte none. free_digits 16 byte _ none read.each in
    let colon = free 58 (omega arith) in
    let step : gap_place (58 ∷ text) ≡ 1 + gap_place text = rw behind.first refl in
    record {
      parts = slice_split_at is_colon (hexadecimal n) 58 text colon refl ∙ ap (λ l. hexadecimal n ∷ l) behind.parts;
      whole =
          omega (
            arith,
            gap_past (hexadecimal n) (58 ∷ text) colon,
            step,
            behind.whole,
            length-append (hexadecimal n)
                (58 ∷ text),
          );
      first = first_free 58 (hexadecimal n) (58 ∷ text) read.some colon;
      some = omega (arith, read.some, length-append (hexadecimal n) (58 ∷ text));
      no_dot = free_around 46 58 (hexadecimal n) text refl (free 46 (omega arith)) behind.no_dot;
      no_slash = free_around 47 58 (hexadecimal n) text refl (free 47 (omega arith)) behind.no_slash;
      each = (read, behind.each);
    }

two_more : (word : ℕ) (text groups : List ℕ) → word < 2 ^ 32 → IsGroups text groups
    → IsGroups (two_groups word ++ (58 ∷ text)) (word / 65536 ∷ word % 65536 ∷ groups)
two_more word text groups small behind =
    subst (λ t. IsGroups t (word / 65536 ∷ word % 65536 ∷ groups))
    (sym (append_assoc (hexadecimal (word / 65536)) (58 ∷ hexadecimal (word % 65536)) (58 ∷ text)))
    (next_group _ _ _ (omega arith) (next_group _ _ _ (omega arith) behind))

-- the eight groups of four words
ipv6_groups : List ℕ → ℕ → List ℕ
ipv6_groups words at =
    slice_index words at / 65536 ∷ slice_index words at % 65536
    ∷ slice_index words (at + 1) / 65536 ∷ slice_index words (at + 1) % 65536
    ∷ slice_index words (at + 2) / 65536 ∷ slice_index words (at + 2) % 65536
    ∷ slice_index words (at + 3) / 65536 ∷ slice_index words (at + 3) % 65536 ∷ []

are_groups : (words : List ℕ) (at : ℕ) → ((k : ℕ) → slice_index words k < 2 ^ 32)
    → IsGroups (ipv6_text words at) (ipv6_groups words at)
unfolding ipv6_text ipv6_groups
are_groups words at small =
    two_more _ _ _ (small at) (two_more _ _ _ (small (at + 1)) (two_more _ _ _ (small (at + 2))
    (next_group _ _ _ (omega (arith, small (at + 3))) (last_group _ (omega (arith, small (at + 3)))))))

joined : (word : ℕ) → 65536 * (word / 65536) + word % 65536 ≡ word
joined word = omega arith

words_of_groups : (words : List ℕ) (at : ℕ) → group_words (ipv6_groups words at) ≡ words_from words at
unfolding group_words ipv6_groups
words_of_groups words at = λ i.
    joined (slice_index words at) i ∷ joined (slice_index words (at + 1)) i
    ∷ joined (slice_index words (at + 2)) i ∷ joined (slice_index words (at + 3)) i ∷ []

groups_read : (text groups : List ℕ) → IsGroups text groups → length groups ≤ 8 → groups_of text ≡ Some groups
unfolding groups_of
groups_read text groups are few =
    rw (ne_eqb (length text) 0 (λ none. omega (arith, none, are.some)))
    (ap (numbers_of 16 4) are.parts ∙ read_back 16 4 groups are.each few)

eight_read : (groups : List ℕ) → length groups ≡ 8 → eight_groups groups ≡ Some (group_words groups)
unfolding eight_groups
eight_read groups eight = rw (eq-eqb (length groups) 8 eight) refl

ipv6_by_groups : (text groups : List ℕ) → IsGroups text groups → length groups ≡ 8
    → ipv6_address text ≡ Some (group_words groups)
unfolding ipv6_address
ipv6_by_groups text groups are eight =
    rw (
      le-ltb (gap_place text) (length text) (omega (arith, are.whole)),
      groups_read text groups are
          (omega (arith, eight)),
    ) (eight_read groups eight)

-- a text without a dot is no IPv4 address
one_number : (text : List ℕ) (b : Bool) → is_number 10 3 text ≡ b
    → option_and_then ipv4_words (numbers_of 10 3 (text ∷ [])) ≡ None
unfolding numbers_of ipv4_words
one_number text true is = rw is refl
one_number text false is = rw is refl

no_ipv4 : (text : List ℕ) → IsFree 46 text → ipv4_address text ≡ None
unfolding ipv4_address
no_ipv4 text free =
    ap (λ parts. option_and_then ipv4_words (numbers_of 10 3 parts)) (slice_split_none is_dot text free)
    ∙ one_number text _ refl

between_ipv6 : (words : List ℕ) (at : ℕ) → ((k : ℕ) → slice_index words k < 2 ^ 32)
    → prefix_between (ipv6_text words at) (codes "128")
    ≡ Ok (record { family = 6; words = words_from words at; bits = 128 })
unfolding prefix_between with_length bits_of ipv6_groups
between_ipv6 words at small =
    let are = are_groups words at small in
    let read = ipv6_by_groups _ _ are refl ∙ ap Some (words_of_groups words at) in
    rw (no_ipv4 _ are.no_dot, read) refl

-- the text of an IPv6 address with its whole length
pub whole_ipv6 : (words : List ℕ) (at : ℕ) → ((k : ℕ) → slice_index words k < 2 ^ 32)
    → prefix_of (ipv6_text words at ++ codes "/128")
    ≡ Ok (record { family = 6; words = words_from words at; bits = 128 })
whole_ipv6 words at small =
    split_slash (ipv6_text words at) (codes "128") (are_groups words at small).no_slash ∙ between_ipv6 words at small
