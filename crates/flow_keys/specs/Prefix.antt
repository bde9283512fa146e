-- IP prefixes: their text, and the flow keys that they hold.
use Rattle.std.specs.Prelude.{◌≡◌, ℕ, ◌+◌, ◌-◌, ◌*◌, ◌/◌, ◌^◌, ◌==◌, ◌&&◌, ◌||◌, nat_lt, nat_le, Bool, List, [], ◌∷◌, ◌++◌, length, take, drop, map, replicate, slice_index, codes, Option, Some, None, option_and_then, Result, Ok, Err, if◌then◌else◌}
use Rattle.std.specs.List.{list_all, slice_split, position_or_len, before_first, after_first}
use Rattle.std.specs.Char.{is_digit}
use Rattle.std.specs.Option.{option_map_or}
use Rattle.std.specs.Str.Parse.{digits_value}
use Rattle.flow_keys.specs.Numbers.{big_32}
use Rattle.flow_keys.specs.Text.{address_text}
use Rattle.flow_keys.specs.declared.prefix_fault.PrefixFault.{PrefixFault}
use Rattle.flow_keys.specs.declared.prefix_fault.PrefixFault.TheVariants.{Address, Length}
use Rattle.flow_keys.specs.declared.side.Side.{Side}
use Rattle.flow_keys.specs.declared.side.Side.TheVariants.{Source, Destination}

-- a prefix: its family (4 or 6), the four words of its address, and how many bits from the first on count
pub record Seen : Type 0 where
  pub family : ℕ
  pub words : List ℕ
  pub bits : ℕ

-- the bits of an address of a family
abbrev pub family_bits : ℕ → ℕ
family_bits family = if family == 4 then 32 else 128

-- family 4 or 6, no more bits than an address has, and 0 in the words that an IPv4 address has no use for
abbrev pub is_prefix : ℕ → List ℕ → ℕ → Bool
is_prefix family words bits =
    (family == 4 && slice_index words 1 == 0 && slice_index words 2 == 0 && slice_index words 3 == 0 && nat_le bits 32)
    || (family == 6 && nat_le bits 128)

-- the bytes '.' (46), '/' (47) and ':' (58)
abbrev pub is_dot : ℕ → Bool
is_dot byte = byte == 46

abbrev pub is_slash : ℕ → Bool
is_slash byte = byte == 47

abbrev pub is_colon : ℕ → Bool
is_colon byte = byte == 58

-- one digit or more in a base, and no more than this many
abbrev pub is_number : ℕ → ℕ → List ℕ → Bool
is_number base most digits =
    nat_le 1 (length digits) && nat_le (length digits) most && list_all (λ digit. is_digit digit base) digits

-- the number that digits spell
abbrev pub number_of : ℕ → ℕ → List ℕ → Option ℕ
number_of base most digits = if is_number base most digits then Some (digits_value base digits) else None

-- the numbers that parts spell, None where a part is no number or there are more than eight, the most that an address has
unfoldable pub numbers_of : ℕ → ℕ → List (List ℕ) → Option (List ℕ)
numbers_of base most parts =
    if list_all (is_number base most) parts && nat_le (length parts) 8 then Some
    (map (digits_value base) parts) else None

-- numbers and one more, eight at most
unfoldable pub pushed : ℕ → ℕ → List ℕ → List ℕ → Option (List ℕ)
pushed base most numbers part =
    if is_number base most part && nat_lt (length numbers) 8 then Some
    (numbers ++ digits_value base part ∷ []) else None

-- four numbers of 0 to 255 are the bytes of the first word, and the other words are 0
unfoldable pub ipv4_words : List ℕ → Option (List ℕ)
ipv4_words numbers =
    if length numbers == 4 && list_all (λ number. nat_le number 255) numbers
    then Some (big_32 numbers 0 ∷ 0 ∷ 0 ∷ 0 ∷ [])
    else None

-- an IPv4 address: four decimal numbers of up to three digits, with dots
unfoldable pub ipv4_address : List ℕ → Option (List ℕ)
ipv4_address text = option_and_then ipv4_words (numbers_of 10 3 (slice_split is_dot text))

-- hexadecimal groups of up to four digits, with colons; none at all in an empty text
unfoldable pub groups_of : List ℕ → Option (List ℕ)
groups_of text = if length text == 0 then Some [] else numbers_of 16 4 (slice_split is_colon text)

-- the place of the first '::', the length where there is none
abbrev pub gap_place : List ℕ → ℕ
gap_place [] = 0
gap_place (byte ∷ bytes) = if is_colon byte && slice_index bytes 0 == 58 then 0 else 1 + gap_place bytes

-- the word of two groups from a place on
abbrev pub group_word : List ℕ → ℕ → ℕ
group_word groups at = 65536 * slice_index groups at + slice_index groups (at + 1)

-- the four words of eight groups
unfoldable pub group_words : List ℕ → List ℕ
group_words groups = group_word groups 0 ∷ group_word groups 2 ∷ group_word groups 4 ∷ group_word groups 6 ∷ []

-- eight groups
unfoldable pub eight_groups : List ℕ → Option (List ℕ)
eight_groups groups = if length groups == 8 then Some (group_words groups) else None

-- eight groups, those between front and back of 0
abbrev pub filled : List ℕ → List ℕ → List ℕ
filled front back = front ++ (replicate (8 - (length front + length back)) 0 ++ back)

-- the groups in front of a gap and behind it, at most seven, so that the gap stands for one group or more
unfoldable pub groups_around : List ℕ → List ℕ → Option (List ℕ)
groups_around front back =
    if nat_le (length front + length back) 7 then Some (group_words (filled front back)) else None

-- an IPv6 address: eight groups, or fewer around one '::'
unfoldable pub ipv6_address : List ℕ → Option (List ℕ)
ipv6_address text =
    if nat_lt (gap_place text) (length text)
    then option_and_then
    (λ front. option_and_then (groups_around front) (groups_of (drop (gap_place text + 2) text)))
    (groups_of (take (gap_place text) text))
    else option_and_then eight_groups (groups_of text)

-- a length: a decimal number of up to three digits, at most so many bits
unfoldable pub bits_of : ℕ → List ℕ → Option ℕ
bits_of most digits = option_and_then (λ bits. if nat_le bits most then Some bits else None) (number_of 10 3 digits)

-- a prefix of an address that is read, with the text of its length
unfoldable pub with_length : ℕ → List ℕ → List ℕ → Result Seen PrefixFault
with_length family digits words =
    option_map_or (λ bits. Ok (record {
      family =
          family;
      words = words;
      bits = bits;
    })) (bits_of (family_bits family) digits) (Err Length)

-- the text of an address and the text of a length
unfoldable pub prefix_between : List ℕ → List ℕ → Result Seen PrefixFault
prefix_between address digits =
    option_map_or (with_length 4 digits) (ipv4_address address)
    (option_map_or (with_length 6 digits) (ipv6_address address) (Err Address))

-- the prefix that a text spells: an address, '/' and the length
unfoldable pub prefix_of : List ℕ → Result Seen PrefixFault
prefix_of text =
    if nat_lt (position_or_len is_slash text) (length text)
    then prefix_between (before_first is_slash text) (after_first is_slash text)
    else Err Address

-- the word of a flow key at which an address begins
abbrev pub first_word : Side → ℕ
first_word Source = 1
first_word Destination = 5

-- four words from a place on as a number of 128 bits
unfoldable pub address_number : List ℕ → ℕ → ℕ
address_number words at =
    slice_index words at * 2 ^ 96 + slice_index words (at + 1) * 2 ^ 64 + slice_index words
    (at + 2) * 2 ^ 32 + slice_index words (at + 3)

-- the first bits of a number of 128 bits
abbrev pub first_bits : ℕ → ℕ → ℕ
first_bits bits number = number / 2 ^ (128 - bits)

-- the key is of the prefix's family, and the first bits of its address on this side are those of the prefix
unfoldable pub holds : Seen → List ℕ → Side → Bool
holds prefix key side =
    prefix.family == slice_index key 0
    && first_bits prefix.bits (address_number prefix.words 0) == first_bits prefix.bits
    (address_number key (first_word side))

-- four words from a place on
abbrev pub words_from : List ℕ → ℕ → List ℕ
words_from words at =
    slice_index words at ∷ slice_index words (at + 1) ∷ slice_index words (at + 2) ∷ slice_index words (at + 3) ∷ []

-- the address of a key on a side
abbrev pub address_of : List ℕ → Side → List ℕ
address_of key side = words_from key (first_word side)

-- a whole address behind which its length stands
abbrev pub whole_text : List ℕ → Side → List ℕ
whole_text key side =
    address_text key (first_word side) ++ (if slice_index key 0 == 4 then codes "/32" else codes "/128")

-- the prefix of all bits of a key's address
abbrev pub whole_prefix : List ℕ → Side → Seen
whole_prefix key side = record {
  family = slice_index key 0;
  words = address_of key side;
  bits = family_bits (slice_index key 0);
}

-- two keys are of one family, and the one on its side has the address of the other on its side
abbrev pub HasAddress : List ℕ → Side → List ℕ → Side → Type 0
HasAddress other at key side = (slice_index other 0 ≡ slice_index key 0) × (address_of other at ≡ address_of key side)
