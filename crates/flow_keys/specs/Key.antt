-- Flow keys as eleven words: family, source (4 words), destination (4 words), ports, protocol.
use Rattle.std.specs.Prelude.{◌≡◌, ℕ, ◌<◌, ◌^◌, ◌==◌, ◌&&◌, ◌||◌, nat_le, Bool, List, length, slice_index, All, IsTrue}
use Rattle.std.specs.Prelude.{◌+◌, ◌*◌, ◌++◌, [], if◌then◌else◌}
use Rattle.std.specs.Hash as fed

-- the address words that IPv4 has no use for are 0
abbrev pub has_short_addresses : List ℕ → Bool
has_short_addresses words =
    (slice_index words 2 == 0 && slice_index words 3 == 0 && slice_index words 4 == 0)
    && (slice_index words 6 == 0 && slice_index words 7 == 0 && slice_index words 8 == 0)

-- family 4 or 6, a protocol of one byte, and no more than one word an address in family 4
abbrev pub is_valid : List ℕ → Bool
is_valid words =
    ((slice_index words 0 == 4 && has_short_addresses words) || slice_index words 0 == 6)
    && nat_le (slice_index words 10) 255

-- what every flow key is
pub record IsKey (words : List ℕ) : Type 0 where
  pub size : length words ≡ 11
  pub each : All (λ word. word < 2 ^ 32) words
  pub valid : IsTrue (is_valid words)

-- two words as one number
abbrev pub pair : ℕ → ℕ → ℕ
pair high low = 4294967296 * high + low

-- what is hashed of a key: the first word of each address, the protocol and the ports, and in family 6 the other words
unfoldable pub hashed_words : List ℕ → fed.HashWrites
hashed_words words =
    fed.u64 (pair (slice_index words 1) (slice_index words 5))
    ++ fed.u64 (pair (slice_index words 10) (slice_index words 9))
    ++ (if slice_index words 0 == 4 then []
    else fed.u64 (pair (slice_index words 2) (slice_index words 6))
    ++ fed.u64 (pair (slice_index words 3) (slice_index words 7))
    ++ fed.u64 (pair (slice_index words 4) (slice_index words 8)))
