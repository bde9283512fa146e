-- The hash functions of a seed: linear forms of a key's eleven words modulo a prime.
use Rattle.std.specs.Prelude.{ℕ, zero, suc, ◌+◌, ◌-◌, ◌*◌, ◌%◌, ◌^◌, ◌==◌, ◌&&◌, Bool, true, if◌then◌else◌}
use Rattle.std.specs.Prelude.{List, ◌++◌, slice_index, replicate, ℤ, pos, negsuc}
use Rattle.std.specs.Int.{w64, to_le_bytes}
use Rattle.rand_chacha.specs.ChaCha.{word_at, key_of}

-- the prime 2^61 - 1
abbrev pub prime : ℕ
prime = 2305843009213693951

-- the key of the stream: the seed in eight little-endian bytes, and 24 zero bytes
unfoldable pub seed_bytes : ℕ → List ℕ
seed_bytes seed = to_le_bytes w64 seed ++ replicate 24 0

-- RFC 8439: word n of stream 0 of ChaCha20 under that key
unfoldable pub word : ℕ → ℕ → ℕ
word seed n = word_at 10 (key_of (seed_bytes seed)) 0 n

-- coefficient i of a function: two words of the stream, the low one first, modulo the prime
unfoldable pub coefficient : ℕ → ℕ → ℕ → ℕ
coefficient seed function i =
    (word seed (24 * function + 2 * i) + 2 ^ 32 * word seed (24 * function + 2 * i + 1)) % prime

-- f 0 + f 1 + .. up to below n
abbrev pub sum_below : (ℕ → ℕ) → ℕ → ℕ
sum_below f zero = 0
sum_below f (suc n) = sum_below f n + f n

-- a function's value at a key: coefficient 0, and coefficient i + 1 times word i of the key, modulo the prime
unfoldable pub hash : ℕ → ℕ → List ℕ → ℕ
hash seed function key =
    (coefficient seed function 0 + sum_below (λ i. coefficient seed function (i + 1) * slice_index key i) 11) % prime

-- the number of the function that samples for a level from 1 to 16
abbrev pub sample_function : ℕ → ℕ
sample_function level = level - 1

-- the number of the function that gives the bucket in a row of a level; the function of the sign is the next
abbrev pub bucket_function : ℕ → ℕ → ℕ
bucket_function level row = 16 + 2 * (7 * level + row)

abbrev pub sign_function : ℕ → ℕ → ℕ
sign_function level row = bucket_function level row + 1

-- a level samples the keys with an odd hash
unfoldable pub is_sampled : ℕ → ℕ → List ℕ → Bool
is_sampled seed level key = hash seed (sample_function level) key % 2 == 1

-- the place of a key's counter in a row
unfoldable pub bucket : ℕ → ℕ → ℕ → ℕ → List ℕ → ℕ
bucket seed level row width key = hash seed (bucket_function level row) key % width

-- with which sign a key counts in a row: 1 at an odd hash, else -1
unfoldable pub sign : ℕ → ℕ → ℕ → List ℕ → ℤ
sign seed level row key = if hash seed (sign_function level row) key % 2 == 1 then pos 1 else negsuc 0

-- a key is live at a level where each level from 1 up to it samples the key
unfoldable pub is_live : ℕ → ℕ → List ℕ → Bool
is_live seed zero key = true
is_live seed (suc level) key = is_live seed level key && is_sampled seed (suc level) key
