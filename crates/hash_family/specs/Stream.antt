-- The coefficients as the stream of a seed gives them, one after another.
use Rattle.std.specs.Prelude.{◌≡◌, ℕ, ◌+◌, ◌*◌, ◌%◌, ◌^◌, ◌<◌, List, length, slice_index}
use Rattle.rand_chacha.specs.ChaCha.{ChaCha, key_of}
use Rattle.hash_family.specs.Hash.{seed_bytes, word, prime}

-- the generator of a seed, before word n of its stream
unfoldable pub stream_at : ℕ → ℕ → ChaCha
stream_at seed n = record { key = key_of (seed_bytes seed); stream = 0; word_pos = n }

-- coefficient n of all functions, counted through
unfoldable pub drawn : ℕ → ℕ → ℕ
drawn seed n = (word seed (2 * n) + 2 ^ 32 * word seed (2 * n + 1)) % prime

-- coefficient n was taken off the stream
pub record DrawsOne (seed n value : ℕ) (after : ChaCha) : Type 0 where
  pub coefficient : value ≡ drawn seed n
  pub rest : after ≡ stream_at seed (2 * (n + 1))

-- the coefficients of the 254 functions of a seed, twelve each
pub record AreOfSeed (seed : ℕ) (coefficients : List ℕ) : Type 0 where
  pub size : length coefficients ≡ 3048
  pub each : (n : ℕ) → n < 3048 → slice_index coefficients n ≡ drawn seed n
