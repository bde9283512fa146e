-- The words that a trace is drawn from.
use Rattle.std.specs.Prelude.{ℕ, List, ◌∷◌, ◌++◌, replicate}
use Rattle.std.specs.Int.{w64, to_le_bytes}
use Rattle.rand_chacha.specs.ChaCha.{ChaCha, word_at, key_of}

-- the key of the stream: the seed in eight little-endian bytes, a byte of 1, and 23 zero bytes
unfoldable pub stream_key : ℕ → List ℕ
stream_key seed = to_le_bytes w64 seed ++ 1 ∷ replicate 23 0

-- RFC 8439: word n of stream 0 of ChaCha20 under that key
unfoldable pub word : ℕ → ℕ → ℕ
word seed n = word_at 10 (key_of (stream_key seed)) 0 n

-- the generator of a seed, before word n of its stream
unfoldable pub stream_at : ℕ → ℕ → ChaCha
stream_at seed n = record { key = key_of (stream_key seed); stream = 0; word_pos = n }
