-- Coefficients drawn one after another.
use Rattle.std.proofs.Common.{◌≡◌, ℕ, ◌*◌, ◌<◌, List, length, slice_index}
use Rattle.rand_chacha.specs.ChaCha.{ChaCha}
use Rattle.hash_family.specs.Stream.{stream_at, drawn}

-- n coefficients are drawn
pub record Drawn (seed n : ℕ) (coefficients : List ℕ) (stream : ChaCha) : Type 0 where
  pub size : length coefficients ≡ n
  pub each : (k : ℕ) → k < n → slice_index coefficients k ≡ drawn seed k
  pub rest : stream ≡ stream_at seed (2 * n)
