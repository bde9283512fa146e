use Rattle.std.proofs.Common.{ℕ, List, ◌++◌, replicate, ap, ◌∙◌}
use Rattle.rand_chacha.specs.ChaCha.{of_seed}
use Rattle.hash_family.specs.Hash.{seed_bytes}
use Rattle.hash_family.specs.Stream.{stream_at}
use Rattle.hash_family.proofs.coefficients.stream_of.Goals as goal

pub returns : goal.returns
unfolding stream_at seed_bytes
returns c =
    c.from_seed.ensures
    ∙ ap (λ (bytes : List ℕ). of_seed (bytes ++ replicate 24 0))
    (c.copy_from_slice.ensures.after ∙ c.to_le_bytes.ensures)
