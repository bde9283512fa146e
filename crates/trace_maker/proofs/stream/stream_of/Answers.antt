use Rattle.std.proofs.Common.{List, ℕ, ◌++◌, replicate, set, ap, ◌∙◌}
use Rattle.rand_chacha.specs.ChaCha.{of_seed}
use Rattle.trace_maker.specs.Stream.{stream_at, stream_key}
use Rattle.trace_maker.proofs.stream.stream_of.Goals as goal

pub returns : goal.returns
unfolding stream_at stream_key
returns c =
    c.from_seed.ensures
    ∙ ap (λ (bytes : List ℕ). of_seed (set (bytes ++ replicate 24 0) 8 1))
    (c.copy_from_slice.ensures.after ∙ c.to_le_bytes.ensures)
