-- What a sink passes on to a writer.
use Rattle.std.specs.Prelude.{ℕ, ◌<◌, ◌≤◌, List, length, take, Option, Result, MatchResult}
use Rattle.std.specs.Io.KnownBytes.{Appends, Keeps}

-- a write appended the bytes that it took to those of the writer, at least one where it was given one, and nothing where it failed
abbrev pub PassesOn : {E : Type 0} → Option (List ℕ) → Option (List ℕ) → Result ℕ E → List ℕ → Type 0
PassesOn old new result piece = MatchResult result
    (λ n. (n ≤ length piece) × (0 < length piece → 0 < n) × Appends old new (take n piece))
    (λ _. Keeps old new)
