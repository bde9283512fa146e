-- What clauses see of a sink, and what a write appends to it.
use Rattle.std.specs.Prelude.{◌≡◌, ℕ, ◌+◌, ◌<◌, ◌≤◌, List, ◌++◌, length, take, Option, Result, MatchResult}
use Rattle.std.specs.Io.KnownBytes.{append_known}

-- Bytes that aren't told are None.
pub record SinkState : Type 0 where
  pub written : Option (List ℕ)
  pub faults : ℕ

-- bytes were appended
pub record Grew (old new : Option (List ℕ)) (bytes : List ℕ) : Type 0 where
  pub appended : new ≡ append_known old bytes

-- a prefix of bytes was appended
pub record GrewByPart (old new : Option (List ℕ)) (bytes : List ℕ) : Type 0 where
  pub front : List ℕ
  pub back : List ℕ
  pub parts : bytes ≡ front ++ back
  pub grew : Grew old new front

-- a write appended the bytes that it took, at least one where it was given one, and nothing where it failed
abbrev pub Writes : {E : Type 0} → Option (List ℕ) → Option (List ℕ) → Result ℕ E → List ℕ → Type 0
Writes old new result piece = MatchResult result
    (λ n. (n ≤ length piece) × (0 < length piece → 0 < n) × Grew old new (take n piece))
    (λ _. new ≡ old)

-- a write fails only where no room was sure, and takes no more off it than it appended
abbrev pub KeepsRoom : {E : Type 0} → ℕ → ℕ → Result ℕ E → Type 0
KeepsRoom before now result = MatchResult result (λ n. before ≤ now + n) (λ _. before ≡ 0)
