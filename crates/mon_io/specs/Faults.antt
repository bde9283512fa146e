-- Counts of faults, and what a failed call shows of them.
use Rattle.std.specs.Prelude.{◌≡◌, ℕ, ◌+◌, ◌-◌, ◌^◌, ◌≤◌, ◌==◌, min, Bool, List, Result, OnErr, MatchResult}
use Rattle.std.specs.List.{list_any}

-- a count of 64 bits, one on: it stays where it stands at its greatest value
abbrev pub next_count : ℕ → ℕ
next_count count = min (count + 1) (2 ^ 64 - 1)

-- the count rose, or stands at its greatest value
abbrev pub Rose : ℕ → ℕ → Type 0
Rose before now = next_count before ≤ now

-- a count of faults doesn't fall, and a call fails only where it rose
pub record HasCause {T E : Type 0} (before now : ℕ) (result : Result T E) : Type 0 where
  pub later : before ≤ now
  pub failed : OnErr result (Rose before now)

-- a count of faults goes one on in a call that fails, and stays in one that doesn't
abbrev pub CountsFailure : {T E : Type 0} → ℕ → ℕ → Result T E → Type 0
CountsFailure before now result = MatchResult result (λ _. now ≡ before) (λ _. now ≡ next_count before)

-- the call with this number, counted from 0, is one of those that are to fail
abbrev pub is_due : List ℕ → ℕ → Bool
is_due fails calls = list_any (λ number. number == calls) fails
