-- What a bound says of a cost.
use Rattle.std.specs.Prelude.{ℕ, Option, None, Some, ℤ, pos, ◌≤ℤ◌}

-- a bound is at most a cost; where there is none, there is no such cost
abbrev pub IsBelow : Option ℤ → ℕ → Type 0
IsBelow None c = ⊥
IsBelow (Some b) c = b ≤ℤ pos c

-- a bound is at least a number, where there is one
abbrev pub IsAtLeast : ℕ → Option ℤ → Type 0
IsAtLeast n None = Unit {0}
IsAtLeast n (Some b) = pos n ≤ℤ b
