-- Sums and differences place by place, and the numbers of which they fit.
use Rattle.std.specs.Prelude.{ℕ, ◌≤◌, List, ℤ, ◌+ℤ◌, ◌-ℤ◌, unsigned_abs, All}
use Rattle.std.specs.Simd.Lanes.{zip2}

abbrev pub plus : List ℤ → List ℤ → List ℤ
plus xs ys = zip2 ◌+ℤ◌ xs ys

abbrev pub minus : List ℤ → List ℤ → List ℤ
minus xs ys = zip2 ◌-ℤ◌ xs ys

-- each absolute value is at most n
abbrev pub AllUpTo : ℕ → List ℤ → Type 0
AllUpTo n xs = All (λ x. unsigned_abs x ≤ n) xs
