-- A list that is cut into segments of one length.
use Rattle.std.proofs.Common.{◌≡◌, ◌≢◌, ◌⊎◌, ℕ, ◌+◌, ◌*◌, ◌-◌, ◌<◌, ◌≤◌, List, length, take, drop, get_or, ◌∙◌, ap, arith, inl, inr}
use Rattle.std.specs.Prelude.{slice_set}
use Rattle.std.proofs.Math.Nat.{mul-le-mul_right}
use Rattle.std.proofs.Math.Seq.{take-set-lt}
use Rattle.std.proofs.lemmas.List.{drop-set-add, drop-set-lt, get_or-drop, get_or-take, length-drop, length-take-le, take-set-le}
use Rattle.replay_places.specs.Epochs.{segment}

-- an element of a segment
pub segment_at : {X : Type 0} (n e k : ℕ) (xs : List X) (d : X) → k < n
    → get_or (segment n e xs) k d ≡ get_or xs (e * n + k) d
segment_at n e k xs d within = get_or-take n (drop (e * n) xs) k d within ∙ get_or-drop (e * n) xs k d

-- a segment that lies within the list
pub segment_length : {X : Type 0} (n e m : ℕ) (xs : List X) → length xs ≡ m * n → e < m → length (segment n e xs) ≡ n
segment_length n e m xs size within =
    let below : (e + 1) * n ≤ m * n = mul-le-mul_right n (omega arith) in
    let rest = length-drop (e * n) xs in
    length-take-le n (drop (e * n) xs) (omega (arith, below, rest, size))

-- a write into a segment
pub segment_set : {X : Type 0} (n e k : ℕ) (xs : List X) (v : X) → k < n
    → segment n e (slice_set xs (e * n + k) v) ≡ slice_set (segment n e xs) k v
segment_set n e k xs v within = ap (take n) (drop-set-add (e * n) xs k v) ∙ take-set-lt n (drop (e * n) xs) k v within

-- a write into another segment
pub segment_other : {X : Type 0} (n e f k : ℕ) (xs : List X) (v : X) → k < n → f ≢ e
    → segment n f (slice_set xs (e * n + k) v) ≡ segment n f xs
segment_other {X} n e f k xs v within other = elim (apart f e other) [
  | inl lower ↦
      let below : (f + 1) * n ≤ e * n = mul-le-mul_right n (omega arith) in
      let behind = e * n + k - f * n in
      let place : e * n + k ≡ f * n + behind = omega (arith, below) in
      ap (λ (j : ℕ). segment n f (slice_set xs j v)) place
      ∙ ap (take n) (drop-set-add (f * n) xs behind v)
      ∙ take-set-le n (drop (f * n) xs) behind v (omega (arith, below))
  | inr higher ↦
      let below : (e + 1) * n ≤ f * n = mul-le-mul_right n (omega arith) in
      ap (take n) (drop-set-lt (f * n) xs (e * n + k) v (omega (arith, below)))
]
  where
    apart : (a b : ℕ) → a ≢ b → (a < b) ⊎ (b < a)
    apart a b other = grind arith
