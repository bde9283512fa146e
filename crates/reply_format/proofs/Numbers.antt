-- Bytes, and one byte.
use Rattle.std.proofs.Common.{◌≡◌, ◌<◌, ℕ, List, [], ◌∷◌, length, get_or, All, arith, refl}

-- bytes are below 256
abbrev pub AreBytes : List ℕ → Type 0
AreBytes bytes = All (λ byte. byte < 256) bytes

-- one byte
pub one_byte : (b : List ℕ) → length b ≡ 1 → b ≡ get_or b 0 0 ∷ []
one_byte [] size = absurd (omega (arith, size))
one_byte (x ∷ []) size = refl
one_byte (x ∷ y ∷ b) size = absurd (omega (arith, size))
