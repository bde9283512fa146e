-- The first bytes of a reply, and its version.
use Rattle.std.proofs.Common.{◌≡◌, ◌==◌, ◌&&◌, ◌||◌, ℕ, List, [], ◌∷◌, length, true, inl, inr, ap, arith, eqb-true}
use Rattle.std.proofs.lemmas.Bool.{and_parts, or_cases}
use Rattle.reply_format.specs.Places.{is_magic}
use Rattle.reply_format.specs.Reply.{IsVersion}

-- UMRP
abbrev pub magic_bytes : List ℕ
magic_bytes = 0x55 ∷ 0x4d ∷ 0x52 ∷ 0x50 ∷ []

-- four bytes that are right are these
pub magic_is : (b : List ℕ) → length b ≡ 4 → is_magic b ≡ true → b ≡ magic_bytes
magic_is [] size is = absurd (omega (arith, size))
magic_is (x ∷ []) size is = absurd (omega (arith, size))
magic_is (x ∷ y ∷ []) size is = absurd (omega (arith, size))
magic_is (x ∷ y ∷ z ∷ []) size is = absurd (omega (arith, size))
magic_is (x ∷ y ∷ z ∷ w ∷ []) size is =
    let a = and_parts (x == 0x55 && y == 0x4d && z == 0x52) (w == 0x50) is in
    let b = and_parts (x == 0x55 && y == 0x4d) (z == 0x52) a.0 in
    let c = and_parts (x == 0x55) (y == 0x4d) b.0 in
    λ i. eqb-true x 0x55 c.0 i ∷ eqb-true y 0x4d c.1 i ∷ eqb-true z 0x52 b.1 i ∷ eqb-true w 0x50 a.1 i ∷ []
magic_is (x ∷ y ∷ z ∷ w ∷ v ∷ b) size is = absurd (omega (arith, size))

-- a version that is right is known
pub version_is : (v : ℕ) → (v == 1 || v == 2) ≡ true → IsVersion v
version_is v is =
    elim (or_cases (v == 1) (v == 2) is) [ inl one ↦ inl (eqb-true v 1 one) | inr two ↦ inr (eqb-true v 2 two) ]

-- and one that is known is right
pub version_known : (version : ℕ) → IsVersion version → (version == 1 || version == 2) ≡ true
version_known version (inl is) = ap (λ (v : ℕ). v == 1 || v == 2) is
version_known version (inr is) = ap (λ (v : ℕ). v == 1 || v == 2) is
