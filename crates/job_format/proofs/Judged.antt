-- What a field is, where it was judged right.
use Rattle.std.proofs.Common.{◌≡◌, ◌≤◌, ℕ, ◌&&◌, ◌==◌, nat_le, Bool, true, false, cond, List, [], ◌∷◌, ◌++◌, length, slice_index, Result, Ok, refl, ◌∙◌, ap, subst, arith}
use Rattle.std.proofs.lemmas.Bool.{and_parts, eqb-true, leb-true}
use Rattle.job_format.specs.Places.{if_right, is_counted, is_magic}
use Rattle.job_format.specs.declared.fault.JobFault.{JobFault}
use Rattle.job_format.specs.declared.place.Place.{Place}

-- what holds of a place, where a right field leads there
pub led : (P : Place → Type 0) (from to : Place) → P from → ◌≡◌ {A = Result Place JobFault} (Ok from) (Ok to) → P to
led P from to is same = let e : from ≡ to = cc in subst P e is

-- and where a test leads there
pub right_led : (P : Place → Type 0) (test : Bool) (fault : JobFault) (from to : Place) → (test ≡ true → P from)
    → if_right test fault from ≡ Ok to → P to
right_led P true fault from to is same = led P from to (is refl) same
right_led P false fault from to is same = absurd (cc)

-- and where one of two answers does
pub choice_led : (P : Place → Type 0) (test : Bool) (one other : Result Place JobFault) (to : Place)
    → (test ≡ true → one ≡ Ok to → P to) → (test ≡ false → other ≡ Ok to → P to) → cond test one other ≡ Ok to → P to
choice_led P true one other to first second same = first refl same
choice_led P false one other to first second same = second refl same

-- a front and a field behind it
pub joined : {front field a b : List ℕ} → front ≡ a → field ≡ b → front ++ field ≡ a ++ b
joined {front} {field} {a} {b} p q = ap (λ (l : List ℕ). l ++ field) p ∙ ap (λ (l : List ℕ). a ++ l) q

-- one byte
pub one_byte : (b : List ℕ) → length b ≡ 1 → b ≡ slice_index b 0 ∷ []
one_byte (x ∷ []) size = refl
one_byte b size = absurd (omega (arith, size))

pub byte_is : (b : List ℕ) (n : ℕ) → length b ≡ 1 → slice_index b 0 ≡ n → b ≡ n ∷ []
byte_is b n size is = one_byte b size ∙ ap (λ (x : ℕ). x ∷ []) is

-- the four bytes of a job
pub magic_is : (b : List ℕ) → length b ≡ 4 → is_magic b ≡ true → b ≡ 0x55 ∷ 0x4d ∷ 0x4a ∷ 0x42 ∷ []
magic_is (x ∷ y ∷ z ∷ w ∷ []) size is =
    let first = and_parts (x == 0x55 && y == 0x4d && z == 0x4a) (w == 0x42) is in
    let second = and_parts (x == 0x55 && y == 0x4d) (z == 0x4a) first.0 in
    let third = and_parts (x == 0x55) (y == 0x4d) second.0 in
    let xs : x ≡ 0x55 = eqb-true x 0x55 third.0 in
    let ys : y ≡ 0x4d = eqb-true y 0x4d third.1 in
    let zs : z ≡ 0x4a = eqb-true z 0x4a second.1 in
    let ws : w ≡ 0x42 = eqb-true w 0x42 first.1 in
    λ i. xs i ∷ ys i ∷ zs i ∷ ws i ∷ []
magic_is b size is = absurd (omega (arith, size))

-- a number from 1 up to a limit
pub counted_some : (limit n : ℕ) → is_counted limit n ≡ true → 1 ≤ n
counted_some limit n is = let parts = and_parts (nat_le 1 n) (nat_le n limit) is in leb-true 1 n parts.0

pub counted_few : (limit n : ℕ) → is_counted limit n ≡ true → n ≤ limit
counted_few limit n is = let parts = and_parts (nat_le 1 n) (nat_le n limit) is in leb-true n limit parts.1
