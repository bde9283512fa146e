use Rattle.std.proofs.Common.{◌≡◌, ℕ, ◌≤◌, Bool, true, false, ◌&&◌, cond, List, [], ◌∷◌, length, drop, length-drop, refl, arith}
use Rattle.flow_keys.specs.Prefix.{gap_place, is_colon}
use Rattle.flow_keys.proofs.address.gap_place.Goals as goal

one_byte : (b : Bool) → cond {A = ℕ} (b && false) 0 1 ≡ 1
one_byte true = refl
one_byte false = refl

-- a gap has two bytes
no_gap : (bytes : List ℕ) → length bytes ≤ 1 → gap_place bytes ≡ length bytes
no_gap [] short = refl
no_gap (byte ∷ []) short = one_byte (is_colon byte)
no_gap (byte ∷ next ∷ bytes) short = absurd (omega arith)

pub returns-clause-value : goal.returns-clause-value
returns-clause-value c =
    let rest : List ℕ = drop c.loop-at.at c.args.text.now in
    let size = length-drop c.loop-at.at c.args.text.now in
    omega (arith, no_gap rest (omega arith))
