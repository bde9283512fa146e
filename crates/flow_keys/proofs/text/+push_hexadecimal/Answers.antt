-- The digits of a number are those without the last, and the last.
use Rattle.std.proofs.Common.{ℕ, ◌<◌, ◌≤◌, ◌+◌, ◌/◌, ◌%◌, false, List, [], ◌∷◌, length, ap, arith, append_assoc, length-append}
use Rattle.std.specs.Fmt.{digit_glyph}
use Rattle.flow_keys.specs.Text.{hexadecimal}
use Rattle.flow_keys.proofs.Hexadecimal.{hexadecimal_step}
use Rattle.flow_keys.proofs.text.+push_hexadecimal.Goals as goal

-- room for all digits is room for all but the last
has_room : (text : List ℕ) (n : ℕ) → 16 ≤ n → n < 65536 → length text + length (hexadecimal n) ≤ 96
    → length text + length (hexadecimal (n / 16)) < 96
has_room text n large small room =
    let whole = ap length (hexadecimal_step n large small) in omega (arith, simp length-append at whole)

pub push_hexadecimal-requires : goal.push_hexadecimal-requires
push_hexadecimal-requires t c =
    let room = has_room c.args.text.now.bytes c.args.number (omega arith) (omega arith) c.requires in
    (omega arith, omega arith)

pub push_digit-requires-2 : goal.push_digit-requires-2
push_digit-requires-2 t c =
    let room = has_room c.args.text.now.bytes c.args.number (omega arith) (omega arith) c.requires in
    let grown = ap length c.push_hexadecimal.ensures in (omega arith, omega (arith, simp length-append at grown))

pub returns : goal.returns
returns t c =
    let n : ℕ = c.args.number in
    let step = hexadecimal_step n (omega arith) (omega arith) in
    let grouped = append_assoc c.args.text.now.bytes (hexadecimal (n / 16)) (digit_glyph false (n % 16) ∷ []) in cc
