use Rattle.std.proofs.Common.{ap, arith, length, length-append}
use Rattle.flow_keys.proofs.Hexadecimal.{length_hexadecimal}
use Rattle.flow_keys.proofs.text.push_group.Goals as goal

pub returns-clause-room : goal.returns-clause-room
returns-clause-room c =
    let grown = ap length c.push_hexadecimal.ensures in
    omega (arith, simp length-append at grown, length_hexadecimal c.args.group (omega arith))

pub push_hexadecimal-requires : goal.push_hexadecimal-requires
push_hexadecimal-requires c = omega (arith, length_hexadecimal c.args.group (omega arith))
