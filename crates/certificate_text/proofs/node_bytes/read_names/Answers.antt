use Rattle.std.proofs.Common.{◌≡◌, true, false, length, take, ap, arith, rules, length-take}
use Rattle.std.specs.Prelude.{nat_lt}
use Rattle.std.specs.List.{list_all}
use Rattle.certificate_text.proofs.ByteParts.{names_none, names_cut}
use Rattle.certificate_text.proofs.node_bytes.read_names.Goals as goal

pub returns-then-not-are_names : goal.returns-then-not-are_names
returns-then-not-are_names c =
    let none : list_all (λ x. nat_lt x 64) (take c.args.count c.args.bytes.now) ≡ false = search rules in
    names_none c.args.count c.args.bytes.now none

pub returns-then-names-count : goal.returns-then-names-count
returns-then-names-count c =
    let all : list_all (λ x. nat_lt x 64) (take c.args.count c.args.bytes.now) ≡ true = search rules in
    names_cut c.args.count c.args.bytes.now all
    (omega (
      arith,
      c.if-names-count.true,
      ap
          (λ xs. length xs) c.front_of-names.ensures,
      length-take c.args.count c.args.bytes.now,
    ))
