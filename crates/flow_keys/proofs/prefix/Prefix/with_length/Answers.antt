use Rattle.std.proofs.Common.{◌≡◌, ℕ, ◌≤◌, true, List, arith}
use Rattle.std.proofs.lemmas.Bool.Decides.{nat_tests}
use Rattle.flow_keys.specs.Prefix.{is_prefix, family_bits}
use Rattle.flow_keys.proofs.prefix.Prefix.with_length.Goals as goal

longer : (family : ℕ) (words : List ℕ) (bits : ℕ) → is_prefix family words 0 ≡ true → bits ≤ family_bits family
    → is_prefix family words bits ≡ true
longer family words bits short within = grind (arith, nat_tests)

pub invariant_of-result : goal.invariant_of-result
invariant_of-result c =
    longer c.args.family c.args.words c.in-Some.length c.requires
    (omega (arith, c.in-Some.ensures.bound, c.family_bits.ensures.value))
