use Rattle.std.proofs.Common.{◌≡◌, ◌++◌}
use Rattle.std.proofs.lemmas.Bool.Decides.{Decides-eqb}
use Rattle.std.proofs.lemmas.Slice.Eq.{strip_prefix_is}
use Rattle.certificate_text.proofs.Outcomes.{when_some, when_none}
use Rattle.certificate_text.proofs.numeral.after.Goals as goal

pub returns-clause-some : goal.returns-clause-some
returns-clause-some c =
    when_some _ (λ rest. c.args.bytes.now ≡ c.args.word.now ++ rest.now) c.strip_prefix.result
    (strip_prefix_is Decides-eqb c.args.bytes.now c.args.word.now c.strip_prefix.result c.strip_prefix.ensures.cases)

pub returns-clause-none : goal.returns-clause-none
returns-clause-none c =
    when_none _ (λ rest. c.args.bytes.now ≡ c.args.word.now ++ rest.now) c.strip_prefix.result
    (strip_prefix_is Decides-eqb c.args.bytes.now c.args.word.now c.strip_prefix.result c.strip_prefix.ensures.cases)
