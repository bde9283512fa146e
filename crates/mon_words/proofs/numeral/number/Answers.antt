use Rattle.std.proofs.Common.{◌≡◌, List, ℕ, true, sym, subst, ◌∙◌}
use Rattle.mon_words.specs.Options.{is_numeral}
use Rattle.mon_words.proofs.Numerals.{read_number}
use Rattle.mon_words.proofs.numeral.number.Goals as goal

pub returns-then-is_numeral : goal.returns-then-is_numeral
returns-then-is_numeral c =
    let numeral : is_numeral c.args.value.now ≡ true =
    subst (λ (bytes : List ℕ). is_numeral bytes ≡ true) c.as_bytes.ensures.value (sym c.is_numeral.ensures.numeral
    ∙ c.if-is_numeral.true) in
    record { number = c.ok.ensures.value ∙ read_number c.args.value.now c.parse.result numeral c.parse.ensures.value.0 }
