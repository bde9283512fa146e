use Rattle.std.proofs.Common.{◌==◌, length, sym, arith}
use Rattle.std.proofs.lemmas.List.Sums.{position_or_len_is}
use borrow.Author.Tests.{eq-eqb, ne_eqb}
use Rattle.flow_keys.proofs.numerals.place_of.Goals as goal

pub returns-then-byte-separator-clause-value : goal.returns-then-byte-separator-clause-value
returns-then-byte-separator-clause-value c =
    sym (position_or_len_is (λ byte. byte == c.args.separator) c.args.text.now c.loop-place.place 0 (omega arith)
    (λ k below. ne_eqb _ _ (c.loop-place.invariant k below)) (λ _. eq-eqb _ _ c.if-byte-separator.true))

pub returns-clause-value : goal.returns-clause-value
returns-clause-value c =
    sym (position_or_len_is (λ byte. byte == c.args.separator) c.args.text.now (length c.args.text.now) 0 (omega arith)
    (λ k below. ne_eqb _ _ (c.loop-place.invariant k (omega arith))) (λ within. absurd (omega arith)))
