use Rattle.std.proofs.Common.{ℕ, ◌%◌, ◌∙◌, ap, sym}
use Rattle.hash_family.specs.Hash.{prime}
use Rattle.hash_family.proofs.Forms.{linear_form-short}
use Rattle.hash_family.proofs.field.hash_by.Goals as goal

pub returns-then-has_short_addresses : goal.returns-then-has_short_addresses
returns-then-has_short_addresses c =
    let zero = c.has_short_addresses.ensures c.if-has_short_addresses.true in
    c.remainder.ensures ∙ ap (λ (n : ℕ). n % prime) (c.short_form.ensures.value
    ∙ sym (linear_form-short c.args.row.now c.args.words.now zero.0 zero.1 zero.2 zero.3 zero.4 zero.5))
