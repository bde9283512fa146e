use Rattle.std.proofs.Common.{ℕ, ◌+◌, ◌-◌, ◌*◌, arith, ap, ◌∙◌}
use Rattle.hash_family.specs.Hash.{hash}
use Rattle.hash_family.proofs.Forms.{row_of, is_row, linear_form-hash}
use Rattle.hash_family.proofs.family.Family.hash.Goals as goal

pub hash_by-requires : goal.hash_by-requires
hash_by-requires c =
    let f = c.args.function in
    let of = row_of _ f (12 * f + 12 - 12 * f) _ c.self.invariant c.requires (omega arith) in
    rw c.deref.ensures.value (is_row of)

pub returns : goal.returns
returns c =
    let f = c.args.function in
    let words = c.args.words.now in
    let of = row_of _ f (12 * f + 12 - 12 * f) _ c.self.invariant c.requires (omega arith) in
    record {
      value = c.hash_by.ensures
          ∙ rw c.deref.ensures.value (linear_form-hash words of ∙ ap (λ (seed : ℕ). hash seed f words) c.self.view_is);
    }
