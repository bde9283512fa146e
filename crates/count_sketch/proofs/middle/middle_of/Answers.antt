use Rattle.std.proofs.Common.{◌≡◌, ◌∙◌, ◌/◌, ℕ, ℤ, pos, FitsSigned, w64, slice_index_or, length, ap, subst, sym, arith}
use Rattle.std.proofs.Common.{rules}
use Rattle.std.proofs.lemmas.Int.{to_z-of_z}
use Rattle.count_sketch.specs.Estimate.{IsMiddle}
use Rattle.count_sketch.proofs.Middles.{IsMiddle-sorted, middle-sorted}
use Rattle.count_sketch.proofs.middle.middle_of.Goals as goal

pub returns-clause-value : goal.returns-clause-value
returns-clause-value c =
    let xs = c.args.numbers.now in
    let ys = c.sort_unstable.new.self in
    let fits : FitsSigned w64 (slice_index_or ys (length ys / 2) (pos 0)) = search rules in
    let half : length ys / 2 ≡ c.requires.0 = omega (arith, c.requires.1, c.sort_unstable.ensures.len) in
    to_z-of_z w64 _ fits
    ∙ ap (λ (k : ℕ). slice_index_or ys k (pos 0)) half
    ∙ middle-sorted xs ys c.requires.0
    (pos 0) c.requires.1 c.sort_unstable.ensures.permutation c.sort_unstable.ensures.sorted

pub returns-clause-middle : goal.returns-clause-middle
returns-clause-middle c =
    let xs = c.args.numbers.now in
    let ys = c.sort_unstable.new.self in
    let fits : FitsSigned w64 (slice_index_or ys (length ys / 2) (pos 0)) = search rules in
    let half : length ys / 2 ≡ c.requires.0 = omega (arith, c.requires.1, c.sort_unstable.ensures.len) in
    subst (λ (x : ℤ). IsMiddle xs x) (sym (to_z-of_z w64 _ fits ∙ ap (λ (k : ℕ). slice_index_or ys k (pos 0)) half))
    (IsMiddle-sorted xs ys c.requires.0
    (pos 0) c.requires.1 c.sort_unstable.ensures.permutation c.sort_unstable.ensures.sorted)
