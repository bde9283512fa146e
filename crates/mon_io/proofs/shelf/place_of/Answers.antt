use Rattle.std.proofs.Common.{List, ℕ, bytes_eq, string_bytes, ◌∙◌, ap}
use Rattle.mon_io.proofs.Named.{found_at, not_at}
use Rattle.mon_io.proofs.shelf.place_of.Goals as goal

pub returns-then-eq : goal.returns-then-eq
returns-then-eq c = found_at _ _ _ _ c.loop-place-test.true c.index-files-place.is
    (c.if-eq.ensures
    ∙ ap (λ (text : List ℕ). bytes_eq text c.as_bytes-in-loop-place.result.now) c.as_bytes.ensures.value
    ∙ ap (λ (name : List ℕ). bytes_eq (string_bytes c.index-files-place.result.0) name)
    c.as_bytes-in-loop-place.ensures.value)
    ∙ c.loop-place.invariant

pub loop-place-preserved : goal.loop-place-preserved
loop-place-preserved c = not_at _ _ _ _ c.loop-place-test.true c.index-files-place.is
    (c.if-eq.ensures
    ∙ ap (λ (text : List ℕ). bytes_eq text c.as_bytes-in-loop-place.result.now) c.as_bytes.ensures.value
    ∙ ap (λ (name : List ℕ). bytes_eq (string_bytes c.index-files-place.result.0) name)
    c.as_bytes-in-loop-place.ensures.value)
    ∙ c.loop-place.invariant
