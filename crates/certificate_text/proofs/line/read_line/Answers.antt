use Rattle.std.proofs.Common.{◌≡◌, true, sym, ◌∙◌}
use Rattle.std.specs.Prelude.{codes}
use Rattle.std.proofs.lemmas.Bool.Decides.{Decides-eqb}
use Rattle.std.proofs.lemmas.Slice.Eq.{slice_eq-Decides}
use Rattle.certificate_text.proofs.Heads.{no_node}
use Rattle.certificate_text.proofs.line.read_line.Goals as goal

pub returns : goal.returns
returns c =
    let over : c.args.line.now ≡ codes "over" → ⊥ = λ is.
    let test : c.eq.result ≡ true = (slice_eq-Decides Decides-eqb _ _ _ c.eq.ensures).1 (is ∙ sym c.as_slice.ensures) in
    cc in
    let full : c.args.line.now ≡ codes "full" → ⊥ = λ is.
    let test : c.eq-2.result ≡ true =
    (slice_eq-Decides Decides-eqb _ _ _ c.eq-2.ensures).1 (is ∙ sym c.as_slice-2.ensures) in
    cc in
    record {
      reads = λ part sound same. no_node c.args.line.now c.in_default.ensures.none c.in_default-after.ensures.none
          c.in_default-after-2.ensures.none over full part same;
    }
