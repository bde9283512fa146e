use Rattle.std.proofs.Common.{◌++◌, [], refl, sym, ap}
use Rattle.std.proofs.Math.Seq.{drop-append_seam}
use Rattle.certificate_text.specs.Bytes.{bytes_of}
use Rattle.certificate_text.proofs.TextSizes.{text_fits}
use Rattle.certificate_text.proofs.laws.trees_are_read_back.Goals as goal

pub returns-clause-text : goal.returns-clause-text
returns-clause-text c =
    λ tree formed. (text_fits tree formed, record { front = []; passed = tt; formed = formed; parts = refl })

pub returns-clause-bytes : goal.returns-clause-bytes
returns-clause-bytes c = λ tree rest formed. record {
  may = formed;
  size = refl;
  parts = ap (λ xs. bytes_of tree ++ xs) (sym (drop-append_seam (bytes_of tree) rest));
}
