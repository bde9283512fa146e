use Rattle.measure_laws.proofs.Texts as texts
use Rattle.measure_laws.proofs.laws.equal_texts.Goals as goal

pub returns : goal.returns
returns c = record { same = texts.equal_texts }
