use Rattle.sketch_merge.proofs.Taken.{taken}
use Rattle.sketch_merge.proofs.laws.taken_reply_law.Goals as goal

pub returns : goal.returns
returns c = record {
  taken = λ setting places job weight reply within empty proper same.
      taken setting places job reply within empty proper same weight;
}
