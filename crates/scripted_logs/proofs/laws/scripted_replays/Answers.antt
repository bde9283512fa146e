use Rattle.std.specs.Prelude.{⊤}
use Rattle.scripted_logs.proofs.Honest.{honest_gathered, honest_given_up, honest_log, replies_told}
use Rattle.scripted_logs.proofs.laws.scripted_replays.Goals as goal

pub returns : goal.returns
returns c = record {
  answers = replies_told;
  log = honest_log;
  honest = honest_gathered;
  honest_given_up = λ s alone problem solving start outcome solve replay behind r.
      honest_given_up s alone problem solving start outcome solve replay behind r (λ plan log. ⊤);
}
