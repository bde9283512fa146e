use Rattle.std.specs.Prelude.{⊤}
use Rattle.calm_replays.proofs.Replays.{calm_gathered, calm_given_up, honest_gathered, honest_given_up}
use Rattle.calm_replays.proofs.laws.calm_replays.Goals as goal

pub returns : goal.returns
returns c = record {
  gathered = calm_gathered;
  given_up = λ problem solving start outcome solve replay behind r.
      calm_given_up problem solving start outcome solve replay behind r (λ plan log. ⊤);
  honest = honest_gathered;
  honest_given_up = λ problem solving start outcome solve replay behind r.
      honest_given_up problem solving start outcome solve replay behind r (λ plan log. ⊤);
}
