use Rattle.honest_replays.proofs.Honest.{united_replays, whole_replays}
use Rattle.honest_replays.proofs.honest_replays.Goals as goal

pub returns : goal.returns
returns c = record {
  united = united_replays;
  whole = whole_replays;
}
