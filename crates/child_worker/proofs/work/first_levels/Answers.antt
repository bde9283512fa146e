use Rattle.child_worker.proofs.Sketching.{sketched_first}
use Rattle.child_worker.proofs.work.first_levels.Goals as goal

pub returns-in_ok-new-in-Replay : goal.returns-in_ok-new-in-Replay
returns-in_ok-new-in-Replay c =
    let e = c.in_ok-new-in-Replay.ensures in
    record {
      empty = rw c.in-Some.is (sketched_first c.in-Some.head c.in-Replay.params
          c.in_ok-new-in-Replay.field-0 c.in-Replay.is
          e.setting e.empty);
    }
