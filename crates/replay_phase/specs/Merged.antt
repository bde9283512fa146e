-- What an answer gives.
use Rattle.std.specs.Prelude.{List, Result, Ok, Err, Vec}
use Rattle.std.specs.Global.{Global}
use Rattle.replay_supervisor.specs.declared.stop.Stop.{Stop}
use Rattle.sketch_merge.specs.Merged.{View}

-- the values that were merged
abbrev pub merged_of : Result (Vec View Global) Stop → Result (List View) Stop
merged_of (Ok merged) = Ok merged.items
merged_of (Err stop) = Err stop
