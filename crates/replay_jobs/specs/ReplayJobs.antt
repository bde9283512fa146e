-- What clauses see of the replay jobs of a placement.
use Rattle.std.specs.Prelude.{List, map}
use Rattle.hash_family.specs.Setting.{setting_of}
use Rattle.replay_supervisor.specs.Jobs.{JobsState, Places}
use Rattle.share_jobs.specs.Share.{Share, share_of}
use Rattle.replay_places.specs.Epochs.{StandsFor}
use Rattle.replay_places.specs.States.{state_of}
use Rattle.replay_jobs.specs.declared.jobs.ReplayJobs.{ReplayJobs}

abbrev pub shares_in : ReplayJobs → List Share
shares_in s = map share_of s.shares.items

abbrev pub replay_state : ReplayJobs → JobsState
replay_state s = state_of s.switches (shares_in s)

abbrev pub replay_stands : ReplayJobs → Places → Type 0
replay_stands s places = StandsFor (setting_of s.params) s.switches (shares_in s) s.merged.items places
