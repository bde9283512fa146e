-- The jobs of shares, as a supervisor sees them.
use Rattle.std.specs.Prelude.{ℕ, nat_lt, List, [], ◌∷◌, length, if◌then◌else◌}
use Rattle.replay_supervisor.specs.Jobs.{JobsState, Work}
use Rattle.share_jobs.specs.Reading.{is_good}
use Rattle.share_jobs.specs.Share.{Share}
use Rattle.replay_places.specs.Epochs.{share_at}

-- a job for each share; behind the last one stands how many switches there are, since the work never changes
abbrev pub work_of : ℕ → List Share → Work
work_of switches shares = record {
  count = length shares;
  pieces = λ job. if nat_lt job (length shares) then (share_at shares job).pieces else (switches ∷ []) ∷ [];
  is_good = λ job bytes. is_good (share_at shares job).head bytes;
}

abbrev pub state_of : ℕ → List Share → JobsState
state_of switches shares = record {
  work = work_of switches shares;
  has_taken = λ job. (share_at shares job).taken;
}
