-- The laws of the replay jobs of a placement.
use Rattle.std.proofs.Common.{◌≡◌, ◌<◌, ◌^◌, ℕ, zero, suc, Bool, true, false, List, [], ◌∷◌, None, length, map, replicate, sym, subst, lit<}
use Rattle.std.specs.Prelude.{nat_lt, if◌then◌else◌}
use Rattle.std.proofs.lemmas.List.{length-map}
use Rattle.hash_family.specs.Setting.{setting_of}
use Rattle.replay_places.proofs.Starts.{none_stands}
use Rattle.replay_places.specs.Epochs.{share_at}
use Rattle.replay_jobs.specs.ReplayJobs.{replay_state, replay_stands, shares_in}
use Rattle.replay_jobs.specs.declared.jobs.ReplayJobs.{ReplayJobs}
use Rattle.share_jobs.specs.Share.{share_of}
use Rattle.share_jobs.specs.declared.share_job.ShareJob.{ShareJob}

pub replay_starts : (s : ReplayJobs) → ((job : ℕ) → (replay_state s).has_taken job ≡ false)
    → replay_stands s (replicate (length (shares_in s)) None)
replay_starts s fresh = none_stands (setting_of s.params) s.switches (shares_in s) s.merged.items s.fit fresh

few_pieces : (shares : List ShareJob) (job : ℕ) → length (share_at (map share_of shares) job).pieces < 2 ^ 32
few_pieces [] job = lit< tt
few_pieces (share ∷ shares) zero =
    subst (λ (n : ℕ). n < 2 ^ 32) (sym (length-map share.pieces.items (λ piece. piece.items))) share.few
few_pieces (share ∷ shares) (suc job) = few_pieces shares job

few_either : (b : Bool) (some other : List (List ℕ)) → length some < 2 ^ 32 → length other < 2 ^ 32
    → length (if b then some else other) < 2 ^ 32
few_either true some other one two = one
few_either false some other one two = two

pub replay_few : (s : ReplayJobs) (job : ℕ) → length ((replay_state s).work.pieces job) < 2 ^ 32
replay_few s job =
    few_either (nat_lt job (length (shares_in s))) (share_at (shares_in s) job).pieces ((s.switches ∷ []) ∷ [])
    (few_pieces s.shares.items job) (lit< tt)
