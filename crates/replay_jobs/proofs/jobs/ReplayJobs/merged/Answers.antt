use Rattle.std.proofs.Common.{◌<◌, ℕ, map, subst}
use Rattle.hash_family.specs.Setting.{setting_of}
use Rattle.std.proofs.lemmas.List.{length-map}
use Rattle.share_jobs.specs.Share.{share_of}
use Rattle.replay_jobs.proofs.Gathered.{few_views, gathered, light_views, small_views, spelled_at}
use Rattle.replay_jobs.proofs.jobs.ReplayJobs.merged.Goals as goal

pub returns : goal.returns
returns c =
    let s = c.args.self in
    let shares = map share_of s.shares.items in
    record {
      gathered = λ setting epochs switches placement routed places work stands.
          gathered (setting_of s.params) s.switches shares s.merged.items s.fit
          (λ job within. spelled_at s.shares.items job (subst (λ (n : ℕ). job < n) (length-map s.shares.items share_of) within))
          setting epochs switches placement routed work places stands;
      small = small_views (setting_of s.params) s.switches shares s.merged.items s.fit;
      light = light_views (setting_of s.params) s.switches shares s.merged.items s.fit;
      few = few_views (setting_of s.params) s.switches shares s.merged.items s.fit;
    }
