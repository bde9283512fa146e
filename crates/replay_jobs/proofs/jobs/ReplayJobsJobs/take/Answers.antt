use Rattle.std.proofs.Common.{◌/◌, List, map, sym, subst, arith}
use Rattle.std.specs.Vec.{with_items}
use Rattle.std.proofs.lemmas.List.{with_items_is}
use Rattle.hash_family.specs.Setting.{setting_of}
use Rattle.replay_supervisor.specs.Jobs.{Took}
use Rattle.share_jobs.specs.Share.{share_of}
use Rattle.share_jobs.specs.declared.share_job.ShareJob.{ShareJob}
use Rattle.sketch_merge.specs.Merged.{View}
use Rattle.replay_places.proofs.Numbered.{took_job}
use Rattle.replay_places.specs.Epochs.{AreEpochs, StandsFor, Takes}
use Rattle.replay_places.specs.States.{state_of}
use Rattle.replay_jobs.proofs.jobs.ReplayJobsJobs.take.Goals as goal

pub invariant_of-self : goal.invariant_of-self
invariant_of-self c =
    let s = c.args.self.now in
    let shares = with_items_is s.shares c.take_share.new.shares (omega arith) in
    let merged = with_items_is s.merged c.take_share.new.merged (omega arith) in
    record {
      fit = subst (λ (views : List View). AreEpochs (setting_of s.params) s.switches
          (map share_of (with_items s.shares c.take_share.new.shares).items) views) (sym merged)
          (subst (λ (jobs : List ShareJob). AreEpochs (setting_of s.params) s.switches (map share_of jobs)
          c.take_share.new.merged) (sym shares) (c.take_share.ensures.fit (setting_of s.params)
          (subst (λ (views : List View). AreEpochs (setting_of s.params) s.switches
          (map share_of c.deref_mut.result.now) views) (sym c.deref_mut-2.ensures.value)
          (subst (λ (jobs : List ShareJob). AreEpochs (setting_of s.params) s.switches (map share_of jobs)
          s.merged.items) (sym c.deref_mut.ensures.value) s.fit))));
    }

pub returns : goal.returns
returns c =
    let s = c.args.self.now in
    let shares = with_items_is s.shares c.take_share.new.shares (omega arith) in
    let merged = with_items_is s.merged c.take_share.new.merged (omega arith) in
    let old = map share_of s.shares.items in
    let setting = setting_of s.params in
    record {
      took = subst (λ (views : List View). Took c.args.job c.args.bytes.now (state_of s.switches old)
          (state_of s.switches (map share_of (with_items s.shares c.take_share.new.shares).items))
          (StandsFor setting s.switches old s.merged.items)
          (StandsFor setting s.switches (map share_of (with_items s.shares c.take_share.new.shares).items) views)
          c.take_share.result) (sym merged)
          (subst (λ (jobs : List ShareJob). Took c.args.job c.args.bytes.now (state_of s.switches old)
          (state_of s.switches (map share_of jobs)) (StandsFor setting s.switches old s.merged.items)
          (StandsFor setting s.switches (map share_of jobs) c.take_share.new.merged) c.take_share.result) (sym shares)
          (took_job setting s.switches c.args.job c.args.bytes.now old (map share_of c.take_share.new.shares)
          s.merged.items c.take_share.new.merged s.fit c.requires.known c.requires.free c.take_share.result
          (subst (λ (views : List View). Takes (c.args.job / s.switches) c.args.job c.args.bytes.now old
          (map share_of c.take_share.new.shares) views c.take_share.new.merged c.take_share.result)
          c.deref_mut-2.ensures.value
          (subst (λ (jobs : List ShareJob). Takes (c.args.job / s.switches) c.args.job c.args.bytes.now (map share_of jobs)
          (map share_of c.take_share.new.shares) c.deref_mut-2.result.now c.take_share.new.merged c.take_share.result)
          c.deref_mut.ensures.value c.take_share.ensures.took))));
    }
