use Rattle.std.proofs.Common.{◌≡◌, ◌*◌, ◌/◌, ◌%◌, ◌<◌, ℕ, List, length, map, ◌∙◌, subst}
use Rattle.std.proofs.lemmas.List.{length-map}
use Rattle.hash_family.specs.Setting.{setting_of}
use Rattle.path_shares.specs.Shares.{share_job}
use Rattle.replay_places.specs.Epochs.{share_at}
use Rattle.share_jobs.specs.Share.{share_of}
use Rattle.replay_jobs.specs.Grouped.{IsShareOf}
use Rattle.replay_jobs.proofs.Works.{none_taken, shares_fit, works}
use Rattle.replay_jobs.proofs.jobs.ReplayJobs.new.Goals as goal

pub invariant_of-result : goal.invariant_of-result
invariant_of-result c =
    let shares = map share_of c.in_ok-shares.shares.items in
    let number : length shares ≡ c.args.epochs * c.args.switches =
    length-map c.in_ok-shares.shares.items share_of ∙ c.in_ok-shares.ensures.number in
    let each = subst (λ (placement : List ℕ). (job : ℕ) → job < c.args.epochs * c.args.switches
    → IsShareOf (share_job (setting_of c.args.params) c.args.switches placement c.args.routed.now
    (job / c.args.switches) (job % c.args.switches)) (share_at shares job)) c.as_slice-placement.ensures
    c.in_ok-shares.ensures.each in
    record {
      fit = shares_fit (setting_of c.args.params) c.args.epochs c.args.switches c.args.placement.now.sites
          c.args.routed.now shares c.requires.switches_some number each
          c.in_ok-merged.merged.items c.requires.switches_few c.requires.epochs_few c.requires.placed c.requires.light
          c.in_ok-merged.ensures.number c.in_ok-merged.ensures.each c.in_ok-merged.ensures.small
          c.in_ok-merged.ensures.few;
    }

pub returns : goal.returns
returns c =
    let shares = map share_of c.in_ok-shares.shares.items in
    let number : length shares ≡ c.args.epochs * c.args.switches =
    length-map c.in_ok-shares.shares.items share_of ∙ c.in_ok-shares.ensures.number in
    let each = subst (λ (placement : List ℕ). (job : ℕ) → job < c.args.epochs * c.args.switches
    → IsShareOf (share_job (setting_of c.args.params) c.args.switches placement c.args.routed.now
    (job / c.args.switches) (job % c.args.switches)) (share_at shares job)) c.as_slice-placement.ensures
    c.in_ok-shares.ensures.each in
    record {
      work = works (setting_of c.args.params) c.args.epochs c.args.switches c.args.placement.now.sites c.args.routed.now
          shares c.requires.switches_some number each;
      fresh = none_taken (setting_of c.args.params) c.args.epochs c.args.switches c.args.placement.now.sites
          c.args.routed.now shares c.requires.switches_some number each;
    }
