use Rattle.std.proofs.Common.{◌≡◌, ◌+◌, ◌∷◌, ◌++◌, ◌<◌, ◌/◌, ◌%◌, ℕ, List, [], below_more, length, length-append, map, sym, ◌∙◌, ap, subst, rules, arith}
use Rattle.hash_family.specs.Setting.{setting_of}
use Rattle.path_shares.specs.Shares.{share_job}
use Rattle.share_jobs.specs.Share.{share_of}
use Rattle.share_jobs.specs.declared.share_job.ShareJob.{ShareJob}
use Rattle.replay_places.specs.Epochs.{share_at}
use Rattle.replay_jobs.specs.Grouped.{IsShareOf}
use Rattle.replay_jobs.proofs.Grouped.{share_before, share_last}
use Rattle.replay_jobs.proofs.grouping.all_shares.Goals as goal

pub loop-number-preserved : goal.loop-number-preserved
loop-number-preserved c =
    let jobs = c.loop-number.shares.items in
    let job = c.in_ok-share.share in
    let number = c.loop-number.number in
    let size : length jobs ≡ number = c.loop-number.invariant.0 in
    let grown : c.push.new.self.items ≡ jobs ++ job ∷ [] = search rules in
    let share_is = λ (n : ℕ). share_job (setting_of c.args.params.now) c.args.switches c.args.placement.now
    c.args.routed.now (n / c.args.switches) (n % c.args.switches) in (
      ap length grown ∙ length-append jobs (job ∷ []) ∙ ap (λ (n : ℕ). n + 1) size,
      subst (λ (all : List ShareJob). (k : ℕ) → k < number + 1 → IsShareOf (share_is k) (share_at (map share_of all) k))
          (sym grown)
          (below_more (λ (k : ℕ). IsShareOf (share_is k) (share_at (map share_of (jobs ++ job ∷ [])) k)) number
          (λ k under. subst (IsShareOf (share_is k)) (sym (share_before jobs job k (omega (arith, size))))
          (c.loop-number.invariant.1 k under))
          (subst (IsShareOf (share_is number))
          (sym (ap (λ (n : ℕ). share_at (map share_of (jobs ++ job ∷ [])) n) (sym size) ∙ share_last jobs job))
          (c.in_ok-share.ensures.share c.args.switches c.args.placement.now c.requires.switches_some c.requires.placed
          (c.deref.ensures.value ∙ c.in_ok-numbers.ensures.numbers)))),
    )
