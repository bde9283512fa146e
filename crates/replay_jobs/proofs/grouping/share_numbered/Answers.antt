use Rattle.std.proofs.Common.{◌≡◌, false, ℕ, length, nat_eq, ◌∙◌, ap, subst, arith}
use Rattle.std.specs.Prelude.{IfOk, Result, Ok, Err}
use Rattle.hash_family.specs.Setting.{setting_of}
use Rattle.job_format.specs.Job.{ReplayJob, SpellsReplay, weight_of}
use Rattle.replay_jobs.specs.Grouped.{IsShareOf, job_number}
use Rattle.replay_jobs.proofs.Grouped.{items_of-numbered, job_numbered, kept_few, kept_light}
use Rattle.share_jobs.specs.Heads.{head_to, joined}
use Rattle.share_jobs.specs.Pieces.{HasPieces}
use Rattle.share_jobs.specs.Share.{share_of}
use Rattle.share_jobs.specs.declared.share_job.ShareJob.{ShareJob}
use Rattle.replay_jobs.proofs.grouping.share_numbered.Goals as goal

pub new-requires-clause-few : goal.new-requires-clause-few
new-requires-clause-few c =
    let numbered = c.requires.numbered in
    let few = kept_few (λ p. nat_eq (job_number numbered.0 numbered.1 p) c.args.number) c.args.routed.now in
    omega (arith, c.requires.few, few, ap length (c.deref.ensures.value ∙ c.in_ok-items.ensures.items numbered.0 numbered.1 numbered.2))

pub new-requires-clause-light : goal.new-requires-clause-light
new-requires-clause-light c =
    let numbered = c.requires.numbered in
    let light = kept_light (λ p. nat_eq (job_number numbered.0 numbered.1 p) c.args.number) c.args.routed.now in
    omega (arith, c.requires.light, light, ap weight_of (c.deref.ensures.value ∙ c.in_ok-items.ensures.items numbered.0 numbered.1 numbered.2))

-- what a new share says is of its job
found : {E : Type 0} (result : Result ShareJob E) (job : ReplayJob) (Q : ShareJob → Type 0)
    → ((share : ShareJob) → IsShareOf job (share_of share) → Q share)
    → IfOk result (λ share. (share_of share).head ≡ head_to job)
    → IfOk result (λ share. HasPieces job.number job.setting job.items (share_of share).pieces)
    → IfOk result (λ share. SpellsReplay job (joined (share_of share).pieces))
    → IfOk result (λ share. (share_of share).taken ≡ false)
    → IfOk result Q
found (Ok share) job Q so head pieces spells taken =
    so share (record { head = head; pieces = pieces; spelled = spells; fresh = taken })
found (Err e) job Q so head pieces spells taken = tt

pub returns : goal.returns
returns c =
    let items = c.deref.result.now in
    let setting = setting_of c.args.params.now in
    let job : ℕ → ReplayJob = λ n. record { number = n; setting = setting; items = items } in
    record {
      share = found c.new.result (job c.from.result)
          _
          (λ share is switches placement some on numbered.
          subst (λ (j : ReplayJob). IsShareOf j (share_of share))
          (ap job c.from.ensures
          ∙ job_numbered setting switches placement c.args.number c.args.routed.now items
          (c.deref.ensures.value ∙ c.in_ok-items.ensures.items switches placement numbered
          ∙ items_of-numbered switches placement c.args.number c.args.routed.now some on))
          is)
          c.new.ensures.head c.new.ensures.pieces c.new.ensures.spells c.new.ensures.taken;
    }
