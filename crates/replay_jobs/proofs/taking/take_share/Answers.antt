use Rattle.std.proofs.Common.{◌≡◌, ◌/◌, ◌+◌, ◌*◌, ◌<◌, ℕ, get_or, length, map, sym, ◌∙◌, ap, subst, arith}
use Rattle.std.specs.Prelude.{slice_set}
use Rattle.std.proofs.lemmas.List.{get_or_default, length-map, map-set}
use Rattle.hash_family.specs.Setting.{Setting}
use Rattle.reply_format.specs.Reply.{reply_of}
use Rattle.share_jobs.specs.Reading.{IsReplyOf}
use Rattle.share_jobs.specs.Share.{Share, share_of, with_taken}
use Rattle.sketch_merge.specs.Merged.{HaveUpTo, View}
use Rattle.sketch_merge.specs.Merging.{IfReplay, MayTake, with_reply}
use Rattle.replay_places.specs.Epochs.{TookShare, no_view, share_at, view_at}
use Rattle.replay_places.proofs.Numbered.{epoch_within, fits_job}
use Rattle.replay_jobs.proofs.TakenShares.{holds_some, may_take_job, share_known, took_reply}
use Rattle.replay_jobs.proofs.taking.take_share.Goals as goal

pub take-requires : goal.take-requires
take-requires c =
    let shares = map share_of c.args.shares.now in
    let known : c.args.job < length shares = omega (arith, c.requires.known, length-map c.args.shares.now share_of) in
    let place = c.args.job / c.from.result in
    let here : place ≡ c.args.job / c.args.switches = ap (λ (n : ℕ). c.args.job / n) c.from.ensures in
    let share = share_known c.args.shares.now c.args.job c.index-shares-number.result c.requires.known in
    let of = subst (λ (s : Share). IsReplyOf s.head (reply_of c.in-Some.reply) c.args.bytes.now) (sym share)
    (holds_some (λ r. IsReplyOf (share_of (get_or c.args.shares.now c.args.job c.index-shares-number.result)).head
    (reply_of r) c.args.bytes.now) c.in_ok-reply.field-0 c.in-Some.reply c.in-Some.is c.in_ok-reply.ensures.spelled) in
    record {
      reply = subst (λ (v : View). IfReplay (MayTake v) (reply_of c.in-Some.reply)) c.index-merged-number.is
          (may_take_job c.requires.fit.0 c.args.switches c.args.job shares c.args.merged.now
          c.index-merged-number.result c.requires.fit.1 known c.requires.free
          (subst (λ (n : ℕ). c.index-merged-number.result ≡ get_or c.args.merged.now n c.index-merged-number.result) here
          c.index-merged-number.is) (reply_of c.in-Some.reply) c.args.bytes.now of);
    }

-- what was merged for the job's epoch before
was : (c : goal.Joined-reply-4) → get_or c.args.merged.now (c.args.job / c.from.result) c.index-merged-number.result
    ≡ view_at c.args.merged.now (c.args.job / c.args.switches)
was c =
    let fit = c.requires.fit.1 in
    let known : c.args.job < length c.args.merged.now * c.args.switches =
    omega (arith, c.requires.known, length-map c.args.shares.now share_of, fit.number) in
    ap (λ (n : ℕ). get_or c.args.merged.now (c.args.job / n) c.index-merged-number.result) c.from.ensures
    ∙ get_or_default c.args.merged.now (c.args.job / c.args.switches) c.index-merged-number.result no_view
    (epoch_within c.args.job c.args.switches (length c.args.merged.now) fit.switches_some known)

took : (c : goal.Joined-reply-4) → TookShare (c.args.job / c.args.switches) c.args.job c.args.bytes.now
    (map share_of c.args.shares.now) (map share_of (slice_set c.args.shares.now c.args.job c.set_taken.new.self))
    c.args.merged.now (slice_set c.args.merged.now (c.args.job / c.from.result) c.take.new.self)
took c =
    let shares = map share_of c.args.shares.now in
    let known = c.requires.known in
    let here : c.args.job / c.from.result ≡ c.args.job / c.args.switches =
    ap (λ (n : ℕ). c.args.job / n) c.from.ensures in
    let share = share_known c.args.shares.now c.args.job c.index-shares-number.result known in
    let again = share_known c.args.shares.now c.args.job c.index-shares-number-2.result known in
    let of = subst (λ (s : Share). IsReplyOf s.head (reply_of c.in-Some.reply) c.args.bytes.now) (sym share)
    (holds_some (λ r. IsReplyOf (share_of (get_or c.args.shares.now c.args.job c.index-shares-number.result)).head
    (reply_of r) c.args.bytes.now) c.in_ok-reply.field-0 c.in-Some.reply c.in-Some.is c.in_ok-reply.ensures.spelled) in
    let new : map share_of (slice_set c.args.shares.now c.args.job c.set_taken.new.self)
    ≡ slice_set shares c.args.job (with_taken (share_at shares c.args.job)) =
    map-set share_of c.args.shares.now c.args.job c.set_taken.new.self
    ∙ ap (slice_set shares c.args.job) (c.set_taken.ensures.taken ∙ ap with_taken (sym again)) in
    let views = ap (λ (n : ℕ). slice_set c.args.merged.now n c.take.new.self) here in
    took_reply (c.args.job / c.args.switches) c.args.job c.args.bytes.now shares
    (map share_of (slice_set c.args.shares.now c.args.job c.set_taken.new.self)) c.args.merged.now
    (slice_set c.args.merged.now (c.args.job / c.from.result) c.take.new.self) c.take.new.self (reply_of c.in-Some.reply)
    of new views
    (subst (λ (v : View). IfReplay (λ r. c.take.new.self ≡ with_reply v r) (reply_of c.in-Some.reply)) (was c)
    c.in_ok-take.ensures.taken)

pub returns-clause-took : goal.returns-clause-took
returns-clause-took c = took c

pub returns-clause-fit : goal.returns-clause-fit
returns-clause-fit c setting fit =
    let shares = map share_of c.args.shares.now in
    let known : c.args.job < length shares = omega (arith, c.requires.known, length-map c.args.shares.now share_of) in
    let place : c.args.job < length c.args.merged.now * c.args.switches = omega (arith, known, fit.number) in
    let here : c.args.job / c.from.result ≡ c.args.job / c.args.switches =
    ap (λ (n : ℕ). c.args.job / n) c.from.ensures in
    let same = (fit.each (c.args.job / c.args.switches)
    (epoch_within c.args.job c.args.switches (length c.args.merged.now) fit.switches_some place)).setting_is in
    let views = ap (λ (n : ℕ). slice_set c.args.merged.now n c.take.new.self) here in
    fits_job setting c.args.switches c.args.job c.args.bytes.now shares
    (map share_of (slice_set c.args.shares.now c.args.job c.set_taken.new.self)) c.args.merged.now
    (slice_set c.args.merged.now (c.args.job / c.from.result) c.take.new.self) fit known c.requires.free
    c.take.new.self (took c) views c.in_ok-take.ensures.small
    (λ n few. subst (λ (s : Setting). HaveUpTo (n + s.heap) c.take.new.self.keys)
    (ap (λ (v : View). v.setting) (was c) ∙ same)
    (c.in_ok-take.ensures.few n (subst (λ (v : View). HaveUpTo n v.keys) (sym (was c)) few)))
