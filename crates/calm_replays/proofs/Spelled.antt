-- Bytes spell a reply in one way, so that honest replies are told where it is only told that there are some.
use Rattle.std.proofs.Common.{◌≡◌, ℕ, false, List, [], ◌∷◌, inl, inr, refl, sym, ◌∙◌, ap}
use Rattle.std.specs.Prelude.{bytes_eq}
use Rattle.std.proofs.Math.Logic.{∥∥₁_elim, ∥∥₁_map}
use Rattle.std.proofs.Props.{props}
use Rattle.std.proofs.lemmas.Bool.{cases_Bool, true≢false}
use Rattle.std.proofs.lemmas.Slice.Eq.{bytes_eq-Decides}
use Rattle.crew.specs.Log.{Entry}
use Rattle.crew.specs.Log.Entry.{Started, StartFailed, Fed, FeedFailed, Sealed, Reply, Died, Stopped}
use Rattle.honest_logs.specs.Honest.{IsHonest}
use Rattle.replay_supervisor.specs.Steps.{Plan}
use Rattle.reply_format.specs.Reply.{IsReplayReply, IsVersion, ReplayReply, Replay, SpellsReply, replay_bytes}

-- a reply is within its limits in one way
reply_once : (reply : ReplayReply) → IsProp (IsReplayReply reply)
reply_once reply = hlevel props

bytes_once : (some other : List ℕ) → IsProp (some ≡ other)
bytes_once some other = hlevel props

-- bytes that aren't those of version 1 are those of version 2
second_version : (reply : ReplayReply) (bytes : List ℕ) (version : ℕ) → IsVersion version
    → bytes ≡ replay_bytes version reply → bytes_eq bytes (replay_bytes 1 reply) ≡ false → bytes ≡ replay_bytes 2 reply
second_version reply bytes version (inl one) parts other =
    absurd (true≢false (sym ((bytes_eq-Decides bytes (replay_bytes 1 reply)).1
    (parts ∙ ap (λ (v : ℕ). replay_bytes v reply) one)) ∙ other))
second_version reply bytes version (inr two) parts other = parts ∙ ap (λ (v : ℕ). replay_bytes v reply) two

told_reply : (reply : ReplayReply) (bytes : List ℕ) → ∥ SpellsReply (Replay reply) bytes ∥₁
    → SpellsReply (Replay reply) bytes
told_reply reply bytes told =
    let within = ∥∥₁_elim told (reply_once reply) (λ spelled. spelled.within) in
    elim (cases_Bool (bytes_eq bytes (replay_bytes 1 reply))) [
      | inl first ↦ record {
        within = within;
        version = 1;
        known = inl refl;
        parts = (bytes_eq-Decides bytes (replay_bytes 1 reply)).0 first;
      }
      | inr other ↦ record {
        within = within;
        version = 2;
        known = inr refl;
        parts = ∥∥₁_elim told (bytes_once bytes (replay_bytes 2 reply))
            (λ spelled. second_version reply bytes spelled.version spelled.known spelled.parts other);
      }
    ]

-- so is a log whose accepted replies are honest
pub honest_told : (p : Plan) (log : List Entry) → ∥ IsHonest p log ∥₁ → IsHonest p log
honest_told p [] told = tt
honest_told p (Started t ∷ before) told = honest_told p before told
honest_told p (StartFailed t ∷ before) told = honest_told p before told
honest_told p (Fed t piece ∷ before) told = honest_told p before told
honest_told p (FeedFailed t ∷ before) told = honest_told p before told
honest_told p (Sealed t ∷ before) told = honest_told p before told
honest_told p (Reply t bytes ∷ before) told = (
  λ first job spelled. told_reply _ bytes (∥∥₁_map told (λ honest. honest.0 first job spelled)),
  honest_told p before (∥∥₁_map told (λ honest. honest.1)),
)
honest_told p (Died t ∷ before) told = honest_told p before told
honest_told p (Stopped t ∷ before) told = honest_told p before told
