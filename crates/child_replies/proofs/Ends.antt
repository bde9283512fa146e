-- Behind a replay reply.
use Rattle.std.proofs.Common.{◌≡◌, ◌<◌, ◌==◌, ℕ, false, List, [], ◌∷◌, length, refl, arith}
use Rattle.byte_format.specs.Format.{At, reached}
use Rattle.child_replies.specs.Steps.{Stops}
use Rattle.child_replies.proofs.Moves.{stops_wrong}
use Rattle.reply_format.specs.Places.{Body, End, judge_place, replay_format}
use Rattle.reply_format.specs.Reply.{ReplayHead}
use Rattle.reply_format.specs.declared.fault.ReplyFault.TheVariants.{Extra}

pub some_left : (rest : List ℕ) → (length rest == 0) ≡ false → 0 < length rest
some_left [] is = cc
some_left (byte ∷ rest) is = omega arith

module _ (e : ReplayHead) (body : Body) where
  -- a byte more
  pub end_extra : (rest : List ℕ) → 0 < length rest → Stops e (End body) rest Extra
  unfolding judge_place
  end_extra [] some = absurd (omega (arith, some))
  end_extra (byte ∷ rest) some = stops_wrong e (End body) (byte ∷ []) rest (byte ∷ rest) Extra refl refl refl

  -- and none
  pub end_whole : (rest : List ℕ) → length rest ≡ 0
      → reached (replay_format e) (At (End body) []) rest ≡ At (End body) []
  unfolding reached
  end_whole [] none = refl
  end_whole (byte ∷ rest) none = absurd (omega (arith, none))
