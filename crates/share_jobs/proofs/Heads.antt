-- The pieces of a replay job spell it.
use Rattle.std.proofs.Common.{◌≡◌, ◌++◌, ℕ, Bool, true, false, List, [], ◌∷◌, Some, Ok, map, refl, sym, ◌∙◌, ap, append_assoc}
use Rattle.std.specs.List.{flat_map}
use Rattle.std.proofs.lemmas.Bool.{true≢false}
use Rattle.std.proofs.lemmas.List.{append-nil}
use Rattle.byteorder.specs.Endian.{little_bytes}
use Rattle.hash_family.specs.Setting.{Setting}
use Rattle.job_format.proofs.Reading.{one_read}
use Rattle.job_format.proofs.Spellings.{some_reading}
use Rattle.job_format.specs.Job.{IsReplayJob, ReplayJob, Replay, SpellsReplay, frame_bytes, replay_head}
use Rattle.job_format.specs.declared.item.Item.{Item}
use Rattle.reply_format.specs.Reply.{ReplayHead}
use Rattle.share_jobs.specs.Heads.{head_in, head_spelled, head_to, head_where, joined}
use Rattle.share_jobs.specs.Pieces.{HasPieces}
use Rattle.share_jobs.proofs.Bytes.{job_low}
use Rattle.solve_jobs.proofs.Reading.{are_low}
use Rattle.solve_jobs.specs.Reading.{are_bytes, low_bytes}

joined_frames : (frames : List (List Item)) (last : List (List ℕ))
    → joined (map frame_bytes frames ++ last) ≡ flat_map frame_bytes frames ++ joined last
joined_frames [] last = refl
joined_frames (frame ∷ frames) last =
    ap (λ (bytes : List ℕ). frame_bytes frame ++ bytes) (joined_frames frames last)
    ∙ sym (append_assoc (frame_bytes frame) (flat_map frame_bytes frames) (joined last))

-- the pieces of a job within its limits are its spelling
pub pieces_spell : (number : ℕ) (setting : Setting) (items : List Item) (pieces : List (List ℕ))
    → IsReplayJob (record { number = number; setting = setting; items = items })
    → HasPieces number setting items pieces
    → SpellsReplay (record { number = number; setting = setting; items = items }) (joined pieces)
pieces_spell number setting items pieces within has = record {
  within = within;
  frames = has.frames;
  framed = has.framed;
  parts = ap joined has.are ∙ ap (λ (bytes : List ℕ). replay_head number setting ++ bytes)
      (joined_frames has.frames (frame_bytes [] ∷ [])
      ∙ ap (λ (bytes : List ℕ). flat_map frame_bytes has.frames ++ bytes) (append-nil (little_bytes 2 0 ++ [])
      ∙ append-nil (little_bytes 2 0)));
}

-- the head of the replay job that bytes spell
where_spelled : (job : ReplayJob) (bytes : List ℕ) (are : Bool) (is : are_bytes bytes ≡ are)
    → SpellsReplay job bytes → head_where bytes are is ≡ Some (head_to job)
where_spelled job bytes true is spelled =
    let read = some_reading bytes (low_bytes bytes is) in
    ap head_in (one_read bytes read.0 (Ok (Replay job)) read.1 spelled)
where_spelled job bytes false is spelled =
    absurd (true≢false (sym (are_low bytes (job_low job bytes spelled)) ∙ is))

pub spelled_head : (job : ReplayJob) (bytes : List ℕ) → SpellsReplay job bytes
    → head_spelled bytes ≡ Some (head_to job)
unfolding head_spelled
spelled_head job bytes spelled = where_spelled job bytes (are_bytes bytes) refl spelled

-- what a share's pieces spell says what a reply to it must say
pub head_known : (head : ReplayHead) (job : ReplayJob) (bytes : List ℕ) → head_spelled bytes ≡ Some head
    → SpellsReplay job bytes → head ≡ head_to job
head_known head job bytes is spelled =
    let same = spelled_head job bytes spelled in
    cc
