-- Shares that have taken no reply stand for the list of empty places.
use Rattle.std.proofs.Common.{◌≡◌, ℕ, ◌+◌, ◌*◌, zero, suc, false, List, Option, None, length, get_or, replicate, refl, sym, ◌∙◌, ap, arith}
use Rattle.std.proofs.lemmas.List.{get_or-replicate, length-replicate}
use Rattle.hash_family.specs.Setting.{Setting}
use Rattle.reply_format.specs.Reply.{ReplayReply}
use Rattle.share_jobs.specs.Share.{Share}
use Rattle.sketch_merge.specs.Merged.{View}
use Rattle.replay_places.specs.Epochs.{AreEpochs, StandsFor, no_share, segment, share_at}
use Rattle.replay_places.proofs.Places.{none_viewed}
use Rattle.replay_places.proofs.Segments.{segment_at, segment_length}

abbrev none_at : Option ReplayReply
none_at = None

at_none : (n k : ℕ) → get_or (replicate n none_at) k None ≡ None
at_none zero k = refl
at_none (suc n) zero = refl
at_none (suc n) (suc k) = at_none n k

pub none_stands : (setting : Setting) (switches : ℕ) (shares : List Share) (merged : List View)
    → AreEpochs setting switches shares merged → ((job : ℕ) → (share_at shares job).taken ≡ false)
    → StandsFor setting switches shares merged (replicate (length shares) None)
none_stands setting switches shares merged fit fresh =
    let none : List (Option ReplayReply) = replicate (length shares) None in
    record {
      replies = none;
      replies_number = length-replicate (length shares) None;
      places_number = length-replicate (length shares) None;
      each = λ job within.
          let reply : get_or none job None ≡ None = get_or-replicate (length shares) job None None within in
          let empty : Option (List ℕ) = None in
          let place : get_or (replicate (length shares) empty) job None ≡ None =
          get_or-replicate (length shares) job empty None within in
          rw reply (rw place (fresh job));
      views = λ epoch within.
          let part = segment switches epoch none in
          let sized = segment_length switches epoch (length merged) none
          (length-replicate (length shares) None ∙ fit.number) within in
          let many = segment_length switches epoch (length merged) shares fit.number within in
          (fit.each epoch within).fresh (λ switch inside.
          ap (λ (s : Share). s.taken) (segment_at switches epoch switch shares no_share (omega (arith, many)))
          ∙ fresh (epoch * switches + switch))
          ∙ sym (none_viewed setting part (λ switch inside.
          segment_at switches epoch switch none None (omega (arith, sized))
          ∙ at_none (length shares) (epoch * switches + switch)));
    }
