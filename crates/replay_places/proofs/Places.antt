-- What the replies in places say together.
use Rattle.std.proofs.Common.{◌≡◌, ℕ, ◌+◌, ◌<◌, suc, List, [], ◌∷◌, ◌++◌, Option, None, Some, length, get_or, refl, sym, ◌∙◌, ap, arith}
use Rattle.std.specs.Prelude.{slice_set, sum_by}
use Rattle.std.specs.Option.{option_to_list}
use Rattle.std.proofs.lemmas.List.Sums.{sum_by-append, sum_by-cons, sum_by-set}
use Rattle.hash_family.specs.Setting.{Setting}
use Rattle.reply_format.specs.Reply.{IsReplayReply, ReplayReply}
use Rattle.sketch_merge.proofs.Taken.{taken}
use Rattle.sketch_merge.specs.Merging.{merged_view, present, with_reply}
use Rattle.replay_places.specs.Epochs.{view_of, weights}

-- what the reply in a place weighs
abbrev place_weight : Option ReplayReply → ℕ
place_weight place = weights (option_to_list place)

weights_of : (replies : List (Option ReplayReply)) → weights (present replies) ≡ sum_by place_weight replies
weights_of [] = refl
weights_of (place ∷ replies) =
    sum_by-append (λ (reply : ReplayReply). reply.head.weight) (option_to_list place) (present replies)
    ∙ ap (λ (n : ℕ). place_weight place + n) (weights_of replies)
    ∙ sym (sum_by-cons place_weight place replies)

-- a reply that comes into an empty place adds its weight
pub weights_taken : (replies : List (Option ReplayReply)) (k : ℕ) (reply : ReplayReply) → k < length replies
    → get_or replies k None ≡ None
    → weights (present (slice_set replies k (Some reply))) ≡ weights (present replies) + reply.head.weight
weights_taken replies k reply within empty =
    let after = weights_of (slice_set replies k (Some reply)) in
    let before = weights_of replies in
    let sums = sum_by-set place_weight replies k (Some reply) None within in
    let none : place_weight (get_or replies k None) ≡ 0 = ap place_weight empty in
    let one : place_weight (Some reply) ≡ reply.head.weight = omega arith in
    omega (arith, after, before, sums, none, one)

-- it is merged
pub view_taken : (setting : Setting) (replies : List (Option ReplayReply)) (k : ℕ) (reply : ReplayReply)
    → k < length replies → get_or replies k None ≡ None → IsReplayReply reply → reply.head.setting ≡ setting
    → with_reply (view_of setting replies) reply ≡ view_of setting (slice_set replies k (Some reply))
view_taken setting replies k reply within empty proper same =
    taken setting replies k reply within empty proper same (weights (present replies))
    ∙ ap (λ (n : ℕ). merged_view setting n (present (slice_set replies k (Some reply))))
    (sym (weights_taken replies k reply within empty))

-- where each place is empty, nothing was merged
pub none_present : (replies : List (Option ReplayReply)) → ((k : ℕ) → k < length replies → get_or replies k None ≡ None)
    → present replies ≡ []
none_present [] none = refl
none_present (place ∷ replies) none =
    ap (λ (p : Option ReplayReply). option_to_list p ++ present replies) (none 0 (omega arith))
    ∙ none_present replies (λ k within. none (suc k) (omega arith))

pub none_viewed : (setting : Setting) (replies : List (Option ReplayReply))
    → ((k : ℕ) → k < length replies → get_or replies k None ≡ None) → view_of setting replies ≡ merged_view setting 0 []
none_viewed setting replies none =
    ap (λ (some : List ReplayReply). merged_view setting (weights some) some) (none_present replies none)
