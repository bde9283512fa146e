-- How records are divided into epochs, one record on.
use Rattle.std.proofs.Common.{◌≡◌, ◌≢◌, ℕ, ◌+◌, ◌<◌, ◌≤◌, ◌==◌, ◌-◌, List, [], ◌∷◌, ◌++◌, length, map, filter, set, true, false, refl, sym, ◌∙◌, ap, subst, arith, inl, inr, append-nil, length-append, length-set, get_or-set_other, get_or-set_same}
use Rattle.std.specs.List.{slice_index_or}
use Rattle.std.specs.Prelude.{if◌then◌else◌}
use Rattle.std.proofs.Math.ListN.{get_or-append}
use Rattle.std.proofs.lemmas.Bool.{cases_eq, cases_lt}
use Rattle.std.proofs.lemmas.Bool.Decides.{nat_tests}
use Rattle.std.proofs.lemmas.List.{get_or_push, map-append, length-map}
use Rattle.std.proofs.lemmas.List.Elements.{filter-append}
use Rattle.std.proofs.lemmas.List.Sums.{length-filter, count_by-le-length}
use Rattle.count_sketch.specs.Counters.{Item}
use Rattle.mon_central.specs.Central.{block_of, change_of, epoch_lines, epochs_lines}
use Rattle.flow_keys.specs.declared.routed.Routed.{Routed}
use Rattle.routed_trace.specs.Routed.{item_of, items_in}
use Rattle.mon_central.specs.Sketched.{Gathers, Splits}
use Rattle.mon_call.specs.declared.setting.Setting.{Setting}
use Rattle.mon_central.specs.declared.gathering.Gathered.{Gathered}
use Rattle.mon_central.proofs.Ranges.{flat_map-range}

-- the items of two lists of packets
pub items_in-append : (epoch : ℕ) (xs ys : List Routed) → items_in epoch (xs ++ ys) ≡ items_in epoch xs
    ++ items_in epoch ys
unfolding items_in
items_in-append epoch xs ys =
    let test = λ (packet : Routed). packet.epoch == epoch in
    ap (map item_of) (filter-append test xs ys) ∙ map-append item_of (filter test xs) (filter test ys)

-- the items of one packet, in its epoch and in another
pub items_in-own : (packet : Routed) → items_in packet.epoch (packet ∷ []) ≡ item_of packet ∷ []
unfolding items_in
items_in-own packet = rw (same packet.epoch) refl
  where
    same : (n : ℕ) → (n == n) ≡ true
    same n = grind (arith, nat_tests)

pub items_in-other : (packet : Routed) (other : ℕ) → packet.epoch ≢ other → items_in other (packet ∷ []) ≡ []
unfolding items_in
items_in-other packet other apart = rw (differ packet.epoch other apart) refl
  where
    differ : (n m : ℕ) → n ≢ m → (n == m) ≡ false
    differ n m apart = grind (arith, nat_tests)

-- no more items than packets
pub length-items_in-le : (epoch : ℕ) (routed : List Routed) → length (items_in epoch routed) ≤ length routed
unfolding items_in
length-items_in-le epoch routed =
    let test = λ (packet : Routed). packet.epoch == epoch in
    omega (arith, length-map (filter test routed) item_of, length-filter test routed, count_by-le-length test routed)

-- one more epoch, without items
pub splits_reach : (setting : Setting) (sketches : List Gathered) (gathered : Gathered) (routed : List Routed)
    → Gathers setting gathered [] → Splits setting sketches routed → Splits setting (sketches ++ gathered ∷ []) routed
splits_reach setting sketches gathered routed empty splits = record {
  each = λ epoch d within. elim (cases_lt epoch (length sketches)) [
    | inl below ↦ subst (λ (s : Gathered). Gathers setting s (items_in epoch routed))
        (sym (get_or-append sketches (gathered ∷ []) d epoch below)) (splits.each epoch d below)
    | inr above ↦
        let last : length sketches ≡ epoch = omega (arith, within, above, length-append sketches (gathered ∷ [])) in
        subst (λ (s : Gathered). Gathers setting s (items_in epoch routed))
        (sym (get_or_push sketches gathered d epoch last))
        (subst (λ (items : List Item). Gathers setting gathered items) (sym (splits.none epoch above)) empty)
  ];
  none = λ epoch past. splits.none epoch (omega (arith, past, length-append sketches (gathered ∷ [])));
}

-- one more packet in its epoch
pub splits_add : (setting : Setting) (sketches : List Gathered) (packet : Routed) (old more : Gathered)
    (routed : List Routed) → packet.epoch < length sketches
    → ((items : List Item) → Gathers setting (slice_index_or sketches packet.epoch old) items
    → Gathers setting more (items ++ item_of packet ∷ []))
    → Splits setting sketches routed → Splits setting (set sketches packet.epoch more) (routed ++ packet ∷ [])
splits_add setting sketches packet old more routed within adds splits = record {
  each = λ k d inside. elim (cases_eq k packet.epoch) [
    | inl same ↦
        subst (λ (n : ℕ). Gathers setting (slice_index_or (set sketches packet.epoch more) n d)
        (items_in n (routed ++ packet ∷ []))) (sym same)
        (subst (λ (s : Gathered). Gathers setting s (items_in packet.epoch (routed ++ packet ∷ [])))
        (sym (get_or-set_same sketches packet.epoch more d within))
        (subst (λ (items : List Item). Gathers setting more items) (sym own)
        (adds (items_in packet.epoch routed) (splits.each packet.epoch old within))))
    | inr apart ↦
        subst (λ (s : Gathered). Gathers setting s (items_in k (routed ++ packet ∷ [])))
        (sym (get_or-set_other sketches packet.epoch k more d apart))
        (subst (λ (items : List Item). Gathers setting (slice_index_or sketches k d) items) (sym (other k apart))
        (splits.each k d (omega (arith, inside, length-set sketches packet.epoch more))))
  ];
  none = λ k past.
      let apart : k ≢ packet.epoch = omega (arith, past, length-set sketches packet.epoch more, within) in
      other k apart ∙ splits.none k (omega (arith, past, length-set sketches packet.epoch more));
}
  where
    own : items_in packet.epoch (routed ++ packet ∷ []) ≡ items_in packet.epoch routed ++ item_of packet ∷ []
    own = items_in-append packet.epoch routed (packet ∷ [])
        ∙ ap (λ (items : List Item). items_in packet.epoch routed ++ items) (items_in-own packet)

    other : (k : ℕ) → k ≢ packet.epoch → items_in k (routed ++ packet ∷ []) ≡ items_in k routed
    other k apart =
        items_in-append k routed (packet ∷ [])
        ∙ ap (λ (items : List Item). items_in k routed ++ items) (items_in-other packet k (λ same. apart (sym same)))
        ∙ append-nil (items_in k routed)

-- what was gathered of an epoch, where it is still the same
pub gathered_at : (setting : Setting) (sketches : List Gathered) (routed : List Routed) (epoch : ℕ)
    (gathered d : Gathered) → gathered ≡ slice_index_or sketches epoch d
    → epoch < length sketches → Splits setting sketches routed → Gathers setting gathered (items_in epoch routed)
gathered_at setting sketches routed epoch gathered d is within splits =
    subst (λ (s : Gathered). Gathers setting s (items_in epoch routed)) (sym is) (splits.each epoch d within)

-- the lines of one more epoch
pub epochs_lines-push : (setting : Setting) (routed : List Routed) (epoch : ℕ) (text lines : List ℕ)
    → text ≡ epochs_lines setting routed epoch
    → lines ≡ block_of setting epoch (items_in epoch routed)
    ++ (if epoch == 0 then [] else change_of setting epoch (items_in (epoch - 1) routed) (items_in epoch routed))
    → text ++ lines ≡ epochs_lines setting routed (epoch + 1)
unfolding epoch_lines
epochs_lines-push setting routed epoch text lines before now =
    ap (λ (l : List ℕ). l ++ lines) before
    ∙ ap (λ (l : List ℕ). epochs_lines setting routed epoch ++ l) now
    ∙ sym (flat_map-range (epoch_lines setting routed) epoch)
