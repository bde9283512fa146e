-- What was sketched, one record on.
use Rattle.std.proofs.Common.{◌≡◌, ℕ, max, List, [], ◌∷◌, ◌++◌, length, Option, Some, None, Ok, refl, sym, ◌∙◌, ap, subst, arith, append-nil, Vec, Global}
use Rattle.std.specs.Option.{option_to_list}
use Rattle.flow_keys.specs.declared.routed.Routed.{Routed}
use Rattle.pcap_reader.specs.declared.header.Header.{Header}
use Rattle.pcap_reader.specs.Trace.{Record}
use Rattle.topology.specs.Topology.{Topo}
use Rattle.routed_trace.specs.Counts.{Added, AreCounts}
use Rattle.routed_trace.specs.Routed.{items_in, keyed_in, number_of_epochs, routed_of}
use Rattle.routed_trace.specs.declared.counts.TraceCounts.{TraceCounts}
use Rattle.routed_trace.proofs.Records.{number_of_epochs-push}
use Rattle.mon_central.specs.Central.{central_text, epochs_lines, lines_of}
use Rattle.mon_central.specs.Sketched.{Divides, Splits}
use Rattle.mon_central.specs.declared.epochs.Epochs.{Epochs}
use Rattle.mon_call.specs.declared.setting.Setting.{Setting}
use Rattle.mon_central.specs.declared.gathering.Gathered.{Gathered}

-- one record more: its counts, as many sketches as epochs, and its packet in one of them
pub divides_more : {setting : Setting} {topology : Option Topo} {old new : Epochs} {header : Header}
    {members : List Record} (found : Option Routed) (member : Record)
    → Divides setting topology old header members → Added setting.division topology new.counts header members member (Ok
    found)
    → length new.sketches.items ≡ max (length old.sketches.items) new.counts.epochs
    → Splits setting new.sketches.items (routed_of setting.division topology header members ++ option_to_list found)
    → Divides setting topology new header (members ++ member ∷ [])
divides_more {setting} {topology} {old} {new} {header} {members} found member divides added number splits = record {
  counts_are = added.0;
  number_is = omega (
    arith,
    number,
    divides.number_is,
    added.0.epochs,
    number_of_epochs-push setting.division.seconds
        header members member,
  );
  splits = subst (Splits setting new.sketches.items) (sym added.1) splits;
}

pub splits_none : (setting : Setting) (sketches : List Gathered) (routed : List Routed) (found : Option Routed)
    → found ≡ None
    → Splits setting sketches routed → Splits setting sketches (routed ++ option_to_list found)
splits_none setting sketches routed found none splits =
    subst (Splits setting sketches) (sym
    (ap (λ (f : Option Routed). routed ++ option_to_list f) none ∙ append-nil routed)) splits

pub splits_one : (setting : Setting) (sketches : List Gathered) (routed : List Routed) (found : Option Routed)
    (packet : Routed) → found ≡ Some packet
    → Splits setting sketches (routed ++ packet ∷ []) → Splits setting sketches (routed ++ option_to_list found)
splits_one setting sketches routed found packet one splits =
    subst (Splits setting sketches) (sym (ap (λ (f : Option Routed). routed ++ option_to_list f) one)) splits

-- the text by its numbers and the lines of its epochs
pub central_text_is : (setting : Setting) (topology : Option Topo) (header : Header) (members : List Record)
    (packets keyed routed number : ℕ) (lines : List ℕ)
    → packets ≡ length members → keyed ≡ keyed_in header members
    → routed ≡ length (routed_of setting.division topology header members)
    → number ≡ number_of_epochs setting.division.seconds header members
    → lines ≡ epochs_lines setting (routed_of setting.division topology header members) number
    → lines_of setting packets keyed routed lines ≡ central_text setting topology header members
unfolding central_text
central_text_is setting topology header members packets keyed routed number lines p k r n l =
    let all = routed_of setting.division topology header members in
    let told = l ∙ ap (epochs_lines setting all) n in
    λ i. lines_of setting (p i) (k i) (r i) (told i)

-- nothing yet
pub divides_none : (setting : Setting) (topology : Option Topo) (header : Header) (counts : TraceCounts)
    (before : List Gathered) (sketches : Vec Gathered Global)
    → AreCounts setting.division topology counts header [] → before ≡ [] → length sketches.items ≡ max (length before) 1
    → ((routed : List Routed) → Splits setting before routed → Splits setting sketches.items routed)
    → Divides setting topology (record { counts = counts; sketches = sketches }) header []
unfolding number_of_epochs routed_of items_in
divides_none setting topology header counts before sketches are empty number splits = record {
  counts_are = are;
  number_is = number ∙ ap (λ (l : List Gathered). max (length l) 1) empty;
  splits = splits [] (record {
    each = λ epoch d within. absurd (omega (arith, within, ap (λ (l : List Gathered). length l) empty));
    none = λ epoch past. refl;
  });
}
