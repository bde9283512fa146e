-- One record more: its key, its epoch, its bytes, and its routed packet.
use Rattle.std.proofs.Common.{◌≡◌, ℕ, ◌+◌, ◌≤◌, max, List, [], ◌∷◌, ◌++◌, length, map, fold, filter_map, cond, Bool, true, false, is_some, Option, Some, None, unwrap_or, refl, sym, ◌∙◌, ap, arith}
use Rattle.std.specs.List.{cons_option}
use Rattle.std.specs.Option.{option_to_list}
use Rattle.std.specs.Prelude.{if◌then◌else◌}
use Rattle.std.proofs.lemmas.List.{map-append}
use Rattle.std.proofs.lemmas.List.Elements.{filter_map-append}
use Rattle.std.proofs.lemmas.List.Sums.{fold-append, sum_by-append}
use Rattle.flow_keys.specs.Frame.{frame_key}
use Rattle.flow_keys.specs.declared.routed.Routed.{Routed}
use Rattle.pcap_reader.specs.declared.header.Header.{Header}
use Rattle.pcap_reader.specs.Trace.{Record, packet_of}
use Rattle.topology.specs.Topology.{Topo}
use Rattle.routed_trace.specs.Routed.{IsDivided, bytes_of, epoch_at, epoch_of, first_of, keyed_in, number_of_epochs, routed_at, routed_of, seconds_of}
use Rattle.routed_trace.specs.declared.division.Division.{Division}

pub keyed_push : (header : Header) (members : List Record) (member : Record) (b : Bool)
    → is_some (frame_key header.link member.captured) ≡ b
    → keyed_in header (members ++ member ∷ []) ≡ keyed_in header members + cond {A = ℕ} b 1 0
keyed_push header members member b is =
    let one = λ (m : Record). cond {A = ℕ} (is_some (frame_key header.link m.captured)) 1 0 in
    omega (arith, sum_by-append one members (member ∷ []), ap (λ (k : Bool). cond {A = ℕ} k 1 0) is)

pub first_of-push : (header : Header) (members : List Record) (member : Record)
    → first_of header (members ++ member ∷ []) ≡ Some (unwrap_or (first_of header members) (seconds_of header member))
first_of-push header [] member = refl
first_of-push header (x ∷ members) member = refl

bytes_of-push : (header : Header) (members : List Record) (member : Record)
    → bytes_of header (members ++ member ∷ []) ≡ bytes_of header members + (packet_of header member).original
bytes_of-push header members member =
    let original = λ (m : Record). (packet_of header m).original in
    omega (arith, sum_by-append original members (member ∷ []))

-- the bytes that are counted, by whether bytes are counted
pub bytes_more : (b : Bool) (header : Header) (members : List Record) (member : Record) (n : ℕ)
    → n ≡ (if b then bytes_of header members else 0)
    → (if b then n + (packet_of header member).original else 0) ≡ (if b then bytes_of header
    (members ++ member ∷ []) else 0)
bytes_more true header members member n is = omega (arith, is, bytes_of-push header members member)
bytes_more false header members member n is = refl

-- fewer bytes are counted of fewer records
pub bytes_less : (b : Bool) (header : Header) (members more : List Record)
    → (if b then bytes_of header members else 0) ≤ (if b then bytes_of header (members ++ more) else 0)
bytes_less true header members more =
    let original = λ (m : Record). (packet_of header m).original in
    omega (arith, sum_by-append original members more)
bytes_less false header members more = omega arith

-- the epoch of a record behind others
pub epoch_behind : (length : Option ℕ) (header : Header) (members : List Record) (member : Record) (first : Option ℕ)
    (seconds : ℕ)
    → first ≡ first_of header members → seconds ≡ seconds_of header member
    → epoch_at length (unwrap_or first seconds) seconds ≡ epoch_of length header (members ++ member ∷ []) member
epoch_behind length header members member first seconds f s =
    (λ i. epoch_at length (unwrap_or (f i) (s i)) (s i))
    ∙ ap (λ (o : Option ℕ). epoch_at length (unwrap_or o 0) (seconds_of header member))
    (sym (first_of-push header members member))

-- the epochs of one more record
pub number_of_epochs-push : (seconds : Option ℕ) (header : Header) (members : List Record) (member : Record)
    → number_of_epochs seconds header (members ++ member ∷ [])
    ≡ max (number_of_epochs seconds header members) (epoch_of seconds header (members ++ member ∷ []) member + 1)
unfolding number_of_epochs
number_of_epochs-push seconds header [] member = raised (epoch_of seconds header (member ∷ []) member)
  where
    raised : (e : ℕ) → max 0 e + 1 ≡ max 1 (e + 1)
    raised e = omega arith
number_of_epochs-push seconds header (x ∷ members) member =
    let all = x ∷ members in
    let epoch = epoch_of seconds header (all ++ member ∷ []) in
    ap (λ (l : List ℕ). fold max 0 l + 1) (map-append epoch all (member ∷ []))
    ∙ ap (λ (n : ℕ). n + 1) (fold-append max 0 (map epoch all) (epoch member ∷ []))
    ∙ raised (fold max 0 (map epoch all)) (epoch member)
  where
    raised : (n e : ℕ) → max n e + 1 ≡ max (n + 1) (e + 1)
    raised n e = omega arith

-- the routed packets of one more record
pub routed_of-push : (division : Division) (topology : Option Topo) (header : Header) (members : List Record)
    (member : Record)
    → routed_of division topology header (members ++ member ∷ [])
    ≡ routed_of division topology header members ++ option_to_list (routed_at division topology header
    (members ++ member ∷ []) member)
unfolding routed_of
routed_of-push division topology header members member = pushed members
  where
    listed : {X : Type 0} (found : Option X) → cons_option found [] ≡ option_to_list found
    listed None = refl
    listed (Some x) = refl

    route : List Record → Record → Option Routed
    route all m = routed_at division topology header all m

    pushed : (ms : List Record)
        → filter_map (route (ms ++ member ∷ [])) (ms ++ member ∷ []) ≡ filter_map (route ms) ms
        ++ option_to_list (route (ms ++ member ∷ []) member)
    pushed [] = listed (route (member ∷ []) member)
    pushed (x ∷ ms) =
        let all = x ∷ ms in
        filter_map-append (route (all ++ member ∷ [])) all (member ∷ [])
        ∙ ap (λ (l : List Routed). filter_map (route all) all ++ l) (listed (route (all ++ member ∷ []) member))

-- no more packets than records
pub length-routed_of-le : (division : Division) (topology : Option Topo) (header : Header) (members : List Record)
    → length (routed_of division topology header members) ≤ length members
unfolding routed_of
length-routed_of-le division topology header members = few (routed_at division topology header members) members
  where
    few : (f : Record → Option Routed) (ms : List Record) → length (filter_map f ms) ≤ length ms
    few f [] = omega arith
    few f (m ∷ ms) = by_found (f m) (few f ms)
      where
        by_found : (found : Option Routed) → length (filter_map f ms) ≤ length ms
            → length (cons_option found (filter_map f ms)) ≤ length (m ∷ ms)
        by_found None within = omega arith
        by_found (Some packet) within = omega arith

-- without a record nothing is late or heavy
pub no_bytes : (b : Bool) (header : Header) → 0 ≡ (if b then bytes_of header [] else 0)
no_bytes true header = refl
no_bytes false header = refl

pub none_divided : (division : Division) (header : Header) → IsDivided division header []
unfolding number_of_epochs
none_divided division header =
    record { few = omega arith; light = omega (arith, no_bytes division.bytes header) }
