-- Traces, record by record.
use Rattle.std.proofs.Common.{◌≡◌, ℕ, zero, suc, ◌+◌, ◌*◌, List, ◌++◌, length, refl, ◌∙◌, ap, sym, arith, append_assoc, length-append, add-one}
use Rattle.std.specs.List.{flat_map, range_with_len}
use Rattle.rand_chacha.specs.ChaCha.{ChaCha}
use Rattle.trace_maker.specs.Packet.{DrawsOne}
use Rattle.trace_maker.specs.Stream.{stream_at}
use Rattle.trace_maker.specs.Trace.{flow_of, frame_bytes, generated_trace, head_bytes, header_bytes, record_bytes}
use Rattle.trace_maker.specs.declared.packet.Packet.{Packet}
use Rattle.trace_maker.proofs.Ranges.{one_more_piece}

-- n packets are drawn, and their records made
pub record Made (seed flows n : ℕ) (trace : List ℕ) (stream : ChaCha) : Type 0 where
  pub made : trace ≡ generated_trace seed n flows
  pub rest : stream ≡ stream_at seed (2 * n)

pub generated_trace-none : (seed flows : ℕ) → generated_trace seed 0 flows ≡ header_bytes
unfolding generated_trace
generated_trace-none seed flows = refl

-- one more record
pub generated_trace-more : (seed n flows : ℕ)
    → generated_trace seed (n + 1) flows ≡ generated_trace seed n flows ++ record_bytes seed flows n
unfolding generated_trace
generated_trace-more seed n flows =
    ap (λ (records : List ℕ). header_bytes ++ records) (one_more_piece (record_bytes seed flows) n)
    ∙ sym (append_assoc header_bytes (flat_map (record_bytes seed flows) (range_with_len 0 n))
    (record_bytes seed flows n))

-- the record of a packet that was drawn
pub record_drawn : (seed flows n : ℕ) (packet : Packet) (after : ChaCha) → DrawsOne seed flows n packet after
    → head_bytes n packet.original ++ frame_bytes packet.flow packet.original ≡ record_bytes seed flows n
unfolding record_bytes
record_drawn seed flows n packet after drawn =
    ap (λ (flow : ℕ). head_bytes n packet.original ++ frame_bytes flow packet.original) drawn.flow
    ∙ ap (λ (original : ℕ). head_bytes n original ++ frame_bytes (flow_of seed flows n) original) drawn.original

length-record_bytes : (seed flows n : ℕ) → length (record_bytes seed flows n) ≡ 58
unfolding record_bytes head_bytes frame_bytes
length-record_bytes seed flows n = refl

pub length-generated_trace : (seed packets flows : ℕ)
    → length (generated_trace seed packets flows) ≡ 24 + 58 * packets
length-generated_trace seed zero flows = ap length (generated_trace-none seed flows)
length-generated_trace seed (suc n) flows =
    let more = ap length (generated_trace-more seed n flows)
    ∙ length-append (generated_trace seed n flows) (record_bytes seed flows n) in
    let before = length-generated_trace seed n flows in
    let last = length-record_bytes seed flows n in
    rw (← add-one) (omega (arith, more, before, last))
