use Rattle.std.proofs.Common.{List, ℕ, ◌++◌, ap, sym, ◌∙◌, arith}
use Rattle.trace_maker.specs.Trace.{header_bytes}
use Rattle.trace_maker.proofs.Traces.{generated_trace-none, generated_trace-more, record_drawn}
use Rattle.trace_maker.proofs.trace.trace_bytes.Goals as goal

pub loop-number-init : goal.loop-number-init
loop-number-init c = record {
  made =
      c.in_ok-put.ensures ∙ ap (λ (front : List ℕ). front ++ header_bytes) c.in-Ok.ensures.items
      ∙ sym (generated_trace-none c.args.seed c.args.flows);
  rest = c.stream_of-stream.ensures;
}

pub loop-number-preserved : goal.loop-number-preserved
loop-number-preserved c =
    let seed = c.args.seed in
    let flows = c.args.flows in
    let n = c.loop-number.number in
    let drawn = c.draw-packet.ensures.drawn seed n (omega arith) c.loop-number.invariant.rest in
    let written = record_drawn seed flows n c.draw-packet.result c.draw-packet.new.stream drawn in
    let more = generated_trace-more seed n flows in
    let made = c.loop-number.invariant.made in
    let put = c.in_ok-put_record.ensures in
    record { made = cc; rest = drawn.rest }
