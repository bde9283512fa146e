-- What is drawn for a packet.
use Rattle.std.specs.Prelude.{◌≡◌, ℕ, ◌+◌, ◌*◌}
use Rattle.rand_chacha.specs.ChaCha.{ChaCha}
use Rattle.trace_maker.specs.Stream.{stream_at}
use Rattle.trace_maker.specs.Trace.{flow_of, original_of}
use Rattle.trace_maker.specs.declared.packet.Packet.{Packet}

-- packet n was taken off the stream
pub record DrawsOne (seed flows n : ℕ) (packet : Packet) (after : ChaCha) : Type 0 where
  pub flow : packet.flow ≡ flow_of seed flows n
  pub original : packet.original ≡ original_of seed n
  pub rest : after ≡ stream_at seed (2 * (n + 1))
