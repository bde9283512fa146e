use Rattle.std.proofs.Common.{refl}
use Rattle.routed_trace.specs.Routed.{number_of_epochs, routed_of}
use Rattle.routed_trace.proofs.Records.{no_bytes, none_divided}
use Rattle.routed_trace.proofs.counts.TraceCounts.none.Goals as goal

pub returns : goal.returns
unfolding number_of_epochs routed_of
returns c = record {
  counts = λ division topology header. record {
    packets = refl;
    keyed = refl;
    routed = refl;
    epochs = refl;
    first = refl;
    bytes = no_bytes division.bytes header;
    divided = none_divided division header;
  };
}
