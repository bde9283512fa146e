use Rattle.std.proofs.Common.{ℕ, List, Option, take, refl, sym, subst, arith, length-take}
use Rattle.mon_io.specs.Inputs.{Took}
use Rattle.pcap_reader.proofs.Headers.{header_refused, header_accepted}
use Rattle.pcap_reader.proofs.reader.PcapReader.begin.Goals as goal

pub returns-in-Err-clause-begun : goal.returns-in-Err-clause-begun
returns-in-Err-clause-begun g c =
    header_refused _ _ _ _ c.in-Ok.ensures.picked c.in-Ok-fill.ensures.bytes (omega arith) (sym c.in-Err.ensures)

pub returns-in-Ok-read_header-clause-begun : goal.returns-in-Ok-read_header-clause-begun
returns-in-Ok-read_header-clause-begun g c =
    let filled = c.in-Ok-fill.ensures.bytes in
    let accepted = header_accepted (take c.in-Ok-fill.count c.fill.new.into) c.in-Ok-read_header.header
    (omega (arith, length-take c.in-Ok-fill.count c.fill.new.into)) (sym c.in-Ok-read_header.ensures) in record {
      front = take c.in-Ok-fill.count c.fill.new.into;
      took =
          subst (λ (told : Option (List ℕ)). Took told (g.I.Inputs.state c.fill.new.inputs).rest
          (take c.in-Ok-fill.count c.fill.new.into)) c.in-Ok.ensures.picked filled.took;
      begins = accepted.0;
      count = refl;
      offset = sym accepted.1;
      going = refl;
    }
