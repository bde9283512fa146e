use Rattle.std.proofs.Common.{rules, ◌≡◌, ◌≤◌, ℕ, List, length, take, refl, sym, ◌∙◌, ap, arith, length-take}
use Rattle.std.proofs.lemmas.List.{take_all, with_items_is}
use Rattle.mon_io.proofs.Told.{took_more}
use Rattle.pcap_reader.specs.Numbers.{number_32}
use Rattle.pcap_reader.specs.Trace.{packet_of}
use Rattle.pcap_reader.specs.declared.header.Header.{Header}
use Rattle.pcap_reader.proofs.Steps.{none_left, took_all, rest_of_rest, breaks_off, cut_off, went_past}
use Rattle.pcap_reader.proofs.reader.PcapReader.step.Goals as goal

pub returns-in_default-clause-advances : goal.returns-in_default-clause-advances
returns-in_default-clause-advances g c = λ contents members so_far. rest_of_rest so_far.took c.in_default.ensures.bytes

pub returns-in-Err-clause-advances : goal.returns-in-Err-clause-advances
returns-in-Err-clause-advances g c = λ contents members so_far.
    breaks_off _ _ _ so_far c.in-Ok.ensures.bytes.took
    (omega (arith, length-take c.in-Ok.count c.fill.new.into, c.if-count-eq0.false, c.in-Ok.ensures.bytes.within))
    (λ more is. c.in-Err.ensures.fault more
    (λ short. none_left _ more
    (c.in-Ok.ensures.bytes.over (omega (arith, short, length-take c.in-Ok.count c.fill.new.into))) is))

pub returns-in_default-fill_front-clause-advances : goal.returns-in_default-fill_front-clause-advances
returns-in_default-fill_front-clause-advances g c = λ contents members so_far.
    rest_of_rest (took_more so_far.took c.in-Ok.ensures.bytes.took) c.in_default-fill_front.ensures.bytes

pub returns-then-captured-length-clause-advances : goal.returns-then-captured-length-clause-advances
returns-then-captured-length-clause-advances g c = λ contents members so_far.
    let said = c.in-Ok-captured_length.ensures.ok in
    let filled = c.in-Ok-fill_front.ensures.bytes.1 in
    let size = c.in-Ok-fill_front.ensures.size in
    let piece = take c.in-Ok-captured_length.length c.fill_front.new.buffer in
    cut_off _ _ _ so_far c.in-Ok.ensures.bytes.took filled.took
    (filled.over (omega (arith, size, c.if-captured-length.true)))
    said.0 (omega (arith, said.1, said.2))
    (omega (arith, size, said.2, c.if-captured-length.true, length-take c.in-Ok-fill_front.captured piece))
    c.in-Ok-captured_length.ensures.room

pub returns-clause-advances : goal.returns-clause-advances
returns-clause-advances g c = λ contents members so_far.
    let said = c.in-Ok-captured_length.ensures.ok in
    let filled = c.in-Ok-fill_front.ensures.bytes.1 in
    let size = c.in-Ok-fill_front.ensures.size in
    let piece = take c.in-Ok-captured_length.length c.fill_front.new.buffer in
    let full : length piece ≤ c.in-Ok-fill_front.captured = omega (arith, size, c.if-captured-length.false) in
    let whole : length c.fill.new.into ≤ c.in-Ok.count = omega
    (arith, said.0, length-take c.in-Ok.count c.fill.new.into, c.in-Ok.ensures.bytes.within) in
    let head : length c.fill.new.into ≡ 16 = omega arith in
    let past = c.take.ensures.after in (
      record { head = c.fill.new.into; captured = piece },
      went_past c.fill.new.into piece c.in-Ok-captured_length.length so_far
          (took_all whole c.in-Ok.ensures.bytes.took) (took_all full filled.took) past refl refl refl refl
          head (said.2 ∙ ap (λ (l : List ℕ). number_32 c.args.self.now.header.order l 8)
          (take_all _ _ whole)) said.1 size c.in-Ok-captured_length.ensures.room,
      c.take.ensures.packet
          ∙ ap (λ (h : Header). packet_of h (record { head = c.fill.new.into; captured = piece })) (sym past.header),
      ap (λ (n : ℕ). take n c.take.new.self.buffer.items) past.captured_bytes
          ∙ ap (λ (l : List ℕ). take c.in-Ok-captured_length.length l) (past.buffer
          ∙ with_items_is c.args.self.now.buffer c.fill_front.new.buffer (search rules)),
    )
