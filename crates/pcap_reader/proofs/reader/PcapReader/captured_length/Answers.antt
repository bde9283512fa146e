use Rattle.std.proofs.Common.{◌≡◌, ℕ, [], length, Some, sym, ◌∙◌, ap, ◌<◌, arith, length-append}
use Rattle.pcap_reader.specs.Numbers.{number_32}
use Rattle.pcap_reader.specs.Reader.{header_read}
use Rattle.pcap_reader.specs.declared.fault.PcapFault.TheVariants.{LongRecord}
use Rattle.pcap_reader.proofs.Faults.{too_many, short_head, long_record}
use Rattle.pcap_reader.proofs.reader.PcapReader.captured_length.Goals as goal

pub returns-then-self-eq-MOST_RECORDS-clause-fault :
    goal.returns-then-self-eq-MOST_RECORDS-clause-fault
returns-then-self-eq-MOST_RECORDS-clause-fault c = λ more short. too_many _ _ _ _ c.if-self-eq-MOST_RECORDS.true

pub returns-then-head-lt16-clause-fault : goal.returns-then-head-lt16-clause-fault
returns-then-head-lt16-clause-fault c = λ more short.
    let none : more ≡ [] = short c.if-head-lt16.true in
    short_head _ _ _ _ c.if-self-eq-MOST_RECORDS.false
    (omega (arith, length-append c.args.head.now more, ap length none))

pub returns-then-length-gt-MOST_CAPTURED-clause-fault :
    goal.returns-then-length-gt-MOST_CAPTURED-clause-fault
returns-then-length-gt-MOST_CAPTURED-clause-fault c = λ more short.
    let size : length c.args.head.now ≡ 16 = omega arith in
    let long : 262144 < number_32 (header_read c.args.self.now).order c.args.head.now 8 = omega
    (arith, c.if-length-gt-MOST_CAPTURED.true, c.number_32-length.ensures) in
    long_record _ _ _ c.args.head.now more c.if-self-eq-MOST_RECORDS.false size long
    ∙ ap (λ (n : ℕ). Some (LongRecord c.args.self.now.at n)) (sym c.number_32-length.ensures)
