-- The header of a classic pcap trace, version 2.4: magic 4, major 2, minor 2, zone 4, sigfigs 4, snaplen 4, link 4.
use Rattle.std.specs.Prelude.{ℕ, ◌%◌, ◌==◌, ◌&&◌, ◌||◌, nat_lt, Bool, List, length, take, Option, Some, None, Result, Ok, Err, if◌then◌else◌}
use Rattle.flow_keys.specs.Numbers.{big_32}
use Rattle.flow_keys.specs.declared.link.Link.{Link}
use Rattle.flow_keys.specs.declared.link.Link.TheVariants as links
use Rattle.pcap_reader.specs.declared.fault.PcapFault.{PcapFault}
use Rattle.pcap_reader.specs.declared.fault.PcapFault.TheVariants as faults
use Rattle.pcap_reader.specs.declared.order.Order.{Order}
use Rattle.pcap_reader.specs.declared.order.Order.TheVariants.{Little, Big}
use Rattle.pcap_reader.specs.declared.header.Header.{Header}
use Rattle.pcap_reader.specs.Numbers.{little_32, number_16, number_32}

-- the magic numbers: times in microseconds and in nanoseconds
abbrev pub is_magic : ℕ → Bool
is_magic number = number == 0xa1b2c3d4 || number == 0xa1b23c4d

-- the magic number tells the byte order of every other number
unfoldable pub order_of : List ℕ → Option Order
order_of header =
    if is_magic (little_32 header 0) then Some Little else if is_magic (big_32 header 0) then Some Big else None

-- the link types that are read
unfoldable pub link_of : ℕ → Option Link
link_of number =
    if number == 1 then Some links.Ethernet
    else if number == 101 then Some links.Raw
    else if number == 113 then Some links.Cooked1
    else if number == 276 then Some links.Cooked2
    else None

-- the low 16 bits of the link field count
abbrev pub link_number : Order → List ℕ → ℕ
link_number order header = number_32 order header 20 % 65536

abbrev pub linked : Order → ℕ → Option Link → Result Header PcapFault
linked order number None = Err (faults.Link number)
linked order number (Some link) = Ok (record { order = order; link = link })

abbrev pub versioned : Order → List ℕ → Result Header PcapFault
versioned order header =
    if number_16 order header 4 == 2 && number_16 order header 6 == 4
    then linked order (link_number order header) (link_of (link_number order header))
    else Err (faults.Version (number_16 order header 4) (number_16 order header 6))

abbrev pub ordered : List ℕ → Option Order → Result Header PcapFault
ordered header None = Err (faults.NotClassic (little_32 header 0))
ordered header (Some order) = versioned order header

-- what the 24 bytes of a header say, or the first fault
unfoldable pub header_in : List ℕ → Result Header PcapFault
header_in header =
    if nat_lt (length header) 24 then Err (faults.ShortHeader (length header)) else ordered header (order_of header)

-- the header at the front of a trace
abbrev pub header_of : List ℕ → Result Header PcapFault
header_of bytes = header_in (take 24 bytes)
