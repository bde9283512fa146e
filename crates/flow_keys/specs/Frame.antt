-- The key of a frame, by the positions of its bytes.
use Rattle.std.specs.Prelude.{ℕ, ◌+◌, ◌*◌, ◌/◌, ◌%◌, ◌==◌, ◌&&◌, ◌||◌, nat_lt, nat_le, Bool, List, [], ◌∷◌, length, drop, slice_index, Option, Some, None, option_map, option_and_then, if◌then◌else◌}
use Rattle.flow_keys.specs.Numbers.{big_16, big_32}
use Rattle.flow_keys.specs.declared.link.Link.{Link}
use Rattle.flow_keys.specs.declared.link.Link.TheVariants.{Ethernet, Raw, Cooked1, Cooked2}

-- a network header, and what follows it
pub data Network : Type 0 where
  Ipv4 : List ℕ → Network
  Ipv6 : List ℕ → Network

-- IEEE 802 numbers: the type 0x0800 is IPv4, 0x86DD is IPv6
unfoldable pub network_of_type : ℕ → List ℕ → Option Network
network_of_type number header =
    if number == 0x0800 then Some (Ipv4 header) else if number == 0x86dd then Some (Ipv6 header) else None

-- IEEE 802.1Q: a tag has the type 0x8100, or 0x88A8 as a service tag
abbrev pub is_tag : ℕ → Bool
is_tag number = number == 0x8100 || number == 0x88a8

-- IEEE 802.3 and 802.1Q: the place of the type, past at most two tags of four bytes
unfoldable pub type_place : List ℕ → ℕ
type_place frame =
    if is_tag (big_16 frame 12) then (if is_tag (big_16 frame 16) then 20 else 16) else 12

-- the header that a type field at a place announces, which follows at another place
abbrev pub network_behind : List ℕ → ℕ → ℕ → Option Network
network_behind frame type_at header_at =
    if nat_lt (length frame) header_at then None else network_of_type (big_16 frame type_at) (drop header_at frame)

unfoldable pub ethernet_network : List ℕ → Option Network
ethernet_network frame = network_behind frame (type_place frame) (type_place frame + 2)

-- raw IP: the version is the high four bits of the first byte
unfoldable pub raw_network : List ℕ → Option Network
raw_network frame =
    if slice_index frame 0 / 16 == 4 then Some (Ipv4 frame)
    else if slice_index frame 0 / 16 == 6 then Some (Ipv6 frame) else None

-- Linux cooked v1: a header of 16 bytes, its type at 14; v2: a header of 20 bytes, its type at 0
unfoldable pub network_of : Link → List ℕ → Option Network
network_of Ethernet frame = ethernet_network frame
network_of Raw frame = raw_network frame
network_of Cooked1 frame = network_behind frame 14 16
network_of Cooked2 frame = network_behind frame 0 20

-- RFC 9293 and RFC 768: TCP is protocol 6 and UDP 17; each begins with the two ports
abbrev pub has_ports : ℕ → Bool
has_ports protocol = protocol == 6 || protocol == 17

-- the ports behind a header of this length, which must be there where the protocol has them
abbrev pub ports_behind : List ℕ → ℕ → ℕ → Option ℕ
ports_behind packet protocol header_length =
    if has_ports protocol
    then (if nat_lt (length packet) (header_length + 4) then None else Some (big_32 packet header_length))
    else Some 0

-- RFC 791, section 3.1: only the first fragment has the ports
unfoldable pub ipv4_ports : List ℕ → Option ℕ
ipv4_ports packet =
    if big_16 packet 6 % 8192 == 0
    then ports_behind packet (slice_index packet 9) (4 * (slice_index packet 0 % 16))
    else Some 0

-- RFC 791, section 3.1: version 4, a header of at least five words
abbrev pub is_ipv4 : List ℕ → Bool
is_ipv4 packet = nat_le 20 (length packet) && slice_index packet 0 / 16 == 4 && nat_le 5 (slice_index packet 0 % 16)

unfoldable pub ipv4_key : List ℕ → Option (List ℕ)
ipv4_key packet =
    if is_ipv4 packet
    then option_map
    (λ ports. 4 ∷ big_32 packet 12 ∷ 0 ∷ 0 ∷ 0 ∷ big_32 packet 16 ∷ 0 ∷ 0 ∷ 0 ∷ ports ∷ slice_index packet 9 ∷ [])
    (ipv4_ports packet)
    else None

-- RFC 8200, section 3: version 6, a header of 40 bytes
abbrev pub is_ipv6 : List ℕ → Bool
is_ipv6 packet = nat_le 40 (length packet) && slice_index packet 0 / 16 == 6

unfoldable pub ipv6_key : List ℕ → Option (List ℕ)
ipv6_key packet =
    if is_ipv6 packet
    then option_map (λ ports.
    6 ∷ big_32 packet 8 ∷ big_32 packet 12 ∷ big_32 packet 16 ∷ big_32 packet 20
    ∷ big_32 packet 24 ∷ big_32 packet 28 ∷ big_32 packet 32 ∷ big_32 packet 36
    ∷ ports ∷ slice_index packet 6 ∷ []) (ports_behind packet (slice_index packet 6) 40)
    else None

abbrev pub network_key : Network → Option (List ℕ)
network_key (Ipv4 packet) = ipv4_key packet
network_key (Ipv6 packet) = ipv6_key packet

-- the eleven words of a frame's key, None where it is unkeyed
unfoldable pub frame_key : Link → List ℕ → Option (List ℕ)
frame_key link frame = option_and_then network_key (network_of link frame)
