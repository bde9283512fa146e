-- The key of a made frame.
use Rattle.std.proofs.Common.{◌≡◌, ℕ, ◌+◌, ◌*◌, ◌/◌, ◌%◌, ◌==◌, List, [], ◌∷◌, ◌++◌, Some, Bool, true, false, if◌then◌else◌, arith}
use Rattle.std.specs.Int.{byte_at}
use Rattle.flow_keys.specs.Frame.{ethernet_network, frame_key, ipv4_key, ipv4_ports, network_of, network_of_type, type_place}
use Rattle.flow_keys.specs.declared.link.Link.TheVariants.{Ethernet}
use Rattle.trace_maker.specs.Trace.{ethernet_bytes, frame_bytes, host, ipv4_bytes, network, port_bytes, source_port}
use Rattle.maker_laws.specs.Members.{destination_number, key_of, source_number}

-- a frame of any protocol, and its key where that has ports
frame_with : ℕ → ℕ → ℕ → List ℕ
frame_with protocol flow original = ethernet_bytes ++ (ipv4_bytes protocol flow original ++ port_bytes flow)

key_with : ℕ → ℕ → List ℕ
key_with protocol flow =
    4 ∷ source_number flow ∷ 0 ∷ 0 ∷ 0 ∷ destination_number flow ∷ 0 ∷ 0 ∷ 0
    ∷ (65536 * source_port flow + 443) ∷ protocol ∷ []

source_is : (flow : ℕ)
    → 65536 * (256 * 10 + network flow) + (256 * (host flow / 256) + host flow % 256) ≡ source_number flow
source_is flow = omega arith

destination_is : (flow : ℕ) → 65536 * (256 * 10 + (100 + network flow)) + 1 ≡ destination_number flow
destination_is flow = omega arith

ports_are : (flow : ℕ)
    → 65536 * (256 * byte_at 1 (source_port flow) + byte_at 0 (source_port flow)) + 443
    ≡ 65536 * source_port flow + 443
ports_are flow = omega arith

tcp_key : (flow original : ℕ) → frame_key Ethernet (frame_with 6 flow original) ≡ Some (key_with 6 flow)
unfolding frame_with key_with frame_key network_of ethernet_network type_place network_of_type ipv4_key ipv4_ports
tcp_key flow original =
    λ x. Some (4 ∷ source_is flow x ∷ 0 ∷ 0 ∷ 0 ∷ destination_is flow x ∷ 0 ∷ 0 ∷ 0 ∷ ports_are flow x ∷ 6 ∷ [])

udp_key : (flow original : ℕ) → frame_key Ethernet (frame_with 17 flow original) ≡ Some (key_with 17 flow)
unfolding frame_with key_with frame_key network_of ethernet_network type_place network_of_type ipv4_key ipv4_ports
udp_key flow original =
    λ x. Some (4 ∷ source_is flow x ∷ 0 ∷ 0 ∷ 0 ∷ destination_is flow x ∷ 0 ∷ 0 ∷ 0 ∷ ports_are flow x ∷ 17 ∷ [])

either_key : (odd : Bool) (flow original : ℕ)
    → frame_key Ethernet (frame_with (if odd then 6 else 17) flow original)
    ≡ Some (key_with (if odd then 6 else 17) flow)
either_key true flow original = tcp_key flow original
either_key false flow original = udp_key flow original

pub frame_key-frame_bytes : (flow original : ℕ) → frame_key Ethernet (frame_bytes flow original) ≡ Some (key_of flow)
unfolding frame_bytes frame_with key_with
frame_key-frame_bytes flow original = either_key (flow % 2 == 1) flow original

-- a key tells its flow
pub one_flow : (flow other : ℕ) → key_of flow ≡ key_of other → flow ≡ other
one_flow flow other same =
    let networks : destination_number flow ≡ destination_number other = cc in
    let sources : source_number flow ≡ source_number other = cc in
    omega arith
