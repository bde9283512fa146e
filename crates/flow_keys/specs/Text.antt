-- The text of a flow key.
use Rattle.std.specs.Prelude.{ℕ, ◌+◌, ◌/◌, ◌%◌, ◌==◌, false, List, ◌++◌, slice_index, codes, decimal, if◌then◌else◌}
use Rattle.std.specs.Fmt.{radix_digits}

-- four decimal numbers with dots, of an address in one word
unfoldable pub ipv4_text : ℕ → List ℕ
ipv4_text address =
    decimal (address / 16777216) ++
    (codes "." ++
    (decimal (address / 65536 % 256) ++
    (codes "." ++ (decimal (address / 256 % 256) ++ (codes "." ++ decimal (address % 256))))))

-- lower-case hexadecimal without leading zeros
abbrev pub hexadecimal : ℕ → List ℕ
hexadecimal number = radix_digits 16 false number

-- two groups of an IPv6 address, in one word
abbrev pub two_groups : ℕ → List ℕ
two_groups word = hexadecimal (word / 65536) ++ (codes ":" ++ hexadecimal (word % 65536))

-- eight groups with colons, never shortened, of the four words from a place on
unfoldable pub ipv6_text : List ℕ → ℕ → List ℕ
ipv6_text words at =
    two_groups (slice_index words at) ++
    (codes ":" ++
    (two_groups (slice_index words (at + 1)) ++
    (codes ":" ++
    (two_groups (slice_index words (at + 2)) ++ (codes ":" ++ two_groups (slice_index words (at + 3)))))))

-- the address whose words begin at a place
abbrev pub address_text : List ℕ → ℕ → List ℕ
address_text words at = if slice_index words 0 == 4 then ipv4_text (slice_index words at) else ipv6_text words at

-- source address and port, destination address and port, protocol
unfoldable pub text_of : List ℕ → List ℕ
text_of words =
    address_text words 1 ++
    (codes " " ++
    (decimal (slice_index words 9 / 65536) ++
    (codes " " ++
    (address_text words 5 ++
    (codes " " ++ (decimal (slice_index words 9 % 65536) ++ (codes " " ++ decimal (slice_index words 10))))))))
