-- Numbers in either byte order, by their place in a list of bytes. A byte past the end counts as 0.
use Rattle.std.specs.Prelude.{ℕ, ◌+◌, ◌*◌, List, slice_index}
use Rattle.flow_keys.specs.Numbers.{big_16, big_32}
use Rattle.pcap_reader.specs.declared.order.Order.{Order}
use Rattle.pcap_reader.specs.declared.order.Order.TheVariants.{Little, Big}

abbrev pub little_16 : List ℕ → ℕ → ℕ
little_16 bytes at = slice_index bytes at + 256 * slice_index bytes (at + 1)

abbrev pub little_32 : List ℕ → ℕ → ℕ
little_32 bytes at = little_16 bytes at + 65536 * little_16 bytes (at + 2)

abbrev pub number_16 : Order → List ℕ → ℕ → ℕ
number_16 Little bytes at = little_16 bytes at
number_16 Big bytes at = big_16 bytes at

abbrev pub number_32 : Order → List ℕ → ℕ → ℕ
number_32 Little bytes at = little_32 bytes at
number_32 Big bytes at = big_32 bytes at
