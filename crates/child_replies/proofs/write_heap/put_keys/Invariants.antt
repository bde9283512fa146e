-- What is written, with the keys that are left, is what is to be written.
use Rattle.std.proofs.Common.{◌≡◌, ◌++◌, drop, flat_map}
use Rattle.byte_format.specs.Keys.{key_bytes}
use Rattle.child_replies.proofs.write_heap.put_keys.Given as goal

abbrev pub invariant-loop-key : goal.invariant-loop-key
invariant-loop-key l = l.out.items ++ flat_map key_bytes (drop l.key-index l.keys) ≡ l.initial.out.items
    ++ flat_map key_bytes l.keys
