-- What is written, with the needs that are left, is what is to be written.
use Rattle.std.proofs.Common.{◌≡◌, ◌++◌, drop}
use Rattle.std.specs.Prelude.{string_bytes}
use Rattle.std.specs.List.{flat_map}
use Rattle.certificate_text.specs.Text.{spaced}
use Rattle.certificate_text.proofs.text.put_hall.Given as goal

abbrev pub invariant-loop-name : goal.invariant-loop-name
invariant-loop-name l =
    string_bytes l.text ++ flat_map spaced
    (drop l.name-index l.names) ≡ string_bytes l.initial.text ++ flat_map spaced l.names
