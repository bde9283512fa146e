use Rattle.std.proofs.Common.{◌≡◌, drop}
use Rattle.mon_io.specs.Files.{contents_of}
use Rattle.mon_io.proofs.shelf.place_of.Given as goal

abbrev pub invariant-loop-place : goal.invariant-loop-place
invariant-loop-place l = contents_of (drop l.place l.files) l.name ≡ contents_of l.files l.name
