-- Which keys a path takes.
use Rattle.std.specs.Prelude.{ℕ, Bool, ◌&&◌, List}
use Rattle.flow_keys.specs.Prefix.{holds}
use Rattle.flow_keys.specs.declared.side.Side.TheVariants.{Source, Destination}
use Rattle.topology.specs.declared.ends.Ends.{Ends}

-- a path takes the key: its first prefix holds the source and its second the destination
abbrev pub takes : List ℕ → Ends → Bool
takes key ends = holds ends.from key Source && holds ends.to key Destination
