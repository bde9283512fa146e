-- The set has no such text, so it gets one more key.
use Rattle.std.proofs.Common.{◌∙◌, ap, map, string_bytes}
use Rattle.topology.proofs.SeenLists.{texts-insert_key}
use Rattle.topology.proofs.names.push.Goals as goal

pub returns-clause-pushed : goal.returns-clause-pushed
returns-clause-pushed c =
    ap (map string_bytes) c.in-Ok-insert.ensures.keys
    ∙ texts-insert_key c.args.keys.now.keys c.in-Ok.name c.args.name.now c.in-Ok.ensures.ok c.requires
