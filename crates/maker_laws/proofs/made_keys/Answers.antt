use Rattle.maker_laws.proofs.Keys.{frame_key-frame_bytes, one_flow}
use Rattle.maker_laws.proofs.made_keys.Goals as goal

pub returns-clause-keyed : goal.returns-clause-keyed
returns-clause-keyed c = frame_key-frame_bytes

pub returns-clause-one_flow : goal.returns-clause-one_flow
returns-clause-one_flow c = one_flow
