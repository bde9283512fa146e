use Rattle.std.proofs.Common.{rules, append_assoc}
use Rattle.flow_keys.specs.Text.{text_of}
use Rattle.flow_keys.proofs.text.key_text.Goals as goal

pub returns : goal.returns
unfolding text_of
returns c = rw (← c.words-words.ensures.value) (search (rules, append_assoc))
