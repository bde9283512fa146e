use Rattle.certificate_text.proofs.ByteAnswers.{bytes_answer}
use Rattle.certificate_text.proofs.ByteTrees.{bytes_once}
use Rattle.certificate_text.proofs.OneText.{one_reading}
use Rattle.certificate_text.proofs.TextAnswers.{text_answer}
use Rattle.certificate_text.proofs.laws.one_reading.Goals as goal

pub returns-clause-one_text : goal.returns-clause-one_text
returns-clause-one_text c = one_reading

pub returns-clause-always_bytes : goal.returns-clause-always_bytes
returns-clause-always_bytes c = bytes_answer

pub returns-clause-one_bytes : goal.returns-clause-one_bytes
returns-clause-one_bytes c = bytes_once

pub returns-clause-always_text : goal.returns-clause-always_text
returns-clause-always_text c = text_answer
