use Rattle.mon_command.proofs.Digits.{eight_are, they_write}
use Rattle.mon_command.proofs.laws.digits_of_a_magic_number.Goals as goal

pub returns-clause-eight : goal.returns-clause-eight
returns-clause-eight c = eight_are

pub returns-clause-value : goal.returns-clause-value
returns-clause-value c = they_write
