use Rattle.flow_keys.proofs.WholeAddress.{none_holds_all, whole_holds_one, whole_text_reads}
use Rattle.flow_keys.proofs.prefix.one_address.Goals as goal

pub returns-clause-read : goal.returns-clause-read
returns-clause-read c = whole_text_reads

pub returns-clause-one : goal.returns-clause-one
returns-clause-one c = whole_holds_one

pub returns-clause-all : goal.returns-clause-all
returns-clause-all c = none_holds_all
