use Rattle.sketch_merge.proofs.Members.{members}
use Rattle.sketch_merge.proofs.Unions.{ascending-united}
use Rattle.sketch_merge.proofs.laws.united_keys_law.Goals as goal

pub returns-clause-members : goal.returns-clause-members
returns-clause-members c = members

pub returns-clause-ascending : goal.returns-clause-ascending
returns-clause-ascending c = ascending-united
