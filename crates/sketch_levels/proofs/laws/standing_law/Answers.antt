use Rattle.sketch_levels.proofs.Standing.{counters-same, keys-same, number-same, weight-same}
use Rattle.sketch_levels.proofs.laws.standing_law.Goals as goal

pub returns-clause-counters : goal.returns-clause-counters
returns-clause-counters c = λ entries items seed level rows width stand. counters-same entries items stand seed level
    rows width

pub returns-clause-weight : goal.returns-clause-weight
returns-clause-weight c = λ entries items seed level stand. weight-same entries items stand seed level

pub returns-clause-keys : goal.returns-clause-keys
returns-clause-keys c = λ entries items seed level stand. keys-same entries items stand seed level

pub returns-clause-number : goal.returns-clause-number
returns-clause-number c = number-same
