-- The acts of a script and its deeds.
use Rattle.std.proofs.Common.{List, [], ◌∷◌, All}
use Rattle.std.proofs.lemmas.List.Elements.{All-cons, All-head, All-map, All-nil, All-tail}
use Rattle.scripted_crew.specs.Script.{deed_of, deeds_of}
use Rattle.scripted_crew.specs.declared.act.Act.{Act}
use Rattle.scripted_logs.specs.Answering.{AnswersAlone, GivesNoBytes}

-- the act gives no bytes of its own
abbrev IsBare : Act → Type 0
IsBare act = GivesNoBytes (deed_of act)

pub deeds_alone : (acts : List Act) → All (λ act. GivesNoBytes (deed_of act)) acts → AnswersAlone (deeds_of acts)
unfolding deeds_of
deeds_alone acts alone = All-map GivesNoBytes deed_of acts alone

pub acts_alone : (acts : List Act) → AnswersAlone (deeds_of acts) → All (λ act. GivesNoBytes (deed_of act)) acts
unfolding deeds_of
acts_alone [] alone = All-nil IsBare
acts_alone (act ∷ acts) alone =
    All-cons IsBare act acts (All-head GivesNoBytes (deed_of act) (deeds_of acts) alone)
    (acts_alone acts (All-tail GivesNoBytes (deed_of act) (deeds_of acts) alone))
