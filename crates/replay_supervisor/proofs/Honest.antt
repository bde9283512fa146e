-- A log whose replies are answered is honest.
use Rattle.std.proofs.Common.{ℕ, List, [], ◌∷◌}
use Rattle.crew.specs.Log.{Entry, AreAnswered}
use Rattle.replay_supervisor.specs.Jobs.{Work}
use Rattle.replay_supervisor.specs.Reading.{AreHonest}

pub honest-answered : (work : Work) (answers : List ℕ → List ℕ → Type 0) (refuses : List ℕ → Type 0) (log : List Entry)
    → AreAnswered answers refuses log → AreHonest work answers log
honest-answered work answers refuses [] h = tt
honest-answered work answers refuses (Entry.Reply t bytes ∷ before)
    h = (λ _. h.0, honest-answered work answers refuses before h.1)
honest-answered work answers refuses (Entry.Died t ∷ before) h = honest-answered work answers refuses before h.1
honest-answered work answers refuses (Entry.Started t ∷ before) h = honest-answered work answers refuses before h
honest-answered work answers refuses (Entry.StartFailed t ∷ before) h = honest-answered work answers refuses before h
honest-answered work answers refuses (Entry.Fed t piece ∷ before) h = honest-answered work answers refuses before h
honest-answered work answers refuses (Entry.FeedFailed t ∷ before) h = honest-answered work answers refuses before h
honest-answered work answers refuses (Entry.Sealed t ∷ before) h = honest-answered work answers refuses before h
honest-answered work answers refuses (Entry.Stopped t ∷ before) h = honest-answered work answers refuses before h
