-- What an event says of the script.
use Rattle.std.proofs.Common.{◌≡◌, ℕ, List, [], ◌∷◌, Option, None, Some, Vec, drop, sym, ◌∙◌, ap, subst}
use Rattle.std.specs.Prelude.{slice_get}
use Rattle.std.specs.declared.alloc.Global.{Global}
use Rattle.crew.specs.Log.{Entry, job_bytes}
use Rattle.crew.specs.declared.event.Event.TheVariants as events
use Rattle.roster.specs.Fed.{fed_to}
use Rattle.scripted_crew.specs.Gives.{Gives}
use Rattle.scripted_crew.specs.Script.{Deed, deeds_left, deeds_of, from_started, is_listed, is_started, outs_in, IsDeath, IsReply, IsScripted, Script}
use Rattle.scripted_crew.specs.declared.act.Act.{Act}

-- the deeds from the next one on, in the log's words
pub next_is : (acts now : List Act) (listed started : List ℕ) (log : List Entry) (done place : ℕ) → now ≡ acts
    → listed ≡ started → ((t : ℕ) → is_listed started t ≡ is_started log t)
    → drop done (deeds_of acts) ≡ deeds_left (deeds_of acts) log
    → drop place (deeds_of now) ≡ from_started (is_listed listed) (drop done (deeds_of now))
    → drop place (deeds_of acts) ≡ from_started (is_started log) (deeds_left (deeds_of acts) log)
next_is acts now listed started log done place same_acts same_listed is left found =
    ap (λ (xs : List Act). drop place (deeds_of xs)) (sym same_acts) ∙ found
    ∙ ap (λ (xs : List ℕ). from_started (is_listed xs) (drop done (deeds_of now))) same_listed
    ∙ ap (λ (xs : List Act). from_started (is_listed started) (drop done (deeds_of xs))) same_acts
    ∙ (λ i. from_started (λ t. is t i) (left i))

-- a reply and a death, in the log's words
pub reply_of : (answers : List ℕ → List ℕ → Type 0) (refuses : List ℕ → Type 0) (deed : Option Deed) (oldest : ℕ)
    (jobs : List (List ℕ)) (log : List Entry) (t : ℕ) (bytes : Vec ℕ Global)
    → Gives answers refuses deed oldest jobs (events.Reply t bytes) → slice_get (outs_in log) 0 ≡ Some oldest
    → ((s : ℕ) → fed_to jobs s ≡ job_bytes log s) → IsReply answers deed log t bytes.items
reply_of answers refuses None oldest jobs log t bytes h first fed = (
  first ∙ ap (λ (k : ℕ). Some k) (sym h.0),
  subst (λ (job : List ℕ). answers job bytes.items)
      (fed oldest ∙ ap (job_bytes log) (sym h.0)) h.1,
)
reply_of answers refuses (Some (Deed.Answer x)) oldest jobs log t bytes h first fed =
    (h.0, subst (λ (job : List ℕ). answers job bytes.items) (fed x ∙ ap (job_bytes log) (sym h.0)) h.1)
reply_of answers refuses (Some (Deed.Give x given)) oldest jobs log t bytes h first fed = h
reply_of answers refuses (Some (Deed.Die x)) oldest jobs log t bytes h first fed = absurd h

pub death_of : (answers : List ℕ → List ℕ → Type 0) (refuses : List ℕ → Type 0) (deed : Option Deed) (oldest : ℕ)
    (jobs : List (List ℕ)) (log : List Entry) (t : ℕ) → Gives answers refuses deed oldest jobs (events.Died t)
    → slice_get (outs_in log) 0 ≡ Some oldest → ((s : ℕ) → fed_to jobs s ≡ job_bytes log s) → IsDeath refuses deed log t
death_of answers refuses None oldest jobs log t h first fed =
    (first ∙ ap (λ (k : ℕ). Some k) (sym h.0), subst refuses (fed oldest ∙ ap (job_bytes log) (sym h.0)) h.1)
death_of answers refuses (Some (Deed.Answer x)) oldest jobs log t h first
    fed = (h.0, subst refuses (fed x ∙ ap (job_bytes log) (sym h.0)) h.1)
death_of answers refuses (Some (Deed.Give x given)) oldest jobs log t h first fed = absurd h
death_of answers refuses (Some (Deed.Die x)) oldest jobs log t h first fed = h

-- the same bytes are answers after a call, and the same jobs have none
pub reply_on : (old new : List ℕ → List ℕ → Type 0) → ((job bytes : List ℕ) → old job bytes → new job bytes)
    → (deed : Option Deed) (log : List Entry) (t : ℕ) (bytes : List ℕ) → IsReply old deed log t bytes
    → IsReply new deed log t bytes
reply_on old new forth None log t bytes h = (h.0, forth (job_bytes log t) bytes h.1)
reply_on old new forth (Some (Deed.Answer x)) log t bytes h = (h.0, forth (job_bytes log t) bytes h.1)
reply_on old new forth (Some (Deed.Give x given)) log t bytes h = h
reply_on old new forth (Some (Deed.Die x)) log t bytes h = absurd h

pub death_on : (refused refuses : List ℕ → Type 0) → ((job : List ℕ) → refused job → refuses job)
    → (deed : Option Deed) (log : List Entry) (t : ℕ) → IsDeath refused deed log t → IsDeath refuses deed log t
death_on refused refuses none None log t h = (h.0, none (job_bytes log t) h.1)
death_on refused refuses none (Some (Deed.Answer x)) log t h = (h.0, none (job_bytes log t) h.1)
death_on refused refuses none (Some (Deed.Give x given)) log t h = absurd h
death_on refused refuses none (Some (Deed.Die x)) log t h = h

pub scripted_on : (s : Script) (old new : List ℕ → List ℕ → Type 0) (refused refuses : List ℕ → Type 0)
    → ((job bytes : List ℕ) → old job bytes → new job bytes) → ((job : List ℕ) → refused job → refuses job)
    → (log : List Entry) → IsScripted s old refused log → IsScripted s new refuses log
scripted_on s old new refused refuses forth none [] h = tt
scripted_on s old new refused refuses forth none (Entry.Started t ∷ before)
    h = (h.0, h.1, scripted_on s old new refused refuses forth none before h.2)
scripted_on s old new refused refuses forth none (Entry.StartFailed t ∷ before)
    h = (h.0, scripted_on s old new refused refuses forth none before h.1)
scripted_on s old new refused refuses forth none (Entry.Fed t piece ∷ before)
    h = (h.0, scripted_on s old new refused refuses forth none before h.1)
scripted_on s old new refused refuses forth none (Entry.FeedFailed t ∷ before)
    h = (h.0, scripted_on s old new refused refuses forth none before h.1)
scripted_on s old new refused refuses forth none (Entry.Sealed t ∷ before)
    h = (h.0, scripted_on s old new refused refuses forth none before h.1)
scripted_on s old new refused refuses forth none (Entry.Reply t bytes ∷ before)
    h = (reply_on old new forth _ before t bytes h.0, scripted_on s old new refused refuses forth none before h.1)
scripted_on s old new refused refuses forth none (Entry.Died t ∷ before)
    h = (death_on refused refuses none _ before t h.0, scripted_on s old new refused refuses forth none before h.1)
scripted_on s old new refused refuses forth none (Entry.Stopped t ∷ before) h = scripted_on s old new refused refuses
    forth none before h
