-- One spelling of each job, and one reading of all bytes.
use Rattle.std.proofs.Common.{◌≡◌, ◌<◌, ℕ, true, List, [], ◌∷◌, ◌++◌, All, Result, Ok, Err, refl, sym, ◌∙◌, ap, subst, arith, append-nil, inl, inr}
use Rattle.std.specs.List.{flat_map}
use Rattle.std.proofs.lemmas.Bool.{cases_Bool}
use Rattle.byteorder.specs.Endian.{little_bytes}
use Rattle.byte_format.specs.Format.{At, Broken, Reached, judged, reached}
use Rattle.byte_format.proofs.Formats.{reached-append, reached-broken, reached-field}
use Rattle.job_format.specs.Job.{IsJob, Job, Replay, Solve as SolveIt, SpellsJob, frame_bytes, replay_head}
use Rattle.job_format.specs.Places.{job_format, job_start, judge_place}
use Rattle.job_format.specs.Read.{ReadsJob, is_end}
use Rattle.job_format.specs.declared.fault.JobFault.{JobFault}
use Rattle.job_format.specs.declared.fault.JobFault.TheVariants.{Short, Extra}
use Rattle.job_format.specs.declared.item.Item.{Item}
use Rattle.job_format.specs.declared.place.Place.{Place}
use Rattle.job_format.specs.declared.place.Place.TheVariants as places
use Rattle.job_format.proofs.Framing.{frames_one, frames_some}
use Rattle.job_format.proofs.Reading.{breach_of, end_part, end_size, short_of, whole_end}
use Rattle.job_format.proofs.Says.{end_spells, place_says}
use Rattle.job_format.proofs.Spelled.{spelled_on}

-- a job within its limits is spelled
pub some_spelling : (job : Job) → IsJob job → (bytes : List ℕ) × SpellsJob job bytes
some_spelling (Replay job) is =
    let cut = frames_some job.items in (
      replay_head job.number job.setting ++ (flat_map frame_bytes cut.0 ++ little_bytes 2 0),
      record { within = is; frames = cut.0; framed = cut.1; parts = refl },
    )
some_spelling (SolveIt job) is = (_, record { within = is; parts = refl })

-- in one way
pub same_spelling : (job : Job) (bytes other : List ℕ) → SpellsJob job bytes → SpellsJob job other → bytes ≡ other
same_spelling (Replay job) bytes other spells also =
    let head : List ℕ = replay_head job.number job.setting in
    spells.parts
    ∙ ap (λ (frames : List (List Item)). head ++ (flat_map frame_bytes frames ++ little_bytes 2 0))
    (frames_one spells.frames also.frames job.items spells.framed also.framed)
    ∙ sym also.parts
same_spelling (SolveIt job) bytes other spells also = spells.parts ∙ sym also.parts

end_judged : (place : Place) (field : List ℕ) → is_end place ≡ true → judge_place place field ≡ Err Extra
unfolding judge_place
end_judged (places.Head step h) field end = absurd (cc)
end_judged (places.Count h tally) field end = absurd (cc)
end_judged (places.Key h tally left) field end = absurd (cc)
end_judged (places.Weight h tally left key) field end = absurd (cc)
end_judged (places.ReplayEnd h tally) field end = refl
end_judged (places.Solve step n) field end = absurd (cc)
end_judged (places.SolveEnd n) field end = refl

-- a byte behind an end is too much
pub end_extra : (place : Place) (byte : ℕ) (bytes : List ℕ) → is_end place ≡ true
    → reached job_format (At place []) (byte ∷ bytes) ≡ Broken Extra
end_extra place byte bytes end =
    reached-append job_format (At place []) (byte ∷ []) bytes
    ∙ ap (λ (r : Reached Place JobFault). reached job_format r bytes)
    (reached-field job_format place [] (byte ∷ []) (omega arith) (omega (arith, end_size place end))
    ∙ ap (λ (r : Result Place JobFault). judged r) (end_judged place (byte ∷ []) end))
    ∙ reached-broken job_format Extra bytes

-- no spelling goes on as another
pub no_longer : (job other : Job) (bytes rest : List ℕ) → SpellsJob job bytes → SpellsJob other (bytes ++ rest)
    → rest ≡ []
no_longer job other bytes [] spells also = refl
no_longer job other bytes (byte ∷ rest) spells also =
    let on = spelled_on job bytes spells in
    let more = spelled_on other (bytes ++ byte ∷ rest) also in
    let broken : reached job_format (At job_start []) (bytes ++ byte ∷ rest) ≡ Broken Extra =
    reached-append job_format (At job_start []) bytes (byte ∷ rest)
    ∙ ap (λ (r : Reached Place JobFault). reached job_format r (byte ∷ rest)) on.1
    ∙ end_extra on.0 byte rest (whole_end on.0 bytes job on.2) in
    let led : At more.0 [] ≡ Broken Extra = sym more.1 ∙ broken in
    absurd (cc)

reading_at : (bytes : List ℕ) → All (λ byte. byte < 256) bytes → (now : Reached Place JobFault)
    → reached job_format (At job_start []) bytes ≡ now → (read : Result Job JobFault) × ReadsJob bytes read
reading_at bytes small (Broken fault) is = (Err fault, breach_of bytes fault is)
reading_at bytes small (At place part) is = elim (cases_Bool (is_end place)) [
  | inl end ↦
      let (front, (parts, says)) = place_says place bytes part small is in
      let none : part ≡ [] = end_part place bytes part is end in
      let same : front ≡ bytes = sym (parts ∙ ap (λ (l : List ℕ). front ++ l) none ∙ append-nil front) in
      let spelled = end_spells place front end says in
      (Ok spelled.0, subst (λ (l : List ℕ). SpellsJob spelled.0 l) same spelled.1)
  | inr inside ↦ (Err Short, short_of place bytes part is inside)
]

-- all bytes are read as something
pub some_reading : (bytes : List ℕ) → All (λ byte. byte < 256) bytes
    → (read : Result Job JobFault) × ReadsJob bytes read
some_reading bytes small = reading_at bytes small (reached job_format (At job_start []) bytes) refl
