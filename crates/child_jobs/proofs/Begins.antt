-- The head that a reader knows stands at the front of the bytes that it has taken.
use Rattle.std.proofs.Common.{◌≡◌, ◌<◌, ◌≤◌, ℕ, ◌+◌, List, [], ◌++◌, length, take, slice_index, sym, ◌∙◌, ap, arith, append_assoc, append-nil, length-append}
use Rattle.std.proofs.lemmas.List.{length-take}
use Rattle.hash_family.specs.Setting.{Setting}
use Rattle.job_format.specs.Job.{replay_head, solve_head}
use Rattle.job_format.specs.Places.{head_size, place_size}
use Rattle.job_format.specs.Read.{setting_in}
use Rattle.job_format.specs.declared.item.Item.{Item}
use Rattle.job_format.specs.declared.place.HeadNumbers.{HeadNumbers}
use Rattle.job_format.specs.declared.place.HeadStep.{HeadStep}
use Rattle.job_format.specs.declared.place.HeadStep.TheVariants as steps
use Rattle.job_format.specs.declared.place.Place.{Place}
use Rattle.job_format.specs.declared.place.Place.TheVariants as places
use Rattle.child_jobs.specs.Heads.{BeginsWith, Head, ReplayHead, SolveHead, head_at, head_bytes}
use Rattle.child_jobs.specs.Reader.{HasTaken, known_head}
use Rattle.child_jobs.specs.declared.reader.JobReader.{JobReader}
use Rattle.child_jobs.proofs.Moves.{at_state}
use Rattle.job_format.proofs.Fronts.{Says, SaysHead, SaysReplay, SaysSolve, replay_start}
use Rattle.job_format.proofs.Says.{BeginsSo, begins_so, place_says}

-- how long a head is
replay_long : (number : ℕ) (setting : Setting) (rest : List ℕ) → 24 ≤ length (replay_head number setting ++ rest)
replay_long number setting rest = omega arith

solve_long : (number : ℕ) (rest : List ℕ) → 10 ≤ length (solve_head number ++ rest)
solve_long number rest = omega arith

-- in front of a field of a head
front_short : (step : HeadStep) (h : HeadNumbers) (front : List ℕ) → SaysHead step h front
    → length front + head_size step ≤ 24
front_short steps.Magic h front says = let size : length front ≡ 0 = ap length says in omega arith
front_short steps.Version h front says = let size : length front ≡ 4 = ap length says in omega arith
front_short steps.Kind h front says = let size : length front ≡ 5 = ap length says in omega arith
front_short steps.Number h front says = let size : length front ≡ 6 = ap length says in omega arith
front_short steps.Levels h front says = let size : length front ≡ 10 = ap length says.1 in omega arith
front_short steps.Rows h front says = let size : length front ≡ 11 = ap length says.2 in omega arith
front_short steps.Width h front says = let size : length front ≡ 12 = ap length says.3 in omega arith
front_short steps.Heap h front says = let size : length front ≡ 14 = ap length says.4 in omega arith
front_short steps.Seed h front says = let size : length front ≡ 16 = ap length says.5 in omega arith

-- no whole head of a replay job stands there
no_replay : (step : HeadStep) (h : HeadNumbers) (front part : List ℕ) → length part < head_size step
    → SaysHead step h front → (number : ℕ) (setting : Setting) (rest : List ℕ)
    → front ++ part ≡ replay_head number setting ++ rest → ⊥
no_replay step h front part less says number setting rest is =
    let short : length front + head_size step ≤ 24 = front_short step h front says in
    let long : 24 ≤ length (replay_head number setting ++ rest) = replay_long number setting rest in
    omega (arith, ap length is, length-append front part)

-- nor one of a solve job: the bytes are fewer, or say another kind
other_kind : (number other : ℕ) (more part rest : List ℕ)
    → (replay_start number ++ more) ++ part ≡ solve_head other ++ rest → ⊥
other_kind number other more part rest is =
    let kinds : 0 ≡ 1 = ap (λ (l : List ℕ). slice_index l 5) is in omega (arith, kinds)

few_bytes : (front part : List ℕ) (number : ℕ) (rest : List ℕ) → length front + length part < 10
    → front ++ part ≡ solve_head number ++ rest → ⊥
few_bytes front part number rest less is =
    omega (arith, less, solve_long number rest, ap length is, length-append front part)

after_kind : (number other : ℕ) (front more part rest : List ℕ) → front ≡ replay_start number ++ more
    → front ++ part ≡ solve_head other ++ rest → ⊥
after_kind number other front more part rest front_is is =
    other_kind number other more part rest (ap (λ (l : List ℕ). l ++ part) (sym front_is) ∙ is)

no_solve : (step : HeadStep) (h : HeadNumbers) (front part : List ℕ) → length part < head_size step
    → SaysHead step h front → (number : ℕ) (rest : List ℕ)
    → front ++ part ≡ solve_head number ++ rest → ⊥
no_solve steps.Magic h front part less says number rest is =
    let size : length front ≡ 0 = ap length says in few_bytes front part number rest (omega arith) is
no_solve steps.Version h front part less says number rest is =
    let size : length front ≡ 4 = ap length says in few_bytes front part number rest (omega arith) is
no_solve steps.Kind h front part less says number rest is =
    let size : length front ≡ 5 = ap length says in few_bytes front part number rest (omega arith) is
no_solve steps.Number h front part less says number rest is =
    let size : length front ≡ 6 = ap length says in few_bytes front part number rest (omega arith) is
no_solve steps.Levels h front part less says number rest is =
    after_kind h.job number front [] part rest (says.1 ∙ sym (append-nil (replay_start h.job))) is
no_solve steps.Rows h front part less says number rest is = after_kind h.job number front _ part rest says.2 is
no_solve steps.Width h front part less says number rest is = after_kind h.job number front _ part rest says.3 is
no_solve steps.Heap h front part less says number rest is = after_kind h.job number front _ part rest says.4 is
no_solve steps.Seed h front part less says number rest is = after_kind h.job number front _ part rest says.5 is

no_head : (step : HeadStep) (h : HeadNumbers) (bytes front part : List ℕ) → bytes ≡ front ++ part
    → length part < head_size step → SaysHead step h front
    → (head : Head) (rest : List ℕ) → bytes ≡ head_bytes head ++ rest → ⊥
no_head step h bytes front part parts less says (ReplayHead number setting) rest is =
    no_replay step h front part less says number setting rest (sym parts ∙ is)
no_head step h bytes front part parts less says (SolveHead number) rest is =
    no_solve step h front part less says number rest (sym parts ∙ is)

-- a head that stands at the front stands there before more
with_part : (head : Head) (bytes front part more : List ℕ) → bytes ≡ front ++ part → front ≡ head_bytes head ++ more
    → (rest : List ℕ) × (bytes ≡ head_bytes head ++ rest)
with_part head bytes front part more parts is =
    (more ++ part, parts ∙ ap (λ (l : List ℕ). l ++ part) is ∙ append_assoc (head_bytes head) more part)

begins_replay : (h : HeadNumbers) (bytes front part : List ℕ) → bytes ≡ front ++ part
    → (more : List ℕ) × SaysReplay h front more
    → (rest : List ℕ) × (bytes ≡ replay_head h.job (setting_in h) ++ rest)
begins_replay h bytes front part parts (more, says) =
    with_part (ReplayHead h.job (setting_in h)) bytes front part more parts says.parts

begins_solve : (number : ℕ) (bytes front part : List ℕ) → bytes ≡ front ++ part
    → (more : List ℕ) × SaysSolve number front more
    → (rest : List ℕ) × (bytes ≡ solve_head number ++ rest)
begins_solve number bytes front part parts (more, says) =
    with_part (SolveHead number) bytes front part more parts says.parts

begins_at : (place : Place) (bytes front part : List ℕ) → bytes ≡ front ++ part → length part < place_size place
    → Says place front → BeginsSo place front → BeginsWith bytes (head_at place)
begins_at (places.Head step h) bytes front part parts less says so =
    λ head rest is_head is. no_head step h bytes front part parts less says head rest is
begins_at (places.Count h tally) bytes front part parts less says so = begins_replay h bytes front part parts so
begins_at (places.Key h tally left) bytes front part parts less says so = begins_replay h bytes front part parts so
begins_at (places.Weight h tally left key) bytes front part parts less says so =
    begins_replay h bytes front part parts so
begins_at (places.ReplayEnd h tally) bytes front part parts less says so = begins_replay h bytes front part parts so
begins_at (places.Solve step n) bytes front part parts less says so = begins_solve n.job bytes front part parts so
begins_at (places.SolveEnd n) bytes front part parts less says so = begins_solve n.job bytes front part parts so

pub begins_with : (r : JobReader) (bytes : List ℕ) (given : List Item) → HasTaken r bytes given
    → BeginsWith bytes (known_head r)
begins_with r bytes given taken =
    let part : List ℕ = take r.filled r.held in
    let less : length part < place_size r.place = omega (arith, length-take r.filled r.held, r.short) in
    let said : (front : List ℕ) × ((bytes ≡ front ++ part) × Says r.place front) =
    place_says r.place bytes part taken.fit (sym taken.leads ∙ at_state r taken.going) in
    begins_at r.place bytes said.0 part said.1.0 less said.1.1 (begins_so r.place said.0 said.1.1)
