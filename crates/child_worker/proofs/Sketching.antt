-- Levels that sketch the items of a job, from its head on.
use Rattle.std.proofs.Common.{◌≡◌, ℕ, ◌+◌, ◌≤◌, List, [], ◌++◌, length, Option, Some, None, sym, ◌∙◌, subst, arith, refl, length-append, take}
use Rattle.child_jobs.specs.Heads.{Head, ReplayHead, SolveHead, head_of}
use Rattle.child_jobs.specs.declared.head.JobHead.{JobHead}
use Rattle.child_jobs.specs.declared.head.JobKind.TheVariants as kinds
use Rattle.hash_family.specs.Setting.{setting_of}
use Rattle.hash_family.specs.declared.params.Params.{Params}
use Rattle.job_format.specs.Job.{weight_of, weight_limit}
use Rattle.job_format.specs.declared.item.Item.{Item}
use Rattle.count_sketch.specs.Counters.{Item as Fed}
use Rattle.sketch_levels.specs.Levels.{Holds, View}
use Rattle.std.proofs.lemmas.List.Sums.{sum_by-append}
use Rattle.child_worker.specs.Replies.{fed}
use Rattle.std.specs.Prelude.{IfSome}
use Rattle.child_jobs.specs.Reader.{HasTaken, known_head, lent}
use Rattle.child_worker.specs.Work.{HasWorked, LagsBehind, Sketches, Stays}
use Rattle.child_worker.specs.declared.work.Work.{Work}
use Rattle.child_jobs.specs.declared.reader.JobReader.{JobReader}
use Rattle.child_worker.proofs.Feeding.{fed-none, weight_of-fed}

-- levels for the head of a replay job, to which nothing was fed
pub sketched_first : (head : JobHead) (params : Params) (levels : View) → head.kind ≡ kinds.Replay params
    → levels.setting ≡ setting_of params → Holds levels [] → Sketches (Some levels) (Some (head_of head)) []
sketched_first head params levels is setting empty =
    rw is (setting, subst (λ (items : List Fed). Holds levels items) (sym fed-none) empty)

-- levels that are there go on under a later head, and none gives way to the first ones
pub sketched_later : (levels : View) (before now : Option Head) (given : List Item) → Stays before now
    → Sketches (Some levels) before given → Sketches (Some levels) now given
sketched_later levels None now given stays sketched = absurd sketched
sketched_later levels (Some (ReplayHead number setting)) now given stays sketched =
    rw (stays (ReplayHead number setting) refl) sketched
sketched_later levels (Some (SolveHead number)) now given stays sketched = absurd sketched

pub sketched_new : (levels : Option View) (before now : Option Head) (given : List Item) → Stays before now
    → Sketches None before given → Sketches levels now [] → Sketches levels now given
sketched_new levels None now given stays sketched first = rw sketched first
sketched_new levels (Some (ReplayHead number setting)) now given stays sketched first = absurd sketched
sketched_new None (Some (SolveHead number)) now given stays sketched first = rw (stays (SolveHead number) refl) tt
sketched_new (Some levels) (Some (SolveHead number)) now given stays sketched first =
    absurd (subst (λ (head : Option Head). Sketches (Some levels) head []) (stays (SolveHead number) refl) first)

-- the lent items are fed to levels; where there are none, none were given before a head
pub sketched_on : (old new : View) (head : Option Head) (given lent : List Item) → new.setting ≡ old.setting
    → ((before : List Item) → Holds old (fed before) → Holds new (fed (before ++ lent)))
    → Sketches (Some old) head given → Sketches (Some new) head (given ++ lent)
sketched_on old new None given lent setting list sketched = absurd sketched
sketched_on old new (Some (ReplayHead number numbers)) given lent setting list sketched =
    (setting ∙ sketched.0, list given sketched.1)
sketched_on old new (Some (SolveHead number)) given lent setting list sketched = absurd sketched

pub sketched_none : (head : Option Head) (given lent : List Item) → (head ≡ None → given ++ lent ≡ [])
    → Sketches None head given → Sketches None head (given ++ lent)
sketched_none None given lent before sketched = before refl
sketched_none (Some (ReplayHead number setting)) given lent before sketched = sketched
sketched_none (Some (SolveHead number)) given lent before sketched = tt

-- the lent items are light enough to be fed
light_levels : (levels : View) (head : Option Head) (given lent : List Item) → weight_of (given ++ lent) ≤ weight_limit
    → Sketches (Some levels) head given → levels.weight + weight_of lent ≤ weight_limit
light_levels levels None given lent light sketched = absurd sketched
light_levels levels (Some (ReplayHead number setting)) given lent light sketched =
    let f : Item → ℕ = λ x. x.weight in
    omega (arith, sketched.1.weight, weight_of-fed given, sum_by-append f given lent)
light_levels levels (Some (SolveHead number)) given lent light sketched = absurd sketched

pub light_on : (levels : Option View) (head : Option Head) (given lent : List Item)
    → weight_of (given ++ lent) ≤ weight_limit → Sketches levels head given
    → IfSome levels (λ all. all.weight + weight_of lent ≤ weight_limit)
light_on None head given lent light sketched = tt
light_on (Some levels) head given lent light sketched = light_levels levels head given lent light sketched

-- once they are, nothing lags behind
pub caught_up : (old new : Work) (bytes : List ℕ) (lags : LagsBehind old bytes) → new.reader ≡ old.reader
    → new.items ≡ old.items + length (lent old.reader)
    → Sketches new.levels (known_head old.reader) (lags.given ++ lent old.reader) → HasWorked new bytes
caught_up old new bytes lags reader items sketched = record {
  given = lags.given ++ lent old.reader;
  taken = rw reader lags.taken;
  sketched = rw reader sketched;
  counted = rw length-append (omega (arith, items, lags.counted));
}

-- bytes were fed to the reader, and levels made where a head came
pub lagging : (old now : Work) (reader : JobReader) (bytes piece : List ℕ) (n : ℕ) → HasWorked old bytes
    → ((before : List ℕ) (given : List Item) → HasTaken old.reader before given
    → HasTaken reader (before ++ take n piece) (given ++ lent reader))
    → Stays (known_head old.reader) (known_head reader) → now.reader ≡ reader → now.items ≡ old.items
    → ((before : Option Head) (given : List Item) → Stays before (known_head reader) → Sketches old.levels before given
    → Sketches now.levels (known_head reader) given)
    → LagsBehind now (bytes ++ take n piece)
lagging old now reader bytes piece n worked takes stays same items opens = record {
  given = worked.given;
  taken = rw same (takes bytes worked.given worked.taken);
  sketched = rw same (opens (known_head old.reader) worked.given stays worked.sketched);
  counted = items ∙ worked.counted;
}
