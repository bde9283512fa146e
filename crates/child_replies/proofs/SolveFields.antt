-- The fields of a solve reply up to its tree.
use Rattle.std.proofs.Common.{◌≡◌, ◌<◌, ◌≤◌, ◌==◌, ◌&&◌, ℕ, ◌+◌, ◌-◌, Bool, true, false, nat_le, nat_lt, List, [], ◌∷◌, ◌++◌, length, refl, sym, ◌∙◌, ap, subst, inl, inr, eq-eqb, ne_eqb, le-leb, lt-ltb, arith, append_assoc, length-append, if◌then◌else◌}
use Rattle.std.proofs.lemmas.Bool.{lt-leb, le-ltb}
use Rattle.std.proofs.lemmas.List.Elements.{All-push}
use Rattle.byteorder.specs.Endian.{little_number}
use Rattle.byte_format.specs.Format.{Reached}
use Rattle.byte_format.proofs.Formats.{TakesBytes}
use Rattle.child_replies.specs.Fields.{Lacks, Takes, is_version}
use Rattle.child_replies.specs.Solved.{HasSites}
use Rattle.child_replies.specs.Steps.{SolveMayStop, SolveMoves, SolveStops, stop_of}
use Rattle.child_replies.proofs.Moves.{field_on, field_short, field_wrong}
use Rattle.reply_format.specs.Outcomes.{Place, behind_site, if_right, is_tree, judge_place, place_size, solve_format}
use Rattle.reply_format.specs.Outcomes as solves
use Rattle.reply_format.specs.Places.{is_magic}
use Rattle.reply_format.specs.declared.fault.ReplyFault.{ReplyFault}
use Rattle.reply_format.specs.declared.fault.ReplyFault.TheVariants as faults

some_size : (s : Place) → 0 < place_size s
some_size solves.Magic = omega arith
some_size solves.Version = omega arith
some_size solves.Kind = omega arith
some_size solves.Number = omega arith
some_size solves.Outcome = omega arith
some_size solves.Count = omega arith
some_size (solves.Site sites left) = omega arith
some_size (solves.Tree found) = omega arith

solve_takes : (number : ℕ) → TakesBytes (solve_format number)
solve_takes number = record { some = some_size }

module _ (number : ℕ) where
  pub stops_on : (s t : Place) (bytes after : List ℕ) (fault : ReplyFault) → SolveMoves number s bytes t after
      → SolveStops number t after fault → SolveStops number s bytes fault
  stops_on s t bytes after fault on stop = ap (λ (r : Reached Place ReplyFault). stop_of is_tree faults.Short r) on
      ∙ stop

  pub may_stop_on : (s t : Place) (bytes after : List ℕ) (fault : ReplyFault) → SolveMoves number s bytes t after
      → SolveMayStop number t after fault → SolveMayStop number s bytes fault
  may_stop_on s t bytes after fault on stop =
      elim stop [ inl full ↦ inl full | inr there ↦ inr (stops_on s t bytes after fault on there) ]

  pub stops_short : (s : Place) (bytes : List ℕ) → length bytes < place_size s → is_tree s ≡ false
      → SolveStops number s bytes faults.Short
  stops_short s bytes less inside = field_short (solve_format number) (solve_takes number) is_tree s bytes less inside

  pub tested_on : (s t : Place) (field after bytes : List ℕ) (test : Bool) (fault : ReplyFault) → bytes ≡ field ++ after
      → length field ≡ place_size s
      → judge_place number s field ≡ if_right test fault t → test ≡ true → SolveMoves number s bytes t after
  tested_on s t field after bytes test fault parts size judge is =
      field_on (solve_format number) (solve_takes number) is_tree s t field after bytes parts size
      (judge ∙ ap (λ (b : Bool). if_right b fault t) is)

  pub tested_stop : (s t : Place) (field after bytes : List ℕ) (test : Bool) (fault : ReplyFault) → bytes ≡ field
      ++ after → length field ≡ place_size s
      → judge_place number s field ≡ if_right test fault t → test ≡ false → SolveStops number s bytes fault
  tested_stop s t field after bytes test fault parts size judge is =
      field_wrong (solve_format number) (solve_takes number) is_tree s field after bytes fault parts size
      (judge ∙ ap (λ (b : Bool). if_right b fault t) is)

  pub stops_empty : (s : Place) (bytes : List ℕ) → bytes ≡ [] → is_tree s ≡ false
      → SolveStops number s bytes faults.Short
  stops_empty s bytes none inside = stops_short s bytes
      (subst (λ (l : List ℕ). length l < place_size s) (sym none) (some_size s)) inside

  -- the first four bytes
  pub magic_on : (bytes field after : List ℕ) → Takes 4 is_magic bytes field after
      → SolveMoves number solves.Magic bytes solves.Version after
  unfolding judge_place
  magic_on bytes field after takes = tested_on solves.Magic solves.Version field after bytes
      (is_magic field) faults.Magic takes.parts takes.whole refl takes.tested

  pub magic_stop : (bytes : List ℕ) (fault : ReplyFault) → Lacks 4 is_magic faults.Magic bytes fault
      → SolveStops number solves.Magic bytes fault
  unfolding judge_place
  magic_stop bytes fault (inl (is, less)) = subst (λ (f : ReplyFault). SolveStops number solves.Magic bytes f) (sym is)
      (stops_short solves.Magic bytes less refl)
  magic_stop bytes fault (inr (is, (field, (after, lacks)))) =
      subst (λ (f : ReplyFault). SolveStops number solves.Magic bytes f) (sym is)
      (tested_stop solves.Magic solves.Version field after bytes
      (is_magic field) faults.Magic lacks.parts lacks.whole refl lacks.tested)

  -- the version
  pub version_on : (bytes after : List ℕ) (version : ℕ) → Takes 1 is_version bytes (version ∷ []) after
      → SolveMoves number solves.Version bytes solves.Kind after
  unfolding judge_place
  version_on bytes after version takes =
      tested_on solves.Version solves.Kind (version ∷ []) after bytes
      (is_version (version ∷ [])) faults.Version takes.parts takes.whole refl takes.tested

  pub version_stop : (bytes : List ℕ) (fault : ReplyFault) → Lacks 1 is_version faults.Version bytes fault
      → SolveStops number solves.Version bytes fault
  unfolding judge_place
  version_stop bytes fault (inl (is, less)) = subst (λ (f : ReplyFault). SolveStops number solves.Version bytes f)
      (sym is) (stops_short solves.Version bytes less refl)
  version_stop bytes fault (inr (is, (field, (after, lacks)))) =
      subst (λ (f : ReplyFault). SolveStops number solves.Version bytes f) (sym is)
      (tested_stop solves.Version solves.Kind field after bytes
      (is_version field) faults.Version lacks.parts lacks.whole refl lacks.tested)

  -- the kind and the number
  pub kind_on : (bytes after : List ℕ) (kind : ℕ) → bytes ≡ kind ∷ after → kind ≡ 1
      → SolveMoves number solves.Kind bytes solves.Number after
  unfolding judge_place
  kind_on bytes after kind parts is = tested_on solves.Kind solves.Number (kind ∷ []) after bytes
      (kind == 1) faults.Job parts refl refl (eq-eqb kind 1 is)

  pub kind_stop : (bytes after : List ℕ) (kind : ℕ) → bytes ≡ kind ∷ after → (kind ≡ 1 → ⊥)
      → SolveStops number solves.Kind bytes faults.Job
  unfolding judge_place
  kind_stop bytes after kind parts other = tested_stop solves.Kind solves.Number (kind ∷ []) after bytes
      (kind == 1) faults.Job parts refl refl (ne_eqb kind 1 other)

  pub number_on : (bytes field after : List ℕ) → bytes ≡ field ++ after → length field ≡ 4
      → little_number 4 field ≡ number → SolveMoves number solves.Number bytes solves.Outcome after
  unfolding judge_place
  number_on bytes field after parts whole is =
      tested_on solves.Number solves.Outcome field after bytes
      (little_number 4 field == number) faults.Job parts whole refl (eq-eqb (little_number 4 field) number is)

  pub number_stop : (bytes field after : List ℕ) → bytes ≡ field ++ after → length field ≡ 4
      → (little_number 4 field ≡ number → ⊥) → SolveStops number solves.Number bytes faults.Job
  unfolding judge_place
  number_stop bytes field after parts whole other =
      tested_stop solves.Number solves.Outcome field after bytes
      (little_number 4 field == number) faults.Job parts whole refl (ne_eqb (little_number 4 field) number other)

  -- the outcome
  pub outcome_on : (bytes after : List ℕ) (kind : ℕ) → bytes ≡ kind ∷ after → kind ≤ 2
      → SolveMoves number solves.Outcome bytes (solves.behind_outcome kind) after
  unfolding judge_place
  outcome_on bytes after kind parts few =
      tested_on solves.Outcome (solves.behind_outcome kind) (kind ∷ []) after bytes
      (nat_le kind 2) faults.Shape parts refl refl (le-leb kind 2 few)

  pub outcome_stop : (bytes after : List ℕ) (kind : ℕ) → bytes ≡ kind ∷ after → 2 < kind
      → SolveStops number solves.Outcome bytes faults.Shape
  unfolding judge_place
  outcome_stop bytes after kind parts many =
      tested_stop solves.Outcome (solves.behind_outcome kind) (kind ∷ []) after bytes
      (nat_le kind 2) faults.Shape parts refl refl (lt-leb kind 2 many)

  -- how many sites
  pub count_on : (bytes after : List ℕ) (count : ℕ) → bytes ≡ count ∷ after → 1 ≤ count → count ≤ 64
      → SolveMoves number solves.Count bytes (solves.Site [] count) after
  unfolding judge_place
  count_on bytes after count parts some few =
      tested_on solves.Count (solves.Site [] count) (count ∷ []) after bytes
      (nat_le 1 count && nat_le count 64) faults.Shape parts refl refl
      (ap (λ (b : Bool). b && nat_le count 64) (le-leb 1 count some) ∙ le-leb count 64 few)

  count_wrong : (bytes after : List ℕ) (count : ℕ) → bytes ≡ count ∷ after → (nat_le 1 count && nat_le count 64) ≡ false
      → SolveStops number solves.Count bytes faults.Shape
  unfolding judge_place
  count_wrong bytes after count parts wrong =
      tested_stop solves.Count (solves.Site [] count) (count ∷ []) after bytes
      (nat_le 1 count && nat_le count 64) faults.Shape parts refl refl wrong

  pub count_none : (bytes after : List ℕ) (count : ℕ) → bytes ≡ count ∷ after → count ≡ 0
      → SolveStops number solves.Count bytes faults.Shape
  count_none bytes after count parts none =
      count_wrong bytes after count parts (ap (λ (b : Bool). b && nat_le count 64)
      (lt-leb 1 count (omega (arith, none))))

  pub count_many : (bytes after : List ℕ) (count : ℕ) → bytes ≡ count ∷ after → 64 < count
      → SolveStops number solves.Count bytes faults.Shape
  count_many bytes after count parts many =
      count_wrong bytes after count parts
      (ap (λ (b : Bool). b && nat_le count 64) (le-leb 1 count (omega (arith, many))) ∙ lt-leb count 64 many)

  -- a site
  pub site_on : (sites bytes after : List ℕ) (left site : ℕ) → bytes ≡ site ∷ after → site < 32
      → SolveMoves number (solves.Site sites left) bytes (behind_site (sites ++ site ∷ []) left) after
  unfolding judge_place
  site_on sites bytes after left site parts small =
      tested_on (solves.Site sites left) (behind_site (sites ++ site ∷ []) left) (site ∷ []) after bytes
      (nat_lt site 32) faults.Shape parts refl refl (lt-ltb site 32 small)

  pub site_stop : (sites bytes after : List ℕ) (left site : ℕ) → bytes ≡ site ∷ after → 32 ≤ site
      → SolveStops number (solves.Site sites left) bytes faults.Shape
  unfolding judge_place
  site_stop sites bytes after left site parts large =
      tested_stop (solves.Site sites left) (behind_site (sites ++ site ∷ []) left) (site ∷ []) after bytes
      (nat_lt site 32) faults.Shape parts refl refl (le-ltb site 32 large)

-- where the sites go on
pub site_more : (sites : List ℕ) (left : ℕ) → 0 < left → behind_site sites (left + 1) ≡ solves.Site sites left
site_more sites left some =
    ap (λ (b : Bool). if b then solves.Tree (solves.Placed sites) else solves.Site sites (left + 1 - 1))
    (lt-leb (left + 1) 1 (omega (arith, some)))
    ∙ ap (λ (n : ℕ). solves.Site sites n) (omega arith)

pub sites_more : (count site : ℕ) (bytes sites rest after more : List ℕ) → HasSites count bytes sites rest
    → rest ≡ site ∷ after → site < 32
    → more ≡ sites ++ site ∷ [] → HasSites (count + 1) bytes more after
sites_more count site bytes sites rest after more has parts small is =
    subst (λ (l : List ℕ). HasSites (count + 1) bytes l after) (sym is) (record {
      parts = has.parts ∙ ap (λ (l : List ℕ). sites ++ l) parts ∙ sym (append_assoc sites (site ∷ []) after);
      number = omega (arith, length-append sites (site ∷ []), has.number);
      each = All-push (λ s. s < 32) sites site has.each small;
    })
