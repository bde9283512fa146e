-- What is known of a job behind its head stays known.
use Rattle.std.proofs.Common.{◌≡◌, ℕ, ◌==◌, nat_le, List, [], ◌++◌, slice_index, Option, None, Some, Ok, refl, sym, ◌∙◌, ap}
use Rattle.std.proofs.lemmas.Bool.{cond_both}
use Rattle.byteorder.specs.Endian.{little_number}
use Rattle.byte_format.specs.Format.{At, Reached, reached}
use Rattle.byte_format.proofs.Formats.{reached-append, reached_keeps}
use Rattle.hash_family.specs.Setting.{Setting}
use Rattle.job_format.specs.Job.{IsSetting, replay_head, solve_head}
use Rattle.job_format.specs.Places.{behind_hop, behind_item, behind_need, behind_site, job_format, job_start, judge_place, judge_solve, solve_start, with_weight}
use Rattle.job_format.specs.declared.fault.JobFault.{JobFault}
use Rattle.job_format.specs.declared.place.HeadNumbers.{HeadNumbers}
use Rattle.job_format.specs.declared.place.Place.{Place}
use Rattle.job_format.specs.declared.place.Place.TheVariants.{Head, Count, Key, Weight, ReplayEnd, Solve, SolveEnd}
use Rattle.job_format.specs.declared.place.SolveNumbers.{SolveNumbers}
use Rattle.job_format.specs.declared.place.SolveStep.{SolveStep}
use Rattle.job_format.specs.declared.place.SolveStep.TheVariants as solves
use Rattle.job_format.proofs.Heads.{no_items, numbers_of, read_back, replay_head_walks, solve_head_walks}
use Rattle.job_format.proofs.Judged.{choice_led, led, right_led}
use Rattle.job_format.proofs.Walks.{Passes}

-- what a place says of the head: of a replay job by its numbers, of a solve job by its number
abbrev pub head_by : {X : Type 0} → (HeadNumbers → X) → (ℕ → X) → Place → Option X
head_by replay solve (Head step h) = None
head_by replay solve (Count h tally) = Some (replay h)
head_by replay solve (Key h tally left) = Some (replay h)
head_by replay solve (Weight h tally left key) = Some (replay h)
head_by replay solve (ReplayEnd h tally) = Some (replay h)
head_by replay solve (Solve step n) = Some (solve n.job)
head_by replay solve (SolveEnd n) = Some (solve n.job)

module _ {X : Type 0} (replay : HeadNumbers → X) (solve : ℕ → X) where
  abbrev Knows : X → Place → Type 0
  Knows head place = head_by replay solve place ≡ Some head

  need_knows : (head : X) (n : SolveNumbers) → Some (solve n.job) ≡ Some head → Knows head (behind_need n)
  need_knows head n is = cond_both (nat_le n.needs_left 1) _ _ (λ p. Knows head p) (λ e. is) (λ e. is)

  solve_knows : (head : X) (step : SolveStep) (n : SolveNumbers) (t : Place) (b : List ℕ)
      → Some (solve n.job) ≡ Some head → judge_solve step n b ≡ Ok t → Knows head t
  solve_knows head solves.Nodes n t b is ok = right_led (λ p. Knows head p) _ _ _ t (λ e. is) ok
  solve_knows head solves.Sites n t b is ok = right_led (λ p. Knows head p) _ _ _ t (λ e. is) ok
  solve_knows head solves.Site n t b is ok =
      led (λ p. Knows head p) (behind_site n) t
      (cond_both (nat_le n.sites_left 1) _ _ (λ p. Knows head p) (λ e. is) (λ e. is)) ok
  solve_knows head solves.Needs n t b is ok = right_led (λ p. Knows head p) _ _ _ t (λ e. is) ok
  solve_knows head solves.Load n t b is ok = right_led (λ p. Knows head p) _ _ _ t (λ e. is) ok
  solve_knows head solves.Hops n t b is ok = right_led (λ p. Knows head p) _ _ _ t (λ e. is) ok
  solve_knows head solves.Hop n t b is ok =
      right_led (λ p. Knows head p) _ _ (behind_hop n (slice_index b 0)) t
      (λ e. cond_both (nat_le n.hops_left 1) _ _ (λ p. Knows head p)
      (λ last. need_knows head (record n { load = 0; via = []; hops_left = 0 }) is) (λ last. is)) ok

  field_knows : (head : X) (s t : Place) (b : List ℕ) → Knows head s → judge_place s b ≡ Ok t → Knows head t
  unfolding judge_place
  field_knows head (Head step h) t b is ok = absurd (cc)
  field_knows head (Count h tally) t b is ok =
      choice_led (λ p. Knows head p) (little_number 2 b == 0) _ _ t
      (λ e. led (λ p. Knows head p) (ReplayEnd h tally) t is)
      (λ e. right_led (λ p. Knows head p) _ _ _ t (λ f. is)) ok
  field_knows head (Key h tally left) t b is ok = right_led (λ p. Knows head p) _ _ _ t (λ e. is) ok
  field_knows head (Weight h tally left key) t b is ok =
      right_led (λ p. Knows head p) _ _ (behind_item h (with_weight tally (little_number 4 b)) left) t
      (λ e. cond_both (nat_le left 1) _ _ (λ p. Knows head p) (λ last. is) (λ last. is)) ok
  field_knows head (ReplayEnd h tally) t b is ok = absurd (cc)
  field_knows head (Solve step n) t b is ok = solve_knows head step n t b is ok
  field_knows head (SolveEnd n) t b is ok = absurd (cc)

  -- a head that is known stays known
  pub head_stays : (head : X) (s t : Place) (part more rest : List ℕ) → head_by replay solve s ≡ Some head
      → reached job_format (At s part) more ≡ At t rest → head_by replay solve t ≡ Some head
  head_stays head s t part more rest is leads =
      reached_keeps job_format (λ p. Knows head p) (λ u v b. field_knows head u v b) s t part more rest is leads

  -- and behind the bytes of a head it is known
  pub replay_known : (number : ℕ) (setting : Setting) (rest : List ℕ) (t : Place) (part : List ℕ) → IsSetting setting
      → reached job_format (At job_start []) (replay_head number setting ++ rest) ≡ At t part
      → head_by replay solve t ≡ Some (replay (numbers_of (read_back number) setting))
  replay_known number setting rest t part is leads =
      let on : Passes job_start (replay_head number setting) (Count (numbers_of (read_back number) setting) no_items) =
      replay_head_walks number setting is in
      head_stays _ (Count (numbers_of (read_back number) setting) no_items) t [] rest part refl
      (sym (ap (λ (r : Reached Place JobFault). reached job_format r rest) on.leads)
      ∙ sym (reached-append job_format (At job_start []) (replay_head number setting) rest) ∙ leads)

  pub solve_known : (number : ℕ) (rest : List ℕ) (t : Place) (part : List ℕ)
      → reached job_format (At job_start []) (solve_head number ++ rest) ≡ At t part
      → head_by replay solve t ≡ Some (solve (read_back number))
  solve_known number rest t part leads =
      let on : Passes job_start (solve_head number) (Solve solves.Nodes (solve_start (read_back number))) =
      solve_head_walks number in
      head_stays _ (Solve solves.Nodes (solve_start (read_back number))) t [] rest part refl
      (sym (ap (λ (r : Reached Place JobFault). reached job_format r rest) on.leads)
      ∙ sym (reached-append job_format (At job_start []) (solve_head number) rest) ∙ leads)
