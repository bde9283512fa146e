-- The items of a share, and lists that grow.
use Rattle.std.proofs.Common.{◌≡◌, ℕ, ◌+◌, ◌*◌, ◌/◌, ◌%◌, ◌<◌, ◌≤◌, suc, inl, inr, nat_eq, get_or, take, Bool, true, false, cond, List, [], ◌∷◌, ◌++◌, length, map, refl, sym, ◌∙◌, ap, subst, arith}
use Rattle.std.specs.Prelude.{filter}
use Rattle.std.proofs.Math.Bool.{and-false}
use Rattle.std.proofs.Math.Nat.{mod-lt}
use Rattle.std.proofs.lemmas.Bool.{cases_eq, eq-eqb, ne_eqb}
use Rattle.std.proofs.lemmas.List.{append-nil, get_or-map, get_or_append_left, get_or_push, length-map, map-append, take_more}
use Rattle.std.proofs.lemmas.List.Elements.{All-head, All-tail, filter-append}
use Rattle.std.proofs.lemmas.List.Sums.{sum_by-cons}
use Rattle.std.proofs.lemmas.Nat.{div-mul-add}
use Rattle.flow_keys.specs.declared.routed.Routed.{Routed}
use Rattle.hash_family.specs.Setting.{Setting}
use Rattle.job_format.specs.Job.{ReplayJob, weight_of}
use Rattle.job_format.specs.declared.item.Item.{Item}
use Rattle.path_shares.specs.Shares.{AreOn, is_shared, job_item, share, share_job, switch_of}
use Rattle.replay_places.proofs.Numbered.{cut_job}
use Rattle.replay_places.specs.Epochs.{no_share, share_at}
use Rattle.replay_jobs.specs.Grouped.{items_of, job_number}
use Rattle.routed_trace.specs.Routed.{weight_of_routed}
use Rattle.share_jobs.specs.Share.{Share, share_of}
use Rattle.share_jobs.specs.declared.share_job.ShareJob.{ShareJob}

module _ (p : Routed → Bool) where
  -- the items of the packets that a test keeps
  abbrev kept : List Routed → List Item
  kept routed = map job_item (filter p routed)

  -- a packet more
  kept_cons : (packet : Routed) (rest : List Routed)
      → kept (packet ∷ rest) ≡ cond (p packet) (job_item packet ∷ []) [] ++ kept rest
  kept_cons packet rest = chosen (p packet)
    where
      chosen : (b : Bool) → map job_item (cond b (packet ∷ filter p rest) (filter p rest))
          ≡ cond b (job_item packet ∷ []) [] ++ map job_item (filter p rest)
      chosen true = refl
      chosen false = refl

  pub kept_few : (routed : List Routed) → length (kept routed) ≤ length routed
  kept_few [] = omega arith
  kept_few (packet ∷ rest) = subst (λ (items : List Item). length items ≤ suc (length rest))
      (sym (kept_cons packet rest)) (few (p packet) (kept_few rest))
    where
      few : (b : Bool) → length (kept rest) ≤ length rest
          → length (cond b (job_item packet ∷ []) [] ++ kept rest) ≤ suc (length rest)
      few true less = omega (arith, less)
      few false less = omega (arith, less)

  pub kept_light : (routed : List Routed) → weight_of (kept routed) ≤ weight_of_routed routed
  kept_light [] = omega arith
  kept_light (packet ∷ rest) = subst (λ (items : List Item). weight_of items ≤ weight_of_routed (packet ∷ rest))
      (sym (kept_cons packet rest)) (light (p packet) (kept_light rest))
    where
      whole : weight_of_routed (packet ∷ rest) ≡ packet.weight + weight_of_routed rest
      whole = sum_by-cons (λ (p : Routed). p.weight) packet rest

      light : (b : Bool) → weight_of (kept rest) ≤ weight_of_routed rest
          → weight_of (cond b (job_item packet ∷ []) [] ++ kept rest) ≤ weight_of_routed (packet ∷ rest)
      light true less =
          let one = sum_by-cons (λ (item : Item). item.weight) (job_item packet) (kept rest) in
          omega (arith, one, whole, less)
      light false less = omega (arith, whole, less)

  -- behind a packet
  pub kept_snoc : (front : List Routed) (packet : Routed)
      → kept (front ++ packet ∷ []) ≡ kept front ++ cond (p packet) (job_item packet ∷ []) []
  kept_snoc front packet =
      ap (map job_item) (filter-append p front (packet ∷ [])) ∙ map-append job_item (filter p front) (filter p (packet ∷ []))
      ∙ ap (λ (items : List Item). kept front ++ items)
      (kept_cons packet [] ∙ append-nil (cond (p packet) (job_item packet ∷ []) []))

-- a packet is of the job of an epoch and a switch exactly where it is shared
by_number : (switches : ℕ) (placement : List ℕ) (epoch switch : ℕ) (packet : Routed)
    → switch_of placement packet < switches → switch < switches
    → is_shared placement epoch switch packet
    ≡ nat_eq (job_number switches placement packet) (epoch * switches + switch)
by_number switches placement epoch switch packet on under =
    elim (cases_eq packet.epoch epoch) [
      | inl same ↦ elim (cases_eq (switch_of placement packet) switch) [
        | inl here ↦ rw (eq-eqb _ _ same, eq-eqb _ _ here, same, here, eq-eqb (epoch * switches + switch) _ refl) refl
        | inr other ↦ rw (ne_eqb _ _ other, and-false (nat_eq packet.epoch epoch))
            (sym (ne_eqb _ _ (λ e. other (omega (arith, ap (λ n. n * switches) same, e)))))
      ]
      | inr other ↦ rw (ne_eqb _ _ other)
          (sym (ne_eqb _ _ (λ e. other
          (sym (div-mul-add packet.epoch switches (switch_of placement packet) on)
          ∙ ap (λ n. n / switches) e ∙ div-mul-add epoch switches switch under))))
    ]

-- the items of a job are the share of its switch in its epoch
pub items_of-share : (switches : ℕ) (placement : List ℕ) (epoch switch : ℕ) (routed : List Routed)
    → switch < switches → AreOn switches placement routed
    → items_of switches placement (epoch * switches + switch) routed ≡ share placement epoch switch routed
unfolding share
items_of-share switches placement epoch switch [] under on = refl
items_of-share switches placement epoch switch (packet ∷ rest) under on =
    let number = epoch * switches + switch in
    let on_one : Routed → Type 0 = λ p. switch_of placement p < switches in
    let of_job : Routed → Bool = λ p. nat_eq (job_number switches placement p) number in
    kept_cons of_job packet rest
    ∙ ap (λ (b : Bool). cond b (job_item packet ∷ []) [] ++ map job_item (filter of_job rest))
    (sym (by_number switches placement epoch switch packet (All-head on_one packet rest on) under))
    ∙ ap (λ (items : List Item). cond (is_shared placement epoch switch packet) (job_item packet ∷ []) [] ++ items)
    (items_of-share switches placement epoch switch rest under (All-tail on_one packet rest on))
    ∙ sym (kept_cons (is_shared placement epoch switch) packet rest)

-- one packet more, by the numbers of the packets' jobs
pub items_of-more : (switches : ℕ) (placement numbers : List ℕ) (number : ℕ) (routed : List Routed) (i : ℕ) (d : Routed)
    → numbers ≡ map (job_number switches placement) routed → i < length routed
    → items_of switches placement number (take (i + 1) routed) ≡ items_of switches placement number (take i routed)
    ++ cond (nat_eq (get_or numbers i 0) number) (job_item (get_or routed i d) ∷ []) []
items_of-more switches placement numbers number routed i d numbered within =
    let packet = get_or routed i d in
    let here : get_or numbers i 0 ≡ job_number switches placement packet =
    ap (λ (ns : List ℕ). get_or ns i 0) numbered
    ∙ get_or-map (job_number switches placement) routed i d 0 within in
    ap (items_of switches placement number) (take_more routed i d within)
    ∙ kept_snoc (λ p. nat_eq (job_number switches placement p) number) (take i routed) packet
    ∙ ap (λ (n : ℕ). items_of switches placement number (take i routed)
    ++ cond (nat_eq n number) (job_item packet ∷ []) []) (sym here)

-- the items of a job by its number
pub items_of-numbered : (switches : ℕ) (placement : List ℕ) (number : ℕ) (routed : List Routed)
    → 1 ≤ switches → AreOn switches placement routed
    → items_of switches placement number routed
    ≡ share placement (number / switches) (number % switches) routed
items_of-numbered switches placement number routed some on =
    ap (λ (n : ℕ). items_of switches placement n routed) (sym (cut_job number switches))
    ∙ items_of-share switches placement (number / switches) (number % switches) routed (mod-lt number some) on

pub job_numbered : (setting : Setting) (switches : ℕ) (placement : List ℕ) (number : ℕ) (routed : List Routed)
    (items : List Item) → items ≡ share placement (number / switches) (number % switches) routed
    → record { number = number; setting = setting; items = items }
    ≡ share_job setting switches placement routed (number / switches) (number % switches)
job_numbered setting switches placement number routed items same =
    let job : ℕ → List Item → ReplayJob = λ n xs. record { number = n; setting = setting; items = xs } in
    ap (λ (n : ℕ). job n items) (sym (cut_job number switches))
    ∙ ap (job (number / switches * switches + number % switches)) same

-- ---- shares

-- a share more
pub share_before : (jobs : List ShareJob) (job : ShareJob) (number : ℕ) → number < length jobs
    → share_at (map share_of (jobs ++ job ∷ [])) number ≡ share_at (map share_of jobs) number
share_before jobs job number within =
    ap (λ (shares : List Share). share_at shares number) (map-append share_of jobs (job ∷ []))
    ∙ get_or_append_left (map share_of jobs) (share_of job ∷ []) no_share number
    (omega (arith, within, length-map jobs share_of))

pub share_last : (jobs : List ShareJob) (job : ShareJob)
    → share_at (map share_of (jobs ++ job ∷ [])) (length jobs) ≡ share_of job
share_last jobs job =
    ap (λ (shares : List Share). share_at shares (length jobs)) (map-append share_of jobs (job ∷ []))
    ∙ get_or_push (map share_of jobs) (share_of job) no_share (length jobs) (length-map jobs share_of)
