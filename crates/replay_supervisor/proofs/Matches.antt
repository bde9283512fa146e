-- The book stays what the log says, at each entry.
use Rattle.std.proofs.Common.{◌≡◌, ℕ, ◌<◌, ◌==◌, ◌&&◌, not, Bool, true, false, cond, inl, inr, List, [], ◌∷◌, ◌++◌, Option, None, Some, is_some, is_none, unwrap_or, length, length-set, set, get_or-set_same, get_or-set_other, refl, sym, ◌∙◌, ap, subst, arith}
use Rattle.std.proofs.Math.ListN.{length-replicate}
use Rattle.std.proofs.lemmas.Bool.{cases_eq, ne_eqb, eq-eqb, true≢false}
use Rattle.crew.specs.Log.{Entry}
use Rattle.crew.specs.Log.Entry.{Started, StartFailed, Fed, FeedFailed, Sealed, Reply, Died, Stopped}
use Rattle.replay_core.specs.Attempts.{attempt, job_of, is_out, without, wanted}
use Rattle.replay_core.specs.Book.{Book, account_at, account, is_done, bad_of, more, with_account, count_drawn, count_bad, is_now_done, ticket, after_started, after_start_failed, after_bad, after_stale}
use Rattle.replay_core.specs.declared.account.Account.{Account}
use Rattle.replay_core.specs.declared.bad.Bad.{Bad}
use Rattle.replay_core.specs.declared.bad.Kind.{Kind}
use Rattle.replay_core.specs.declared.bad.Kind.TheVariants as kinds
use Rattle.replay_core.proofs.Attempts.{out-job, without-none}
use Rattle.replay_core.proofs.Books.{account-here, account-other, length-with}
use Rattle.replay_supervisor.specs.Jobs.{Places, Work}
use Rattle.replay_supervisor.specs.Reading.{read, accepted, wanted_after, job_started, with_reply, bad_in, stale_in, drawn_in, is_job}
use Rattle.replay_supervisor.specs.Matches.{Matches}

-- an account that keeps what is asked of it, or changes it for one job
done-other : (b : Book) (job : ℕ) (change : Account → Account) → ((a : Account) → (change a).done ≡ a.done)
    → job < length b.accounts → (j : ℕ) → (account_at (with_account b.accounts job change) j).done ≡ is_done b j
done-other b job change keeps known j = elim (cases_eq j job) [
  | inl same ↦ subst (λ (k : ℕ). (account_at (with_account b.accounts job change) k).done ≡ is_done b k) (sym same)
      (ap (λ (a : Account). a.done) (account-here b.accounts job change known) ∙ keeps (account b job))
  | inr apart ↦ ap (λ (a : Account). a.done) (account-other b.accounts job j change apart)
]

bad-other : (b : Book) (job : ℕ) (change : Account → Account) → ((a : Account) → (change a).bad ≡ a.bad)
    → job < length b.accounts → (j : ℕ) → (account_at (with_account b.accounts job change) j).bad ≡ bad_of b j
bad-other b job change keeps known j = elim (cases_eq j job) [
  | inl same ↦ subst (λ (k : ℕ). (account_at (with_account b.accounts job change) k).bad ≡ bad_of b k) (sym same)
      (ap (λ (a : Account). a.bad) (account-here b.accounts job change known) ∙ keeps (account b job))
  | inr apart ↦ ap (λ (a : Account). a.bad) (account-other b.accounts job j change apart)
]

bad-more : (b : Book) (job : ℕ) (change : Account → Account) (kind : Kind)
    → ((a : Account) → (change a).bad ≡ more kind a.bad) → job < length b.accounts → (j : ℕ)
    → (account_at (with_account b.accounts job change) j).bad ≡ cond (job == j) (more kind (bad_of b j)) (bad_of b j)
bad-more b job change kind keeps known j = elim (cases_eq j job) [
  | inl same ↦ subst (λ (k : ℕ). (account_at (with_account b.accounts job change) k).bad ≡ cond (job == k)
      (more kind (bad_of b k)) (bad_of b k)) (sym same)
      (ap (λ (a : Account). a.bad) (account-here b.accounts job change known) ∙ keeps (account b job)
      ∙ ap (λ (t : Bool). cond t (more kind (bad_of b job)) (bad_of b job)) (sym (eq-eqb job job refl)))
  | inr apart ↦ ap (λ (a : Account). a.bad) (account-other b.accounts job j change apart)
      ∙ ap (λ (t : Bool). cond t (more kind (bad_of b j)) (bad_of b j)) (sym (ne_eqb job j (λ e. apart (sym e))))
]

-- the job that the book wants is the one that the log wants
pub same-wanted : (work : Work) (b : Book) (log : List Entry) → Matches work b log
    → wanted (length b.accounts) (is_done b) b.outs ≡ wanted_after work (read work log)
same-wanted work b log h =
    ap (λ (n : ℕ). wanted n (is_done b) b.outs) h.count
    ∙ (λ i. wanted work.count (λ job. h.dones job i) b.outs)
    ∙ ap (λ outs. wanted work.count (λ job. is_some (accepted (read work log) job)) outs) h.outs

same-started : (work : Work) (b : Book) (log : List Entry) (job : ℕ) → Matches work b log
    → wanted (length b.accounts) (is_done b) b.outs ≡ Some job → job_started work (read work log) ≡ job
same-started work b log job h is = ap (λ o. unwrap_or o 0) (sym (same-wanted work b log h) ∙ is)

pub matches-started : (work : Work) (b : Book) (log : List Entry) (job : ℕ) → Matches work b log
    → job < length b.accounts → wanted (length b.accounts) (is_done b) b.outs ≡ Some job
    → Matches work (after_started b job) (Started (ticket b) ∷ log)
unfolding read bad_in stale_in drawn_in
matches-started work b log job h known is = record {
  count = length-with b.accounts job count_drawn ∙ h.count;
  outs = ap (λ outs. outs ++ attempt (ticket b) job ∷ []) h.outs
      ∙ ap (λ (k : ℕ). (read work log).outs ++ attempt (ticket b) k ∷ []) (sym (same-started work b log job h is));
  dones = λ j. done-other b job count_drawn (λ a. refl) known j ∙ h.dones j;
  bads = λ j. bad-other b job count_drawn (λ a. refl) known j ∙ h.bads j;
  stale = omega (arith, h.stale);
  drawn = omega (arith, h.drawn);
}

pub matches-start_failed : (work : Work) (b : Book) (log : List Entry) (t job : ℕ) → Matches work b log
    → job < length b.accounts → wanted (length b.accounts) (is_done b) b.outs ≡ Some job
    → Matches work (after_start_failed b job) (StartFailed t ∷ log)
unfolding read bad_in stale_in drawn_in
matches-start_failed work b log t job h known is = record {
  count = length-with b.accounts job (λ a. count_bad kinds.Start (count_drawn a)) ∙ h.count;
  outs = h.outs;
  dones = λ j. done-other b job (λ a. count_bad kinds.Start (count_drawn a)) (λ a. refl) known j ∙ h.dones j;
  bads = λ j. bad-more b job (λ a. count_bad kinds.Start (count_drawn a)) kinds.Start (λ a. refl) known j
      ∙ ap (λ bad. cond (job == j) (more kinds.Start bad) bad) (h.bads j)
      ∙ ap (λ (k : ℕ). cond (k == j) (more kinds.Start (bad_in work log j)) (bad_in work log j))
      (sym (same-started work b log job h is));
  stale = omega (arith, h.stale);
  drawn = omega (arith, h.drawn);
}

pub matches-fed : (work : Work) (b : Book) (log : List Entry) (t : ℕ) (piece : List ℕ) → Matches work b log
    → Matches work b (Fed t piece ∷ log)
unfolding read bad_in stale_in drawn_in
matches-fed work b log t piece h = record {
  count = h.count;
  outs = h.outs;
  dones = h.dones;
  bads = h.bads;
  stale = omega (arith, h.stale);
  drawn = omega (arith, h.drawn);
}

pub matches-sealed : (work : Work) (b : Book) (log : List Entry) (t : ℕ) → Matches work b log
    → Matches work b (Sealed t ∷ log)
unfolding read bad_in stale_in drawn_in
matches-sealed work b log t h = record {
  count = h.count;
  outs = h.outs;
  dones = h.dones;
  bads = h.bads;
  stale = omega
      (arith, h.stale);
  drawn = omega (arith, h.drawn);
}

-- whether an attempt of the job went bad, by the job of its ticket
by-job : (kind : Kind) (o : Option ℕ) (job j : ℕ) (bad : Bad) → o ≡ Some job
    → cond (job == j) (more kind bad) bad ≡ cond (is_job o j) (more kind bad) bad
by-job kind o job j bad is = ap (λ x. cond (is_job x j) (more kind bad) bad) (sym is)

pub matches-feed_failed : (work : Work) (b : Book) (log : List Entry) (t job : ℕ) → Matches work b log
    → job < length b.accounts → job_of b.outs t ≡ Some job
    → Matches work (after_bad b t job kinds.Feed) (FeedFailed t ∷ log)
unfolding read bad_in stale_in drawn_in
matches-feed_failed work b log t job h known is = record {
  count = length-with b.accounts job (count_bad kinds.Feed) ∙ h.count;
  outs = ap (λ outs. without t outs) h.outs;
  dones = λ j. done-other b job (count_bad kinds.Feed) (λ a. refl) known j ∙ h.dones j;
  bads = λ j. bad-more b job (count_bad kinds.Feed) kinds.Feed (λ a. refl) known j
      ∙ ap (λ bad. cond (job == j) (more kinds.Feed bad) bad) (h.bads j)
      ∙ by-job kinds.Feed (job_of (read work log).outs t) job j (bad_in work log j)
      (ap (λ outs. job_of outs t) (sym h.outs) ∙ is);
  stale = omega (arith, h.stale);
  drawn = omega (arith, h.drawn);
}

pub matches-died : (work : Work) (b : Book) (log : List Entry) (t job : ℕ) → Matches work b log
    → job < length b.accounts → job_of b.outs t ≡ Some job → Matches work (after_bad b t job kinds.Died) (Died t ∷ log)
unfolding read bad_in stale_in drawn_in
matches-died work b log t job h known is =
    let is_out_there = ap (λ outs. is_out outs t) (sym h.outs) ∙ out-job b.outs t
    ∙ ap (λ (o : Option ℕ). is_some o) is in
    record {
      count = length-with b.accounts job (count_bad kinds.Died) ∙ h.count;
      outs = ap (λ outs. without t outs) h.outs;
      dones = λ j. done-other b job (count_bad kinds.Died) (λ a. refl) known j ∙ h.dones j;
      bads = λ j. bad-more b job (count_bad kinds.Died) kinds.Died (λ a. refl) known j
          ∙ ap (λ bad. cond (job == j) (more kinds.Died bad) bad) (h.bads j)
          ∙ by-job kinds.Died (job_of (read work log).outs t) job j (bad_in work log j)
          (ap (λ outs. job_of outs t) (sym h.outs) ∙ is);
      stale = rw is_out_there (omega (arith, h.stale));
      drawn = omega (arith, h.drawn);
    }

-- an event of a ticket that is not out
nobody : (kind : Kind) (o : Option ℕ) (test : Bool) (j : ℕ) (bad : Bad) → o ≡ None
    → bad ≡ cond (is_job o j && test) (more kind bad) bad
nobody kind o test j bad is = ap (λ x. cond (is_job x j && test) (more kind bad) bad) (sym is)

nobody-died : (kind : Kind) (o : Option ℕ) (j : ℕ) (bad : Bad) → o ≡ None → bad ≡ cond (is_job o j) (more kind bad) bad
nobody-died kind o j bad is = ap (λ x. cond (is_job x j) (more kind bad) bad) (sym is)

pub matches-stale_died : (work : Work) (b : Book) (log : List Entry) (t : ℕ) → Matches work b log
    → job_of b.outs t ≡ None → Matches work (after_stale b) (Died t ∷ log)
unfolding read bad_in stale_in drawn_in
matches-stale_died work b log t h is =
    let there = ap (λ outs. job_of outs t) (sym h.outs) ∙ is in
    let is_stale_there = out-job (read work log).outs t ∙ ap (λ (o : Option ℕ). is_some o) there in
    record {
      count = h.count;
      outs = h.outs ∙ sym (without-none (read work log).outs t there);
      dones = h.dones;
      bads = λ j. h.bads j ∙ nobody-died kinds.Died (job_of (read work log).outs t) j (bad_in work log j) there;
      stale = rw is_stale_there (omega (arith, h.stale));
      drawn = omega (arith, h.drawn);
    }

pub matches-stale_reply : (work : Work) (b : Book) (log : List Entry) (t : ℕ) (bytes : List ℕ) → Matches work b log
    → job_of b.outs t ≡ None → Matches work (after_stale b) (Reply t bytes ∷ log)
unfolding read bad_in stale_in drawn_in
matches-stale_reply work b log t bytes h is =
    let there = ap (λ outs. job_of outs t) (sym h.outs) ∙ is in
    let is_stale_there = out-job (read work log).outs t ∙ ap (λ (o : Option ℕ). is_some o) there in
    record {
      count = h.count;
      outs = h.outs ∙ sym (without-none (read work log).outs t there);
      dones = λ j. h.dones j ∙ ap (λ o. is_some (accepted
          (record { outs = []; replies = with_reply work (read work log).replies bytes o }) j)) (sym there);
      bads = λ j. h.bads j ∙ ap (λ x. cond (is_job x j && not (work.is_good j bytes))
          (more kinds.Reply (bad_in work log j)) (bad_in work log j)) (sym there);
      stale = rw is_stale_there (omega (arith, h.stale));
      drawn = omega (arith, h.drawn);
    }

with_reply-length : (work : Work) (replies : Places) (bytes : List ℕ) (o : Option ℕ)
    → length (with_reply work replies bytes o) ≡ length replies
with_reply-length work replies bytes None = refl
with_reply-length work replies bytes (Some job) = elim
    (work.is_good job bytes && is_none (accepted (record { outs = []; replies = replies }) job)) as
    (λ b. length (cond b (set replies job (Some bytes)) replies) ≡ length replies)
    [ true ↦ length-set replies job (Some bytes) | false ↦ refl ]

-- there is a place for each job
pub replies-length : (work : Work) (log : List Entry) → length (read work log).replies ≡ work.count
unfolding read
replies-length work [] = length-replicate work.count None
replies-length work (Started t ∷ log) = replies-length work log
replies-length work (StartFailed t ∷ log) = replies-length work log
replies-length work (Fed t piece ∷ log) = replies-length work log
replies-length work (FeedFailed t ∷ log) = replies-length work log
replies-length work (Sealed t ∷ log) = replies-length work log
replies-length work (Died t ∷ log) = replies-length work log
replies-length work (Stopped t ∷ log) = replies-length work log
replies-length work (Reply t bytes ∷ log) = with_reply-length work (read work log).replies bytes
    (job_of (read work log).outs t) ∙ replies-length work log

is-free : (o : Option (List ℕ)) → is_some o ≡ false → is_none o ≡ true
is-free None h = refl
is-free (Some x) h = absurd (true≢false h)

bad_reply_of : (work : Work) (job j : ℕ) (bytes : List ℕ) (bad : Bad) → work.is_good job bytes ≡ false
    → cond (job == j) (more kinds.Reply bad) bad ≡ cond (job == j && not (work.is_good j bytes)) (more kinds.Reply bad)
    bad
bad_reply_of work job j bytes bad is = elim (cases_eq job j) [
  | inl same ↦
      let there : work.is_good j bytes ≡ false = subst (λ (k : ℕ). work.is_good k bytes ≡ false) same is in
      rw (eq-eqb job j same, there) refl
  | inr apart ↦ rw (ne_eqb job j apart) refl
]

good_reply_of : (work : Work) (job j : ℕ) (bytes : List ℕ) (bad : Bad) → work.is_good job bytes ≡ true
    → bad ≡ cond (job == j && not (work.is_good j bytes)) (more kinds.Reply bad) bad
good_reply_of work job j bytes bad is = elim (cases_eq job j) [
  | inl same ↦
      let there : work.is_good j bytes ≡ true = subst (λ (k : ℕ). work.is_good k bytes ≡ true) same is in
      rw (eq-eqb job j same, there) refl
  | inr apart ↦ rw (ne_eqb job j apart) refl
]

done-first : (b : Book) (work : Work) (log : List Entry) (job : ℕ) (bytes : List ℕ) → job < length b.accounts
    → Matches work b log → (j : ℕ) → (account_at (with_account b.accounts job is_now_done) j).done ≡ is_some (accepted
    (record { outs = []; replies = set (read work log).replies job (Some bytes) }) j)
done-first b work log job bytes known h j =
    let there : job < length (read work log).replies = omega (arith, known, h.count, replies-length work log) in
    elim (cases_eq j job) [
      | inl same ↦ subst (λ (k : ℕ). (account_at (with_account b.accounts job is_now_done) k).done ≡ is_some
          (accepted (record { outs = []; replies = set (read work log).replies job (Some bytes) }) k)) (sym same)
          (ap (λ (a : Account). a.done) (account-here b.accounts job is_now_done known)
          ∙ ap (λ (o : Option (List ℕ)). is_some o) (sym
          (get_or-set_same (read work log).replies job (Some bytes) None there)))
      | inr apart ↦ ap (λ (a : Account). a.done) (account-other b.accounts job j is_now_done apart) ∙ h.dones j
          ∙ ap (λ (o : Option (List ℕ)). is_some o) (sym
          (get_or-set_other (read work log).replies job j (Some bytes) None apart))
    ]

-- a bad reply of a ticket that is out
pub matches-bad_reply : (work : Work) (b : Book) (log : List Entry) (t job : ℕ) (bytes : List ℕ) → Matches work b log
    → job < length b.accounts → job_of b.outs t ≡ Some job → work.is_good job bytes ≡ false
    → Matches work (after_bad b t job kinds.Reply) (Reply t bytes ∷ log)
unfolding read bad_in stale_in drawn_in
matches-bad_reply work b log t job bytes h known is bad =
    let there = ap (λ outs. job_of outs t) (sym h.outs) ∙ is in
    let is_out_there = out-job (read work log).outs t ∙ ap (λ (o : Option ℕ). is_some o) there in
    record {
      count = length-with b.accounts job (count_bad kinds.Reply) ∙ h.count;
      outs = ap (λ outs. without t outs) h.outs;
      dones = λ j. done-other b job (count_bad kinds.Reply) (λ a. refl) known j ∙ h.dones j
          ∙ ap (λ (g : Bool). is_some (accepted
          (record {
            outs = [];
            replies = cond (g && is_none (accepted (read work log) job))
                (set (read work log).replies job (Some bytes)) (read work log).replies;
          }) j)) (sym bad)
          ∙ ap (λ o. is_some (accepted (record { outs = []; replies = with_reply work (read work log).replies bytes o })
          j)) (sym there);
      bads = λ j. bad-more b job (count_bad kinds.Reply) kinds.Reply (λ a. refl) known j
          ∙ ap (λ x. cond (job == j) (more kinds.Reply x) x) (h.bads j)
          ∙ bad_reply_of work job j bytes (bad_in work log j) bad
          ∙ ap (λ x. cond (is_job x j && not (work.is_good j bytes)) (more kinds.Reply (bad_in work log j))
          (bad_in work log j)) (sym there);
      stale = rw is_out_there (omega (arith, h.stale));
      drawn = omega (arith, h.drawn);
    }

-- the first good reply of a ticket that is out
pub matches-first : (work : Work) (b : Book) (log : List Entry) (t job : ℕ) (bytes : List ℕ) → Matches work b log
    → job < length b.accounts → job_of b.outs t ≡ Some job → is_done b job ≡ false → work.is_good job bytes ≡ true
    → Matches work (record {
      first = b.first;
      window = b.window;
      restarts = b.restarts;
      drawn = b.drawn;
      stale = b.stale;
      is_stopping = b.is_stopping;
      outs = without t b.outs;
      accounts = with_account b.accounts job
          is_now_done;
    }) (Reply t bytes ∷ log)
unfolding read bad_in stale_in drawn_in
matches-first work b log t job bytes h known is undone good =
    let there = ap (λ outs. job_of outs t) (sym h.outs) ∙ is in
    let is_out_there = out-job (read work log).outs t ∙ ap (λ (o : Option ℕ). is_some o) there in
    let free = is-free (accepted (read work log) job) (sym (h.dones job) ∙ undone) in
    record {
      count = length-with b.accounts job is_now_done ∙ h.count;
      outs = ap (λ outs. without t outs) h.outs;
      dones = λ j. done-first b work log job bytes known h j
          ∙ ap (λ (g : Bool). is_some (accepted
          (record {
            outs = [];
            replies = cond g (set (read work log).replies job (Some bytes))
                (read work log).replies;
          }) j)) (sym (ap (λ g. g && is_none (accepted (read work log) job)) good ∙ free))
          ∙ ap (λ o. is_some (accepted (record { outs = []; replies = with_reply work (read work log).replies bytes o })
          j)) (sym there);
      bads = λ j. bad-other b job is_now_done (λ a. refl) known j ∙ h.bads j
          ∙ good_reply_of work job j bytes (bad_in work log j) good
          ∙ ap (λ x. cond (is_job x j && not (work.is_good j bytes)) (more kinds.Reply (bad_in work log j))
          (bad_in work log j)) (sym there);
      stale = rw is_out_there (omega (arith, h.stale));
      drawn = omega (arith, h.drawn);
    }

-- a ticket that is out is stopped
pub matches-stopped : (work : Work) (b : Book) (log : List Entry) (t : ℕ) → Matches work b log
    → Matches work (record {
      first = b.first;
      window = b.window;
      restarts = b.restarts;
      drawn = b.drawn;
      stale = b.stale;
      is_stopping = b.is_stopping;
      outs = without t b.outs;
      accounts = b.accounts;
    }) (Stopped t ∷ log)
unfolding read bad_in stale_in drawn_in
matches-stopped work b log t h = record {
  count = h.count;
  outs = ap (λ outs. without t outs) h.outs;
  dones = h.dones;
  bads = h.bads;
  stale = omega (arith, h.stale);
  drawn = omega (arith, h.drawn);
}
