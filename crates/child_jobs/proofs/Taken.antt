-- The bytes that a reader has taken.
use Rattle.std.proofs.Common.{◌≡◌, ◌<◌, ℕ, Bool, true, false, if◌then◌else◌, List, [], ◌++◌, map, take, None, Result, Ok, Err, IfOk, IfErr, All, refl, sym, ◌∙◌, ap, arith, append_assoc, append-nil}
use Rattle.std.proofs.lemmas.List.Elements.{All-append, All-take}
use Rattle.byte_format.specs.Format.{At, Broken, Reached, reached, yields}
use Rattle.byte_format.proofs.Formats.{reached-append, reached-broken}
use Rattle.job_format.specs.Given.{item_gives, need_gives, site_gives}
use Rattle.job_format.specs.Places.{job_format, job_start}
use Rattle.job_format.specs.Read.{BreaksJob}
use Rattle.job_format.specs.declared.fault.JobFault.{JobFault}
use Rattle.job_format.specs.Held.{need_of}
use Rattle.job_format.specs.declared.held_need.HeldNeed.{HeldNeed}
use Rattle.job_format.specs.declared.item.Item.{Item}
use Rattle.job_format.specs.declared.place.Place.{Place}
use Rattle.child_jobs.specs.Reader.{HasTaken, Moves, kept, lent, needs_held, state, stopped}
use Rattle.child_jobs.specs.declared.reader.JobReader.{JobReader}
use Rattle.child_jobs.proofs.Moves.{both_give, kept_all, state_start}
use Rattle.job_format.proofs.Reading.{breach_of}

-- of a value, or of an error, what follows from what is known of it
pub if_ok : {T E : Type 0} (r : Result T E) (P Q : T → Type 0) → ((x : T) → P x → Q x) → IfOk r P → IfOk r Q
if_ok (Ok x) P Q follows p = follows x p
if_ok (Err e) P Q follows p = tt

pub if_err : {T E : Type 0} (r : Result T E) (P Q : E → Type 0) → ((e : E) → P e → Q e) → IfErr r P → IfErr r Q
if_err (Ok x) P Q follows p = tt
if_err (Err e) P Q follows p = follows e p

-- what is lent and what is kept are the frame
lent_kept : (ended : Bool) (items : List Item) → (if ended then items else []) ++ (if ended then [] else items) ≡ items
lent_kept true items = append-nil items
lent_kept false items = refl

-- what bytes and more bytes give
more_given : {X : Type 0} (gives : Place → List ℕ → List X) (now : Reached Place JobFault) (bytes more : List ℕ)
    (before : List X) → now ≡ reached job_format (At job_start []) bytes
    → yields job_format gives (At job_start []) bytes ≡ before
    → yields job_format gives (At job_start []) (bytes ++ more) ≡ before ++ yields job_format gives now more
more_given {X} gives now bytes more before is so_far =
    sym (both_give gives (At job_start []) now bytes more [] before (before ++ yields job_format gives now more) is
    (sym so_far) refl)

pub takes_on : (old new : JobReader) (bytes piece : List ℕ) (given : List Item) (n : ℕ) → HasTaken old bytes given
    → Moves old new (take n piece) → All (λ byte. byte < 256) piece
    → HasTaken new (bytes ++ take n piece) (given ++ lent new)
takes_on old new bytes piece given n taken moves fit = record {
  going = moves.going;
  leads =
      moves.leads
      ∙ ap (λ (r : Reached Place JobFault). reached job_format r (take n piece)) taken.leads
      ∙ sym (reached-append job_format (At job_start []) bytes (take n piece));
  gives =
      more_given item_gives (state old) bytes (take n piece) (given ++ kept old) taken.leads taken.gives
      ∙ append_assoc given (kept old) (yields job_format item_gives (state old) (take n piece))
      ∙ ap (λ (l : List Item). given ++ l) (sym moves.items ∙ sym (lent_kept new.ended new.frame.items))
      ∙ sym (append_assoc given (lent new) (kept new));
  sites = more_given site_gives (state old) bytes (take n piece) old.sites.items taken.leads taken.sites
      ∙ sym moves.sites;
  needs = more_given need_gives (state old) bytes (take n piece) (needs_held old) taken.leads taken.needs
      ∙ sym moves.needs;
  fit = All-append (λ byte. byte < 256) bytes (take n piece) taken.fit (All-take (λ byte. byte < 256) n piece fit);
}

-- a breach in a piece is one of all bytes
pub breach_in : (old : JobReader) (bytes piece rest : List ℕ) (given : List Item) (fault : JobFault)
    → HasTaken old bytes given → reached job_format (state old) piece ≡ Broken fault
    → BreaksJob (bytes ++ (piece ++ rest)) fault
breach_in old bytes piece rest given fault taken broken =
    breach_of (bytes ++ (piece ++ rest)) fault
    (reached-append job_format (At job_start []) bytes (piece ++ rest)
    ∙ ap (λ (r : Reached Place JobFault). reached job_format r (piece ++ rest)) (sym taken.leads)
    ∙ reached-append job_format (state old) piece rest
    ∙ ap (λ (r : Reached Place JobFault). reached job_format r rest) broken
    ∙ reached-broken job_format fault rest)

-- no byte, as a reader begins
pub starts : (r : JobReader) → stopped r ≡ None → r.place ≡ job_start → r.filled ≡ 0 → r.ended ≡ false
    → r.frame.items ≡ [] → r.sites.items ≡ [] → r.needs.items ≡ [] → HasTaken r [] []
unfolding reached yields
starts r going at filled open_yet items sites needs = record {
  going = going;
  leads = state_start r job_start going at filled;
  gives = sym (kept_all r open_yet ∙ items);
  sites = sym sites;
  needs = sym (ap (λ (l : List HeldNeed). map need_of l) needs);
  fit = λ k d here. absurd (omega (arith, here));
}
