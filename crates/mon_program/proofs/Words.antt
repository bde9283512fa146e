-- The words behind the name of the children's program.
use Rattle.std.proofs.Common.{◌≡◌, ◌-◌, ℕ, Bool, true, false, List, take, drop, length, map, Global, String, string_bytes, sym, ◌∙◌, ap, subst, inr, cond}
use Rattle.std.proofs.lemmas.List.{drop-map, take_rest}
use Rattle.mon_call.specs.CrewCall.{CrewCall}
use Rattle.mon_call.specs.declared.status.Status.{Status}
use Rattle.mon_command.specs.Asked.{asked_of}
use Rattle.mon_command.specs.Outcome.{CrewOutcome}
use Rattle.mon_program.specs.Program.{AnyNames, IsProgram, behind_worker, has_worker}

-- the pair is taken off, where it is there
pub behind_pair : (words : List (String Global)) → has_worker (map string_bytes words) ≡ true
    → behind_worker (map string_bytes words) ≡ map string_bytes (take (length words - 2) (drop 2 words))
behind_pair words is =
    ap (λ (b : Bool). cond b (drop 2 (map string_bytes words)) (map string_bytes words)) is
    ∙ drop-map string_bytes 2 words ∙ ap (λ (ws : List (String Global)). map string_bytes ws) (sym (take_rest words 2))

pub behind_none : (words : List (List ℕ)) → has_worker words ≡ false → behind_worker words ≡ words
behind_none words is = ap (λ (b : Bool). cond b (drop 2 words) words) is

-- what a call answers for these words
pub answered : (words rest : List (List ℕ)) (c : CrewCall) (status : Status) → behind_worker words ≡ rest
    → c.crew.issued ≡ 0 → CrewOutcome AnyNames AnyNames (asked_of true rest) c status → IsProgram words status
answered words rest c status is fresh outcome =
    inr (
      c,
      fresh,
      subst (λ (ws : List (List ℕ)). CrewOutcome AnyNames AnyNames (asked_of true ws) c status) (sym is)
          outcome,
    )
