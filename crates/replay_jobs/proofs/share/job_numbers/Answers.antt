use Rattle.std.proofs.Common.{◌≡◌, ◌++◌, ◌∷◌, ℕ, List, [], map, take, sym, ◌∙◌, ap, rules}
use Rattle.std.proofs.lemmas.List.{map_more}
use Rattle.flow_keys.specs.declared.routed.Routed.{Routed}
use Rattle.replay_jobs.specs.Grouped.{job_number}
use Rattle.replay_jobs.proofs.share.job_numbers.Goals as goal

pub loop-packet-preserved : goal.loop-packet-preserved
loop-packet-preserved c =
    let number : Routed → ℕ = job_number c.args.switches c.args.placement.now in
    let routed = c.args.routed.now in
    let i = c.loop-packet.packet-index in
    let packet = c.packet-item.result in
    let grown : c.push.new.self.items ≡ c.loop-packet.numbers.items ++ c.job_number-number.result ∷ [] = search rules in
    grown ∙ ap (λ (ns : List ℕ). ns ++ c.job_number-number.result ∷ []) c.loop-packet.invariant
    ∙ ap (λ (n : ℕ). map number (take i routed) ++ n ∷ [])
    (c.job_number-number.ensures ∙ ap number c.packet-item.is)
    ∙ sym (map_more number routed i packet c.loop-packet-test.true)
