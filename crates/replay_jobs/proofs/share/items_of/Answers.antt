use Rattle.std.proofs.Common.{◌≡◌, ◌++◌, ◌∷◌, Bool, true, false, cond, List, Vec, Global, [], get_or, nat_eq, take, sym, ◌∙◌, ap, rules}
use Rattle.std.proofs.lemmas.Bool.{eq-eqb, ne_eqb}
use Rattle.std.proofs.lemmas.List.{append-nil}
use Rattle.flow_keys.specs.declared.routed.Routed.{Routed}
use Rattle.job_format.specs.declared.item.Item.{Item}
use Rattle.path_shares.specs.Shares.{job_item}
use Rattle.replay_jobs.specs.Grouped.{items_of}
use Rattle.replay_jobs.proofs.Grouped.{items_of-more}
use Rattle.replay_jobs.proofs.share.items_of.Goals as goal
use Rattle.replay_jobs.proofs.share.items_of.Goals.{then-numbers-index+else-is_err, else-numbers-index}

no_packet : Routed
no_packet = record { epoch = 0; path = 0; key = []; weight = 0 }

pub loop-index-preserved : goal.loop-index-preserved
loop-index-preserved c = λ switches placement numbered.
    let i = c.loop-index.index in
    let routed = c.args.routed.now in
    let before : List Item = items_of switches placement c.args.number (take i routed) in
    let more = λ (d : Routed). items_of-more switches placement c.args.numbers.now c.args.number routed i d numbered
    c.loop-index-test.true in
    let chosen = λ (packet : Routed) (b : Bool). before ++ cond b (job_item packet ∷ []) [] in
    elim c.if-numbers-index.branch [
      | then-numbers-index+else-is_err w ↦
          let packet = w.index-routed-index.result in
          let yes : nat_eq (get_or c.args.numbers.now i 0) c.args.number ≡ true = eq-eqb _ _ w.if-numbers-index.true in
          let grown : w.push.new.self.items ≡ c.loop-index.items.items ++ job_item packet ∷ [] = search rules in
          ap (λ (v : Vec Item Global). v.items) w.items-is ∙ grown
          ∙ ap (λ (items : List Item). items ++ job_item packet ∷ []) (c.loop-index.invariant switches placement numbered)
          ∙ sym (more packet ∙ ap (chosen (get_or routed i packet)) yes
          ∙ ap (λ (p : Routed). before ++ job_item p ∷ []) (sym w.index-routed-index.is))
      | else-numbers-index w ↦
          let no : nat_eq (get_or c.args.numbers.now i 0) c.args.number ≡ false = ne_eqb _ _ w.if-numbers-index.false in
          ap (λ (v : Vec Item Global). v.items) w.items-is ∙ c.loop-index.invariant switches placement numbered
          ∙ sym (more no_packet ∙ ap (chosen (get_or routed i no_packet)) no ∙ append-nil before)
    ]
