use Rattle.std.proofs.Common.{◌∙◌, ◌++◌, List, ℕ, ap, append_assoc}
use Rattle.hash_family.specs.Setting.{setting_of}
use Rattle.reply_format.specs.Reply.{counters_bytes, head_bytes, head_of, heaps_bytes}
use Rattle.child_replies.proofs.write_replay.put_replay.Goals as goal

pub returns-in-Ok : goal.returns-in-Ok
returns-in-Ok c =
    let setting = setting_of c.args.params.now in
    let head : List ℕ = head_bytes 2 (head_of c.args.number setting c.args.items c.args.weight) in
    let body : List ℕ = counters_bytes 2 setting c.args.body.now.counters ++ heaps_bytes c.args.body.now.heaps in
    c.in-Ok.ensures
    ∙ ap (λ (l : List ℕ). l ++ body) (c.in_ok-put_bytes.ensures
    ∙ ap (λ (l : List ℕ). c.args.out.now.items ++ l) c.head_bytes.ensures)
    ∙ append_assoc c.args.out.now.items head body
