use Rattle.std.proofs.Common.{◌≡◌, ◌++◌, ◌∷◌, [], rules}
use Rattle.certificate_text.proofs.ByteParts.{numbers_stand, numbers_hang, numbers_fail}
use Rattle.certificate_text.proofs.node_bytes.read_numbers.Goals as goal

pub returns-in-Err : goal.returns-in-Err
returns-in-Err c =
    numbers_fail c.args.count c.args.bytes.now c.rest_of.result.now c.loop.counter c.loop.at c.in-Err.fault
    c.loop-test.true
    c.loop.invariant.hangs c.rest_of.ensures c.in-Err.ensures

pub loop-preserved : goal.loop-preserved
loop-preserved c =
    let pushed : c.push.new.self ≡ c.loop.numbers ++ c.in-Ok.read.0 ∷ [] = search rules in
    record {
      front = rw pushed (
          numbers_stand c.args.bytes.now c.rest_of.result.now c.loop.counter c.loop.at c.in-Ok.read.1 c.loop.numbers
          c.in-Ok.read.0
          c.loop.invariant.front c.rest_of.ensures c.in-Ok.ensures
          );
      hangs = numbers_hang c.args.count c.args.bytes.now c.rest_of.result.now c.loop.counter c.loop.at c.in-Ok.read.1
          c.in-Ok.read.0 c.loop-test.true
          c.loop.invariant.hangs c.rest_of.ensures c.in-Ok.ensures;
    }
