use Rattle.std.proofs.Common.{arith, length}
use Rattle.std.proofs.lemmas.List.{same_lists}
use Rattle.controller.proofs.replies.are_same.Goals as goal

pub returns : goal.returns
returns c = same_lists c.args.first.now c.args.second.now (omega arith) (λ k d below. c.loop-i.invariant k (omega arith) d)
