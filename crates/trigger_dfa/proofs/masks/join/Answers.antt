use Rattle.std.proofs.Common.{◌∙◌, get_or, arith, ap, cond}
use Rattle.trigger_dfa.proofs.MaskWords.{join_step, join_end}
use Rattle.trigger_dfa.proofs.masks.join.Goals as goal

pub loop-k-preserved : goal.loop-k-preserved
loop-k-preserved c p =
    join_step c.args.words.now c.loop-k.k c.args.set c.loop-k.all c.when-all.result p c.loop-k-test.true
    (c.when-all.ensures ∙ ap (λ b. cond b (get_or c.args.words.now c.loop-k.k 0) 0) c.has.ensures) ∙ c.loop-k.invariant p

pub returns : goal.returns
returns c = join_end c.args.words.now c.loop-k.k c.args.set c.loop-k.all (omega arith) c.loop-k.invariant
