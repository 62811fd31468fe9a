use Rattle.std.proofs.Common.{◌<◌, ◌∷◌, [], get_or, bit_and, length, ap, subst, arith}
use Rattle.std.proofs.lemmas.Result.{err_from_is_err_and}
use Rattle.trigger_dfa.specs.Words.{with_new}
use Rattle.trigger_dfa.proofs.MetSets.{past_limit}
use Rattle.trigger_dfa.proofs.walk.Walk.meet.Goals as goal

pub returns-in_err-add-clause-wide : goal.returns-in_err-add-clause-wide
returns-in_err-add-clause-wide c e =
    let p = err_from_is_err_and c.from_residual.result c.from_residual.ensures.1 in
    let masks = c.args.self.now.masks.items in
    let words = c.loop-mask.words.items in
    let value = c.deref-mask-items.ensures.value in
    let here = c.in_err-add.ensures.wide (cc (e, p.1, p.2)) in
    let more = subst (λ l. c.args.limit < length (with_new words (bit_and c.args.after (get_or l c.loop-mask.mask-index 0) ∷ []))) value here in
    let below : c.loop-mask.mask-index < length masks = omega (arith, ap length value) in
    omega (arith, past_limit words masks c.loop-mask.mask-index c.args.after below c.args.limit more, ap length c.loop-mask.invariant.0)
