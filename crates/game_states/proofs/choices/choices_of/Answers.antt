use Rattle.std.proofs.Common.{◌≡◌, ◌<◌, ◌-◌, suc, sym, ◌∙◌, length, arith}
use Rattle.game_states.proofs.ChoiceSteps.{choices_step}
use Rattle.game_states.proofs.choices.choices_of.Goals as goal

pub loop-i-preserved : goal.loop-i-preserved
loop-i-preserved g c =
    let within = c.loop-i.invariant.within in
    let test = c.loop-i-test.true in
    let below : c.loop-i.i - 1 < length c.args.options.now = omega arith in
    let next : suc (c.loop-i.i - 1) ≡ c.loop-i.i = omega arith in
    record {
      within = omega arith;
      made =
          c.in_ok-tails-2.ensures
          ∙ (rw (c.deref.ensures.value, c.deref-in-loop-i.ensures.value, c.loop-i.invariant.made)
          (sym (choices_step (λ v. v.items) c.args.options.now (c.loop-i.i - 1) c.loop-i.i c.index-options-i.result below next c.index-options-i.is)));
    }
