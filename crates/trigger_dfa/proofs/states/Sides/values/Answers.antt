use Rattle.std.proofs.Common.{◌==◌, bit_and, filter, length, ap, ◌∙◌, arith}
use Rattle.std.proofs.lemmas.List.{length-map}
use Rattle.spec_model.specs.Games.{letter_of}
use Rattle.trigger_dfa.specs.Standings.{all_sets}
use Rattle.trigger_dfa.proofs.TableRows.{value_words}
use Rattle.trigger_dfa.proofs.states.Sides.values.Goals as goal

pub returns-clause-values : goal.returns-clause-values
returns-clause-values c atoms x y sides =
    let cause = c.args.self.now.cause in
    let effect = c.args.self.now.effect in
    let causes = c.in_ok-causes.ensures.sets atoms x sides.cause in
    let effects = c.in_ok-effects.ensures.sets atoms y sides.effect in
    record {
      causes = c.in_ok-open_sets.ensures.sets ∙ ap (filter (λ word. bit_and word cause.lasts == 0)) (c.deref.ensures.value ∙ causes) ∙ value_words atoms x cause sides.cause (all_sets atoms x);
      effects = c.in_ok-open_sets-2.ensures.sets ∙ ap (filter (λ word. bit_and word effect.lasts == 0)) (c.deref-2.ensures.value ∙ effects) ∙ value_words atoms y effect sides.effect (all_sets atoms y);
      few = omega (arith, ap length causes, ap length effects, length-map (all_sets atoms x) letter_of, length-map (all_sets atoms y) letter_of, c.in_ok-causes.ensures.within, c.in_ok-effects.ensures.within, c.in_ok-causes.causes.ok.0, c.in_ok-effects.effects.ok.0, c.len.ensures);
    }
