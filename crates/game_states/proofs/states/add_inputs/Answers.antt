use Rattle.std.proofs.Common.{◌≡◌, ◌++◌, sym, ap, ◌∙◌, subst, true, List, map}
use Rattle.spec_model.specs.Values.{Assignment}
use Rattle.spec_model.specs.GameViews.{game_data}
use Rattle.spec_model.specs.Games.{outputs_of}
use Rattle.spec_model.specs.Steps.{is_input}
use Rattle.spec_model.proofs.AllStates.{Every}
use Rattle.spec_model.proofs.Listed.{inputs_fit}
use Rattle.game_states.specs.Seen.{seen, seen_at, state_with}
use Rattle.game_states.proofs.SeenSteps.{every_at, flat_step}
use Rattle.game_states.proofs.states.add_inputs.Goals as goal

pub add_outputs-requires-clause-input : goal.add_outputs-requires-clause-input
add_outputs-requires-clause-input c =
    let g = game_data c.args.game.now in
    let fits = subst (λ (xs : List Assignment). Every (λ x. is_input g x ≡ true) xs) (sym c.requires.inputs) (inputs_fit g) in
    rw c.deref.ensures.value (every_at (λ x. is_input g x ≡ true) (λ x. x.items) c.args.inputs.now c.loop-k.k c.index-inputs-k.result c.loop-k-test.true c.index-inputs-k.is fits)

pub loop-k-preserved : goal.loop-k-preserved
loop-k-preserved c =
    let g = game_data c.args.game.now in
    let f = λ (x : Assignment). map (λ y. seen_at g (state_with c.args.numbers.now x y)) (outputs_of g) in
    c.in_ok-add_outputs.ensures
    ∙ (ap (λ ys. map seen c.loop-k.out.items ++ map (λ y. seen_at g (state_with c.args.numbers.now c.deref.result.now y)) ys) c.requires.outputs
    ∙ (ap (λ x. map seen c.loop-k.out.items ++ f x) c.deref.ensures.value
    ∙ flat_step f (λ x. x.items) c.args.inputs.now c.loop-k.k c.index-inputs-k.result (map seen c.args.out.now.items) (map seen c.loop-k.out.items) c.loop-k-test.true c.index-inputs-k.is c.loop-k.invariant))
