use Rattle.std.proofs.Common.{◌≡◌, sym, subst, true, List}
use Rattle.spec_model.specs.Values.{Assignment}
use Rattle.spec_model.specs.GameViews.{game_data}
use Rattle.spec_model.specs.Steps.{is_output}
use Rattle.spec_model.proofs.AllStates.{Every}
use Rattle.spec_model.proofs.Listed.{outputs_fit}
use Rattle.game_states.proofs.SeenSteps.{every_at}
use Rattle.game_states.proofs.states.add_outputs.Goals as goal

pub read-requires-clause-output : goal.read-requires-clause-output
read-requires-clause-output c =
    let g = game_data c.args.game.now in
    let fits = subst (λ (ys : List Assignment). Every (λ y. is_output g y ≡ true) ys) (sym c.requires.outputs) (outputs_fit g) in
    rw (c.deref.ensures.value, c.deref-in-loop-k-2.ensures.value) (every_at (λ y. is_output g y ≡ true) (λ y. y.items) c.args.outputs.now c.loop-k.k c.index-outputs-k.result c.loop-k-test.true c.index-outputs-k.is fits)
