use Rattle.spec_model.specs.GameViews.{game_data}
use Rattle.game_states.proofs.MakeLaws.{tables_filled, count_is}
use Rattle.game_states.proofs.make.state_count.Goals as goal

pub count_hidden-requires-clause-made : goal.count_hidden-requires-clause-made
count_hidden-requires-clause-made c = rw c.deref-3.ensures.value (tables_filled _ (game_data c.args.game.now).hidden c.requires.hidden)

pub returns : goal.returns
returns c =
    count_is (game_data c.args.game.now) c.requires c.count_owned-outputs.result c.count_owned-moves.result c.count_hidden.result
    (rw c.deref.ensures.value at c.count_owned-outputs.ensures) (rw c.deref-2.ensures.value at c.count_owned-moves.ensures) (rw c.deref-3.ensures.value at c.count_hidden.ensures)
