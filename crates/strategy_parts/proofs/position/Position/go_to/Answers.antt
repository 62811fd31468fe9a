use Rattle.std.proofs.Common.{List, length, sym, ap, ◌∙◌}
use Rattle.spec_model.specs.declared.value.Value.{Value}
use Rattle.spec_model.specs.GameViews.{game_data}
use Rattle.strategy_parts.proofs.Counting.{listed_sized}
use Rattle.strategy_parts.proofs.position.Position.go_to.Goals as goal

pub write_listed-requires : goal.write_listed-requires
write_listed-requires c =
    let here = c.requires.here in
    let there = c.requires.state in
    here.1.room ∙ (sym (listed_sized (game_data c.args.game.now) there.0 there.1) ∙ ap (λ (vs : List Value). length vs) there.2)

pub arrive-requires-clause-state : goal.arrive-requires-clause-state
arrive-requires-clause-state c = let there = c.requires.state in (there.0, there.1, there.2 ∙ sym c.write_listed.ensures)

pub returns : goal.returns
returns c = λ s inside lists. c.arrive.ensures s inside (lists ∙ sym c.write_listed.ensures)
