use Rattle.std.proofs.Common.{List, length, refl, sym, ap, ◌∙◌}
use Rattle.spec_model.specs.declared.value.Value.{Value}
use Rattle.spec_model.specs.GameViews.{game_data}
use Rattle.strategy_parts.proofs.Counting.{listed_sized}
use Rattle.strategy_parts.proofs.position.Position.arrive.Goals as goal

pub write_next-requires-clause-state : goal.write_next-requires-clause-state
write_next-requires-clause-state c = let there = c.requires.state in (there.0, there.1, there.2 ∙ sym c.deref.ensures.value)

pub returns : goal.returns
returns c = λ s inside lists.
    record {
      started = refl;
      listed = lists;
      read = c.write_next.ensures.cells s inside (lists ∙ sym c.deref.ensures.value);
      cells = c.write_next.ensures.tables;
      next = c.write_next.ensures.value s inside (lists ∙ sym c.deref.ensures.value);
      tables = c.write_next.ensures.room;
      room = ap (λ (vs : List Value). length vs) (sym lists) ∙ listed_sized (game_data c.args.game.now) s inside;
    }
