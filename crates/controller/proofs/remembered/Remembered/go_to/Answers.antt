use Rattle.std.proofs.Common.{Some, sym, subst}
use Rattle.spec_model.specs.GameViews.{game_data}
use Rattle.strategy_parts.specs.Positions.{IsAfter}
use Rattle.controller.proofs.remembered.Remembered.go_to.Goals as goal

pub returns : goal.returns
returns c = λ s m inside lists is.
    record {
      position = subst (λ p. IsAfter (game_data c.args.game.now) p (Some s)) (sym c.recall.ensures.position) (c.go_to.ensures s inside lists);
      memory = c.recall.ensures.memory m is;
    }
