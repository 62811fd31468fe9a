use Rattle.std.proofs.Common.{◌∙◌, ap, map}
use Rattle.spec_model.specs.GameViews.{game_data}
use Rattle.spec_model.specs.Steps.{below}
use Rattle.line_functions.specs.Names.{marks_of}
use Rattle.line_functions.proofs.slots.Marks.make.Goals as goal

pub returns : goal.returns
returns c =
    record {
      places = c.in_ok-places.ensures;
      tables = c.in_ok-tables.ensures ∙ ap (λ n. map (marks_of (game_data c.args.game.now)) (below n)) c.requires.count;
    }
