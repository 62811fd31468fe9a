use Rattle.std.proofs.Common.{◌∙◌}
use Rattle.spec_model.specs.Views.{spec_data}
use Rattle.spec_model.specs.GameViews.{game_data}
use Rattle.strategy_tables.specs.Views.{table_data}
use Rattle.table_check.proofs.Claiming.{sound_by}
use Rattle.table_check.proofs.checking.check.Goals as goal

pub returns-clause-sound : goal.returns-clause-sound
returns-clause-sound c =
    let s = spec_data c.args.spec.now in
    sound_by s (table_data c.args.table.now) (game_data c.in_ok-judges.judges.game) (c.sound_tables_win.ensures s c.requires.typed) c.requires.table (c.in_ok-judges.ensures.game ∙ c.in_ok-game.ensures.game) c.check_judged.result c.check_judged.ensures
