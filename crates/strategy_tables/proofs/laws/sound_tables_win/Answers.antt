use Rattle.std.proofs.Common.{subst}
use Rattle.spec_model.specs.Rules.{Rules}
use Rattle.spec_model.specs.Realizable.{IsRealizable}
use Rattle.spec_model.specs.Unrealizable.{IsUnrealizable}
use Rattle.hidden_game.specs.GameOf.{game_of}
use Rattle.hidden_game.proofs.MadeGames.{typed_games_made, lines_rise}
use Rattle.hidden_game.proofs.Agreed.{game_agrees}
use Rattle.gr1_law.proofs.Labels.{labels_differ}
use Rattle.strategy_tables.proofs.SystemWins.{system_tables_win}
use Rattle.strategy_tables.proofs.EnvironmentWins.{environment_tables_win}
use Rattle.strategy_tables.proofs.laws.sound_tables_win.Goals as goal

pub returns : goal.returns
returns c s typed =
    let agrees = game_agrees s typed in
    let made = typed_games_made s typed in (
      λ t states sound. subst (λ (r : Rules). IsRealizable r t.k) agrees.rules (system_tables_win (game_of s) made t states sound),
      λ t states replies sound. subst (λ (r : Rules). IsUnrealizable r t.n t.m) agrees.rules (environment_tables_win (game_of s) made (labels_differ s (game_of s) agrees (lines_rise s typed)) t states replies sound),
    )
