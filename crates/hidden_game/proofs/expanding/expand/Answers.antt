use Rattle.std.proofs.Common.{sym, subst}
use Rattle.std.proofs.lemmas.Result.{IfOk-weaker}
use Rattle.spec_model.specs.Views.{spec_data}
use Rattle.spec_model.specs.Agreement.{Agrees}
use Rattle.spec_model.specs.WellMade.{WellMade}
use Rattle.hidden_game.proofs.MadeGames.{typed_games_made}
use Rattle.hidden_game.proofs.Agreed.{game_agrees}
use Rattle.hidden_game.proofs.expanding.expand.Goals as goal

pub returns-clause-made : goal.returns-clause-made
returns-clause-made c = IfOk-weaker _ _ _ (λ g e. subst WellMade (sym e) (typed_games_made (spec_data c.args.spec.now) c.requires.typed)) c.game.ensures

pub returns-clause-agrees : goal.returns-clause-agrees
returns-clause-agrees c =
    let s = spec_data c.args.spec.now in
    IfOk-weaker _ _ _ (λ g e. subst (Agrees s) (sym e) (game_agrees s c.requires.typed)) c.game.ensures
