use Rattle.std.proofs.Common.{ℕ, List, length, sym, ap, subst, ◌∙◌}
use Rattle.spec_model.specs.Games.{GameData}
use Rattle.spec_model.specs.Agreement.{Agrees}
use Rattle.gr1_law.specs.EnvLayers.{denial_count}
use Rattle.gr1_env.specs.declared.layers.EnvLayer.{EnvLayer}
use Rattle.gr1_env.specs.Held.{all_regions}
use Rattle.gr1_env.specs.Solved.{counts_of}
use Rattle.gr1_sys.proofs.Lists.{together_each}
use Rattle.counterstrategy.specs.Made.{tale_of}
use Rattle.counterstrategy.proofs.Begun.{layers_each, delays_each}
use Rattle.solve.proofs.Found.{lost_game}
use Rattle.solve.proofs.Moments.{env_told}
use Rattle.solve.proofs.Budgets.{play_halt}
use Rattle.solve.proofs.playing.environment_play.Goals as goal

pub make-requires-clause-lost : goal.make-requires-clause-lost
make-requires-clause-lost g c = (c.requires.lost.0, c.requires.lost.1.are)

pub returns-in-Ok-clause-lost : goal.returns-in-Ok-clause-lost
returns-in-Ok-clause-lost g c = lost_game _ _ c.requires.lost.0 _ _ c.requires.lost.1 c.n-n.ensures c.m-m.ensures

pub returns-in-Ok-clause-plays : goal.returns-in-Ok-clause-plays
returns-in-Ok-clause-plays g c =
    let begins = c.in-Ok.ensures.begins c.requires.lost.0 c.requires.lost.1.are in
    λ s is agrees rise. record {
      fresh = begins.fresh;
      empty = λ e h notes b k stands. (begins.empty e h notes b k stands).0;
      stands = (_, _, _, _, _, begins.stands);
      game = begins.game.game ∙ is;
      agrees = subst (Agrees s) (sym begins.game.game) agrees;
      rise = rise;
      shifts = c.n-n.ensures ∙ ap (λ layers. length layers) (sym begins.same_layers);
      denials = c.m-m.ensures ∙ (c.requires.lost.1.denials ∙ (ap (λ layers. denial_count (g.G.Regions.kept c.args.g).game (length layers) (counts_of layers)) (sym begins.same_layers) ∙ ap (λ (game : GameData). denial_count game (length c.in-Ok.play.layers.items) (counts_of c.in-Ok.play.layers.items)) (sym begins.game.game)));
    }

pub returns-in-Err-clause-cause : goal.returns-in-Err-clause-cause
returns-in-Err-clause-cause g c =
    let k = g.G.Regions.kept c.args.g in
    let ls = c.args.layers.layers.items in
    let all = together_each k (all_regions ls) c.requires.lost.1.are.held in
    play_halt g.G.Regions.kept k c.in-Err.field-0.g c.in-Err.ensures.refused.game (tale_of k ls) (env_told k ls (layers_each k ls all) (delays_each k ls all)) c.in-Err.field-0.halt c.in-Err.ensures.refused.told
