use Rattle.std.proofs.Common.{◌∷◌, sym, ap, subst, ◌∙◌}
use Rattle.spec_model.specs.Agreement.{Agrees}
use Rattle.gr1_law.specs.Layers.{round_count}
use Rattle.gr1_sys.specs.Held.{ranks_of, all_regions}
use Rattle.gr1_sys.proofs.Lists.{together_each}
use Rattle.controller.specs.Made.{tale_of, targets_of}
use Rattle.controller.proofs.Makings.{first_each}
use Rattle.solve.proofs.Moments.{sys_told}
use Rattle.solve.proofs.Budgets.{play_halt}
use Rattle.solve.proofs.playing.system_play.Goals as goal

pub returns-in-Ok-clause-plays : goal.returns-in-Ok-clause-plays
returns-in-Ok-clause-plays g c =
    let begins = c.in-Ok.ensures.begins c.requires.won.0 c.requires.won.1 in
    λ s is agrees. record {
      fresh = begins.not_started;
      stands = (_, _, _, _, _, begins.stands);
      game = begins.game.game ∙ is;
      agrees = subst (Agrees s) (sym begins.game.game) agrees;
      rounds = c.k-k.ensures ∙ ap (λ layers. round_count (ranks_of layers)) (sym begins.same_layers);
    }

pub returns-in-Err-clause-cause : goal.returns-in-Err-clause-cause
returns-in-Err-clause-cause g c =
    let refused = c.in-Err.ensures.refused c.requires.won.0 c.requires.won.1 in
    let k = g.G.Regions.kept c.args.g in
    let layers = c.args.layers.goals.items in
    let all = together_each k (c.args.layers.z ∷ all_regions layers) c.requires.won.1.held in
    play_halt g.G.Regions.kept k c.in-Err.field-0.g refused.game (tale_of k.game (targets_of k layers)) (sys_told k layers (first_each k layers all.1) all.1) c.in-Err.field-0.halt refused.told
