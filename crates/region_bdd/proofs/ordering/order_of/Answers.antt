use Rattle.std.proofs.Common.{◌∙◌, ap}
use Rattle.spec_model.specs.GameViews.{game_data}
use Rattle.bit_compile.specs.Domains.{level_count}
use Rattle.region_bdd.proofs.MakingLaws.{declared_bits}
use Rattle.region_bdd.proofs.ordering.order_of.Goals as goal

pub returns-clause-bits : goal.returns-clause-bits
returns-clause-bits c =
    declared_bits (game_data c.args.game.now) c.args.to.now c.levels.result c.declared.result (c.levels.ensures ∙ ap level_count c.requires.codes) c.requires.to c.declared.ensures.levels c.declared.ensures.places
