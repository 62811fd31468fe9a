use Rattle.std.proofs.Common.{◌∙◌, sym}
use Rattle.bdd_sets.specs.Levels.{is_elsewhere}
use Rattle.bdd_sets.proofs.LevelLemmas.{slot_in_made}
use Rattle.bdd_sets.proofs.levels.with_slot.Goals as goal

pub returns-then-is_elsewhere : goal.returns-then-is_elsewhere
returns-then-is_elsewhere c = λ so_far.
    slot_in_made c.args.codes.now (is_elsewhere c.args.first c.args.past) c.args.k c.args.levels.items so_far c.level.result c.width.result c.with_levels.result
    (sym c.is_elsewhere.ensures ∙ c.if-is_elsewhere.true) c.level.ensures.level c.width.ensures.width c.with_levels.ensures
