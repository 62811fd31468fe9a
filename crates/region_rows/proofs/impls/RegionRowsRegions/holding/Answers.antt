use Rattle.spec_model.specs.GameViews.{game_data}
use Rattle.region_rows.proofs.RowLaws.{makes_region}
use Rattle.region_rows.proofs.impls.RegionRowsRegions.holding.Goals as goal

pub returns-in-Ok-keep_region-clause-made : goal.returns-in-Ok-keep_region-clause-made
returns-in-Ok-keep_region-clause-made c =
    makes_region (game_data c.args.self.now.numbered.game) c.args.self.now.slots.slots.items _ c.in-Ok-keep_region.region c.in-Ok.row _ c.in-Ok-keep_region.ensures.kept c.in-Ok.ensures
