use Rattle.spec_model.specs.GameViews.{game_data}
use Rattle.region_rows.proofs.RowLaws.{makes_region, none_is}
use Rattle.region_rows.proofs.impls.RegionRowsRegions.none.Goals as goal

pub returns-in-Ok-keep_region-clause-made : goal.returns-in-Ok-keep_region-clause-made
returns-in-Ok-keep_region-clause-made c =
    let g = game_data c.args.self.now.numbered.game in
    makes_region g c.args.self.now.slots.slots.items _ c.in-Ok-keep_region.region c.in-Ok.row _ c.in-Ok-keep_region.ensures.kept (none_is g c.in-Ok.row c.count.result c.count.ensures c.in-Ok.ensures)
