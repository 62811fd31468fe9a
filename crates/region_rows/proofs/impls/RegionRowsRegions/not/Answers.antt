use Rattle.std.proofs.Common.{sym, ap, ◌∙◌}
use Rattle.spec_model.specs.GameViews.{game_data}
use Rattle.region_rows.proofs.RowLaws.{has_row, set-row, makes_region, rest_is}
use Rattle.spec_model.specs.Sets.{rest}
use Rattle.region_rows.proofs.impls.RegionRowsRegions.not.Goals as goal

pub row-requires : goal.row-requires
row-requires c = has_row (game_data c.args.self.now.numbered.game) c.args.self.now.slots.slots.items c.args.a.now c.requires.a

pub returns-in-Ok-keep_region-clause-made : goal.returns-in-Ok-keep_region-clause-made
returns-in-Ok-keep_region-clause-made c =
    let g = game_data c.args.self.now.numbered.game in
    let slots = c.args.self.now.slots.slots.items in
    makes_region g slots _ c.in-Ok-keep_region.region c.in-Ok.row _ c.in-Ok-keep_region.ensures.kept
    (rest_is g c.in-Ok.row c.count.result c.count.ensures c.row.result.now c.in-Ok.ensures ∙ ap (rest g) (sym (set-row g slots c.args.a.now c.row.result.now c.row.ensures)))
