use Rattle.std.proofs.Common.{sym, ap, ◌∙◌}
use Rattle.spec_model.specs.GameViews.{game_data}
use Rattle.region_rows.proofs.RowLaws.{has_row, set-row, makes_region, either_is}
use Rattle.spec_model.specs.Sets.{either}
use Rattle.region_rows.specs.Slots.{marked, kept_in}
use Rattle.region_rows.proofs.impls.RegionRowsRegions.or.Goals as goal

pub row-requires : goal.row-requires
row-requires c = has_row (game_data c.args.self.now.numbered.game) c.args.self.now.slots.slots.items c.args.a.now c.requires.a

pub row-requires-2 : goal.row-requires-2
row-requires-2 c = has_row (game_data c.args.self.now.numbered.game) c.args.self.now.slots.slots.items c.args.b.now c.requires.b

pub returns-in-Ok-keep_region-clause-made : goal.returns-in-Ok-keep_region-clause-made
returns-in-Ok-keep_region-clause-made c =
    let g = game_data c.args.self.now.numbered.game in
    let slots = c.args.self.now.slots.slots.items in
    let a_is = sym (set-row g slots c.args.a.now c.row.result.now c.row.ensures) in
    let b_is = sym (set-row g slots c.args.b.now c.row-2.result.now c.row-2.ensures) in
    makes_region g slots _ c.in-Ok-keep_region.region c.in-Ok.row _ c.in-Ok-keep_region.ensures.kept
    (either_is g c.in-Ok.row c.count.result c.count.ensures c.row.result.now c.row-2.result.now c.in-Ok.ensures ∙ (ap (λ s. either s (marked g c.row-2.result.now)) a_is ∙ ap (λ s. either ((kept_in g slots).set c.args.a.now) s) b_is))
