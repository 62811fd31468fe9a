use Rattle.std.proofs.Common.{sym, ap, ◌∙◌}
use Rattle.spec_model.specs.GameViews.{game_data}
use Rattle.region_rows.proofs.RowLaws.{has_row, set-row, makes_region, pre_env_is}
use Rattle.spec_model.specs.Sets.{pre_env}
use Rattle.spec_model.proofs.Closed.{closed}
use Rattle.region_rows.proofs.impls.RegionRowsRegions.pre_env.Goals as goal

pub row-requires : goal.row-requires
row-requires c = has_row (game_data c.args.self.now.numbered.game) c.args.self.now.slots.slots.items c.args.t.now c.requires.t

pub returns-in-Ok-keep_region-clause-made : goal.returns-in-Ok-keep_region-clause-made
returns-in-Ok-keep_region-clause-made c =
    let self = c.args.self.now in
    let g = game_data self.numbered.game in
    let slots = self.slots.slots.items in
    makes_region g slots _ c.in-Ok-keep_region.region c.in-Ok.row _ c.in-Ok-keep_region.ensures.kept
    (pre_env_is g (closed g self.numbered.made) c.in-Ok.row c.row.result.now (rw (c.deref.ensures.value, self.later_moves) at c.in-Ok.ensures) ∙ ap (pre_env g) (sym (set-row g slots c.args.t.now c.row.result.now c.row.ensures)))
