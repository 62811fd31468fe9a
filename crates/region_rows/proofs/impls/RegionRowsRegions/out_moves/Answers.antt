use Rattle.std.proofs.Common.{sym, ap, ◌∙◌}
use Rattle.spec_model.specs.GameViews.{game_data}
use Rattle.region_rows.proofs.RowLaws.{has_row, set-row, makes_outputs, copy_is}
use Rattle.regions.specs.Kept.{Outputs}
use Rattle.region_rows.proofs.impls.RegionRowsRegions.out_moves.Goals as goal

pub row-requires : goal.row-requires
row-requires c = has_row (game_data c.args.self.now.numbered.game) c.args.self.now.slots.slots.items c.args.t.now c.requires.t

pub returns-in-Ok-keep_outputs-clause-made : goal.returns-in-Ok-keep_outputs-clause-made
returns-in-Ok-keep_outputs-clause-made c =
    let g = game_data c.args.self.now.numbered.game in
    let slots = c.args.self.now.slots.slots.items in
    makes_outputs g slots _ c.in-Ok-keep_outputs.moves c.args.when c.in-Ok.row _ c.in-Ok-keep_outputs.ensures.kept
    (ap (Outputs c.args.when) (copy_is g c.in-Ok.row c.count.result c.count.ensures c.row.result.now c.in-Ok.ensures ∙ sym (set-row g slots c.args.t.now c.row.result.now c.row.ensures)))
