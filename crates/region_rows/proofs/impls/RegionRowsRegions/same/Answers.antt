use Rattle.std.proofs.Common.{sym, ◌∙◌}
use Rattle.spec_model.specs.GameViews.{game_data}
use Rattle.region_rows.proofs.RowLaws.{has_row, set-row, same-marked, marked-same}
use Rattle.region_rows.proofs.impls.RegionRowsRegions.same.Goals as goal

pub row-requires : goal.row-requires
row-requires c = has_row (game_data c.args.self.now.numbered.game) c.args.self.now.slots.slots.items c.args.a.now c.requires.a

pub row-requires-2 : goal.row-requires-2
row-requires-2 c = has_row (game_data c.args.self.now.numbered.game) c.args.self.now.slots.slots.items c.args.b.now c.requires.b

pub returns : goal.returns
returns c =
    let self = c.args.self.now in
    let g = game_data self.numbered.game in
    let a_is = set-row g self.slots.slots.items c.args.a.now c.row.result.now c.row.ensures in
    let b_is = set-row g self.slots.slots.items c.args.b.now c.row-2.result.now c.row-2.ensures in (
      λ yes. a_is ∙ (marked-same g c.row.result.now c.row-2.result.now c.count.result c.count.ensures (c.equal.ensures.0 yes) ∙ sym b_is),
      λ one. c.equal.ensures.1 (same-marked g self.numbered.made c.row.result.now c.row-2.result.now c.count.result c.count.ensures (sym a_is ∙ (one ∙ b_is))),
    )
