use Rattle.std.proofs.Common.{sym, ap, ◌∙◌, None}
use Rattle.spec_model.specs.GameViews.{game_data}
use Rattle.region_rows.proofs.RowLaws.{has_row, set-row}
use Rattle.spec_model.specs.Sets.{environment_forces}
use Rattle.spec_model.proofs.Closed.{closed}
use Rattle.region_rows.proofs.IntoLaws.{environment_is}
use Rattle.region_rows.proofs.impls.RegionRowsRegions.start_env.Goals as goal

pub row-requires : goal.row-requires
row-requires c = has_row (game_data c.args.self.now.numbered.game) c.args.self.now.slots.slots.items c.args.t.now c.requires.t

pub returns-clause-answer : goal.returns-clause-answer
returns-clause-answer c =
    let self = c.args.self.now in
    let g = game_data self.numbered.game in
    (rw (c.deref.ensures.value, self.first_moves) at c.environment_forces.ensures)
    ∙ (environment_is g None c.row.result.now (λ x y ex ey. (closed g self.numbered.made).first x y ex ey)
    ∙ ap (λ s. environment_forces g s None) (sym (set-row g self.slots.slots.items c.args.t.now c.row.result.now c.row.ensures)))
