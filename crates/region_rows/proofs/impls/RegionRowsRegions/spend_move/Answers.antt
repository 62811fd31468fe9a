use Rattle.spec_model.specs.GameViews.{game_data}
use Rattle.region_rows.proofs.RowLaws.{spends_move, held_move_place}
use Rattle.region_rows.proofs.impls.RegionRowsRegions.spend_move.Goals as goal

pub free-requires : goal.free-requires
free-requires c = held_move_place (game_data c.args.self.now.numbered.game) c.args.self.now.slots.slots.items c.args.m c.requires

pub returns-clause-spends : goal.returns-clause-spends
returns-clause-spends c = spends_move (game_data c.args.self.now.numbered.game) c.args.self.now.slots.slots.items _ c.args.m c.requires c.free.ensures
