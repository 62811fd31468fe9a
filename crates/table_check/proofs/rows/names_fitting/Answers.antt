use Rattle.std.proofs.Common.{◌∙◌, sym, ap}
use Rattle.std.proofs.lemmas.Bool.{le-ltb}
use Rattle.strategy_tables.specs.Tables.{some_passes}
use Rattle.strategy_tables.specs.Views.{node_data}
use Rattle.table_check.specs.Turns.{before_of, given_of, game_at, fits}
use Rattle.table_check.proofs.Marking.{node_there, node_past}
use Rattle.table_check.proofs.rows.names_fitting.Goals as goal

pub fits-requires-clause-node : goal.fits-requires-clause-node
fits-requires-clause-node c =
    let there = node_there c.args.turn.now.nodes.now c.args.number c.index-turn-number.result c.if-number-turn.true in
    c.requires.turn.states c.args.number _ there

pub returns-then-number-turn : goal.returns-then-number-turn
returns-then-number-turn c =
    let t = c.args.turn.now in
    let there = node_there t.nodes.now c.args.number c.index-turn-number.result c.if-number-turn.true in
    c.fits.ensures ∙ ap (some_passes (fits (game_at t) (before_of t.before) (given_of c.args.given) c.args.m.now)) (sym there)

pub returns-else-number-turn : goal.returns-else-number-turn
returns-else-number-turn c =
    let t = c.args.turn.now in
    le-ltb c.args.number _ c.if-number-turn.false
    ∙ ap (some_passes (fits (game_at t) (before_of t.before) (given_of c.args.given) c.args.m.now)) (sym (node_past t.nodes.now c.args.number c.if-number-turn.false))
