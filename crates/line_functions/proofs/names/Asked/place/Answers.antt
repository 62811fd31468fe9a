use Rattle.std.proofs.Common.{arith}
use Rattle.std.proofs.lemmas.List.{length-map}
use Rattle.spec_model.specs.GameViews.{hidden_data}
use Rattle.line_functions.specs.Asking.{game_asked}
use Rattle.line_functions.proofs.NamingLemmas.{place_there, place_past}
use Rattle.line_functions.proofs.names.Asked.place.Goals as goal

pub returns-then-x-self : goal.returns-then-x-self
returns-then-x-self c = place_there (game_asked c.args.self.now) c.args.self.now.places.now c.requires c.args.x 0 c.if-x-self.true

pub returns-else-x-self : goal.returns-else-x-self
returns-else-x-self c =
    let tables = length-map c.args.self.now.game.now.hidden.items hidden_data in
    let past = place_past (game_asked c.args.self.now) c.args.self.now.places.now c.requires c.args.x c.if-x-self.false in
    omega (arith, tables, past, c.len.ensures)
