use Rattle.std.proofs.Common.{◌∙◌, ap, arith, List, Bool}
use Rattle.spec_model.specs.Views.{formula}
use Rattle.spec_model.specs.GameViews.{game_data}
use Rattle.game_values.specs.declared.seen.At.TheVariants.{Now}
use Rattle.line_functions.specs.Names.{names}
use Rattle.line_functions.proofs.NamingLemmas.{marks_long, marks_there}
use Rattle.line_functions.proofs.slots.Marks.is_named.Goals as goal

pub index-requires : goal.index-requires
index-requires c =
    let g = game_data c.args.game.now in
    let long = marks_long g c.args.self.now c.requires.marks in
    omega (arith, long, c.requires.known)

pub returns : goal.returns
returns c =
    let g = game_data c.args.game.now in
    let k = c.args.k in
    let marks = c.deref-2.ensures.value ∙ marks_there g c.args.self.now c.requires.marks k c.index.result.now c.requires.known c.index.ensures in
    c.names.ensures ∙ ap (λ (marks : List Bool). names g k c.args.time marks Now (formula c.args.e.now)) marks
