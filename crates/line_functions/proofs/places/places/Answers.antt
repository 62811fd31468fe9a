use Rattle.std.proofs.Common.{◌≡◌, ◌∙◌, ap, arith, length, map}
use Rattle.std.proofs.lemmas.List.{length-map}
use Rattle.spec_model.specs.Views.{variable_data}
use Rattle.spec_model.specs.GameViews.{game_data}
use Rattle.spec_model.specs.Steps.{below}
use Rattle.bit_compile.specs.Compiled.{place_of}
use Rattle.line_functions.proofs.NamingLemmas.{map_below-push}
use Rattle.line_functions.proofs.places.places.Goals as goal

pub loop-x-preserved : goal.loop-x-preserved
loop-x-preserved c = map_below-push (place_of (game_data c.args.game.now)) c.loop-x.x c.loop-x.places.items _ c.place.result c.loop-x.invariant c.place.ensures c.in_ok-push.ensures.items

pub returns : goal.returns
returns c =
    let g = game_data c.args.game.now in
    let long = length-map c.args.game.now.vars.items variable_data in
    let all : c.loop-x.x ≡ length g.variables = omega (arith, long, c.loop-x-test.false, c.loop-x.auto) in
    record { are = c.loop-x.invariant ∙ ap (λ n. map (place_of g) (below n)) all }
