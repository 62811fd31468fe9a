use Rattle.std.proofs.Common.{◌≡◌, map}
use Rattle.spec_model.specs.GameViews.{game_data}
use Rattle.spec_model.specs.Steps.{below}
use Rattle.bit_compile.specs.Compiled.{place_of}
use Rattle.line_functions.proofs.places.places.Given as goal

abbrev pub invariant-loop-x : goal.invariant-loop-x
invariant-loop-x l = l.places.items ≡ map (place_of (game_data l.game)) (below l.x)
