use Rattle.std.proofs.Common.{◌≡◌, map, take}
use Rattle.spec_model.specs.Views.{formula, spec_data}
use Rattle.hidden_game.specs.GameOf.{entered}
use Rattle.hidden_game.proofs.source.Source.each_entered.Given as goal

-- the copies so far
abbrev pub invariant-loop-e : goal.invariant-loop-e
invariant-loop-e l = map formula l.copies.items ≡ map (entered (spec_data l.self.spec.now)) (map formula (take l.e-index l.es))
