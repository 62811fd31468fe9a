use Rattle.regions.specs.Kept.{Stays, IsSameGame}
use Rattle.worked_games.proofs.environment_layers.word_of.Given as goal

-- nothing has changed
abbrev pub invariant-loop-s : goal.invariant-loop-s
invariant-loop-s g l =
    let kept = g.G.Regions.kept in
    let first = kept l.fn.g in
    record { stays : Stays first (kept l.g); same : IsSameGame first (kept l.g) }
