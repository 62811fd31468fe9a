use Rattle.std.proofs.Common.{◌++◌, Ok, List, take}
use Rattle.spec_model.specs.Diagrams.{Function}
use Rattle.bdd_bits.specs.Contents.{Contents}
use Rattle.bdd_sets.specs.Lists.{MakesList}
use Rattle.bdd_sets.specs.Lines.{is_late, functions_of}
use Rattle.bdd_sets.specs.LineScenes.{line_data, game_seen}
use Rattle.bdd_sets.proofs.lines.with_lines.Given as goal

-- the functions of the lines so far come after those of the list
abbrev pub invariant-loop-k : goal.invariant-loop-k
invariant-loop-k l =
    (base : Contents) (fs : List Function) → MakesList base l.fn.diagrams (Ok l.fn.so_far) fs → MakesList base l.diagrams (Ok l.roots) (fs ++ functions_of (game_seen l.scene) l.scene.to.now l.when (is_late (game_seen l.scene) l.fn.side) (line_data (take l.k l.lines)))
