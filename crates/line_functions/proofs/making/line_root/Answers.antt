use Rattle.spec_model.specs.Views.{formula}
use Rattle.bdd_sets.proofs.CauseLemmas.{cause_memory}
use Rattle.bdd_sets.proofs.ListLemmas.{nothing_made}
use Rattle.line_functions.specs.Functions.{line_function, IsOfLine}
use Rattle.line_functions.specs.Asking.{game_seen}
use Rattle.line_functions.proofs.making.line_root.Goals as goal

pub returns-in_default-clause-made : goal.returns-in_default-clause-made
returns-in_default-clause-made c = nothing_made c.args.diagrams.now (line_function (game_seen c.args.scene.now) (formula c.args.e.now))

pub returns-in_default-clause-cause : goal.returns-in_default-clause-cause
returns-in_default-clause-cause c = cause_memory c.args.diagrams.now c.args.diagrams.now (IsOfLine (game_seen c.args.scene.now) (formula c.args.e.now))
