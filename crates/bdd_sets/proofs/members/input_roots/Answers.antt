use Rattle.std.proofs.Common.{◌++◌, [], ◌∷◌}
use Rattle.game_values.specs.declared.seen.At.TheVariants.{Next}
use Rattle.bit_compile.specs.Domains.{state_domains}
use Rattle.bit_compile.specs.Proper.{proper}
use Rattle.bdd_sets.specs.declared.lines.Side.TheVariants.{Assumptions}
use Rattle.bdd_sets.specs.Lines.{functions_judged}
use Rattle.bdd_sets.specs.LineScenes.{game_seen}
use Rattle.bit_compile.proofs.Causes.{cause_never}
use Rattle.bdd_sets.specs.NamedGame.{IsOfGame}
use Rattle.bdd_sets.proofs.CauseLemmas.{cause_by}
use Rattle.bdd_sets.proofs.members.input_roots.Goals as goal

pub returns-clause-made : goal.returns-clause-made
returns-clause-made c =
    let g = game_seen c.args.scene.now in
    c.with_kept.ensures.made c.args.diagrams.now (functions_judged g c.args.scene.now.to.now Assumptions c.args.when ++ proper (state_domains g) Next ∷ []) c.in_ok-lines.ensures.made c.requires.update

pub returns-in_err-lines-clause-cause : goal.returns-in_err-lines-clause-cause
returns-in_err-lines-clause-cause c = cause_by c.args.diagrams.now c.side_roots.new.diagrams c.from_residual.result c.in_err-lines.field-0.0 (IsOfGame (game_seen c.args.scene.now)) c.from_residual.ensures.1 c.in_err-lines.ensures.cause

pub returns-clause-cause : goal.returns-clause-cause
returns-clause-cause c = cause_never c.args.diagrams.now c.with_kept.new.diagrams c.with_kept.result (IsOfGame (game_seen c.args.scene.now)) c.with_kept.ensures.never
