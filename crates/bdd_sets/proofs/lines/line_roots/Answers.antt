use Rattle.bit_compile.proofs.Causes.{cause_wider}
use Rattle.bdd_sets.specs.NamedGame.{IsOfGame}
use Rattle.bdd_sets.specs.MadeMembers.{IsOfLines}
use Rattle.bdd_sets.specs.Lines.{safety_lines, first_functions, functions_judged}
use Rattle.bdd_sets.specs.LineScenes.{game_seen}
use Rattle.bdd_sets.proofs.CauseLemmas.{cause_by}
use Rattle.bdd_sets.proofs.NamedLemmas.{of_safety}
use Rattle.bdd_sets.proofs.ShiftLemmas.{fits_kept}
use Rattle.bdd_sets.proofs.LineLemmas.{safety_formulas}
use Rattle.bdd_sets.proofs.lines.line_roots.Goals as goal

pub with_lines-requires-clause-formulas : goal.with_lines-requires-clause-formulas
with_lines-requires-clause-formulas c = rw c.safety_of-lines.ensures (safety_formulas (game_seen c.args.scene.now) c.args.side c.requires.scene.made)

pub with_lines-requires-clause-fits : goal.with_lines-requires-clause-fits
with_lines-requires-clause-fits c = fits_kept (game_seen c.args.scene.now) c.args.scene.now.to.now c.args.diagrams.now c.first_roots.new.diagrams c.in_ok-first.ensures.made.keeps c.requires.fits

pub returns-clause-made : goal.returns-clause-made
returns-clause-made c =
    let all = c.with_lines.ensures.made c.args.diagrams.now (first_functions (game_seen c.args.scene.now) c.args.scene.now.to.now c.args.side c.args.when) c.in_ok-first.ensures.made in
    rw c.safety_of-lines.ensures at all

pub returns-in_err-first-clause-cause : goal.returns-in_err-first-clause-cause
returns-in_err-first-clause-cause c = cause_by c.args.diagrams.now c.first_roots.new.diagrams c.from_residual.result c.in_err-first.field-0.0 (IsOfGame (game_seen c.args.scene.now)) c.from_residual.ensures.1 c.in_err-first.ensures.cause

pub returns-clause-cause : goal.returns-clause-cause
returns-clause-cause c =
    let old = c.args.diagrams.now in
    let g = game_seen c.args.scene.now in
    let to = c.args.scene.now.to.now in
    let side = c.args.side in
    let when = c.args.when in
    let all = c.with_lines.ensures.cause old (first_functions g to side when) c.in_ok-first.ensures.made in
    cause_wider (IsOfLines g (functions_judged g to side when) (safety_lines g side)) (IsOfGame g) (of_safety g to when c.requires.scene.to side) old c.with_lines.new.diagrams c.with_lines.result (rw c.safety_of-lines.ensures at all)
