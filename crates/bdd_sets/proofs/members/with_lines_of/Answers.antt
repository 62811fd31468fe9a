use Rattle.std.proofs.Common.{inl}
use Rattle.bdd_sets.specs.LineScenes.{game_seen}
use Rattle.bdd_sets.specs.Updates.{update_functions}
use Rattle.bdd_sets.specs.NamedGame.{update}
use Rattle.bdd_sets.proofs.ShiftLemmas.{fits_kept}
use Rattle.bdd_sets.proofs.MadeLemmas.{members_back}
use Rattle.bdd_sets.proofs.members.with_lines_of.Goals as goal

pub with_inputs-requires-clause-fits : goal.with_inputs-requires-clause-fits
with_inputs-requires-clause-fits c = fits_kept (game_seen c.args.scene.now) c.args.scene.now.to.now c.args.diagrams.now c.side_roots.new.diagrams c.in-Ok.ensures.made.keeps c.requires.fits

pub returns-in-Ok : goal.returns-in-Ok
returns-in-Ok c = λ base made told. c.with_inputs.ensures base c.args.diagrams.now made c.in-Ok.ensures.made told

pub returns-in-Err : goal.returns-in-Err
returns-in-Err c = λ base made told.
    let g = game_seen c.args.scene.now in
    let when = c.args.when in
    members_back g c.args.scene.now.to.now when base c.args.diagrams.now c.args.update (update_functions g when) made (λ f there. update when (inl there)) c.side_roots.new.diagrams c.release_list.new.diagrams c.in-Err.halt c.release_list.ensures.released c.release_list.ensures.nodes _ c.in-Err.ensures.made c.in-Err.ensures.cause
