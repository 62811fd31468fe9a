use Rattle.std.proofs.Common.{Ok, Err}
use Rattle.regions.specs.declared.types.When.TheVariants.{First, Later}
use Rattle.spec_model.specs.GameViews.{game_data}
use Rattle.bdd_sets.specs.LineScenes.{roots_of_members}
use Rattle.bdd_sets.specs.NamedGame.{IsOfGame}
use Rattle.region_bdd.specs.Making.{FitLines, times_in_lines, FitAllLines}
use Rattle.region_bdd.proofs.JamLaws.{member_named}
use Rattle.region_bdd.proofs.MakingLaws.{members_part, lines_stay, both_made, part_refused, handed_part}
use Rattle.bdd_sets.proofs.ShiftLemmas.{fits_kept}
use Rattle.region_bdd.proofs.making.lines.Goals as goal

pub returns-in_err-first : goal.returns-in_err-first
returns-in_err-first c =
    let g = game_data c.args.game.now in
    let to = c.args.levels.now.to.items in
    let h = c.in_err-first.field-0.0 in
    handed_part times_in_lines (FitAllLines g to) roots_of_members (FitLines g to First) (IsOfGame g) c.args.diagrams.now c.first_members.new.diagrams c.from_residual.result h c.from_residual.ensures.1
    (members_part c.args.diagrams.now c.first_members.new.diagrams (Err h) g to First c.in_err-first.ensures)

pub returns-in-Ok : goal.returns-in-Ok
returns-in-Ok c =
    let g = game_data c.args.game.now in
    let to = c.args.levels.now.to.items in
    let old = c.args.diagrams.now in
    let mid = c.first_members.new.diagrams in
    let new = c.later_members.new.diagrams in
    both_made roots_of_members (FitLines g to First) (IsOfGame g) old mid c.in_ok-first.first (members_part old mid (Ok c.in_ok-first.first) g to First c.in_ok-first.ensures)
    roots_of_members (FitLines g to Later) new c.in-Ok.later (members_part mid new (Ok c.in-Ok.later) g to Later c.in-Ok.ensures) (lines_stay g to First)

pub returns-in-Err : goal.returns-in-Err
returns-in-Err c =
    let g = game_data c.args.game.now in
    let to = c.args.levels.now.to.items in
    let old = c.args.diagrams.now in
    let mid = c.first_members.new.diagrams in
    let whole = c.later_members.new.diagrams in
    part_refused roots_of_members (FitLines g to First) (IsOfGame g) old mid c.in_ok-first.first (members_part old mid (Ok c.in_ok-first.first) g to First c.in_ok-first.ensures)
    roots_of_members (FitLines g to Later) times_in_lines (FitAllLines g to) whole c.release_members.new.diagrams c.in-Err.halt
    (members_part mid whole (Err c.in-Err.halt) g to Later c.in-Err.ensures)
    (member_named g mid to c.requires.lists.to First c.in_ok-first.first c.in_ok-first.ensures.lines) c.release_members.ensures.released c.release_members.ensures.nodes

pub later_members-requires-clause-fits : goal.later_members-requires-clause-fits
later_members-requires-clause-fits c = fits_kept (game_data c.args.game.now) c.args.levels.now.to.items c.args.diagrams.now c.first_members.new.diagrams c.in_ok-first.ensures.keeps c.requires.fits
