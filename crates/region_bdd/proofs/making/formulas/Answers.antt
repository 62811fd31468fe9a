use Rattle.std.proofs.Common.{arith}
use Rattle.spec_model.specs.GameViews.{game_data}
use Rattle.bdd_sets.specs.NamedGame.{IsOfGame}
use Rattle.region_bdd.specs.Making.{listed_times, FitGoals, times_in_goals, FitAllGoals, times_in_lines, FitAllLines, times_in_formulas, FitFormulas}
use Rattle.bdd_bits.proofs.CallLemmas.{same_then}
use Rattle.region_bdd.proofs.MakingLaws.{both_made, both_stay, goals_stay, part_refused, handed_part, all_goals_named}
use Rattle.bdd_sets.proofs.ShiftLemmas.{fits_kept}
use Rattle.region_bdd.proofs.making.formulas.Goals as goal

pub returns-in_err-assume : goal.returns-in_err-assume
returns-in_err-assume c =
    let g = game_data c.args.game.now in
    handed_part times_in_formulas (FitFormulas g c.args.levels.now.to.items) times_in_goals (FitAllGoals g) (IsOfGame g) c.args.diagrams.now c.goals.new.diagrams c.from_residual.result c.in_err-assume.field-0.0 c.from_residual.ensures.1 c.in_err-assume.ensures

pub returns-in-Ok : goal.returns-in-Ok
returns-in-Ok c =
    let g = game_data c.args.game.now in
    let to = c.args.levels.now.to.items in
    both_made times_in_goals (FitAllGoals g) (IsOfGame g) c.args.diagrams.now c.goals.new.diagrams (c.in_ok-assume.assume, c.in_ok-assume.guaranteed) c.in_ok-assume.ensures
    times_in_lines (FitAllLines g to) c.lines.new.diagrams c.in-Ok.both c.in-Ok.ensures
    (both_stay listed_times listed_times (FitGoals g g.assume) (FitGoals g g.goals) (goals_stay g g.assume) (goals_stay g g.goals))

pub returns-in-Err : goal.returns-in-Err
returns-in-Err c =
    let g = game_data c.args.game.now in
    let to = c.args.levels.now.to.items in
    part_refused times_in_goals (FitAllGoals g) (IsOfGame g) c.args.diagrams.now c.goals.new.diagrams (c.in_ok-assume.assume, c.in_ok-assume.guaranteed) c.in_ok-assume.ensures
    times_in_lines (FitAllLines g to) times_in_formulas (FitFormulas g to) c.lines.new.diagrams c.release_list-in-Err.new.diagrams c.in-Err.halt c.in-Err.ensures
    (all_goals_named g c.goals.new.diagrams (c.in_ok-assume.assume, c.in_ok-assume.guaranteed) c.in_ok-assume.ensures.fit)
    (λ n. (let one = c.release_list.ensures.released n in let two = c.release_list-in-Err.ensures.released n in omega (arith, one, two)))
    (same_then _ _ _ c.release_list.ensures.nodes c.release_list-in-Err.ensures.nodes)

pub lines-requires-clause-fits : goal.lines-requires-clause-fits
lines-requires-clause-fits c = fits_kept (game_data c.args.game.now) c.args.levels.now.to.items c.args.diagrams.now c.goals.new.diagrams c.in_ok-assume.ensures.keeps c.requires.fits
