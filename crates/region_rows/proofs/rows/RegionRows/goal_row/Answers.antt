use Rattle.std.proofs.Common.{◌<◌, length, ap, subst, arith}
use Rattle.std.proofs.lemmas.List.{length-map}
use Rattle.spec_model.specs.GameViews.{game_data, goal_data}
use Rattle.spec_model.specs.WellMade.{scope_of, is_state_formula}
use Rattle.regions.specs.Rules.{goals_like, number_of}
use Rattle.region_rows.proofs.GoalLaws.{goal_made, goal_row_holds}
use Rattle.region_rows.proofs.rows.RegionRows.goal_row.Goals as goal

pub row_of-requires : goal.row_of-requires
row_of-requires c =
    let self = c.args.self.now in
    let g = game_data self.numbered.game in
    let below : c.in-Assumption.k < length self.numbered.game.assume.items = omega (arith, subst (λ w. number_of w < length (goals_like g w)) c.in-Assumption.is c.requires, length-map self.numbered.game.assume.items goal_data) in
    goal_made (λ a. is_state_formula (scope_of g) a.holds) self.numbered.game.assume.items c.in-Assumption.k c.index.result.now below c.index.ensures self.numbered.made.assume

pub row_of-requires-in-Guarantee : goal.row_of-requires-in-Guarantee
row_of-requires-in-Guarantee c =
    let self = c.args.self.now in
    let g = game_data self.numbered.game in
    let below : c.in-Guarantee.k < length self.numbered.game.goals.items = omega (arith, subst (λ w. number_of w < length (goals_like g w)) c.in-Guarantee.is c.requires, length-map self.numbered.game.goals.items goal_data) in
    goal_made (λ a. is_state_formula (scope_of g) a.holds) self.numbered.game.goals.items c.in-Guarantee.k c.index-in-Guarantee.result.now below c.index-in-Guarantee.ensures self.numbered.made.goals

pub returns-in-Assumption : goal.returns-in-Assumption
returns-in-Assumption c =
    let self = c.args.self.now in
    let g = game_data self.numbered.game in
    let below : c.in-Assumption.k < length self.numbered.game.assume.items = omega (arith, subst (λ w. number_of w < length (goals_like g w)) c.in-Assumption.is c.requires, length-map self.numbered.game.assume.items goal_data) in
    goal_row_holds g c.args.what self.numbered.game.assume.items c.in-Assumption.k c.index.result.now below c.index.ensures (ap (goals_like g) c.in-Assumption.is) (ap number_of c.in-Assumption.is) c.row_of.result c.row_of.ensures

pub returns-in-Guarantee : goal.returns-in-Guarantee
returns-in-Guarantee c =
    let self = c.args.self.now in
    let g = game_data self.numbered.game in
    let below : c.in-Guarantee.k < length self.numbered.game.goals.items = omega (arith, subst (λ w. number_of w < length (goals_like g w)) c.in-Guarantee.is c.requires, length-map self.numbered.game.goals.items goal_data) in
    goal_row_holds g c.args.what self.numbered.game.goals.items c.in-Guarantee.k c.index-in-Guarantee.result.now below c.index-in-Guarantee.ensures (ap (goals_like g) c.in-Guarantee.is) (ap number_of c.in-Guarantee.is) c.row_of-in-Guarantee.result c.row_of-in-Guarantee.ensures
