use Rattle.std.proofs.Common.{◌++◌, ◌∷◌, [], Ok, List, map, take, ◌∙◌, ap, subst, sym}
use Rattle.spec_model.specs.declared.game.Goal.{Goal}
use Rattle.spec_model.specs.Diagrams.{Function}
use Rattle.spec_model.specs.Games.{GoalData}
use Rattle.spec_model.specs.GameViews.{game_data, goal_data}
use Rattle.spec_model.specs.Views.{formula}
use Rattle.bit_compile.specs.Compiled.{compiled}
use Rattle.bit_compile.proofs.CyclesLemmas.{take_all}
use Rattle.bdd_sets.specs.Lists.{MakesList}
use Rattle.bdd_sets.specs.Goals.{TellGoals}
use Rattle.bdd_sets.proofs.ListLemmas.{list_refused_by}
use Rattle.bdd_sets.proofs.GoalLemmas.{goals_tell, goal_next, goals_longer}
use Rattle.bit_compile.specs.Named.{IsNamedOf}
use Rattle.bit_compile.proofs.Causes.{cause_ok}
use Rattle.bit_compile.proofs.Filled.{contains_map}
use Rattle.bdd_sets.specs.Goals.{IsOfGoals}
use Rattle.bdd_sets.proofs.CauseLemmas.{cause_by, list_cause}
use Rattle.bdd_sets.proofs.NamedLemmas.{contains_got, goals_named}
use Rattle.bdd_sets.proofs.goals.goal_roots.Goals as goal

pub returns-in_err-roots-clause-made : goal.returns-in_err-roots-clause-made
returns-in_err-roots-clause-made c =
    let g = game_data c.args.game.now in
    let first = c.args.diagrams.now in
    let all = λ (goals : List Goal). map (λ (x : GoalData). compiled g x.holds) (map goal_data goals) in
    let so_far = all (take c.loop-goal.goal-index c.args.goals.now) in
    let f = compiled g (formula c.goal-item.result.holds) in
    list_refused_by first c.push_made.new.diagrams c.from_residual.result c.in_err-roots.field-0.0 (so_far ++ f ∷ []) (all c.args.goals.now) c.from_residual.ensures.1
    (c.in_err-roots.ensures.made first c.loop-goal.diagrams so_far f c.loop-goal.invariant.made c.compile-made.ensures.compiled.made)

pub loop-goal-preserved : goal.loop-goal-preserved
loop-goal-preserved c =
    let g = game_data c.args.game.now in
    let first = c.args.diagrams.now in
    let inv = c.loop-goal.invariant in
    let i = c.loop-goal.goal-index in
    let goals = c.args.goals.now in
    let x = c.goal-item.result in
    let so_far = map (λ (x : GoalData). compiled g x.holds) (map goal_data (take i goals)) in
    let more = c.in_ok-roots.ensures.made first c.loop-goal.diagrams so_far (compiled g (formula x.holds)) inv.made c.compile-made.ensures.compiled.made in
    record {
      made = subst (λ (fs : List Function). MakesList first c.push_made.new.diagrams (Ok c.in_ok-roots.roots) fs) (goals_longer (λ (x : GoalData). compiled g x.holds) goals i x c.loop-goal-test.true c.goal-item.is) more;
      formulas = (goal_next g c.requires.made goals i x c.loop-goal-test.true c.goal-item.is inv.formulas).1;
    }

pub returns-clause-tell : goal.returns-clause-tell
returns-clause-tell c =
    let g = game_data c.args.game.now in
    let goals = c.args.goals.now in
    let all = ap (λ (gs : List Goal). map (λ (x : GoalData). compiled g x.holds) (map goal_data gs)) (take_all goals c.loop-goal.goal-index c.loop-goal-test.false) in
    subst (λ (fs : List Function). TellGoals g (map goal_data goals) fs) (sym (c.loop-goal.invariant.made.meaning ∙ all)) (goals_tell g c.requires.made (map goal_data goals) c.requires.formulas)

pub returns-in_err-roots-clause-cause : goal.returns-in_err-roots-clause-cause
returns-in_err-roots-clause-cause c =
    let g = game_data c.args.game.now in
    let first = c.args.diagrams.now in
    let new = c.push_made.new.diagrams in
    let goals = c.args.goals.now in
    let i = c.loop-goal.goal-index in
    let x = c.goal-item.result in
    let named = IsOfGoals g (map goal_data goals) in
    let of_goal = IsNamedOf g (formula x.holds) in
    let here = contains_map goal_data goals x (contains_got goals i x c.loop-goal-test.true c.goal-item.is) in
    cause_by first new c.from_residual.result c.in_err-roots.field-0.0 named c.from_residual.ensures.1
    (list_cause of_goal named (λ f is. (goal_data x, here, is)) first c.loop-goal.diagrams c.loop-goal.roots _ c.loop-goal.invariant.made (λ f there. goals_named g goal_data goals i f there)
    c.compile-made.new.diagrams new c.compile-made.result _ c.in_err-roots.ensures.handed c.compile-made.ensures.compiled.cause)

pub returns-clause-cause : goal.returns-clause-cause
returns-clause-cause c = cause_ok c.args.diagrams.now c.loop-goal.diagrams c.loop-goal.roots (IsOfGoals (game_data c.args.game.now) (map goal_data c.args.goals.now))
