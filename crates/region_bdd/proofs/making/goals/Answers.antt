use Rattle.std.proofs.Common.{Ok, Err, List, map, subst}
use Rattle.spec_model.specs.declared.game.Goal.{Goal}
use Rattle.spec_model.specs.Games.{GoalData}
use Rattle.spec_model.specs.GameViews.{game_data, goal_data}
use Rattle.bit_compile.specs.Compiled.{compiled}
use Rattle.bit_compile.specs.Crowding.{HasCause}
use Rattle.bit_compile.proofs.Causes.{cause_ok, cause_wider}
use Rattle.bdd_sets.specs.Members.{functions_at}
use Rattle.bdd_sets.specs.Lists.{MakesList}
use Rattle.bdd_sets.specs.Goals.{TellGoals, IsOfGoals}
use Rattle.bdd_sets.specs.NamedGame.{IsOfGame}
use Rattle.region_bdd.specs.Making.{listed_times, FitGoals, times_in_goals, FitAllGoals}
use Rattle.region_bdd.proofs.MakingLaws.{list_part, goals_stay, both_made, part_refused, handed_part, goals_named, assume_among, goals_among, of_goals}
use Rattle.region_bdd.proofs.making.goals.Goals as goal

pub returns-in_err-assume : goal.returns-in_err-assume
returns-in_err-assume c =
    let g = game_data c.args.game.now in
    let old = c.args.diagrams.now in
    let new = c.goal_roots.new.diagrams in
    let h = c.in_err-assume.field-0.0 in
    let made = subst (λ (goals : List Goal). MakesList old new (Err h) (map (λ (goal : GoalData). compiled g goal.holds) (map goal_data goals))) c.deref.ensures.value c.in_err-assume.ensures.made in
    let cause = subst (λ (goals : List Goal). HasCause old new (Err h) (IsOfGoals g (map goal_data goals))) c.deref.ensures.value c.in_err-assume.ensures.cause in
    handed_part times_in_goals (FitAllGoals g) listed_times (FitGoals g g.assume) (IsOfGame g) old new c.from_residual.result h c.from_residual.ensures.1
    (list_part old new (Err h) g g.assume (IsOfGame g) made tt (cause_wider (IsOfGoals g g.assume) (IsOfGame g) (of_goals g g.assume (assume_among g) old) old new (Err h) cause))

pub returns-in-Ok : goal.returns-in-Ok
returns-in-Ok c =
    let g = game_data c.args.game.now in
    let old = c.args.diagrams.now in
    let mid = c.goal_roots.new.diagrams in
    let new = c.goal_roots-2.new.diagrams in
    let first = c.in_ok-assume.assume in
    let second = c.in-Ok.guaranteed in
    let told = subst (λ (goals : List Goal). TellGoals g (map goal_data goals) (functions_at mid first.items)) c.deref.ensures.value c.in_ok-assume.ensures.tell in
    let told' = subst (λ (goals : List Goal). TellGoals g (map goal_data goals) (functions_at new second.items)) c.deref-2.ensures.value c.in-Ok.ensures.tell in
    let made = subst (λ (goals : List Goal). MakesList old mid (Ok first) (map (λ (goal : GoalData). compiled g goal.holds) (map goal_data goals))) c.deref.ensures.value c.in_ok-assume.ensures.made in
    let made' = subst (λ (goals : List Goal). MakesList mid new (Ok second) (map (λ (goal : GoalData). compiled g goal.holds) (map goal_data goals))) c.deref-2.ensures.value c.in-Ok.ensures.made in
    both_made listed_times (FitGoals g g.assume) (IsOfGame g) old mid first (list_part old mid (Ok first) g g.assume (IsOfGame g) made told (cause_ok old mid first (IsOfGame g)))
    listed_times (FitGoals g g.goals) new second (list_part mid new (Ok second) g g.goals (IsOfGame g) made' told' (cause_ok mid new second (IsOfGame g))) (goals_stay g g.assume)

pub returns-in-Err : goal.returns-in-Err
returns-in-Err c =
    let g = game_data c.args.game.now in
    let old = c.args.diagrams.now in
    let mid = c.goal_roots.new.diagrams in
    let whole = c.goal_roots-2.new.diagrams in
    let first = c.in_ok-assume.assume in
    let h = c.in-Err.halt in
    let told = subst (λ (goals : List Goal). TellGoals g (map goal_data goals) (functions_at mid first.items)) c.deref.ensures.value c.in_ok-assume.ensures.tell in
    let made = subst (λ (goals : List Goal). MakesList old mid (Ok first) (map (λ (goal : GoalData). compiled g goal.holds) (map goal_data goals))) c.deref.ensures.value c.in_ok-assume.ensures.made in
    let made' = subst (λ (goals : List Goal). MakesList mid whole (Err h) (map (λ (goal : GoalData). compiled g goal.holds) (map goal_data goals))) c.deref-2.ensures.value c.in-Err.ensures.made in
    let cause = subst (λ (goals : List Goal). HasCause mid whole (Err h) (IsOfGoals g (map goal_data goals))) c.deref-2.ensures.value c.in-Err.ensures.cause in
    part_refused listed_times (FitGoals g g.assume) (IsOfGame g) old mid first (list_part old mid (Ok first) g g.assume (IsOfGame g) made told (cause_ok old mid first (IsOfGame g)))
    listed_times (FitGoals g g.goals) times_in_goals (FitAllGoals g) whole c.release_list.new.diagrams h
    (list_part mid whole (Err h) g g.goals (IsOfGame g) made' tt (cause_wider (IsOfGoals g g.goals) (IsOfGame g) (of_goals g g.goals (goals_among g) mid) mid whole (Err h) cause))
    (goals_named g g.assume mid first (assume_among g) (told, made.meaning)) c.release_list.ensures.released c.release_list.ensures.nodes
