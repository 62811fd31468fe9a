use Rattle.std.proofs.Common.{inl, ◌≤◌, ◌<◌, ◌++◌, ◌∷◌, [], Ok, List, arith, get_or, length, take, subst, sym}
use Rattle.std.proofs.lemmas.List.{length-map}
use Rattle.spec_model.specs.Diagrams.{Function}
use Rattle.spec_model.specs.GameViews.{game_data, hidden_data}
use Rattle.bit_compile.specs.Compiled.{never}
use Rattle.bit_compile.proofs.CyclesLemmas.{got, take_all, take_next}
use Rattle.bdd_sets.specs.Lists.{MakesList}
use Rattle.bdd_sets.specs.Members.{all_true}
use Rattle.bdd_sets.specs.ToldMoves.{TellsMoves, follows}
use Rattle.bdd_sets.specs.Updates.{update_functions}
use Rattle.bdd_sets.proofs.ListLemmas.{list_refused_by}
use Rattle.bdd_sets.proofs.UpdateLemmas.{tells_update, update_functions_long}
use Rattle.bit_compile.proofs.Causes.{cause_ok}
use Rattle.bdd_sets.specs.NamedGame.{IsOfGame, update}
use Rattle.bdd_sets.proofs.CauseLemmas.{cause_by, list_cause}
use Rattle.bdd_sets.proofs.NamedLemmas.{contains_take}
use Rattle.bdd_sets.proofs.updates.update_members.Goals as goal

pub returns-in_err-roots-clause-made : goal.returns-in_err-roots-clause-made
returns-in_err-roots-clause-made c =
    let first = c.args.diagrams.now in
    let fs = update_functions (game_data c.args.game.now) c.args.when in
    let so_far = take c.loop-k.k fs in
    let f = get_or fs c.loop-k.k never in
    list_refused_by first c.push_made.new.diagrams c.from_residual.result c.in_err-roots.field-0.0 (so_far ++ f ∷ []) fs c.from_residual.ensures.1
    (c.in_err-roots.ensures.made first c.loop-k.diagrams so_far f c.loop-k.invariant c.update_member-made.ensures.made)

pub loop-k-preserved : goal.loop-k-preserved
loop-k-preserved c =
    let g = game_data c.args.game.now in
    let first = c.args.diagrams.now in
    let fs = update_functions g c.args.when in
    let k = c.loop-k.k in
    let f = get_or fs k never in
    let all = update_functions_long g c.args.when in
    let tables = length-map c.args.game.now.hidden.items hidden_data in
    let less : k < length fs = omega (arith, all, tables, c.loop-k-test.true, c.len-k-end.ensures) in
    let more = c.in_ok-roots.ensures.made first c.loop-k.diagrams (take k fs) f c.loop-k.invariant c.update_member-made.ensures.made in
    subst (λ (gs : List Function). MakesList first c.push_made.new.diagrams (Ok c.in_ok-roots.roots) gs) (sym (take_next fs k f less (got fs k never f less))) more

pub returns-clause-made : goal.returns-clause-made
returns-clause-made c =
    let g = game_data c.args.game.now in
    let fs = update_functions g c.args.when in
    let all = update_functions_long g c.args.when in
    let tables = length-map c.args.game.now.hidden.items hidden_data in
    let past : length fs ≤ c.loop-k.k = omega (arith, all, tables, c.loop-k-test.false, c.len-k-end.ensures) in
    subst (λ (gs : List Function). MakesList c.args.diagrams.now c.loop-k.diagrams (Ok c.loop-k.roots) gs) (take_all fs c.loop-k.k past) c.loop-k.invariant

pub returns-clause-told : goal.returns-clause-told
returns-clause-told c =
    let g = game_data c.args.game.now in
    subst (λ (fs : List Function). TellsMoves g c.args.when (all_true fs) (follows g)) (sym (returns-clause-made c).meaning) (tells_update g c.requires.made c.args.when)

pub returns-in_err-roots-clause-cause : goal.returns-in_err-roots-clause-cause
returns-in_err-roots-clause-cause c =
    let g = game_data c.args.game.now in
    let first = c.args.diagrams.now in
    let new = c.push_made.new.diagrams in
    let fs = update_functions g c.args.when in
    let k = c.loop-k.k in
    let named = IsOfGame g in
    cause_by first new c.from_residual.result c.in_err-roots.field-0.0 named c.from_residual.ensures.1
    (list_cause named named (λ f is. is) first c.loop-k.diagrams c.loop-k.roots (take k fs) c.loop-k.invariant (λ f there. update c.args.when (inl (contains_take fs k f there)))
    c.update_member-made.new.diagrams new c.update_member-made.result _ c.in_err-roots.ensures.handed c.update_member-made.ensures.cause)

pub returns-clause-cause : goal.returns-clause-cause
returns-clause-cause c = cause_ok c.args.diagrams.now c.loop-k.diagrams c.loop-k.roots (IsOfGame (game_data c.args.game.now))
