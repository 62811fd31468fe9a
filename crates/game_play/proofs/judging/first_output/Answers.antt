use Rattle.std.proofs.Common.{◌≡◌, map, not, [], true, ap, subst, arith}
use Rattle.std.proofs.Math.ListN.{drop_of_length-le}
use Rattle.std.proofs.lemmas.List.{append-nil}
use Rattle.spec_model.specs.Values.{Assignment, is_assignment}
use Rattle.spec_model.specs.Views.{variable_data}
use Rattle.spec_model.specs.Moves.{is_env, domains_of}
use Rattle.game_play.proofs.judging.first_output.Goals as goal

pub returns : goal.returns
returns c =
    let vs = c.args.vars.now in
    let over = c.loop-v-test.false in
    let rest = drop_of_length-le vs {i = c.loop-v.v-index} (omega (arith, over)) in
    subst (λ (y : Assignment). is_assignment (domains_of (λ o. not (is_env o)) (map variable_data vs)) y ≡ true) (append-nil c.loop-v.output.items)
    (c.loop-v.invariant.fits [] (ap (λ us. is_assignment (domains_of (λ o. not (is_env o)) (map variable_data us)) []) rest))
