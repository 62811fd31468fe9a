use Rattle.std.proofs.Common.{◌+◌, ◌<◌, length, map, drop, subst, ◌∙◌, rules, arith}
use Rattle.std.proofs.lemmas.Grind.{common_steps}
use Rattle.spec_model.specs.Views.{formula}
use Rattle.spec_model.specs.Sizes.{past_trees, past_trees_of_all}
use Rattle.game_values.specs.Safety.{formulas_in}
use Rattle.past_bits.specs.Entries.{added}
use Rattle.past_bits.specs.Bits.{tree_of}
use Rattle.spectra_patterns.proofs.Gathered.{many_more, each_more}
use Rattle.spectra_patterns.proofs.gathering.+gathering.Goals as goal

pub gather_two-returns-in_err-gather-clause-many : goal.gather_two-returns-in_err-gather-clause-many
gather_two-returns-in_err-gather-clause-many t c = λ is.
    let ops = map tree_of c.args.ops.now in
    let few : c.args.most < length (added ops (past_trees (formula c.args.a.now))) = first_of (search rules, grind (arith, common_steps)) in
    many_more c.args.most ops (past_trees (formula c.args.a.now)) (past_trees (formula c.args.b.now)) few

pub gather_each-returns-in_err-gather-clause-many : goal.gather_each-returns-in_err-gather-clause-many
gather_each-returns-in_err-gather-clause-many t c = λ is.
    let es = c.args.es.now in
    let k = c.loop-e.e-index in
    let e = c.e-item.result in
    let ops = map tree_of c.loop-e.ops in
    let few : c.args.most < length (added ops (past_trees (formula e))) = first_of (search rules, grind (arith, common_steps)) in
    subst (λ fs. c.args.most < length fs)
    (each_more ops es k e c.loop-e-test.true c.e-item.is ∙ c.loop-e.invariant.same)
    (many_more c.args.most ops (past_trees (formula e)) (past_trees_of_all (formulas_in (drop (k + 1) es))) few)
