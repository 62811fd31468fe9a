use Rattle.std.proofs.Common.{◌<◌, length, map, flat_map, ap, subst, ◌∙◌, rules, arith}
use Rattle.std.proofs.lemmas.Grind.{common_steps}
use Rattle.spec_model.specs.Views.{regular}
use Rattle.spec_model.specs.Sizes.{past_trees, atoms_of}
use Rattle.past_bits.specs.Entries.{added}
use Rattle.past_bits.specs.Bits.{tree_of}
use Rattle.spectra_patterns.proofs.Gathered.{many_more, trigger_past, no_past}
use Rattle.spectra_patterns.proofs.gathering.gather_trigger.Goals as goal

pub returns-in_err-gather_regex-clause-many : goal.returns-in_err-gather_regex-clause-many
returns-in_err-gather_regex-clause-many c = λ is.
    let ops = map tree_of c.args.ops.now in
    let t = c.index-triggers-number.result in
    let cause = flat_map past_trees (atoms_of (regular t.cause)) in
    let few : c.args.most < length (added ops cause) = first_of (search rules, grind (arith, common_steps)) in
    subst (λ fs. c.args.most < length fs) (trigger_past ops c.args.triggers.now c.args.number t c.if-number-triggers.true c.index-triggers-number.is)
    (many_more c.args.most ops cause (flat_map past_trees (atoms_of (regular t.effect))) few)

pub returns-in_err-gather_regex-2-clause-many : goal.returns-in_err-gather_regex-2-clause-many
returns-in_err-gather_regex-2-clause-many c = λ is.
    let ops = map tree_of c.args.ops.now in
    let t = c.index-triggers-number.result in
    let effect = flat_map past_trees (atoms_of (regular t.effect)) in
    let few : c.args.most < length (added (map tree_of c.gather_regex.new.ops) effect) = first_of (search rules, grind (arith, common_steps)) in
    subst (λ fs. c.args.most < length fs)
    (ap (λ fs. added fs effect) c.in_ok-gather_regex.ensures.added ∙ trigger_past ops c.args.triggers.now c.args.number t c.if-number-triggers.true c.index-triggers-number.is)
    few

pub returns-in_ok-gather_regex-2-clause-added : goal.returns-in_ok-gather_regex-2-clause-added
returns-in_ok-gather_regex-2-clause-added c =
    let ops = map tree_of c.args.ops.now in
    let t = c.index-triggers-number.result in
    c.in_ok-gather_regex-2.ensures.added
    ∙ ap (λ fs. added fs (flat_map past_trees (atoms_of (regular t.effect)))) c.in_ok-gather_regex.ensures.added
    ∙ trigger_past ops c.args.triggers.now c.args.number t c.if-number-triggers.true c.index-triggers-number.is

pub returns-else-number-triggers-clause-added : goal.returns-else-number-triggers-clause-added
returns-else-number-triggers-clause-added c = no_past (map tree_of c.args.ops.now) c.args.triggers.now c.args.number c.if-number-triggers.false
