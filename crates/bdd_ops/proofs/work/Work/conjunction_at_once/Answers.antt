use Rattle.std.proofs.Common.{◌≡◌, ◌∙◌, ap, rules}
use Rattle.spec_model.specs.Diagrams.{constant}
use Rattle.bdd_ops.proofs.RelatedLemmas.{true_left, false_left, true_right, false_right, same_both}
use Rattle.bdd_ops.proofs.work.Work.conjunction_at_once.Goals as goal

pub returns-in-Some-true : goal.returns-in-Some-true
returns-in-Some-true c = true_left _ _ _ c.requires.b_live (c.in-Some-true.ensures ∙ ap constant c.in-Some-true.field-0-test)

pub returns-in-Some-false : goal.returns-in-Some-false
returns-in-Some-false c = false_left _ _ _ c.requires.a_live (c.in-Some-false.ensures ∙ ap constant c.in-Some-false.field-0-test)

pub returns-then-eq : goal.returns-then-eq
returns-then-eq c =
    let h = c.if-eq.ensures in
    let same : c.args.a.0 ≡ c.args.b.0 = search rules in
    same_both _ _ _ c.requires.a_live same

pub returns-then-is_constant : goal.returns-then-is_constant
returns-then-is_constant c = true_right _ _ _ c.requires.a_live (c.is_constant.ensures c.if-is_constant.true)

pub returns-then-is_constant-2 : goal.returns-then-is_constant-2
returns-then-is_constant-2 c = false_right _ _ _ c.requires.b_live (c.is_constant-else-is_constant.ensures c.if-is_constant-2.true)
