use Rattle.std.proofs.Common.{true, Ok, sym, ◌∙◌, ap, subst, take, ℕ}
use Rattle.spec_model.specs.Diagrams.{Bits, Diagram, Function}
use Rattle.bdd_store.specs.State.{IsRoot}
use Rattle.bdd_bits.specs.Contents.{function_at}
use Rattle.bdd_ops.specs.Functions.{joined, join_of}
use Rattle.bit_compile.specs.Making.{Makes}
use Rattle.bit_compile.proofs.MakingLemmas.{told_makes, never_told}
use Rattle.bdd_sets.specs.Members.{all_true, functions_at, IsThis}
use Rattle.bdd_sets.proofs.SpentLemmas.{refused_by, item_is, all_true-next, function_kept}
use Rattle.bdd_sets.proofs.CauseLemmas.{cause_by, first_of_all}
use Rattle.bit_compile.proofs.Causes.{cause_never, cause_ok, cause_wider}
use Rattle.bdd_sets.specs.NamedMoves.{IsFirstOfAll}
use Rattle.bdd_sets.proofs.spent.all_of.Goals as goal

pub loop-member-init : goal.loop-member-init
loop-member-init c =
    let made = told_makes c.args.diagrams.now c.constant.new.self c.constant.result (λ (s : Bits). true) (λ (made : Diagram). ⊥) c.constant.ensures.given in
    subst (λ r. Makes c.args.diagrams.now c.constant.new.self r (λ (s : Bits). true)) (sym c.told.ensures ∙ c.in_ok-whole.was) made

pub returns-in_err-whole-2-clause-made : goal.returns-in_err-whole-2-clause-made
returns-in_err-whole-2-clause-made c =
    let so_far = all_true (functions_at c.args.diagrams.now (take c.loop-member.member-index c.args.members.now)) in
    refused_by c.args.diagrams.now c.and_spent.new.diagrams c.from_residual-in_err-whole-2.result c.in_err-whole-2.field-0.0 (joined (join_of true) so_far (function_at c.loop-member.diagrams c.member-item.result)) (all_true (functions_at c.args.diagrams.now c.args.members.now)) c.from_residual-in_err-whole-2.ensures.1 (c.in_err-whole-2.ensures.made c.args.diagrams.now so_far c.loop-member.invariant)

pub loop-member-preserved : goal.loop-member-preserved
loop-member-preserved c =
    let old = c.args.diagrams.now in
    let ms = c.args.members.now in
    let i = c.loop-member.member-index in
    let so_far = all_true (functions_at old (take i ms)) in
    let m = c.member-item.result in
    let root : IsRoot old.state m = subst (λ (n : ℕ). IsRoot old.state n) (item_is ms i m c.loop-member-test.true c.member-item.is) (c.requires i c.loop-member-test.true) in
    let same = function_kept old c.loop-member.diagrams c.loop-member.invariant.keeps m root in
    let made = c.in_ok-whole-2.ensures.made old so_far c.loop-member.invariant in
    subst (λ (k : Function). Makes old c.and_spent.new.diagrams (Ok c.in_ok-whole-2.whole) k) (ap (λ (k : Function). joined (join_of true) so_far k) same ∙ all_true-next (function_at old) ms i m c.loop-member-test.true c.member-item.is) made

pub returns-in_err-whole-clause-cause : goal.returns-in_err-whole-clause-cause
returns-in_err-whole-clause-cause c =
    let old = c.args.diagrams.now in
    let new = c.constant.new.self in
    let named = IsFirstOfAll (functions_at old c.args.members.now) in
    cause_by old new c.from_residual.result c.in_err-whole.field-0.0 named c.from_residual.ensures.1
    (cause_never old new _ named (λ e. never_told c.constant.result c.constant.ensures.full (sym c.told.ensures ∙ (c.in_err-whole.was ∙ e))))

pub returns-in_err-whole-2-clause-cause : goal.returns-in_err-whole-2-clause-cause
returns-in_err-whole-2-clause-cause c =
    let old = c.args.diagrams.now in
    let ms = c.args.members.now in
    let i = c.loop-member.member-index in
    let so_far = all_true (functions_at old (take i ms)) in
    let named = IsFirstOfAll (functions_at old ms) in
    let new = c.and_spent.new.diagrams in
    let cause = c.in_err-whole-2.ensures.cause old so_far c.loop-member.invariant in
    let wider : (f : Function) → IsThis so_far f → named f = λ f is. first_of_all old ms i f is in
    cause_by old new c.from_residual-in_err-whole-2.result c.in_err-whole-2.field-0.0 named c.from_residual-in_err-whole-2.ensures.1 (cause_wider (IsThis so_far) named wider old new _ cause)

pub returns-clause-cause : goal.returns-clause-cause
returns-clause-cause c = cause_ok c.args.diagrams.now c.loop-member.diagrams c.loop-member.whole (IsFirstOfAll (functions_at c.args.diagrams.now c.args.members.now))
