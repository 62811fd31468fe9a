use Rattle.std.proofs.Common.{List, rules, inl, inr, subst}
use Rattle.spec_model.specs.Values.{same_value}
use Rattle.spec_model.specs.Diagrams.{Function}
use Rattle.bdd_bits.specs.Contents.{function_at}
use Rattle.bit_compile.specs.Compiled.{Case, both_truths, same_truth, some_pair}
use Rattle.bit_compile.proofs.Between.{function_stays}
use Rattle.bit_compile.proofs.Pairing.{made_together, other_kept, seen_are, seen_kept, both_same}
use Rattle.bit_compile.proofs.Causes.{cause_wider}
use Rattle.bit_compile.proofs.Outcomes.{named_among, named_handed}
use Rattle.bit_compile.proofs.NamedSteps.{truths_named}
use Rattle.bit_compile.specs.Named.{IsTruth, IsOfSame, IsOfSameWith}
use Rattle.bit_compile.specs.Crowding.{MakesNamed}
use Rattle.bit_compile.proofs.spans.same_root.Goals as goal

pub same_with-root-requires-clause-xs_kept : goal.same_with-root-requires-clause-xs_kept
same_with-root-requires-clause-xs_kept c =
    let first = c.in_ok-xs.ensures in
    seen_kept c.args.diagrams.now c.cases_of_truth.new.diagrams c.in_ok-xs.xs.items c.deref.result.now _ first.made first.leaves.keeps c.deref.ensures.value

pub same_with-root-requires-clause-b_kept : goal.same_with-root-requires-clause-b_kept
same_with-root-requires-clause-b_kept c =
    let first = c.in_ok-xs.ensures in
    other_kept c.args.diagrams.now c.cases_of_truth.new.diagrams c.in_ok-xs.xs.items c.deref.result.now _ first.made first.leaves.keeps c.deref.ensures.value c.args.b.now c.requires.b_kept

pub release_all-requires : goal.release_all-requires
release_all-requires c =
    let first = c.in_ok-xs.ensures in
    made_together c.args.diagrams.now c.cases_of_truth.new.diagrams c.in_ok-xs.xs.items c.deref.result.now _ first.made first.leaves.keeps c.deref.ensures.value c.same_with-root.new.diagrams c.same_with-root.result _ c.same_with-root.ensures.made

pub returns-in_err-xs : goal.returns-in_err-xs
returns-in_err-xs c =
    let old = c.args.diagrams.now in
    let new = c.cases_of_truth.new.diagrams in
    let f = function_at old c.args.a.now in
    let named = IsOfSame f (function_at old c.args.b.now) in
    let cause = cause_wider (IsTruth f) named (λ h is. inl is) old new c.cases_of_truth.result c.cases_of_truth.ensures.cause in
    named_handed old new c.cases_of_truth.result c.in_err-xs.field-0.0 named c.in_err-xs.was c.cases_of_truth.ensures.leaves cause c.from_residual.result _ (search rules)

pub returns : goal.returns
returns c =
    let first = c.in_ok-xs.ensures in
    let old = c.args.diagrams.now in
    let mid = c.cases_of_truth.new.diagrams in
    let seen = c.deref.result.now in
    let xs = c.in_ok-xs.xs.items in
    let f = function_at old c.args.a.now in
    let g = function_at old c.args.b.now in
    let cs : List Case = both_truths f in
    let whole = c.same_with-root.new.diagrams in
    let r = c.same_with-root.result in
    let named = IsOfSame f g in
    let made : List Case → Function → Type 0 = λ ds h. MakesNamed mid whole r (some_pair same_value ds (both_truths h)) (IsOfSameWith ds h) in
    let one = subst (λ (ds : List Case). made ds (function_at mid c.args.b.now)) (seen_are old mid xs seen cs first.made first.leaves.keeps c.deref.ensures.value) c.same_with-root.ensures in
    let both = subst (made cs) (function_stays old mid c.args.b.now first.leaves.keeps c.requires.b_kept) one in
    let same = subst (λ (h : Function). MakesNamed mid whole r h (IsOfSameWith cs g)) (both_same f g) both in
    named_among old mid xs seen cs first.made first.leaves.keeps c.deref.ensures.value (IsOfSameWith cs g) named (λ h is. inr is) (truths_named f named (λ h is. inl is))
    whole c.release_all.new.diagrams c.release_all.ensures.released c.release_all.ensures.nodes r (same_truth f g) same
