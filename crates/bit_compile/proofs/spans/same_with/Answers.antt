use Rattle.spec_model.specs.Values.{same_value}
use Rattle.bdd_bits.specs.Contents.{function_at}
use Rattle.bit_compile.specs.Compiled.{Case, both_truths, some_pair}
use Rattle.bit_compile.proofs.Pairing.{made_together, others_kept, seen_kept}
use Rattle.bit_compile.proofs.Causes.{cause_wider}
use Rattle.bit_compile.proofs.Outcomes.{named_among, named_handed, pairs_made}
use Rattle.bit_compile.proofs.NamedSteps.{truths_named}
use Rattle.bit_compile.specs.Named.{IsTruth, IsOfPairs, IsOfSameWith}
use Rattle.std.proofs.Common.{List, rules, inl, inr}
use Rattle.bit_compile.specs.CaseRoots.{cases_at}
use Rattle.bit_compile.proofs.spans.same_with.Goals as goal

pub pair_root-root-requires-clause-xs_kept : goal.pair_root-root-requires-clause-xs_kept
pair_root-root-requires-clause-xs_kept c =
    let first = c.in_ok-ys.ensures in
    others_kept c.args.diagrams.now c.cases_of_truth.new.diagrams c.in_ok-ys.ys.items c.deref.result.now _ first.made first.leaves.keeps c.deref.ensures.value c.args.xs.now c.requires.xs_kept

pub pair_root-root-requires-clause-ys_kept : goal.pair_root-root-requires-clause-ys_kept
pair_root-root-requires-clause-ys_kept c =
    let first = c.in_ok-ys.ensures in
    seen_kept c.args.diagrams.now c.cases_of_truth.new.diagrams c.in_ok-ys.ys.items c.deref.result.now _ first.made first.leaves.keeps c.deref.ensures.value

pub release_all-requires : goal.release_all-requires
release_all-requires c =
    let first = c.in_ok-ys.ensures in
    made_together c.args.diagrams.now c.cases_of_truth.new.diagrams c.in_ok-ys.ys.items c.deref.result.now _ first.made first.leaves.keeps c.deref.ensures.value c.pair_root-root.new.diagrams c.pair_root-root.result _ c.pair_root-root.ensures.made

pub returns-in_err-ys : goal.returns-in_err-ys
returns-in_err-ys c =
    let old = c.args.diagrams.now in
    let new = c.cases_of_truth.new.diagrams in
    let b = function_at old c.args.b.now in
    let named = IsOfSameWith (cases_at old c.args.xs.now) b in
    let cause = cause_wider (IsTruth b) named (λ f is. inl is) old new c.cases_of_truth.result c.cases_of_truth.ensures.cause in
    named_handed old new c.cases_of_truth.result c.in_err-ys.field-0.0 named c.in_err-ys.was c.cases_of_truth.ensures.leaves cause c.from_residual.result _ (search rules)

pub returns : goal.returns
returns c =
    let first = c.in_ok-ys.ensures in
    let old = c.args.diagrams.now in
    let mid = c.cases_of_truth.new.diagrams in
    let xs = c.args.xs.now in
    let ys = c.in_ok-ys.ys.items in
    let seen = c.deref.result.now in
    let both : List Case = both_truths (function_at old c.args.b.now) in
    let whole = c.pair_root-root.new.diagrams in
    let r = c.pair_root-root.result in
    let named = IsOfSameWith (cases_at old xs) (function_at old c.args.b.now) in
    named_among old mid ys seen both first.made first.leaves.keeps c.deref.ensures.value (IsOfPairs same_value (cases_at old xs) both) named (λ f is. inr is) (truths_named (function_at old c.args.b.now) named (λ f is. inl is))
    whole c.release_all.new.diagrams c.release_all.ensures.released c.release_all.ensures.nodes r (some_pair same_value (cases_at old xs) both)
    (pairs_made old mid ys seen both first.made first.leaves.keeps c.deref.ensures.value whole xs c.requires.xs_kept same_value r c.pair_root-root.ensures)
