use Rattle.std.proofs.Common.{map, subst, true, rules}
use Rattle.spec_model.specs.Diagrams.{Function}
use Rattle.bdd_ops.specs.Functions.{join_of, joined}
use Rattle.bdd_bits.specs.Contents.{function_at}
use Rattle.bit_compile.specs.declared.cases.CaseRoot.{CaseRoot}
use Rattle.bit_compile.specs.Making.{Makes}
use Rattle.bit_compile.specs.Compiled.{some_of}
use Rattle.bit_compile.proofs.MakingLemmas.{given_back, is_root, root_added}
use Rattle.bit_compile.proofs.Between.{function_stays}
use Rattle.bit_compile.proofs.Folding.{joined_as}
use Rattle.bit_compile.proofs.Causes.{cause_back, cause_handed, cause_join, no_name}
use Rattle.bit_compile.proofs.NamedSteps.{first_all}
use Rattle.bit_compile.specs.NamedCodes.{NoFunction}
use Rattle.bit_compile.specs.Named.{IsFirstOf}
use Rattle.bit_compile.specs.declared.folds.Fold.TheVariants.{Some}
use Rattle.bit_compile.proofs.folds.and_some.Goals as goal

pub returns-clause-made : goal.returns-clause-made
returns-clause-made c =
    let made = c.in_ok-second.ensures.made in
    let old = c.args.diagrams.now in
    let mid = c.folded.new.diagrams in
    let n = c.args.first.now in
    let some = some_of (map (λ (x : CaseRoot). function_at old x.root) c.args.cases.now) in
    let is = joined_as (join_of true) (function_at old n) (function_at mid n) some (function_at mid c.in_ok-second.second) (function_stays old mid n made.keeps c.requires.first_kept) made.meaning in
    given_back old mid c.and-whole.new.diagrams c.release.new.self c.in_ok-second.second _ _ made c.release.ensures.released c.release.ensures.nodes c.and-whole.result
    (subst (λ (g : Function). Makes mid c.and-whole.new.diagrams c.and-whole.result g) is c.and-whole.ensures.makes)

pub returns-in_err-second-clause-cause : goal.returns-in_err-second-clause-cause
returns-in_err-second-clause-cause c =
    let old = c.args.diagrams.now in
    let named = IsFirstOf Some (map (λ (x : CaseRoot). function_at old x.root) c.args.cases.now) in
    cause_handed old c.folded.new.diagrams c.folded.result c.from_residual.result c.in_err-second.field-0.0 named c.in_err-second.was (search rules) c.folded.ensures.cause

pub returns-clause-cause : goal.returns-clause-cause
returns-clause-cause c =
    let first = c.in_ok-second.ensures.made in
    let old = c.args.diagrams.now in
    let mid = c.folded.new.diagrams in
    let fs = map (λ (x : CaseRoot). function_at old x.root) c.args.cases.now in
    let named = IsFirstOf Some fs in
    let n = c.args.first.now in
    let second = c.in_ok-second.second in
    cause_back NoFunction named (no_name named) old mid second (some_of fs) first (first_all Some fs) c.and-whole.new.diagrams c.release.new.self c.and-whole.result c.release.ensures.nodes
    (cause_join true mid c.and-whole.new.diagrams n second (joined (join_of true) (function_at mid n) (function_at mid second)) NoFunction c.and-whole.result
    (root_added old mid second (some_of fs) first n c.requires.first_kept) (is_root old mid second (some_of fs) first) c.and-whole.ensures)
