use Rattle.std.proofs.Common.{subst, true, false, rules, refl}
use Rattle.spec_model.specs.Diagrams.{Function}
use Rattle.bdd_ops.specs.Functions.{joined, join_of}
use Rattle.bdd_bits.specs.Contents.{function_at}
use Rattle.bit_compile.specs.Making.{Makes}
use Rattle.bit_compile.proofs.MakingLemmas.{given_back, is_root, root_added}
use Rattle.bit_compile.proofs.Between.{function_stays}
use Rattle.bit_compile.proofs.Folding.{joined_as}
use Rattle.bit_compile.proofs.Causes.{cause_back, cause_handed, cause_join, no_name}
use Rattle.bit_compile.specs.NamedCodes.{NoFunction}
use Rattle.bit_compile.specs.Named.{IsBoth}
use Rattle.bit_compile.proofs.pairs.or_both.Goals as goal

pub returns-clause-made : goal.returns-clause-made
returns-clause-made c =
    let old = c.args.diagrams.now in
    let first = c.in_ok-both.ensures.makes in
    let mid = c.and.new.diagrams in
    let product = joined (join_of true) (function_at old c.args.a.now) (function_at old c.args.b.now) in
    let same = function_stays old mid c.args.sum.now first.keeps c.requires.sum_kept in
    let is = joined_as (join_of false) (function_at old c.args.sum.now) (function_at mid c.args.sum.now) product (function_at mid c.in_ok-both.both) same first.meaning in
    let made = subst (λ (g : Function). Makes mid c.or-more.new.diagrams c.or-more.result g) is c.or-more.ensures.makes in
    given_back old mid c.or-more.new.diagrams c.release.new.self c.in_ok-both.both product (joined (join_of false) (function_at old c.args.sum.now) product) first c.release.ensures.released c.release.ensures.nodes c.or-more.result made

pub returns-in_err-both-clause-cause : goal.returns-in_err-both-clause-cause
returns-in_err-both-clause-cause c =
    let old = c.args.diagrams.now in
    let named = IsBoth (function_at old c.args.a.now) (function_at old c.args.b.now) in
    cause_handed old c.and.new.diagrams c.and.result c.from_residual.result c.in_err-both.field-0.0 named c.in_err-both.was (search rules)
    (cause_join true old c.and.new.diagrams c.args.a.now c.args.b.now (joined (join_of true) (function_at old c.args.a.now) (function_at old c.args.b.now)) named c.and.result c.requires.a_kept c.requires.b_kept c.and.ensures)

pub returns-clause-cause : goal.returns-clause-cause
returns-clause-cause c =
    let old = c.args.diagrams.now in
    let first = c.in_ok-both.ensures.makes in
    let mid = c.and.new.diagrams in
    let product = joined (join_of true) (function_at old c.args.a.now) (function_at old c.args.b.now) in
    let named = IsBoth (function_at old c.args.a.now) (function_at old c.args.b.now) in
    let both = c.in_ok-both.both in
    let sum = c.args.sum.now in
    cause_back NoFunction named (no_name named) old mid both product first refl c.or-more.new.diagrams c.release.new.self c.or-more.result c.release.ensures.nodes
    (cause_join false mid c.or-more.new.diagrams sum both (joined (join_of false) (function_at mid sum) (function_at mid both)) NoFunction c.or-more.result
    (root_added old mid both product first sum c.requires.sum_kept) (is_root old mid both product first) c.or-more.ensures)
