use Rattle.std.proofs.Common.{subst, ◌∙◌, true, rules, refl, ◌≡◌}
use Rattle.spec_model.specs.Diagrams.{Function}
use Rattle.bdd_ops.specs.Functions.{join_of, joined}
use Rattle.bdd_bits.specs.Contents.{function_at}
use Rattle.bdd_ops.specs.Calls.{negated}
use Rattle.bit_compile.specs.Making.{Makes}
use Rattle.bit_compile.proofs.MakingLemmas.{given_back, is_root, root_added}
use Rattle.bit_compile.proofs.Between.{function_stays}
use Rattle.bit_compile.proofs.Folding.{joined_as, as_true, as_false}
use Rattle.bit_compile.proofs.Causes.{cause_back, cause_handed, cause_join, cause_not, no_name}
use Rattle.bit_compile.specs.NamedCodes.{NoFunction}
use Rattle.bit_compile.specs.Compiled.{is_not}
use Rattle.bit_compile.proofs.letters.and_as.Goals as goal

pub returns-then-wanted-clause-made : goal.returns-then-wanted-clause-made
returns-then-wanted-clause-made c =
    let old = c.args.diagrams.now in
    rw c.if-wanted.true (subst (λ (g : Function). Makes old c.and.new.diagrams c.and.result g) (as_true (function_at old c.args.product.now) (function_at old c.args.atom.now)) c.and.ensures.makes)

pub returns-clause-made : goal.returns-clause-made
returns-clause-made c =
    let old = c.args.diagrams.now in
    let first = c.in_ok-other.ensures.makes in
    let mid = c.not.new.diagrams in
    let f = function_at old c.args.product.now in
    let g = function_at old c.args.atom.now in
    let same = function_stays old mid c.args.product.now first.keeps c.requires.product_kept in
    let is = joined_as (join_of true) f (function_at mid c.args.product.now) (negated g) (function_at mid c.in_ok-other.other) same first.meaning ∙ as_false f g in
    let made = subst (λ (h : Function). Makes mid c.and-whole.new.diagrams c.and-whole.result h) is c.and-whole.ensures.makes in
    rw c.if-wanted.false (given_back old mid c.and-whole.new.diagrams c.release.new.self c.in_ok-other.other (negated g) _ first c.release.ensures.released c.release.ensures.nodes c.and-whole.result made)

pub returns-then-wanted-clause-cause : goal.returns-then-wanted-clause-cause
returns-then-wanted-clause-cause c =
    let old = c.args.diagrams.now in
    let p = c.args.product.now in
    let a = c.args.atom.now in
    cause_join true old c.and.new.diagrams p a (joined (join_of true) (function_at old p) (function_at old a)) (λ (f : Function). f ≡ is_not (function_at old a)) c.and.result c.requires.product_kept c.requires.atom_kept c.and.ensures

pub returns-in_err-other-clause-cause : goal.returns-in_err-other-clause-cause
returns-in_err-other-clause-cause c =
    let old = c.args.diagrams.now in
    let a = c.args.atom.now in
    let named : Function → Type 0 = λ f. f ≡ is_not (function_at old a) in
    cause_handed old c.not.new.diagrams c.not.result c.from_residual.result c.in_err-other.field-0.0 named c.in_err-other.was (search rules)
    (cause_not old c.not.new.diagrams a (negated (function_at old a)) named c.not.result c.requires.atom_kept c.not.ensures)

pub returns-clause-cause : goal.returns-clause-cause
returns-clause-cause c =
    let old = c.args.diagrams.now in
    let first = c.in_ok-other.ensures.makes in
    let mid = c.not.new.diagrams in
    let p = c.args.product.now in
    let g = function_at old c.args.atom.now in
    let named : Function → Type 0 = λ f. f ≡ is_not g in
    let other = c.in_ok-other.other in
    cause_back NoFunction named (no_name named) old mid other (negated g) first refl c.and-whole.new.diagrams c.release.new.self c.and-whole.result c.release.ensures.nodes
    (cause_join true mid c.and-whole.new.diagrams p other (joined (join_of true) (function_at mid p) (function_at mid other)) NoFunction c.and-whole.result
    (root_added old mid other (negated g) first p c.requires.product_kept) (is_root old mid other (negated g) first) c.and-whole.ensures)
