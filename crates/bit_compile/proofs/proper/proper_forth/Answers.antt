use Rattle.std.proofs.Common.{◌≡◌, ◌+◌, ◌≤◌, ◌&&◌, ◌∷◌, [], ℕ, Ok, ap, arith, length, map, refl, rules, subst, suc, sym, ◌∙◌, inl, inr, ◌<◌}
use Rattle.std.proofs.lemmas.List.{map-append}
use Rattle.spec_model.specs.Steps.{below}
use Rattle.spec_model.specs.Diagrams.{Bits, Function}
use Rattle.bit_compile.specs.Domains.{level_count}
use Rattle.bit_compile.specs.Making.{Makes}
use Rattle.bit_compile.specs.Compiled.{all_of}
use Rattle.bit_compile.specs.Proper.{has_some_value}
use Rattle.bit_compile.proofs.MakingLemmas.{is_root}
use Rattle.bit_compile.proofs.Between.{root_after}
use Rattle.bit_compile.proofs.Folding.{all_of-push, own, refused_makes, turn}
use Rattle.bit_compile.proofs.Causes.{cause_back, cause_handed, cause_never, cause_ok}
use Rattle.bit_compile.specs.Named.{IsOfSlot, IsOfProper}
use Rattle.bit_compile.proofs.proper.proper_forth.Goals as goal

pub loop-k-init : goal.loop-k-init
loop-k-init c = c.in_ok-product.ensures.made

pub and_some_value-more-requires-clause-levels : goal.and_some_value-more-requires-clause-levels
and_some_value-more-requires-clause-levels c = subst (λ (n : ℕ). level_count c.args.codes.now ≤ n) (sym c.loop-k.invariant.keeps.levels) c.requires

pub and_some_value-more-requires-clause-kept : goal.and_some_value-more-requires-clause-kept
and_some_value-more-requires-clause-kept c = is_root c.args.diagrams.now c.loop-k.diagrams c.loop-k.product _ c.loop-k.invariant

pub release-requires : goal.release-requires
release-requires c = root_after c.loop-k.diagrams c.and_some_value-more.new.diagrams c.and_some_value-more.result _ c.and_some_value-more.ensures.made c.loop-k.product (is_root c.args.diagrams.now c.loop-k.diagrams c.loop-k.product _ c.loop-k.invariant)

pub loop-k-preserved : goal.loop-k-preserved
loop-k-preserved c =
    let first = c.args.diagrams.now in
    let l = c.loop-k.diagrams in
    let inv = c.loop-k.invariant in
    let k = c.loop-k.k in
    let f : ℕ → Function = has_some_value c.args.codes.now c.args.at in
    let next : suc k ≡ k + 1 = omega arith in
    let is =
    ap (λ (h : Function). (λ (s : Bits). h s && f k s)) inv.meaning
    ∙ (sym (all_of-push (map f (below k)) (f k)) ∙ (sym (ap all_of (map-append f (below k) (k ∷ []))) ∙ ap (λ (n : ℕ). all_of (map f (below n))) next)) in
    let made = turn first l c.and_some_value-more.new.diagrams c.release.new.self c.loop-k.product c.and_some_value-more.result _ (all_of (map f (below (k + 1)))) (own first l c.loop-k.product _ inv) c.and_some_value-more.ensures.made is c.release.ensures.released c.release.ensures.nodes in
    subst (λ r. Makes first c.release.new.self r (all_of (map f (below (k + 1))))) c.in_ok-next.was made

pub returns-in_err-next-clause-made : goal.returns-in_err-next-clause-made
returns-in_err-next-clause-made c =
    let first = c.args.diagrams.now in
    let l = c.loop-k.diagrams in
    let made = turn first l c.and_some_value-more.new.diagrams c.release.new.self c.loop-k.product c.and_some_value-more.result _ _ (own first l c.loop-k.product _ c.loop-k.invariant) c.and_some_value-more.ensures.made refl c.release.ensures.released c.release.ensures.nodes in
    refused_makes first c.release.new.self c.and_some_value-more.result c.from_residual-in_err-next.result c.in_err-next.field-0.0 _ _ made c.in_err-next.was (search rules)

pub returns-clause-made : goal.returns-clause-made
returns-clause-made c =
    let f : ℕ → Function = has_some_value c.args.codes.now c.args.at in
    let count = c.count-k-end.ensures in
    let all : c.loop-k.k ≡ length c.args.codes.now = omega (arith, count, c.loop-k-test.false, c.loop-k.auto) in
    subst (λ (n : ℕ). Makes c.args.diagrams.now c.loop-k.diagrams (Ok c.loop-k.product) (all_of (map f (below n)))) all c.loop-k.invariant

pub returns-in_err-product-clause-cause : goal.returns-in_err-product-clause-cause
returns-in_err-product-clause-cause c =
    let old = c.args.diagrams.now in
    let named = IsOfProper c.args.codes.now c.args.at in
    cause_handed old c.constant.new.diagrams c.constant.result c.from_residual.result c.in_err-product.field-0.0 named c.in_err-product.was (search rules)
    (cause_never old c.constant.new.diagrams c.constant.result named c.constant.ensures.never)

pub returns-in_err-next-clause-cause : goal.returns-in_err-next-clause-cause
returns-in_err-next-clause-cause c =
    let old = c.args.diagrams.now in
    let l = c.loop-k.diagrams in
    let inv = c.loop-k.invariant in
    let k = c.loop-k.k in
    let ds = c.args.codes.now in
    let named = IsOfProper ds c.args.at in
    let count = c.count-k-end.ensures in
    let less : k < length ds = omega (arith, count, c.loop-k-test.true) in
    let so_far = all_of (map (has_some_value ds c.args.at) (below k)) in
    cause_handed old c.release.new.self c.and_some_value-more.result c.from_residual-in_err-next.result c.in_err-next.field-0.0 named c.in_err-next.was (search rules)
    (cause_back (IsOfSlot ds c.args.at k) named (λ f is. inl (k, less, is)) old l c.loop-k.product so_far inv (inr (k, refl)) c.and_some_value-more.new.diagrams c.release.new.self c.and_some_value-more.result c.release.ensures.nodes c.and_some_value-more.ensures.cause)

pub returns-clause-cause : goal.returns-clause-cause
returns-clause-cause c = cause_ok c.args.diagrams.now c.loop-k.diagrams c.loop-k.product (IsOfProper c.args.codes.now c.args.at)
