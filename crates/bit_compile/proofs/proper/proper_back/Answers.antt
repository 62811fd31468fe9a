use Rattle.std.proofs.Common.{◌≡◌, ◌-◌, ◌≤◌, ◌&&◌, ◌∙◌, ℕ, Ok, ap, arith, drop, length, map, refl, rules, subst, sym}
use Rattle.spec_model.specs.Steps.{below}
use Rattle.spec_model.specs.Diagrams.{Bits, Function}
use Rattle.bit_compile.specs.Domains.{level_count}
use Rattle.bit_compile.specs.Making.{Makes}
use Rattle.bit_compile.specs.Compiled.{all_of}
use Rattle.bit_compile.specs.Proper.{has_some_value}
use Rattle.bit_compile.proofs.MakingLemmas.{is_root}
use Rattle.bit_compile.proofs.Between.{root_after}
use Rattle.bit_compile.proofs.Folding.{own, refused_makes, turn}
use Rattle.bit_compile.proofs.BoundLemmas.{none_behind, one_before}
use Rattle.bit_compile.proofs.proper.proper_back.Goals as goal

pub loop-last-init : goal.loop-last-init
loop-last-init c =
    let ds = c.args.codes.now in
    let count = c.count-last.ensures in
    record {
      made = subst (λ (f : Function). Makes c.args.diagrams.now c.constant.new.diagrams (Ok c.in_ok-product.product) f) (none_behind (has_some_value ds c.args.at) (length ds) c.count-last.result count) c.in_ok-product.ensures.made;
      within = omega (arith, count);
    }

pub and_below-more-requires-clause-levels : goal.and_below-more-requires-clause-levels
and_below-more-requires-clause-levels c = subst (λ (n : ℕ). level_count c.args.codes.now ≤ n) (sym c.loop-last.invariant.made.keeps.levels) c.requires

pub and_below-more-requires-clause-kept : goal.and_below-more-requires-clause-kept
and_below-more-requires-clause-kept c = is_root c.args.diagrams.now c.loop-last.diagrams c.loop-last.product _ c.loop-last.invariant.made

pub release-requires : goal.release-requires
release-requires c = root_after c.loop-last.diagrams c.and_below-more.new.diagrams c.and_below-more.result _ c.and_below-more.ensures c.loop-last.product (is_root c.args.diagrams.now c.loop-last.diagrams c.loop-last.product _ c.loop-last.invariant.made)

pub loop-last-preserved : goal.loop-last-preserved
loop-last-preserved c =
    let first = c.args.diagrams.now in
    let l = c.loop-last.diagrams in
    let inv = c.loop-last.invariant in
    let ds = c.args.codes.now in
    let f : ℕ → Function = has_some_value ds c.args.at in
    let last = c.loop-last.last in
    let is = ap (λ (h : Function). (λ (s : Bits). h s && f (last - 1) s)) inv.made.meaning ∙ one_before f (length ds) last (omega arith) inv.within in
    let made = turn first l c.and_below-more.new.diagrams c.release.new.self c.loop-last.product c.and_below-more.result _ (all_of (drop (last - 1) (map f (below (length ds))))) (own first l c.loop-last.product _ inv.made) c.and_below-more.ensures is c.release.ensures.released c.release.ensures.nodes in
    record {
      made = subst (λ r. Makes first c.release.new.self r (all_of (drop (last - 1) (map f (below (length ds)))))) c.in_ok-next.was made;
      within = omega arith;
    }

pub returns-in_err-next : goal.returns-in_err-next
returns-in_err-next c =
    let first = c.args.diagrams.now in
    let l = c.loop-last.diagrams in
    let made = turn first l c.and_below-more.new.diagrams c.release.new.self c.loop-last.product c.and_below-more.result _ _ (own first l c.loop-last.product _ c.loop-last.invariant.made) c.and_below-more.ensures refl c.release.ensures.released c.release.ensures.nodes in
    refused_makes first c.release.new.self c.and_below-more.result c.from_residual-in_err-next.result c.in_err-next.field-0.0 _ _ made c.in_err-next.was (search rules)

pub returns : goal.returns
returns c =
    let ds = c.args.codes.now in
    let f : ℕ → Function = has_some_value ds c.args.at in
    let all : c.loop-last.last ≡ 0 = omega arith in
    subst (λ (n : ℕ). Makes c.args.diagrams.now c.loop-last.diagrams (Ok c.loop-last.product) (all_of (drop n (map f (below (length ds)))))) all c.loop-last.invariant.made
