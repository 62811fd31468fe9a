use Rattle.std.proofs.Common.{◌&&◌, ◌∙◌, List, ap, map, subst}
use Rattle.spec_model.specs.Diagrams.{Bits, Function}
use Rattle.bdd_bits.specs.Contents.{function_at}
use Rattle.bit_compile.specs.declared.cases.CaseRoot.{CaseRoot}
use Rattle.bit_compile.specs.Making.{Makes}
use Rattle.bit_compile.specs.Compiled.{some_of}
use Rattle.bit_compile.proofs.MakingLemmas.{given_back, root_added}
use Rattle.bit_compile.proofs.Between.{functions_stay, still_kept}
use Rattle.bit_compile.proofs.blocks.both_some.Goals as goal

pub and_some-whole-requires-clause-kept : goal.and_some-whole-requires-clause-kept
and_some-whole-requires-clause-kept c =
    let old = c.args.diagrams.now in
    let mid = c.folded.new.diagrams in
    still_kept old.state mid.state c.args.ys.now (root_added old mid c.in_ok-first.first _ c.in_ok-first.ensures.made) c.requires.ys_kept

pub returns : goal.returns
returns c =
    let made = c.in_ok-first.ensures.made in
    let old = c.args.diagrams.now in
    let mid = c.folded.new.diagrams in
    let xs = c.args.xs.now in
    let ys = c.args.ys.now in
    let first = some_of (map (λ (x : CaseRoot). function_at old x.root) xs) in
    let is = ap (λ (f : Function). (λ (s : Bits). f s && some_of (map (λ (y : CaseRoot). function_at mid y.root) ys) s)) made.meaning
    ∙ ap (λ (fs : List Function). (λ (s : Bits). first s && some_of fs s)) (functions_stay old mid ys made.keeps c.requires.ys_kept) in
    given_back old mid c.and_some-whole.new.diagrams c.release.new.self c.in_ok-first.first _ _ made c.release.ensures.released c.release.ensures.nodes c.and_some-whole.result
    (subst (λ (g : Function). Makes mid c.and_some-whole.new.diagrams c.and_some-whole.result g) is c.and_some-whole.ensures.made)
