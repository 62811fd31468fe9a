use Rattle.std.proofs.Common.{◌∙◌, ap, false, not, subst}
use Rattle.spec_model.specs.Diagrams.{Function}
use Rattle.bdd_ops.specs.Functions.{joined, join_of}
use Rattle.bdd_bits.specs.Contents.{function_at}
use Rattle.bit_compile.specs.Making.{Makes, digit}
use Rattle.bit_compile.proofs.MakingLemmas.{given_back}
use Rattle.bit_compile.proofs.Between.{function_stays}
use Rattle.bit_compile.proofs.Folding.{joined_as}
use Rattle.bit_compile.proofs.bounds.low_with.Goals as goal

pub returns : goal.returns
returns c =
    let first = c.in_ok-bit.ensures.made in
    let old = c.args.diagrams.now in
    let mid = c.digit_root.new.diagrams in
    let bit = c.in_ok-bit.bit in
    let rest = c.args.rest.now in
    let low = digit c.args.level false in
    let join = join_of (not c.args.high) in
    let same = function_stays old mid rest first.keeps c.requires.kept in
    let is = ap (λ b. joined (join_of b) (function_at mid bit) (function_at mid rest)) c.fold_at.ensures ∙ joined_as join low (function_at mid bit) (function_at old rest) (function_at mid rest) first.meaning same in
    let made = subst (λ (g : Function). Makes mid c.join_root-whole.new.diagrams c.join_root-whole.result g) is c.join_root-whole.ensures.made in
    given_back old mid c.join_root-whole.new.diagrams c.release.new.self bit low (joined join low (function_at old rest)) first c.release.ensures.released c.release.ensures.nodes c.join_root-whole.result made
