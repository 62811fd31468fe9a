use Rattle.std.proofs.Common.{◌&&◌, ◌∙◌, ℕ, ap, subst, true}
use Rattle.spec_model.specs.Diagrams.{Bits, Function}
use Rattle.spec_model.specs.Sizes.{domain_size}
use Rattle.bdd_ops.specs.Functions.{join_of}
use Rattle.bdd_bits.specs.Contents.{function_at}
use Rattle.bit_compile.specs.Codes.{level_at, width_at}
use Rattle.bit_compile.specs.Laid.{IsCountable}
use Rattle.bit_compile.specs.Making.{Makes}
use Rattle.bit_compile.specs.Proper.{has_some_value}
use Rattle.bit_compile.specs.Bounds.{is_below}
use Rattle.bit_compile.proofs.Between.{function_stays}
use Rattle.bit_compile.proofs.Folding.{joined_as}
use Rattle.bit_compile.proofs.MakingLemmas.{given_back}
use Rattle.bit_compile.proofs.BoundLemmas.{bound_is_some}
use Rattle.bit_compile.proofs.proper.and_below.Goals as goal

pub returns : goal.returns
returns c =
    let first = c.in_ok-values.ensures in
    let old = c.args.diagrams.now in
    let mid = c.number_below.new.diagrams in
    let ds = c.args.codes.now in
    let at = c.args.at in
    let k = c.args.k in
    let product = c.args.product.now in
    let values = c.in_ok-values.values in
    let bound = is_below c.level.result c.width.result c.size-count.result in
    let countable = subst IsCountable c.domain.ensures.domain c.domain.ensures.countable in
    let same = ap (λ (l : ℕ). is_below l c.width.result c.size-count.result) c.level.ensures.level
    ∙ (ap (λ (w : ℕ). is_below (level_at ds at k) w c.size-count.result) c.width.ensures.width
    ∙ (ap (λ (n : ℕ). is_below (level_at ds at k) (width_at ds k) n) (c.size-count.ensures ∙ ap domain_size c.domain.ensures.domain)
    ∙ bound_is_some ds at k countable)) in
    let stays = function_stays old mid product first.keeps c.requires.kept in
    let is = joined_as (join_of true) (function_at old product) (function_at mid product) (has_some_value ds at k) (function_at mid values) stays (first.meaning ∙ same) in
    let made = subst (λ (g : Function). Makes mid c.and-whole.new.diagrams c.and-whole.result g) is c.and-whole.ensures.makes in
    given_back old mid c.and-whole.new.diagrams c.release.new.self values bound (λ (s : Bits). function_at old product s && has_some_value ds at k s) first c.release.ensures.released c.release.ensures.nodes c.and-whole.result made
