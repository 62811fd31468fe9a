use Rattle.std.proofs.Common.{◌≡◌, ◌==◌, ◌+◌, ◌-◌, ◌*◌, false, map, take, drop, get_or, ap, subst, ◌∙◌, arith}
use Rattle.std.proofs.lemmas.List.{length-map}
use Rattle.spec_model.specs.Views.{variable_data}
use Rattle.column_planes.specs.Columns.{HasBits, column_data}
use Rattle.column_planes.proofs.PlanesOfParts.{column_bits}
use Rattle.column_planes.proofs.truths.code_plane.Goals as goal

pub returns-clause-plane : goal.returns-clause-plane
returns-clause-plane c = λ read P tells.
    let cs = column_data c.args.c in
    let at = c.first_place.result in
    let k = c.args.k in
    let from = 4096 * k + at in
    let many : from + c.args.c.bits - from ≡ c.args.c.bits = omega arith in
    let long = length-map c.args.c.vars.now variable_data in
    subst (λ n. HasBits cs c.args.c.bits n (λ r t. P (r.variable k t)) c.equal_codes.new.out) c.first_place.ensures.value
    (column_bits cs c.equal_codes.new.out c.args.c.bits at k c.args.code P (omega (arith, long, c.if-c-k.false)) (omega (arith, c.if-c-start.false)) (omega (arith, c.if-c-gt4095.false, c.first_place.ensures.within)) tells
    (λ j. c.equal_codes.ensures.bits j ∙ ap (λ n. get_or (map (λ d. d == c.args.code) (take n (drop from cs.codes))) j false) many))
