use Rattle.std.proofs.Common.{eqb, not, sym, ap, ◌∙◌, arith, w64}
use lib.Count.{count_trailing_zeros}
use lib.Lanes.{chunk}
use Rattle.std.proofs.lemmas.Simd.{length-chunk, bitmask_splat, leading_from_mask_l, trailing_mask_l}
use Rattle.column_planes.specs.Planes.{has_zero}
use Rattle.column_planes.proofs.zeros.full_of_eight.Goals as goal

pub returns-then-open-eq0 : goal.returns-then-open-eq0
returns-then-open-eq0 c =
    let v = chunk c.args.at 8 c.args.a.now in
    let long = length-chunk c.args.at 8 c.args.a.now c.requires in
    let open_words = bitmask_splat w64 (λ a b. not (eqb a b)) v 8 18446744073709551615 long (omega arith) in
    sym (leading_from_mask_l has_zero v (sym open_words ∙ c.if-open-eq0.true) ∙ long)

pub returns-else-open-eq0 : goal.returns-else-open-eq0
returns-else-open-eq0 c =
    let v = chunk c.args.at 8 c.args.a.now in
    let long = length-chunk c.args.at 8 c.args.a.now c.requires in
    let open_words = bitmask_splat w64 (λ a b. not (eqb a b)) v 8 18446744073709551615 long (omega arith) in
    ap (count_trailing_zeros 64) open_words ∙ trailing_mask_l has_zero 64 v (omega arith) (omega arith)
