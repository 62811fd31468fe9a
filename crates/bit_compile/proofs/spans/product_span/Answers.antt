use Rattle.std.proofs.Common.{◌*ℤ◌, refl, rules, w64}
use Rattle.std.specs.Prelude.{FitsSigned}
use Rattle.std.proofs.lemmas.Int.{to_z-of_z}
use Rattle.bit_compile.proofs.Intervals.{products_fit}
use Rattle.bit_compile.proofs.spans.product_span.Goals as goal

pub product-bc-requires : goal.product-bc-requires
product-bc-requires c = rw (to_z-of_z w64 c.args.b c.ranges.b, to_z-of_z w64 c.args.c c.ranges.c) (products_fit (c.args.a *ℤ c.args.c) (c.args.a *ℤ c.args.d) (c.args.b *ℤ c.args.c) (c.args.b *ℤ c.args.d) c.requires.1 c.requires.2).0

pub product-bd-requires : goal.product-bd-requires
product-bd-requires c = rw (to_z-of_z w64 c.args.b c.ranges.b, to_z-of_z w64 c.args.d c.ranges.d) (products_fit (c.args.a *ℤ c.args.c) (c.args.a *ℤ c.args.d) (c.args.b *ℤ c.args.c) (c.args.b *ℤ c.args.d) c.requires.1 c.requires.2).1

pub returns : goal.returns
returns c =
    let fits : FitsSigned w64 c.product-ac.result = search rules in
    let fits-2 : FitsSigned w64 c.product-ad.result = search rules in
    let fits-3 : FitsSigned w64 c.product-bc.result = search rules in
    let fits-4 : FitsSigned w64 c.product-bd.result = search rules in
    rw (c.span_between.ensures, to_z-of_z w64 c.product-ac.result fits, to_z-of_z w64 c.product-ad.result fits-2, to_z-of_z w64 c.product-bc.result fits-3, to_z-of_z w64 c.product-bd.result fits-4, c.product-ac.ensures, c.product-ad.ensures, c.product-bc.ensures, c.product-bd.ensures, to_z-of_z w64 c.args.a c.ranges.a, to_z-of_z w64 c.args.b c.ranges.b, to_z-of_z w64 c.args.c c.ranges.c, to_z-of_z w64 c.args.d c.ranges.d) refl
