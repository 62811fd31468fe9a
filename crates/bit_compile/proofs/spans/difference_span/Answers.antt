use Rattle.std.proofs.Common.{◌≡◌, ◌-ℤ◌, w64, to_z, of_z, arith, refl}
use Rattle.std.proofs.lemmas.Int.{ints}
use Rattle.bit_compile.proofs.spans.difference_span.Goals as goal

pub returns : goal.returns
returns c =
    let low = c.requires.1 in
    let high = c.requires.2 in
    let rises = c.requires.0 in
    let lo : to_z w64 (of_z w64 (to_z w64 (of_z w64 c.args.a) -ℤ to_z w64 (of_z w64 c.args.d))) ≡ c.args.a -ℤ c.args.d = omega (arith, ints, low, high, rises) in
    let hi : to_z w64 (of_z w64 (to_z w64 (of_z w64 c.args.b) -ℤ to_z w64 (of_z w64 c.args.c))) ≡ c.args.b -ℤ c.args.c = omega (arith, ints, low, high, rises) in
    rw (lo, hi) refl
