use Rattle.std.proofs.Common.{◌≡◌, ◌^◌, true, Option, Some, None, ap, sym, ◌∙◌}
use Rattle.std.specs.Option.{IfNone}
use Rattle.std.specs.List.{list_any}
use Rattle.std.proofs.lemmas.Fmt.{signed_decimal_injective}
use Rattle.std.proofs.lemmas.Int.{to_z-of_z}
use lib.IntN.{ℤ}
use mir.Val.{SFits}
use mir.Syntax.{w64}
use Rattle.spec_model.specs.declared.value.Value.TheVariants as value
use Rattle.spec_model.specs.Values.{values_of, same_value, WholeNumbers}
use Rattle.session_lines.proofs.Values.{only_whole}
use Rattle.session_lines.proofs.value.whole_in.Goals as goal

if_none : {T P : Type 0} (r : Option T) → P → IfNone r P
if_none None p = p
if_none (Some x) p = tt

pub returns-in_err-number_in-clause-none : goal.returns-in_err-number_in-clause-none
returns-in_err-number_in-clause-none c =
    if_none c.from_residual.result (λ names x is.
    let w = only_whole names c.args.lo c.args.hi c.args.text.now x (2 ^ 63) c.ranges.lo.sfits c.ranges.hi.sfits is in
    c.in_err-number_in.ensures.none w.0 w.1 w.2)

pub returns-else-has_value-clause-none : goal.returns-else-has_value-clause-none
returns-else-has_value-clause-none c = λ names x is.
    let w = only_whole names c.args.lo c.args.hi c.args.text.now x (2 ^ 63) c.ranges.lo.sfits c.ranges.hi.sfits is in
    let z = c.in_ok-number_in.field-0 in
    let same : w.0 ≡ z = signed_decimal_injective w.0 z w.1 c.in_ok-number_in.ensures.small (sym w.2 ∙ c.in_ok-number_in.ensures.some) in
    let within : list_any (same_value (value.Int z)) (values_of (WholeNumbers c.args.lo c.args.hi)) ≡ true =
    ap (λ (y : ℤ). list_any (same_value (value.Int y)) (values_of (WholeNumbers c.args.lo c.args.hi))) (sym same) ∙ w.3 in
    let fits : SFits w64 z = record { sfits = c.in_ok-number_in.ensures.small } in
    let lo_fits = c.ranges.lo in
    let hi_fits = c.ranges.hi in
    let told = simp to_z-of_z at c.if-has_value.ensures in
    cc
