use Rattle.std.proofs.Common.{◌≡◌, length, arith, rules}
use Rattle.spectra_resolved.specs.TextViews.{text_data, variable_data as resolved_variable}
use Rattle.spectra_judge.specs.declared.kind.Kind.TheVariants as kinds
use Rattle.spectra_types.proofs.VariableSteps.{one_more, place_below, made_of}
use Rattle.spectra_types.proofs.meaning.add_variables.Goals as goal

pub bounds-kinds-len : goal.bounds-kinds-len
bounds-kinds-len c =
    let n = c.loop-number.number in
    let place : c.len.result ≡ length c.loop-number.all.items = omega (arith, c.len.ensures, c.loop-number.all.ok.0) in
    place_below (text_data c.args.text.now) (resolved_variable c.args.declared.now) c.args.all.now.items c.loop-number.all.items n c.args.kinds.now c.len.result _ c.loop-number.invariant (c.requires.kinds n c.loop-number-test.true) place

pub offset_bounds-kinds-len : goal.offset_bounds-kinds-len
offset_bounds-kinds-len c = let below = bounds-kinds-len c in search (rules, below)

pub loop-number-preserved : goal.loop-number-preserved
loop-number-preserved c =
    let text = text_data c.args.text.now in
    let v = resolved_variable c.args.declared.now in
    let old = c.args.all.now.items in
    let new = c.loop-number.all.items in
    let n = c.loop-number.number in
    let one = c.in_ok-variable.field-0 in
    let place : c.len.result ≡ length c.loop-number.all.items = omega (arith, c.len.ensures, c.loop-number.all.ok.0) in
    one_more text v old new c.push.new.self.items one n c.loop-number.invariant
    (made_of text v old new n c.args.kinds.now c.len.result kinds.Truth one c.loop-number.invariant (c.requires.kinds n c.loop-number-test.true) place c.in_ok-variable.ensures) c.in_ok-push.ensures.items
