use Rattle.std.proofs.Common.{◌≡◌, ◌∙◌, ℤ, List, Option, map, ap, subst, IfOk}
use Rattle.spectra_resolved.specs.TextViews.{text_data, definition_data}
use Rattle.spectra_bounds.specs.Numbers.{Constants, constants}
use Rattle.spectra_copies.specs.Texts.{written_text}
use Rattle.spectra_types.proofs.resolving.written_out.Goals as goal

pub returns : goal.returns
returns c =
    let numbers : c.deref-3.result.now ≡ (constants (text_data c.args.text).definitions).numbers =
    c.deref-3.ensures.value ∙ (ap (λ (k : Constants). k.numbers) c.in_ok-constants.ensures ∙ ap (λ ds. (constants (map definition_data ds)).numbers) c.deref-2.ensures.value) in
    subst (λ (ns : List (Option ℤ)). IfOk c.write_text.result (λ made. text_data made ≡ written_text ns (text_data c.args.text))) numbers c.write_text.ensures
