use Rattle.std.proofs.Common.{◌≡◌, false, [], Some, None, option_map, IfOk, sym, ap, subst, ◌∙◌}
use Rattle.spectra_resolved.specs.Views.{resolved_data}
use Rattle.spectra_copies.specs.Copies.{has_quantifier, written}
use Rattle.spectra_copies.specs.Levels.{within_limits, within_room}
use Rattle.spectra_elaboration.specs.DefinitionViews.{definitions_data}
use Rattle.spectra_elaboration.specs.Putting.{with_bodies}
use Rattle.spectra_elaboration.proofs.WrittenOut.{plain_stays, out_within, out_without, within_flat}
use Rattle.spectra_elaboration.proofs.putting.put_in.Goals as goal

pub returns-then-has_quantifier : goal.returns-then-has_quantifier
returns-then-has_quantifier c =
    let t = with_bodies (definitions_data c.args.definitions.now) (resolved_data c.args.t.now) in
    let some = sym (ap (option_map resolved_data) c.in-Some.is) ∙ c.in_ok-made.ensures in
    let fits = within_flat c.args.room c.args.levels t (resolved_data c.in-Some.made) some in
    subst (λ x. IfOk c.write_line.result (λ made. option_map resolved_data made ≡ x)) (ap (λ u. within_room c.args.room (written [] [] u)) fits.0 ∙ out_within [] [] c.args.room c.args.levels t fits.1) c.write_line.ensures

pub returns-else-has_quantifier : goal.returns-else-has_quantifier
returns-else-has_quantifier c =
    let t = with_bodies (definitions_data c.args.definitions.now) (resolved_data c.args.t.now) in
    let some = sym (ap (option_map resolved_data) c.in-Some.is) ∙ c.in_ok-made.ensures in
    let fits = within_flat c.args.room c.args.levels t (resolved_data c.in-Some.made) some in
    let plain : has_quantifier t ≡ false = ap has_quantifier (sym fits.0) ∙ sym c.has_quantifier.ensures ∙ c.if-has_quantifier.false in
    some ∙ ap (within_limits c.args.room c.args.levels) (sym (plain_stays [] t plain))

pub returns-in-None : goal.returns-in-None
returns-in-None c =
    let t = with_bodies (definitions_data c.args.definitions.now) (resolved_data c.args.t.now) in
    out_without [] [] c.args.room c.args.levels t (sym (ap (option_map resolved_data) c.in-None.is) ∙ c.in_ok-made.ensures)
