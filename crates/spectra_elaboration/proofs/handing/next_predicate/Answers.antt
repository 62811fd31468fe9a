use Rattle.std.proofs.Common.{map, refl, sym}
use Rattle.spectra_resolved.specs.Views.{resolved_data}
use Rattle.std.proofs.lemmas.List.{length-map}
use Rattle.spectra_elaboration.proofs.HandedOn.{predicate_next}
use Rattle.spectra_elaboration.proofs.handing.next_predicate.Goals as goal

pub returns : goal.returns
returns c =
    let ts = c.args.ts.now in
    predicate_next c.args.number (map resolved_data ts) _ (c.if-not-are_parameters.ensures refl) refl refl (sym (length-map ts resolved_data)) refl
