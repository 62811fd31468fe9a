use Rattle.std.proofs.Common.{length, map, sym, ap, ◌∙◌}
use Rattle.std.proofs.lemmas.List.{length-map}
use Rattle.spectra_resolved.specs.TextViews.{alias_data}
use Rattle.spectra_bounds.specs.Cycles.{on_cycles}
use Rattle.spectra_bounds.proofs.Marks.{on_cycles-length}
use Rattle.spectra_bounds.proofs.cycles.report_type_cycles.Goals as goal

-- there are as many marks as types
pub report_cycles-requires : goal.report_cycles-requires
report_cycles-requires c =
    let types = map alias_data c.args.types.now in
    ap length (c.deref-2.ensures.value ∙ c.in_ok-on_cycle.ensures ∙ ap on_cycles (ap (map (λ us. us.items)) c.deref.ensures.value ∙ c.in_ok-uses.ensures))
    ∙ on_cycles-length _
    ∙ length-map types _
    ∙ sym (length-map types _)
    ∙ sym (ap length (c.deref-3.ensures.value ∙ c.in_ok-places.ensures))
