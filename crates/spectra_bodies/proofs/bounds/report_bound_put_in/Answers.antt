use Rattle.std.proofs.Common.{sym, ap, ◌∙◌}
use Rattle.spectra_resolved.specs.Findings.{with_faults}
use Rattle.spectra_resolved.specs.Reports.{found_in}
use Rattle.spectra_resolved.specs.Views.{resolved_data}
use Rattle.spectra_judge.specs.KindViews.{known_data}
use Rattle.spectra_elaboration.specs.DefinitionViews.{definitions_data}
use Rattle.spectra_resolved.specs.declared.stand.Stand.TheVariants as stand
use Rattle.spectra_bodies.proofs.Behind.{put_in_behind}
use Rattle.spectra_bodies.proofs.bounds.report_bound_put_in.Goals as goal

pub returns-then-is_behind : goal.returns-then-is_behind
returns-then-is_behind c =
    let behind = sym c.is_behind.ensures ∙ c.if-is_behind.true in
    sym (put_in_behind (found_in c.args.findings.now) (definitions_data c.args.basis.now.definitions.now) (known_data c.args.basis.now.known) stand.Bound (resolved_data c.args.t.now) behind)

pub returns-in-Some : goal.returns-in-Some
returns-in-Some c =
    let sound = c.args.basis.now.sound (known_data c.args.basis.now.known) (resolved_data c.args.t.now) c.in-Some.field-0 (sym c.in-Some.ensures) in
    ap (with_faults (found_in c.args.findings.now)) (sym sound)
