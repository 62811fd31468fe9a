use Rattle.std.proofs.Common.{map, sym, ap, ◌∙◌}
use Rattle.spectra_trees.specs.Views.{expr_data}
use Rattle.spectra_resolved.specs.Findings.{with_faults}
use Rattle.spectra_resolved.specs.Reports.{found_in}
use Rattle.spectra_resolved.specs.Resolved.{listed}
use Rattle.spectra_resolved.specs.Views.{resolved_data}
use Rattle.spectra_items.specs.Steps.{look_by}
use Rattle.spectra_items.proofs.Lists.{listed-trees, each-listed, each-misused}
use Rattle.spectra_items.proofs.lines.arguments.Goals as goal

pub returns-clause-trees : goal.returns-clause-trees
returns-clause-trees c =
    let r = c.args.resolver.now in
    sym (listed-trees (map resolved_data c.in_ok-made.made.items)) ∙ ap listed c.in_ok-made.ensures.trees ∙ each-listed (look_by r) r.file (map expr_data c.args.es.now)

pub returns-clause-found : goal.returns-clause-found
returns-clause-found c =
    let r = c.args.resolver.now in
    c.in_ok-made.ensures.found ∙ ap (with_faults (found_in c.args.findings.now)) (each-misused (look_by r) r.file (map expr_data c.args.es.now))
