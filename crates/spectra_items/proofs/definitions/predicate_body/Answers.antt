use Rattle.std.proofs.Common.{ap, ◌∙◌}
use Rattle.spectra_trees.specs.Views.{expr_data}
use Rattle.spectra_resolved.specs.declared.look.Sight.TheVariants as sights
use Rattle.spectra_resolved.specs.Findings.{with_faults}
use Rattle.spectra_resolved.specs.Reports.{found_in}
use Rattle.spectra_resolved.specs.Looks.{looked_up}
use Rattle.spectra_resolved.specs.Spaces.{declared, clashes}
use Rattle.spectra_resolved.specs.Resolving.{resolved, misuses}
use Rattle.spectra_items.specs.Steps.{names_by}
use Rattle.spectra_items.proofs.definitions.predicate_body.Goals as goal

pub returns-clause-body : goal.returns-clause-body
returns-clause-body c =
    let names = names_by c.args.resolver.now in
    let e = expr_data c.args.item.now.body in
    let inside = c.resolver_inside-inside.ensures in
    let seen = inside.look ∙ ap (looked_up sights.Values names) (c.in_ok-table.ensures.look ∙ ap declared c.requires.parameters) in
    c.in_ok-body.ensures.tree ∙ (λ i. resolved (seen i) (inside.file i) e)

pub returns-clause-found : goal.returns-clause-found
returns-clause-found c =
    let names = names_by c.args.resolver.now in
    let old = found_in c.args.findings.now in
    let e = expr_data c.args.item.now.body in
    let inside = c.resolver_inside-inside.ensures in
    let seen = inside.look ∙ ap (looked_up sights.Values names) (c.in_ok-table.ensures.look ∙ ap declared c.requires.parameters) in
    let told = c.in_ok-table.ensures.found ∙ ap (λ ps. with_faults old (clashes ps)) c.requires.parameters in
    c.in_ok-body.ensures.found ∙ (λ i. with_faults (told i) (misuses (resolved (seen i) (inside.file i) e)))
