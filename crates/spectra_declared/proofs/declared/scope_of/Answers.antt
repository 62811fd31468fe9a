use Rattle.std.proofs.Common.{map, ap, ◌∙◌}
use Rattle.spectra_resolved.specs.Findings.{with_faults}
use Rattle.spectra_resolved.specs.Reports.{found_in}
use Rattle.spectra_declared.specs.ItemViews.{filed_data}
use Rattle.spectra_resolved.specs.Spaces.{clashes}
use Rattle.spectra_declared.specs.Declarations.{enums_in, entries}
use Rattle.spectra_declared.specs.declared.declaring.Space.TheVariants as spaces
use Rattle.spectra_declared.proofs.Scopes.{space_look, space_found, four_spaces}
use Rattle.spectra_declared.proofs.declared.scope_of.Goals as goal

pub returns-clause-scope : goal.returns-clause-scope
returns-clause-scope c =
    let items = map filed_data c.args.items.now in
    let are = c.in_ok-names.ensures.names in
    let v = space_look _ spaces.Values _ items _ c.in_ok-values.ensures are in
    let t = space_look _ spaces.Types _ items _ c.in_ok-types.ensures are in
    let p = space_look _ spaces.Patterns _ items _ c.in_ok-patterns.ensures are in
    let l = space_look _ spaces.Lines _ items _ c.in_ok-lines.ensures are in
    λ i. record { enums = are i; values = v i; types = t i; patterns = p i; lines = l i }

pub returns-clause-found : goal.returns-clause-found
returns-clause-found c =
    let items = map filed_data c.args.items.now in
    let are = c.in_ok-names.ensures.names in
    let v = space_found _ spaces.Values _ items _ c.in_ok-values.ensures are in
    let t = space_found _ spaces.Types _ items _ c.in_ok-types.ensures are in
    let p = space_found _ spaces.Patterns _ items _ c.in_ok-patterns.ensures are in
    let l = space_found _ spaces.Lines _ items _ c.in_ok-lines.ensures are in
    let n = c.in_ok-names.ensures.found in
    l
    ∙ ap (λ o. with_faults o (clashes (entries spaces.Lines (enums_in items) items)))
    (p ∙ ap (λ o. with_faults o (clashes (entries spaces.Patterns (enums_in items) items)))
    (t ∙ ap (λ o. with_faults o (clashes (entries spaces.Types (enums_in items) items)))
    (v ∙ ap (λ o. with_faults o (clashes (entries spaces.Values (enums_in items) items))) n)))
    ∙ four_spaces (found_in c.args.findings.now) items
