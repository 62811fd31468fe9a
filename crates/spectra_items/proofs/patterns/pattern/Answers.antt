use Rattle.std.proofs.Common.{◌≡◌, ◌++◌, length, map, flat_map, sym, ap, ◌∙◌, arith}
use Rattle.std.proofs.lemmas.List.{length-map}
use Rattle.spectra_trees.specs.Views.{name_data, part_data}
use Rattle.spectra_resolved.specs.declared.look.Sight.TheVariants as sights
use Rattle.spectra_resolved.specs.Findings.{with_faults}
use Rattle.spectra_resolved.specs.Reports.{found_in}
use Rattle.spectra_resolved.specs.Looks.{looked_up}
use Rattle.spectra_resolved.specs.Spaces.{declared, clashes, is_doubled}
use Rattle.spectra_resolved.specs.TextViews.{type_data, pattern_line_data}
use Rattle.spectra_resolved.proofs.First.{with_faults_append}
use Rattle.spectra_items.specs.Meanings.{own_types, pattern_lines, part_faults, pattern_entries, in_pattern}
use Rattle.spectra_items.specs.ItemViews.{entry_data, pattern_item_data}
use Rattle.spectra_items.specs.Steps.{names_by}
use Rattle.spectra_items.proofs.patterns.pattern.Goals as goal

pub returns-clause-pattern : goal.returns-clause-pattern
returns-clause-pattern c =
    let names = names_by c.args.resolver.now in
    let inside = c.resolver_inside-inside.ensures in
    let seen = inside.look ∙ ap (looked_up sights.EnumNames names) (c.in_ok-table.ensures.look ∙ ap declared (ap (map entry_data) c.deref.ensures.value ∙ c.in_ok-entries.ensures)) in
    let added = c.in_ok-add_parts.ensures in
    let parts = c.deref-2.ensures.value in
    let params = c.args.item.now.params in
    let count : c.len.result ≡ length (map name_data params.items) = omega (arith, c.len.ensures, length-map params.items name_data, params.ok.0) in
    let own = added.own
    ∙ (λ i. map type_data (c.new-own.ensures.items i) ++ flat_map (own_types (inside.names i) (seen i) (inside.file i)) (map part_data (parts i))) in
    let lines = added.lines
    ∙ (λ i. map pattern_line_data (c.new-lines.ensures.items i) ++ flat_map (pattern_lines (seen i) (inside.file i)) (map part_data (parts i))) in
    let doubled = c.in_ok-doubled.ensures ∙ ap is_doubled (ap (map entry_data) c.deref-3.ensures.value ∙ c.in_ok-entries.ensures) in
    λ i. record { name = c.mentioned.ensures i; params = count i; doubled = doubled i; own = own i; lines = lines i }

pub returns-clause-found : goal.returns-clause-found
returns-clause-found c =
    let r = c.args.resolver.now in
    let names = names_by r in
    let p = pattern_item_data c.args.item.now in
    let old = found_in c.args.findings.now in
    let entries = ap (map entry_data) c.deref.ensures.value ∙ c.in_ok-entries.ensures in
    let inside = c.resolver_inside-inside.ensures in
    let seen = inside.look ∙ ap (looked_up sights.EnumNames names) (c.in_ok-table.ensures.look ∙ ap declared entries) in
    let told = c.in_ok-table.ensures.found ∙ ap (λ es. with_faults old (clashes es)) entries in
    let parts = c.deref-2.ensures.value in
    c.in_ok-add_parts.ensures.found
    ∙ (λ i. with_faults (told i) (flat_map (part_faults (inside.names i) (seen i) (inside.file i)) (map part_data (parts i))))
    ∙ sym (with_faults_append old (clashes (pattern_entries r.file p)) (flat_map (part_faults names (in_pattern names r.file p) r.file) p.parts))
