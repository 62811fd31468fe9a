use Rattle.std.proofs.Common.{◌+◌, ◌++◌, map, take, drop, sym, ap, ◌∙◌}
use Rattle.std.proofs.lemmas.List.{take-map}
use Rattle.spectra_lines.specs.Parts.{PatternPart, leading}
use Rattle.spectra_lines.specs.Views.{typed_data, part_data}
use Rattle.spectra_lines.proofs.Orders.{left_behind, from_on}
use Rattle.spectra_lines.proofs.order.add_before.Goals as goal

pub returns-clause-left : goal.returns-clause-left
returns-clause-left c =
    let ps = c.args.patterns.now in
    let next = c.args.next in
    ap (λ n. map typed_data (drop (next + n) ps)) (c.leading-count.ensures.count ∙ ap (λ xs. leading c.args.at (map typed_data xs)) (from_on ps next)) ∙ left_behind typed_data ps next (leading c.args.at (map typed_data (drop next ps)))

pub returns-clause-put : goal.returns-clause-put
returns-clause-put c =
    let ps = c.args.patterns.now in
    let left = drop c.args.next ps in
    let count = c.leading-count.ensures.count ∙ ap (λ xs. leading c.args.at (map typed_data xs)) (from_on ps c.args.next) in
    c.in_ok-add_patterns.ensures
    ∙ ap (λ ps. map part_data c.args.parts.now.items ++ map PatternPart ps)
    (ap (λ xs. map typed_data (take c.leading-count.result xs)) (from_on ps c.args.next) ∙ sym (take-map typed_data c.leading-count.result left) ∙ ap (λ n. take n (map typed_data left)) count)
