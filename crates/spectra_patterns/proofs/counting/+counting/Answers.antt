use Rattle.std.proofs.Common.{◌≡◌, true, false, ◌&&◌, sym, ap, ◌∙◌}
use Rattle.std.specs.List.{list_all}
use Rattle.spectra_resolved.specs.declared.tree.Times.{Times}
use Rattle.spectra_resolved.specs.Views.{regex_data}
use Rattle.spectra_resolved.proofs.Trees.{repeat_data}
use Rattle.spectra_patterns.specs.Triggers.{are_counts, counts_well}
use Rattle.spectra_patterns.proofs.Regexes.{counts_repeated}
use Rattle.spectra_patterns.proofs.counting.+counting.Goals as goal

pub counts_well-returns-then-all_counts : goal.counts_well-returns-then-all_counts
counts_well-returns-then-all_counts t c =
    let part = c.in-Repeat.part in
    let times = c.in-Repeat.times in
    let right : list_all (λ (t : Times). are_counts t.least t.most) times.items ≡ true =
    ap (list_all (λ (t : Times). are_counts t.least t.most)) (sym c.deref-in-Repeat.ensures.value) ∙ sym c.all_counts.ensures ∙ c.if-all_counts.true in
    c.counts_well.ensures
    ∙ ap (λ p. counts_well (regex_data p)) c.deref-then-all_counts.ensures
    ∙ (λ i. sym right i && counts_well (regex_data part.value))
    ∙ sym (counts_repeated (regex_data part.value) times.items)
    ∙ ap counts_well (sym (ap regex_data c.in-Repeat.is ∙ repeat_data part times))

pub counts_well-returns-else-all_counts : goal.counts_well-returns-else-all_counts
counts_well-returns-else-all_counts t c =
    let part = c.in-Repeat.part in
    let times = c.in-Repeat.times in
    let wrong : list_all (λ (t : Times). are_counts t.least t.most) times.items ≡ false =
    ap (list_all (λ (t : Times). are_counts t.least t.most)) (sym c.deref-in-Repeat.ensures.value) ∙ sym c.all_counts.ensures ∙ c.if-all_counts.false in
    c.if-all_counts.false
    ∙ (λ i. sym wrong i && counts_well (regex_data part.value))
    ∙ sym (counts_repeated (regex_data part.value) times.items)
    ∙ ap counts_well (sym (ap regex_data c.in-Repeat.is ∙ repeat_data part times))
