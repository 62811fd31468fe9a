use Rattle.std.proofs.Common.{◌≡◌, ◌+◌, ◌++◌, map, drop, OnOk, sym, ap, subst, ◌∙◌}
use Rattle.spectra_resolved.specs.Chained.{regexes}
use Rattle.spectra_resolved.specs.Views.{regex_data}
use Rattle.spectra_resolved.proofs.Trees.{repeat_data}
use Rattle.spectra_lines.specs.Contents.{brackets_in, brackets_of_each}
use Rattle.spectra_lines.specs.Views.{trees_data}
use Rattle.spectra_lines.proofs.Bracketed.{brackets_repeated, brackets_left}
use Rattle.spectra_lines.proofs.trees.+bracketing.Goals as goal

pub add_brackets-returns-in-Repeat : goal.add_brackets-returns-in-Repeat
add_brackets-returns-in-Repeat t c =
    let part = c.in-Repeat.part in
    let times = c.in-Repeat.field-1 in
    subst (λ x. OnOk c.add_brackets.result (trees_data c.add_brackets.new.trees.items ≡ trees_data c.args.trees.now.items ++ x))
    (ap (λ p. brackets_in (regex_data p)) c.deref-in-Repeat.ensures
    ∙ sym (brackets_repeated (regex_data part.value) times.items)
    ∙ ap brackets_in (sym (ap regex_data c.in-Repeat.is ∙ repeat_data part times)))
    c.add_brackets.ensures

pub add_each_brackets-loop-r-preserved : goal.add_each_brackets-loop-r-preserved
add_each_brackets-loop-r-preserved t c =
    let rs = c.args.rs.now in
    let k = c.loop-r.r-index in
    ap (λ us. us ++ brackets_of_each (regexes (map regex_data (drop (k + 1) rs)))) c.in_ok-add_brackets.ensures
    ∙ brackets_left (trees_data c.loop-r.trees.items) rs k c.r-item.result c.loop-r-test.true c.r-item.is
    ∙ c.loop-r.invariant
