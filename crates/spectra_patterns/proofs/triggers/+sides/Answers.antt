use Rattle.std.proofs.Common.{◌≡◌, ◌++◌, [], map, drop, IfOk, sym, ap, subst, append-nil, ◌∙◌}
use Rattle.std.proofs.lemmas.List.{drop_all}
use Rattle.spec_model.specs.Syntax.{regulars}
use Rattle.spec_model.specs.Views.{regular}
use Rattle.spectra_resolved.specs.Chained.{regexes}
use Rattle.spectra_resolved.specs.Views.{regex_data}
use Rattle.spectra_resolved.proofs.Trees.{repeat_data}
use Rattle.spectra_judge.specs.KindViews.{known_data}
use Rattle.spectra_patterns.specs.Triggers.{regular_of, regulars_of}
use Rattle.spectra_patterns.specs.TriggerParts.{with_repeats}
use Rattle.spectra_patterns.proofs.Regexes.{regular_repeated, regular_list, regulars_listed}
use Rattle.spectra_patterns.proofs.triggers.+sides.Goals as goal

pub side-returns-in_ok-made-in-Repeat : goal.side-returns-in_ok-made-in-Repeat
side-returns-in_ok-made-in-Repeat t c =
    let known = known_data c.args.by.now.known in
    let part = c.in-Repeat.part in
    let times = c.in-Repeat.times in
    let own = c.in_ok-made-in-Repeat.ensures ∙ ap (λ p. regular_of known (regex_data p)) c.deref-in-Repeat.ensures in
    subst (λ x. IfOk c.repeats.result (λ made. regular made ≡ x))
    ((λ i. with_repeats (own i) (c.deref-in-Repeat-2.ensures.value i))
    ∙ sym (regular_repeated known (regex_data part.value) times.items)
    ∙ ap (regular_of known) (sym (ap regex_data c.in-Repeat.is ∙ repeat_data part times)))
    c.repeats.ensures

pub sides-returns : goal.sides-returns
sides-returns t c =
    let known = known_data c.args.by.now.known in
    let left : drop c.loop-r.r-index c.args.rs.now ≡ [] = drop_all _ _ c.loop-r-test.false in
    let all = ap (λ rs. map regular c.loop-r.made.items ++ regular_list (regulars_of known (regexes (map regex_data rs)))) (sym left) ∙ c.loop-r.invariant in
    ap regulars (sym (append-nil (map regular c.loop-r.made.items)) ∙ all) ∙ regulars_listed (regulars_of known (regexes (map regex_data c.args.rs.now)))
