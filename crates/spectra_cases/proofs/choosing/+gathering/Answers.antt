use Rattle.std.proofs.Common.{◌≡◌, ◌-◌, [], ◌++◌, length, map, take, drop, OnOk, sym, ap, subst, ◌∙◌, append_assoc, append-nil}
use Rattle.std.proofs.lemmas.List.{drop_all}
use Rattle.spectra_resolved.specs.Chained.{chained}
use Rattle.spectra_resolved.specs.Views.{resolved_data, link_data}
use Rattle.spectra_resolved.proofs.Trees.{chain_data}
use Rattle.spectra_judge.specs.KindViews.{known_data}
use Rattle.spectra_cases.specs.Choices.{choices}
use Rattle.spectra_cases.specs.Wholes.{choice_data, front_choices}
use Rattle.spectra_cases.proofs.Rows.{row_choices, all_choices}
use Rattle.spectra_cases.proofs.Built.{suffix}
use Rattle.spectra_cases.proofs.choosing.+gathering.Goals as goal

pub gather-returns-in-Chain : goal.gather-returns-in-Chain
gather-returns-in-Chain t c =
    subst (λ x. OnOk c.gather_row.result (map choice_data c.gather_row.new.choices.items ≡ map choice_data c.args.choices.now.items ++ choices (known_data c.args.known.now) x c.args.under))
    ((λ i. chained (resolved_data (c.deref.ensures i)) (map link_data (c.deref-in-Chain.ensures.value i)))
    ∙ sym (ap resolved_data c.in-Chain.is ∙ chain_data c.in-Chain.head c.in-Chain.links))
    c.gather_row.ensures

pub gather_row-returns : goal.gather_row-returns
gather_row-returns t c =
    let k = known_data c.args.known.now in
    let u = c.args.under in
    let ls = c.args.links.now in
    let head = resolved_data c.args.head.now in
    let before = c.before_row-before.result in
    let row = take (length ls - before) (drop before ls) in
    let same = suffix ls before c.before_row-before.ensures.within in
    let old = map choice_data c.args.choices.now.items in
    let made = map choice_data c.loop-link.choices.items in
    let left : drop c.loop-link.link-index row ≡ [] = drop_all _ _ c.loop-link-test.false in
    sym (append-nil made)
    ∙ ap (λ xs. made ++ row_choices k (map link_data xs) u) (sym left)
    ∙ c.loop-link.invariant
    ∙ ap (λ cs. cs ++ row_choices k (map link_data row) u) c.in_ok-gather_front.ensures
    ∙ append_assoc old (front_choices k before head u) (row_choices k (map link_data row) u)
    ∙ ap (λ xs. old ++ (front_choices k before head u ++ row_choices k (map link_data xs) u)) same
    ∙ ap (λ cs. old ++ cs) (sym (all_choices k head ls before u c.before_row-before.ensures.within c.before_row-before.ensures.row c.before_row-before.ensures.last))
