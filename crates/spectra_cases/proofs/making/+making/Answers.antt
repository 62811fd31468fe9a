use Rattle.std.proofs.Common.{◌≡◌, ◌+◌, ◌-◌, ◌*◌, ◌<◌, ◌≤◌, true, false, List, [], ◌∷◌, ◌++◌, length, map, take, drop, get_or, slice_get, IfOk, IfSome, sym, ap, subst, ◌∙◌, append-nil, rules, arith}
use Rattle.std.proofs.lemmas.Grind.{common_steps}
use Rattle.std.proofs.lemmas.List.{drop_all}
use Rattle.spec_model.specs.Syntax.{Variable, Conjunction, Disjunction, formulas, listed}
use Rattle.spec_model.specs.Views.{formula as formula_data}
use Rattle.spectra_resolved.specs.declared.tree.Link.{Link}
use Rattle.spectra_resolved.specs.Resolved.{Form}
use Rattle.spectra_resolved.specs.Chained.{chained, trees}
use Rattle.spectra_resolved.specs.Views.{resolved_data, link_data, form_data}
use Rattle.spectra_resolved.proofs.Trees.{chain_data}
use Rattle.spectra_copies.specs.Levels.{is_row_word}
use Rattle.spectra_copies.specs.Nodes.{tree_nodes, form_nodes}
use Rattle.spectra_copies.proofs.Folded.{next_data, mod_data}
use Rattle.spectra_judge.specs.KindViews.{known_data}
use Rattle.spectra_cases.specs.Formulas.{binary_formula, each_formula, numbers_below, formula_of}
use Rattle.spectra_cases.specs.Choices.{choices, form_choices, equation_of, built}
use Rattle.spectra_cases.specs.Wholes.{choice_data, whole_choices, whole_cases, whole_case}
use Rattle.spectra_cases.proofs.Spread.{choices_long}
use Rattle.spectra_cases.proofs.Cases.{dropped_at, pushed_data, numbered_push, case_of, chosen_mapped, case_is, all_cases, first_case}
use Rattle.spectra_cases.proofs.Built.{read_dropped, dropped_long, suffix, formulas-listed, built_more, long_more}
use Rattle.spectra_cases.proofs.Measures.{choices_few, rest, whole_nodes, spare}
use Rattle.spectra_cases.proofs.Ends.{on_ok, taken_last, apart_long, apart_rest, apart_nodes, apart_formula, apart_built, part_rest, front_rest, compared_rest, equal_rest, spare_few, case_less, all_few, each_more}
use Rattle.spectra_cases.proofs.making.+making.Goals as goal

-- ---- operators behind a first operand

pub built_front-operated-requires : goal.built_front-operated-requires
built_front-operated-requires t c =
    let k = known_data c.args.by.now.known in
    let ls = c.args.links.now in
    let some : 0 < length ls = grind (arith, c.if-is_empty.false, c.if-is_empty.ensures) in
    let l = c.index-links-links.result in
    let whole = apart_rest k (resolved_data c.args.head.now) ls l some c.index-links-links.is c.requires.last in
    search rules

pub built_front-returns-clause-made : goal.built_front-returns-clause-made
built_front-returns-clause-made t c =
    let k = known_data c.args.by.now.known in
    let ls = c.args.links.now in
    let some : 0 < length ls = grind (arith, c.if-is_empty.false, c.if-is_empty.ensures) in
    subst (λ f. IfOk c.operated.result (λ e. formula_data e ≡ f))
    (sym (apart_built k (resolved_data c.args.head.now) ls c.index-links-links.result some c.index-links-links.is c.requires.last c.args.by.now.params (drop c.args.next.now c.args.picks.now)))
    c.operated.ensures

pub built_front-returns-clause-next : goal.built_front-returns-clause-next
built_front-returns-clause-next t c =
    let k = known_data c.args.by.now.known in
    let ls = c.args.links.now in
    let some : 0 < length ls = grind (arith, c.if-is_empty.false, c.if-is_empty.ensures) in
    let none = apart_long k (resolved_data c.args.head.now) ls c.index-links-links.result some c.index-links-links.is c.requires.last in
    on_ok c.operated.result (c.args.next.now ≡ c.args.next.now + length (choices k (chained (resolved_data c.args.head.now) (map link_data ls)) false)) (omega (arith, none))

pub built_row-built_front-requires : goal.built_row-built_front-requires
built_row-built_front-requires t c =
    let k = known_data c.args.by.now.known in
    let ls = c.args.links.now in
    let before = c.before_row-before.result in
    let less = front_rest k (resolved_data c.args.head.now) ls before c.before_row-before.ensures.within c.before_row-before.ensures.row in
    let last = taken_last ls before (λ (l : Link). is_row_word l.word ≡ false) c.before_row-before.ensures.within c.before_row-before.ensures.last in
    search rules

pub built_row-built-requires : goal.built_row-built-requires
built_row-built-requires t c =
    let k = known_data c.args.by.now.known in
    let ls = c.args.links.now in
    let before = c.before_row-before.result in
    let i = c.loop-link.link-index in
    let l = c.link-item.result in
    let same = suffix ls before c.before_row-before.ensures.within in
    let below : i < length (drop before ls) = subst (λ (xs : List Link). i < length xs) same c.loop-link-test.true in
    let is : l ≡ get_or (drop before ls) i l = subst (λ (xs : List Link). l ≡ get_or xs i l) same c.link-item.is in
    let less = part_rest k (resolved_data c.args.head.now) ls before i l c.before_row-before.ensures.row below is in
    search rules

pub built_row-loop-link-preserved : goal.built_row-loop-link-preserved
built_row-loop-link-preserved t c =
    let k = known_data c.args.by.now.known in
    let p = c.args.by.now.params in
    let ls = c.args.links.now in
    let head = resolved_data c.args.head.now in
    let picks = c.args.picks.now in
    let from = c.args.next.now in
    let before = c.before_row-before.result in
    let i = c.loop-link.link-index in
    let n = before + i in
    let l = c.link-item.result in
    let second = resolved_data l.second in
    let so_far = chained head (map link_data (take n ls)) in
    let all = dropped_long ls before c.before_row-before.ensures.within in
    let same = suffix ls before c.before_row-before.ensures.within in
    let inside : i < length (drop before ls) = subst (λ (xs : List Link). i < length xs) same c.loop-link-test.true in
    let below : n < length ls = omega (arith, all, inside) in
    let behind : before ≤ n = omega arith in
    let is = subst (λ (xs : List Link). l ≡ get_or xs i l) same c.link-item.is ∙ read_dropped ls before i l in
    let more : n + 1 ≡ before + (i + 1) = omega arith in
    let step = built_more k p head ls before n l c.before_row-before.ensures.row behind below is picks from in
    let long = long_more k p head ls before n l c.before_row-before.ensures.row behind below is in
    let longer : length (choices k (chained head (map link_data (take (before + (i + 1)) ls))) false) ≡ length (choices k so_far false) + length (choices k second false) =
    sym (ap (λ j. length (choices k (chained head (map link_data (take j ls))) false)) more) ∙ long in
    record {
      made =
          c.in_ok-made-2.ensures
          ∙ (λ j. binary_formula l.word (c.loop-link.invariant.made j) ((c.in_ok-second.ensures.made ∙ ap (λ m. built k p second (drop m picks)) c.loop-link.invariant.next) j))
          ∙ sym step
          ∙ ap (λ j. built k p (chained head (map link_data (take j ls))) (drop from picks)) more;
      next = omega (arith, c.in_ok-second.ensures.next, c.loop-link.invariant.next, longer);
    }

-- ---- operators of which the last one is none of a row

pub chain-operated-requires : goal.chain-operated-requires
chain-operated-requires t c =
    let k = known_data c.args.by.now.known in
    let ls = c.args.links.now in
    let end = c.before_row-end.result in
    let some : 0 < end = grind (arith, common_steps) in
    let all : end ≡ length ls = grind (arith, common_steps, c.before_row-end.ensures.within) in
    let last = subst (λ n. IfSome (slice_get ls (n - 1)) (λ l. is_row_word l.word ≡ false)) all (c.before_row-end.ensures.last some) in
    let nodes = apart_nodes k (resolved_data c.args.head.now) ls c.index-links-links.result (omega (arith, some, all)) c.index-links-links.is last in
    search rules

pub chain-returns : goal.chain-returns
chain-returns t c =
    let k = known_data c.args.by.now.known in
    let ls = c.args.links.now in
    let end = c.before_row-end.result in
    let some : 0 < end = grind (arith, common_steps) in
    let all : end ≡ length ls = grind (arith, common_steps, c.before_row-end.ensures.within) in
    let last = subst (λ n. IfSome (slice_get ls (n - 1)) (λ l. is_row_word l.word ≡ false)) all (c.before_row-end.ensures.last some) in
    subst (λ f. IfOk c.operated.result (λ e. formula_data e ≡ f))
    (sym (apart_formula k (resolved_data c.args.head.now) ls c.index-links-links.result (omega (arith, some, all)) c.index-links-links.is last c.args.by.now.params))
    c.operated.ensures

-- what an expression with operators behind it is
pub formula-chain-requires : goal.formula-chain-requires
formula-chain-requires t c =
    let same : resolved_data c.args.t.now ≡ chained (resolved_data c.deref-in-Chain.result.now) (map link_data c.deref-in-Chain-2.result.now) =
    ap resolved_data c.in-Chain.is ∙ chain_data c.in-Chain.head c.in-Chain.links ∙ sym (λ i. chained (resolved_data (c.deref-in-Chain.ensures i)) (map link_data (c.deref-in-Chain-2.ensures.value i))) in
    let nodes = ap tree_nodes same in
    search rules

pub formula-returns-in-Chain : goal.formula-returns-in-Chain
formula-returns-in-Chain t c =
    let k = known_data c.args.by.now.known in
    let p = c.args.by.now.params in
    let same : chained (resolved_data c.deref-in-Chain.result.now) (map link_data c.deref-in-Chain-2.result.now) ≡ resolved_data c.args.t.now =
    sym (ap resolved_data c.in-Chain.is ∙ chain_data c.in-Chain.head c.in-Chain.links ∙ sym (λ i. chained (resolved_data (c.deref-in-Chain.ensures i)) (map link_data (c.deref-in-Chain-2.ensures.value i)))) in
    subst (λ x. IfOk c.chain.result (λ e. formula_data e ≡ formula_of k p x)) same c.chain.ensures

-- ---- what stands at a place

pub built_shape-built-requires : goal.built_shape-built-requires
built_shape-built-requires t c =
    let k = known_data c.args.by.now.known in
    let x = resolved_data c.deref.result.now in
    let shape : form_data c.args.shape.now ≡ Form.Next x = ap form_data c.in-Next.is ∙ next_data c.in-Next.t ∙ sym (ap (λ y. Form.Next (resolved_data y)) c.deref.ensures) in
    let few = choices_few k x false in
    let long = choices_long k x true false in
    let less : 16 * rest k x + 4 < 16 * (form_nodes (form_data c.args.shape.now) - length (form_choices k (form_data c.args.shape.now) false)) + 3 =
    subst (λ f. 16 * rest k x + 4 < 16 * (form_nodes f - length (form_choices k f false)) + 3) (sym shape) (omega (arith, few, long)) in
    search rules

pub built_shape-built-requires-in-Mod : goal.built_shape-built-requires-in-Mod
built_shape-built-requires-in-Mod t c =
    let k = known_data c.args.by.now.known in
    let x = resolved_data c.deref-in-Mod.result.now in
    let shape : form_data c.args.shape.now ≡ Form.Mod x c.in-Mod.field-1 c.in-Mod.n =
    ap form_data c.in-Mod.is ∙ mod_data c.in-Mod.t c.in-Mod.field-1 c.in-Mod.n ∙ sym (ap (λ y. Form.Mod (resolved_data y) c.in-Mod.field-1 c.in-Mod.n) c.deref-in-Mod.ensures) in
    let few = choices_few k x false in
    let less : 16 * rest k x + 4 < 16 * (form_nodes (form_data c.args.shape.now) - length (form_choices k (form_data c.args.shape.now) false)) + 3 =
    subst (λ f. 16 * rest k x + 4 < 16 * (form_nodes f - length (form_choices k f false)) + 3) (sym shape) (omega (arith, few)) in
    search rules

pub built_shape-returns-in_ok-new-in-Next-clause-next : goal.built_shape-returns-in_ok-new-in-Next-clause-next
built_shape-returns-in_ok-new-in-Next-clause-next t c =
    let k = known_data c.args.by.now.known in
    let x = resolved_data c.deref.result.now in
    let shape : form_data c.args.shape.now ≡ Form.Next x = ap form_data c.in-Next.is ∙ next_data c.in-Next.t ∙ sym (ap (λ y. Form.Next (resolved_data y)) c.deref.ensures) in
    let same : length (choices k x false) ≡ length (form_choices k (form_data c.args.shape.now) false) = choices_long k x false true ∙ ap (λ f. length (form_choices k f false)) (sym shape) in
    grind (arith, common_steps, same)

-- ---- the cases of the indexes

pub case-made-requires : goal.case-made-requires
case-made-requires t c =
    let k = known_data c.args.by.now.known in
    let place = c.len-place.ensures in
    let less = case_less k c.args.whole c.args.choices.now c.len-place.result c.index-choices-place.result c.requires.all (omega (arith, c.requires.few, place)) c.index-choices-place.is in
    search rules

pub case-cases-requires : goal.case-cases-requires
case-cases-requires t c =
    let k = known_data c.args.by.now.known in
    let few = all_few k c.args.whole c.args.choices.now c.requires.all in
    let pushed = ap length c.in_ok-push.ensures.items in
    let less = c.requires.few in
    first_of (search rules, grind (arith, common_steps))

pub case-returns-clause-made : goal.case-returns-clause-made
case-returns-clause-made t c =
    let k = known_data c.args.by.now.known in
    let p = c.args.by.now.params in
    let w = c.args.whole in
    let picks = c.args.picks.now.items in
    let place = c.len-place.result in
    let choice = c.index-choices-place.result in
    let below : place < length c.args.choices.now = omega (arith, c.requires.few, c.len-place.ensures) in
    let here : place ≡ length picks = omega (arith, c.args.picks.now.ok.0, c.len-place.ensures) in
    let left : drop (length picks) (whole_choices k w) ≡ choice_data choice ∷ drop (place + 1) (whole_choices k w) =
    subst (λ ds. drop (length picks) ds ≡ choice_data choice ∷ drop (place + 1) ds) c.requires.all
    (ap (λ m. drop m (map choice_data c.args.choices.now)) (sym here) ∙ dropped_at choice_data c.args.choices.now place choice below c.index-choices-place.is) in
    subst (λ f. IfOk c.both.result (λ e. formula_data e ≡ f))
    ((λ i. Conjunction (formulas (c.in_ok-equal.ensures i ∷ (c.in_ok-rest.ensures.made ∙ ap (whole_cases k p w) (c.in_ok-push.ensures.items ∙ ap (λ v. picks ++ v ∷ []) c.in_ok-pick.ensures)) i ∷ [])))
    ∙ sym (case_is k p w picks (choice_data choice) (drop (place + 1) (whole_choices k w)) left c.args.number))
    c.both.ensures

pub cases-loop-number-preserved : goal.cases-loop-number-preserved
cases-loop-number-preserved t c =
    let k = known_data c.args.by.now.known in
    let p = c.args.by.now.params in
    let w = c.args.whole in
    let n = c.loop-number.number in
    let push = numbered_push (whole_case k p w c.args.picks.now.items) n in
    record {
      picks = c.in_ok-made.ensures.picks ∙ c.loop-number.invariant.picks;
      cases =
          ap (map formula_data) c.in_ok-push.ensures.items
          ∙ pushed_data c.loop-number.all.items c.in_ok-made.made
          ∙ (λ i. c.loop-number.invariant.cases i ++ (c.in_ok-made.ensures.made ∙ ap (λ ps. whole_case k p w ps n) c.loop-number.invariant.picks) i ∷ [])
          ∙ sym push;
    }

pub cases-returns-clause-made : goal.cases-returns-clause-made
cases-returns-clause-made t c =
    let k = known_data c.args.by.now.known in
    let p = c.args.by.now.params in
    let w = c.args.whole in
    let picks = c.args.picks.now.items in
    let place = c.len-place.result in
    let choice = c.index-choices-place.result in
    let below : place < length c.args.choices.now = grind (arith, common_steps, c.requires.few, c.len-place.ensures) in
    let here : place ≡ length picks = omega (arith, c.args.picks.now.ok.0, c.len-place.ensures) in
    let left : drop (length picks) (whole_choices k w) ≡ choice_data choice ∷ drop (place + 1) (whole_choices k w) =
    subst (λ ds. drop (length picks) ds ≡ choice_data choice ∷ drop (place + 1) ds) c.requires.all
    (ap (λ m. drop m (map choice_data c.args.choices.now)) (sym here) ∙ dropped_at choice_data c.args.choices.now place choice below c.index-choices-place.is) in
    let end : c.loop-number.number ≡ choice.count = omega arith in
    c.one_of.ensures
    ∙ ap (λ fs. Disjunction (formulas fs)) (c.loop-number.invariant.cases ∙ ap (λ n. map (whole_case k p w picks) (numbers_below 0 n)) end)
    ∙ all_cases k p w picks (choice_data choice) (drop (place + 1) (whole_choices k w)) left

pub here-loop-number-preserved : goal.here-loop-number-preserved
here-loop-number-preserved t c =
    let k = known_data c.args.by.now.known in
    let p = c.args.by.now.params in
    let n = c.loop-number.number in
    let x = resolved_data c.args.t.now in
    ap (map formula_data) c.in_ok-push.ensures.items
    ∙ pushed_data c.loop-number.all.items c.in_ok-case.case
    ∙ (λ i. c.loop-number.invariant i ++ (c.in_ok-case.ensures ∙ (λ j. Conjunction (formulas (c.in_ok-equal.ensures j ∷ (c.in_ok-here.ensures ∙ ap Variable c.in_ok-number.ensures) j ∷ [])))) i ∷ [])
    ∙ sym (numbered_push (case_of (equation_of k p false x) Variable c.args.first) n)

pub here-returns : goal.here-returns
here-returns t c =
    let k = known_data c.args.by.now.known in
    let p = c.args.by.now.params in
    let x = resolved_data c.args.t.now in
    let end : c.loop-number.number ≡ c.args.count = omega arith in
    c.one_of.ensures
    ∙ ap (λ fs. Disjunction (formulas fs)) (c.loop-number.invariant ∙ ap (λ n. map (case_of (equation_of k p false x) Variable c.args.first) (numbers_below 0 n)) end)
    ∙ chosen_mapped (equation_of k p false x) Variable c.args.first c.args.count

pub made-returns : goal.made-returns
made-returns t c =
    let k = known_data c.args.by.now.known in
    let p = c.args.by.now.params in
    subst (λ f. IfOk c.cases.result (λ e. formula_data e ≡ f)) (ap (whole_cases k p c.args.whole) c.new-picks.ensures.items ∙ first_case k p c.args.whole) c.cases.ensures.made

-- ---- several expressions

pub formulas-formula-requires : goal.formulas-formula-requires
formulas-formula-requires t c =
    let less = each_more c.args.ts.now c.loop-t.t-index c.t-item.result c.loop-t-test.true c.t-item.is in
    search rules

pub formulas-returns : goal.formulas-returns
formulas-returns t c =
    let k = known_data c.args.by.now.known in
    let p = c.args.by.now.params in
    let ts = c.args.ts.now in
    let made = map formula_data c.loop-t.all.items in
    let left : drop c.loop-t.t-index ts ≡ [] = drop_all _ _ c.loop-t-test.false in
    ap formulas (sym (append-nil made) ∙ ap (λ us. made ++ listed (each_formula k p (trees (map resolved_data us)))) (sym left) ∙ c.loop-t.invariant)
    ∙ formulas-listed (each_formula k p (trees (map resolved_data ts)))

-- ---- what is built where all elements are picked

pub picked-built_row-requires-in-Comparison : goal.picked-built_row-requires-in-Comparison
picked-built_row-requires-in-Comparison t c =
    let k = known_data c.args.by.now.known in
    let ls = c.in-Comparison.links.now in
    let first = chained (resolved_data c.in-Comparison.head.now) (map link_data ls) in
    let less = (compared_rest k first (resolved_data c.in-Comparison.second.now)).0 in
    let few = spare_few ls in
    let falls : 16 * rest k first + 3 + spare ls < 16 * (whole_nodes k c.args.whole - length (whole_choices k c.args.whole)) + 7 =
    subst (λ w. 16 * rest k first + 3 + spare ls < 16 * (whole_nodes k w - length (whole_choices k w)) + 7) (sym c.in-Comparison.is) (omega (arith, less, few)) in
    search rules

pub picked-built-requires : goal.picked-built-requires
picked-built-requires t c =
    let k = known_data c.args.by.now.known in
    let first = chained (resolved_data c.in-Comparison.head.now) (map link_data c.in-Comparison.links.now) in
    let second = resolved_data c.in-Comparison.second.now in
    let less = (compared_rest k first second).1 in
    let falls : 16 * rest k second + 4 < 16 * (whole_nodes k c.args.whole - length (whole_choices k c.args.whole)) + 7 =
    subst (λ w. 16 * rest k second + 4 < 16 * (whole_nodes k w - length (whole_choices k w)) + 7) (sym c.in-Comparison.is) (omega (arith, less)) in
    search rules

pub picked-built-requires-in-Equation : goal.picked-built-requires-in-Equation
picked-built-requires-in-Equation t c =
    let k = known_data c.args.by.now.known in
    let x = resolved_data c.in-Equation.t.now in
    let same = equal_rest k x c.in-Equation.under in
    let falls : 16 * rest k x + 4 < 16 * (whole_nodes k c.args.whole - length (whole_choices k c.args.whole)) + 7 =
    subst (λ w. 16 * rest k x + 4 < 16 * (whole_nodes k w - length (whole_choices k w)) + 7) (sym c.in-Equation.is) (omega (arith, same)) in
    search rules
