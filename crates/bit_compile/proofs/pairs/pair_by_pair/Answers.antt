use Rattle.std.proofs.Common.{◌+◌, ◌||◌, ◌∙◌, false, List, ap, refl, sym, subst, drop, rules}
use Rattle.spec_model.specs.Diagrams.{Bits, Function}
use Rattle.bdd_store.specs.State.{IsRoot}
use Rattle.bdd_bits.specs.Contents.{function_at}
use Rattle.bit_compile.specs.declared.cases.CaseRoot.{CaseRoot}
use Rattle.bit_compile.specs.Making.{Makes}
use Rattle.bit_compile.specs.Compiled.{Case, some_pair}
use Rattle.bit_compile.specs.CaseRoots.{case_at, cases_at, passes}
use Rattle.game_values.proofs.Lists.{map_drop}
use Rattle.bit_compile.proofs.Between.{function_stays, cases_stay, root_after}
use Rattle.bit_compile.proofs.Folding.{row_of, rows_step, rows_done, finished, own, turn, all_next, past_end, refused_makes, so_far_kept, still_root, all_still}
use Rattle.bit_compile.proofs.Causes.{cause_back, cause_handed, cause_never, cause_ok}
use Rattle.bit_compile.proofs.NamedSteps.{pairs_begun, pairs_more, pairs_row, take_mapped, case_there}
use Rattle.bit_compile.specs.Named.{IsOfRow, IsOfPairs}
use Rattle.bit_compile.proofs.pairs.pair_by_pair.Goals as goal

pub loop-x-init : goal.loop-x-init
loop-x-init c =
    let first = c.args.diagrams.now in
    let rest : Function = some_pair (passes c.args.test.now) (cases_at first c.args.xs.now) (cases_at first c.args.ys.now) in
    record {
      made = own first c.constant.new.diagrams c.in_ok-sum.sum (λ (s : Bits). false) c.in_ok-sum.ensures.made;
      kept = c.requires.xs_kept;
      so_far = c.in_ok-sum.ensures.made.meaning;
      same = ap (λ (f : Function). (λ (s : Bits). f s || rest s)) c.in_ok-sum.ensures.made.meaning;
    }

pub loop-x-preserved : goal.loop-x-preserved
loop-x-preserved c =
    let first = c.args.diagrams.now in
    let l = c.loop-x.diagrams in
    let inv = c.loop-x.invariant in
    let test = passes c.args.test.now in
    let x = c.x-item.result in
    let xs = c.args.xs.now in
    let ys = c.args.ys.now in
    let parts = all_next (λ z. IsRoot first.state z.root) xs c.loop-x.x-index x c.loop-x-test.true c.x-item.is inv.kept in
    let sum = function_at l c.loop-x.sum in
    let is =
    ap (λ (f : Function). (λ (s : Bits). sum s || row_of test x.value f (cases_at l ys) s)) (function_stays first l x.root inv.made.keeps parts.0)
    ∙ ap (λ (cs : List Case). (λ (s : Bits). sum s || row_of test x.value (function_at first x.root) cs s)) (cases_stay first l ys inv.made.keeps c.requires.ys_kept) in
    let more : Function = λ s. sum s || row_of test x.value (function_at first x.root) (cases_at first ys) s in
    let made = turn first l c.or_row-more.new.diagrams c.release.new.self c.loop-x.sum c.or_row-more.result _ more inv.made c.or_row-more.ensures.made is c.release.ensures.released c.release.ensures.nodes in
    let next = subst (λ r. Makes first c.release.new.self r more) c.in_ok-next.was made in
    let left = ap (λ (cs : List Case). (λ (s : Bits). sum s || some_pair test cs (cases_at first ys) s)) (sym (map_drop (case_at first) xs c.loop-x.x-index x c.loop-x-test.true c.x-item.is)) ∙ inv.same in
    record {
      made = own first c.release.new.self c.in_ok-next.next more next;
      kept = parts.1;
      so_far = pairs_more test sum (function_at c.release.new.self c.in_ok-next.next) (cases_at first xs) (case_at first x) (cases_at first ys) c.loop-x.x-index inv.so_far next.meaning (take_mapped (case_at first) xs c.loop-x.x-index x c.loop-x-test.true c.x-item.is);
      same = rows_step test sum (function_at c.release.new.self c.in_ok-next.next) (case_at first x) (cases_at first (drop (c.loop-x.x-index + 1) xs)) (cases_at first ys) _ left next.meaning;
    }

pub returns-clause-made : goal.returns-clause-made
returns-clause-made c =
    let first = c.args.diagrams.now in
    let l = c.loop-x.diagrams in
    let ys = cases_at first c.args.ys.now in
    let none = ap (λ (xs : List CaseRoot). some_pair (passes c.args.test.now) (cases_at first xs) ys) (past_end c.args.xs.now c.loop-x.x-index c.loop-x-test.false) in
    finished first l c.loop-x.sum _ c.loop-x.invariant.made (rows_done (function_at l c.loop-x.sum) (some_pair (passes c.args.test.now) (cases_at first (drop c.loop-x.x-index c.args.xs.now)) ys) _ none c.loop-x.invariant.same)

pub or_row-more-requires-clause-sum_kept : goal.or_row-more-requires-clause-sum_kept
or_row-more-requires-clause-sum_kept c = so_far_kept c.args.diagrams.now c.loop-x.diagrams c.loop-x.sum c.loop-x.invariant.made

pub or_row-more-requires-clause-x_kept : goal.or_row-more-requires-clause-x_kept
or_row-more-requires-clause-x_kept c =
    let parts = all_next (λ z. IsRoot c.args.diagrams.now.state z.root) c.args.xs.now c.loop-x.x-index c.x-item.result c.loop-x-test.true c.x-item.is c.loop-x.invariant.kept in
    still_root c.args.diagrams.now c.loop-x.diagrams c.loop-x.sum c.x-item.result.root c.loop-x.invariant.made parts.0

pub release-requires : goal.release-requires
release-requires c = root_after c.loop-x.diagrams c.or_row-more.new.diagrams c.or_row-more.result _ c.or_row-more.ensures.made c.loop-x.sum (so_far_kept c.args.diagrams.now c.loop-x.diagrams c.loop-x.sum c.loop-x.invariant.made)

pub returns-in_err-next-clause-made : goal.returns-in_err-next-clause-made
returns-in_err-next-clause-made c =
    let first = c.args.diagrams.now in
    let made = turn first c.loop-x.diagrams c.or_row-more.new.diagrams c.release.new.self c.loop-x.sum c.or_row-more.result _ _ c.loop-x.invariant.made c.or_row-more.ensures.made refl c.release.ensures.released c.release.ensures.nodes in
    refused_makes first c.release.new.self c.or_row-more.result c.from_residual-in_err-next.result c.in_err-next.field-0.0 _ _ made c.in_err-next.was (search rules)

pub or_row-more-requires-clause-ys_kept : goal.or_row-more-requires-clause-ys_kept
or_row-more-requires-clause-ys_kept c = all_still c.args.diagrams.now c.loop-x.diagrams c.loop-x.sum c.args.ys.now c.loop-x.invariant.made c.requires.ys_kept

pub returns-in_err-sum-clause-cause : goal.returns-in_err-sum-clause-cause
returns-in_err-sum-clause-cause c =
    let first = c.args.diagrams.now in
    let named = IsOfPairs (passes c.args.test.now) (cases_at first c.args.xs.now) (cases_at first c.args.ys.now) in
    cause_handed first c.constant.new.diagrams c.constant.result c.from_residual.result c.in_err-sum.field-0.0 named c.in_err-sum.was (search rules)
    (cause_never first c.constant.new.diagrams c.constant.result named c.constant.ensures.never)

pub returns-in_err-next-clause-cause : goal.returns-in_err-next-clause-cause
returns-in_err-next-clause-cause c =
    let first = c.args.diagrams.now in
    let l = c.loop-x.diagrams in
    let inv = c.loop-x.invariant in
    let test = passes c.args.test.now in
    let x = c.x-item.result in
    let xs = c.args.xs.now in
    let ys = c.args.ys.now in
    let i = c.loop-x.x-index in
    let sum = function_at l c.loop-x.sum in
    let parts = all_next (λ z. IsRoot first.state z.root) xs i x c.loop-x-test.true c.x-item.is inv.kept in
    let named = IsOfPairs test (cases_at first xs) (cases_at first ys) in
    let row = IsOfRow test sum (case_at l x) (cases_at l ys) in
    let same = ap (λ (f : Function). record { value = x.value; holds = f }) (function_stays first l x.root inv.made.keeps parts.0) ∙ sym (case_there first xs i x c.loop-x-test.true c.x-item.is) in
    let wider : (f : Function) → row f → named f = λ f is. pairs_row test sum (case_at l x) (cases_at first xs) (cases_at first ys) (cases_at l ys) i f inv.so_far same (cases_stay first l ys inv.made.keeps c.requires.ys_kept) is in
    cause_handed first c.release.new.self c.or_row-more.result c.from_residual-in_err-next.result c.in_err-next.field-0.0 named c.in_err-next.was (search rules)
    (cause_back row named wider first l c.loop-x.sum sum inv.made (pairs_begun test sum (cases_at first xs) (cases_at first ys) i inv.so_far) c.or_row-more.new.diagrams c.release.new.self c.or_row-more.result c.release.ensures.nodes c.or_row-more.ensures.cause)

pub returns-clause-cause : goal.returns-clause-cause
returns-clause-cause c =
    let first = c.args.diagrams.now in
    cause_ok first c.loop-x.diagrams c.loop-x.sum (IsOfPairs (passes c.args.test.now) (cases_at first c.args.xs.now) (cases_at first c.args.ys.now))
