use Rattle.std.proofs.Common.{◌+◌, ◌||◌, ◌&&◌, ◌∙◌, List, ap, sym, subst, drop, refl, rules, inr}
use Rattle.spec_model.specs.Diagrams.{Bits, Function}
use Rattle.bdd_store.specs.State.{IsRoot}
use Rattle.bdd_bits.specs.Contents.{function_at}
use Rattle.bit_compile.specs.declared.cases.CaseRoot.{CaseRoot}
use Rattle.bit_compile.specs.Making.{Makes}
use Rattle.bit_compile.specs.CaseRoots.{case_at, cases_at, passes}
use Rattle.game_values.proofs.Lists.{map_drop}
use Rattle.bit_compile.proofs.Between.{function_stays, root_after}
use Rattle.bit_compile.proofs.Folding.{row_of, row_step, row_is, rows_done, finished, own, turn, all_next, past_end, refused_makes, so_far_kept, still_root}
use Rattle.bit_compile.proofs.Causes.{cause_back, cause_handed, cause_never, cause_ok}
use Rattle.bit_compile.proofs.NamedSteps.{row_begun, row_more, row_pair, take_mapped, case_there}
use Rattle.bit_compile.specs.Named.{IsOfRow, IsBoth}
use Rattle.bit_compile.proofs.pairs.or_row.Goals as goal

pub loop-y-init : goal.loop-y-init
loop-y-init c =
    let first = c.args.diagrams.now in
    let rest : Function = row_of (passes c.args.test.now) c.args.x.now.value (function_at first c.args.x.now.root) (cases_at first c.args.ys.now) in
    record {
      made = own first c.keep.new.diagrams c.in_ok-row.row (function_at first c.args.sum.now) c.in_ok-row.ensures.made;
      kept = c.requires.ys_kept;
      so_far = row_begun (passes c.args.test.now) (function_at first c.args.sum.now) (function_at c.keep.new.diagrams c.in_ok-row.row) (case_at first c.args.x.now) (cases_at first c.args.ys.now) c.in_ok-row.ensures.made.meaning;
      same = ap (λ (f : Function). (λ (s : Bits). f s || rest s)) c.in_ok-row.ensures.made.meaning;
    }

pub loop-y-preserved : goal.loop-y-preserved
loop-y-preserved c =
    let first = c.args.diagrams.now in
    let l = c.loop-y.diagrams in
    let inv = c.loop-y.invariant in
    let test = passes c.args.test.now in
    let x = c.args.x.now in
    let y = c.y-item.result in
    let ys = c.args.ys.now in
    let parts = all_next (λ z. IsRoot first.state z.root) ys c.loop-y.y-index y c.loop-y-test.true c.y-item.is inv.kept in
    let sum = function_at l c.loop-y.row in
    let is = row_is c.passes-wanted.result (test x.value y.value) sum (function_at l x.root) (function_at first x.root) (function_at l y.root) (function_at first y.root) c.passes-wanted.ensures (function_stays first l x.root inv.made.keeps c.requires.x_kept) (function_stays first l y.root inv.made.keeps parts.0) in
    let more : Function = λ s. sum s || test x.value y.value && (function_at first x.root s && function_at first y.root s) in
    let made = turn first l c.or_wanted-more.new.diagrams c.release.new.self c.loop-y.row c.or_wanted-more.result _ more inv.made c.or_wanted-more.ensures.made is c.release.ensures.released c.release.ensures.nodes in
    let next = subst (λ r. Makes first c.release.new.self r more) c.in_ok-next.was made in
    let left = ap (λ cs. (λ (s : Bits). sum s || row_of test x.value (function_at first x.root) cs s)) (sym (map_drop (case_at first) ys c.loop-y.y-index y c.loop-y-test.true c.y-item.is)) ∙ inv.same in
    record {
      made = own first c.release.new.self c.in_ok-next.next more next;
      kept = parts.1;
      so_far = row_more test (function_at first c.args.sum.now) sum (function_at c.release.new.self c.in_ok-next.next) (case_at first x) (case_at first y) (cases_at first ys) c.loop-y.y-index inv.so_far next.meaning (take_mapped (case_at first) ys c.loop-y.y-index y c.loop-y-test.true c.y-item.is);
      same = row_step test x.value (function_at first x.root) sum (function_at c.release.new.self c.in_ok-next.next) (case_at first y) (cases_at first (drop (c.loop-y.y-index + 1) ys)) _ left next.meaning;
    }

pub returns-clause-made : goal.returns-clause-made
returns-clause-made c =
    let first = c.args.diagrams.now in
    let l = c.loop-y.diagrams in
    let test = passes c.args.test.now in
    let x = c.args.x.now in
    let row : List CaseRoot → Function = λ ys. row_of test x.value (function_at first x.root) (cases_at first ys) in
    let none = ap row (past_end c.args.ys.now c.loop-y.y-index c.loop-y-test.false) in
    finished first l c.loop-y.row _ c.loop-y.invariant.made (rows_done (function_at l c.loop-y.row) (row (drop c.loop-y.y-index c.args.ys.now)) _ none c.loop-y.invariant.same)

pub or_wanted-more-requires-clause-sum_kept : goal.or_wanted-more-requires-clause-sum_kept
or_wanted-more-requires-clause-sum_kept c = so_far_kept c.args.diagrams.now c.loop-y.diagrams c.loop-y.row c.loop-y.invariant.made

pub or_wanted-more-requires-clause-a_kept : goal.or_wanted-more-requires-clause-a_kept
or_wanted-more-requires-clause-a_kept c = still_root c.args.diagrams.now c.loop-y.diagrams c.loop-y.row c.args.x.now.root c.loop-y.invariant.made c.requires.x_kept

pub or_wanted-more-requires-clause-b_kept : goal.or_wanted-more-requires-clause-b_kept
or_wanted-more-requires-clause-b_kept c =
    let parts = all_next (λ z. IsRoot c.args.diagrams.now.state z.root) c.args.ys.now c.loop-y.y-index c.y-item.result c.loop-y-test.true c.y-item.is c.loop-y.invariant.kept in
    still_root c.args.diagrams.now c.loop-y.diagrams c.loop-y.row c.y-item.result.root c.loop-y.invariant.made parts.0

pub release-requires : goal.release-requires
release-requires c = root_after c.loop-y.diagrams c.or_wanted-more.new.diagrams c.or_wanted-more.result _ c.or_wanted-more.ensures.made c.loop-y.row (so_far_kept c.args.diagrams.now c.loop-y.diagrams c.loop-y.row c.loop-y.invariant.made)

pub returns-in_err-next-clause-made : goal.returns-in_err-next-clause-made
returns-in_err-next-clause-made c =
    let first = c.args.diagrams.now in
    let made = turn first c.loop-y.diagrams c.or_wanted-more.new.diagrams c.release.new.self c.loop-y.row c.or_wanted-more.result _ _ c.loop-y.invariant.made c.or_wanted-more.ensures.made refl c.release.ensures.released c.release.ensures.nodes in
    refused_makes first c.release.new.self c.or_wanted-more.result c.from_residual-in_err-next.result c.in_err-next.field-0.0 _ _ made c.in_err-next.was (search rules)

pub returns-in_err-row-clause-cause : goal.returns-in_err-row-clause-cause
returns-in_err-row-clause-cause c =
    let first = c.args.diagrams.now in
    let named = IsOfRow (passes c.args.test.now) (function_at first c.args.sum.now) (case_at first c.args.x.now) (cases_at first c.args.ys.now) in
    cause_handed first c.keep.new.diagrams c.keep.result c.from_residual.result c.in_err-row.field-0.0 named c.in_err-row.was (search rules)
    (cause_never first c.keep.new.diagrams c.keep.result named c.keep.ensures.never)

pub returns-in_err-next-clause-cause : goal.returns-in_err-next-clause-cause
returns-in_err-next-clause-cause c =
    let first = c.args.diagrams.now in
    let l = c.loop-y.diagrams in
    let inv = c.loop-y.invariant in
    let test = passes c.args.test.now in
    let sum = function_at first c.args.sum.now in
    let x = c.args.x.now in
    let y = c.y-item.result in
    let ys = c.args.ys.now in
    let i = c.loop-y.y-index in
    let parts = all_next (λ z. IsRoot first.state z.root) ys i y c.loop-y-test.true c.y-item.is inv.kept in
    let named = IsOfRow test sum (case_at first x) (cases_at first ys) in
    let pair = IsBoth (function_at l x.root) (function_at l y.root) in
    let wider : (f : Function) → pair f → named f = λ f is. row_pair test sum (function_at l x.root) (function_at l y.root) (case_at first x) (case_at first y) (cases_at first ys) i f
    (function_stays first l x.root inv.made.keeps c.requires.x_kept) (function_stays first l y.root inv.made.keeps parts.0) (case_there first ys i y c.loop-y-test.true c.y-item.is) is in
    cause_handed first c.release.new.self c.or_wanted-more.result c.from_residual-in_err-next.result c.in_err-next.field-0.0 named c.in_err-next.was (search rules)
    (cause_back pair named wider first l c.loop-y.row (function_at l c.loop-y.row) inv.made (inr (i, inv.so_far)) c.or_wanted-more.new.diagrams c.release.new.self c.or_wanted-more.result c.release.ensures.nodes c.or_wanted-more.ensures.cause)

pub returns-clause-cause : goal.returns-clause-cause
returns-clause-cause c =
    let first = c.args.diagrams.now in
    cause_ok first c.loop-y.diagrams c.loop-y.row (IsOfRow (passes c.args.test.now) (function_at first c.args.sum.now) (case_at first c.args.x.now) (cases_at first c.args.ys.now))
